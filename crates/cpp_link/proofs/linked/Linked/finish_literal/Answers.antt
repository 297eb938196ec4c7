use Rattle.cpp_link.proofs.Basics.{◌≡◌, sym, ◌∙◌, subst, ◌+◌, drop, length, OnOk, Production, production_at, state_of, trees_in, values_in, around_of}
use Rattle.cpp_link.proofs.PassedOver.{unseen_is, literal_same}
use Rattle.cpp_link.proofs.Rescoped.{same_closes, apart_end}
use Rattle.cpp_link.proofs.linked.Linked.finish_literal.Goals as goal

pub finish_unseen-requires-clause-unseen : goal.finish_unseen-requires-clause-unseen
finish_unseen-requires-clause-unseen c = sym c.is_unseen.ensures ∙ c.if-is_unseen.true

pub returns-then-is_unseen : goal.returns-then-is_unseen
returns-then-is_unseen c = c.finish_unseen.ensures

pub returns : goal.returns
returns c =
    let s = c.args.symbol.now in
    let old = c.args.self.now in
    let new = c.finish_rule.new.self in
    let frame = c.args.frame.now in
    let parts = c.args.parts.now.items in
    let around = around_of (trees_in s old.nodes) frame.kept in
    let had = c.finish_rule.ensures in
    record {
      closes = same_closes s old new frame parts c.finish_rule.new.parts.items c.finish_rule.result
          (λ byte place began vs state. literal_same s (production_at frame.rule) byte around place began vs state c.requires.literal (unseen_is (trees_in s old.nodes) frame.kept ∙ sym c.is_unseen.ensures ∙ c.if-is_unseen.false))
          had.closes;
      adds = had.adds;
      few = had.few;
      makes = subst (λ n. OnOk c.finish_rule.result (length new.nodes.nodes ≡ length old.nodes.nodes + n))
          (apart_end (production_at frame.rule) around frame.place (values_in s old.nodes (drop frame.base parts)) (state_of s old) (λ is. absurd (let clash : Production.EncodingLiteral ≡ Production.Substitution = sym c.requires.literal ∙ is in cc))) had.makes;
      pays = had.pays;
      roomy = had.roomy;
    }
