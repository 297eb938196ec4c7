use Rattle.cpp_link.proofs.Basics.{◌≡◌, sym, ◌∙◌, subst, ◌+◌, drop, length, OnOk, Production, production_at, state_of, trees_in, values_in, around_of}
use Rattle.cpp_link.proofs.PassedOver.{passed_is, encoding_same}
use Rattle.cpp_link.proofs.Rescoped.{same_closes, apart_end}
use Rattle.cpp_link.proofs.linked.Linked.finish_encoding.Goals as goal

pub finish_passed_over-requires-clause-passed : goal.finish_passed_over-requires-clause-passed
finish_passed_over-requires-clause-passed c = sym c.is_passed_over.ensures ∙ c.if-is_passed_over.true

pub returns-then-is_passed_over : goal.returns-then-is_passed_over
returns-then-is_passed_over c = c.finish_passed_over.ensures

pub returns : goal.returns
returns c =
    let s = c.args.symbol.now in
    let old = c.args.self.now in
    let new = c.finish_rule.new.self in
    let frame = c.args.frame.now in
    let parts = c.args.parts.now.items in
    let around = around_of (trees_in s old.nodes) frame.kept in
    let had = c.finish_rule.ensures in
    record {
      closes = same_closes s old new frame parts c.finish_rule.new.parts.items c.finish_rule.result
          (λ byte place began vs state. encoding_same s (production_at frame.rule) byte around place began vs state c.requires.encoding (passed_is (trees_in s old.nodes) frame.kept ∙ sym c.is_passed_over.ensures ∙ c.if-is_passed_over.false))
          had.closes;
      adds = had.adds;
      few = had.few;
      makes = subst (λ n. OnOk c.finish_rule.result (length new.nodes.nodes ≡ length old.nodes.nodes + n))
          (apart_end (production_at frame.rule) around frame.place (values_in s old.nodes (drop frame.base parts)) (state_of s old) (λ is. absurd (let clash : Production.Encoding ≡ Production.Substitution = sym c.requires.encoding ∙ is in cc))) had.makes;
      pays = had.pays;
      roomy = had.roomy;
    }
