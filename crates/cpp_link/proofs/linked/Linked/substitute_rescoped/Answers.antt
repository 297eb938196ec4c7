use Rattle.cpp_link.proofs.Basics.{◌≡◌, sym, ◌∙◌, ap, subst, arith, rules, ℕ, ◌-◌, Ok, IfOk, IfErr, counted_value, Seq36, Fails, found, Around, numbered, both, bytes_at, Linked, state_of, MakesPart, trees_in, value_in, value_of, values_in, around_of, candidate_of, maybe_candidate, node_read, fails_is}
use Rattle.cpp_link.specs.LinkRescoping.{number_in, named_after, substituted_nodes}
use Rattle.cpp_link.proofs.Outcome.{named_by_some, named_by_none, made_relisted, named_foreign, named_here, foreign_nodes, no_nodes}
use Rattle.cpp_link.proofs.linked.Linked.substitute_rescoped.Goals as goal

pub returns-in_default-clause-refused : goal.returns-in_default-clause-refused
returns-in_default-clause-refused c =
    let s = c.args.symbol.now in
    let old = c.args.self.now in
    let ts = trees_in s old.nodes in
    let around : Around = around_of ts c.args.kept in
    let at = c.saturating_sub-at.result in
    let k : ℕ = counted_value Seq36 (bytes_at s c.text.result) in
    let lists = c.named_by_lists-named.result.1 in
    let mid : Linked = record old { counting = record old.counting { lists = lists } } in
    let st = state_of s mid in
    let read = both (λ p bytes. numbered around p (counted_value Seq36 bytes) (state_of s old)) (sym c.saturating_sub-at.ensures) (sym c.text.ensures.is) in
    read ∙ named_by_none s old around at k lists c.named_by_lists-named.result.0 c.named_by_lists-named.ensures.named c.in_default.is

pub returns-then-is_foreign-clause-is : goal.returns-then-is_foreign-clause-is
returns-then-is_foreign-clause-is c =
    let s = c.args.symbol.now in
    let old = c.args.self.now in
    let ts = trees_in s old.nodes in
    let around : Around = around_of ts c.args.kept in
    let at = c.saturating_sub-at.result in
    let k : ℕ = counted_value Seq36 (bytes_at s c.text.result) in
    let lists = c.named_by_lists-named.result.1 in
    let mid : Linked = record old { counting = record old.counting { lists = lists } } in
    let st = state_of s mid in
    let read = both (λ p bytes. numbered around p (counted_value Seq36 bytes) (state_of s old)) (sym c.saturating_sub-at.ensures) (sym c.text.ensures.is) in
    let cand = candidate_of ts c.in-Some.candidate in
    let named = read ∙ named_by_some s old around at k lists c.in-Some.candidate c.named_by_lists-named.result.0 c.named_by_lists-named.ensures.named c.in-Some.is in
    let same = named ∙ named_foreign around at cand st (sym c.is_foreign.ensures ∙ c.if-is_foreign.true) in
    subst (λ x. IfOk c.restate.result (λ made. x ≡ Ok (found (value_in s c.restate.new.self.nodes made) (state_of s c.restate.new.self)))) (sym same) c.restate.ensures.is

pub returns-then-is_foreign-clause-refused : goal.returns-then-is_foreign-clause-refused
returns-then-is_foreign-clause-refused c =
    let s = c.args.symbol.now in
    let old = c.args.self.now in
    let ts = trees_in s old.nodes in
    let around : Around = around_of ts c.args.kept in
    let at = c.saturating_sub-at.result in
    let k : ℕ = counted_value Seq36 (bytes_at s c.text.result) in
    let lists = c.named_by_lists-named.result.1 in
    let mid : Linked = record old { counting = record old.counting { lists = lists } } in
    let st = state_of s mid in
    let read = both (λ p bytes. numbered around p (counted_value Seq36 bytes) (state_of s old)) (sym c.saturating_sub-at.ensures) (sym c.text.ensures.is) in
    let cand = candidate_of ts c.in-Some.candidate in
    let named = read ∙ named_by_some s old around at k lists c.in-Some.candidate c.named_by_lists-named.result.0 c.named_by_lists-named.ensures.named c.in-Some.is in
    let same = named ∙ named_foreign around at cand st (sym c.is_foreign.ensures ∙ c.if-is_foreign.true) in
    subst (λ x. IfErr c.restate.result (λ e. Fails e x)) (sym same) c.restate.ensures.refused

pub returns-then-is_foreign-clause-made : goal.returns-then-is_foreign-clause-made
unfolding maybe_candidate
returns-then-is_foreign-clause-made c =
    let s = c.args.symbol.now in
    let old = c.args.self.now in
    let ts = trees_in s old.nodes in
    let around : Around = around_of ts c.args.kept in
    let at = c.saturating_sub-at.result in
    let k : ℕ = counted_value Seq36 (bytes_at s c.text.result) in
    let lists = c.named_by_lists-named.result.1 in
    let mid : Linked = record old { counting = record old.counting { lists = lists } } in
    let st = state_of s mid in
    let read = both (λ p bytes. numbered around p (counted_value Seq36 bytes) (state_of s old)) (sym c.saturating_sub-at.ensures) (sym c.text.ensures.is) in
    let cand = candidate_of ts c.in-Some.candidate in
    let named = both (λ p bytes. named_after p (counted_value Seq36 bytes) (state_of s old)) (sym c.saturating_sub-at.ensures) (sym c.text.ensures.is) ∙ sym c.named_by_lists-named.ensures.named.is ∙ ap (λ o. maybe_candidate ts o) c.in-Some.is in
    let counted = ap (λ o. substituted_nodes around o) named ∙ foreign_nodes around at cand st (sym c.is_foreign.ensures ∙ c.if-is_foreign.true) in
    subst (λ n. MakesPart s old c.restate.new.self 2 n c.restate.result) (sym counted) (made_relisted s old around at k lists c.restate.new.self 2 1 c.restate.result c.restate.ensures.made)

pub returns-in-Ok-clause-is : goal.returns-in-Ok-clause-is
unfolding maybe_candidate node_read value_of
returns-in-Ok-clause-is c =
    let s = c.args.symbol.now in
    let old = c.args.self.now in
    let ts = trees_in s old.nodes in
    let around : Around = around_of ts c.args.kept in
    let at = c.saturating_sub-at.result in
    let k : ℕ = counted_value Seq36 (bytes_at s c.text.result) in
    let lists = c.named_by_lists-named.result.1 in
    let mid : Linked = record old { counting = record old.counting { lists = lists } } in
    let st = state_of s mid in
    let read = both (λ p bytes. numbered around p (counted_value Seq36 bytes) (state_of s old)) (sym c.saturating_sub-at.ensures) (sym c.text.ensures.is) in
    let cand = candidate_of ts c.in-Some.candidate in
    let named = read ∙ named_by_some s old around at k lists c.in-Some.candidate c.named_by_lists-named.result.0 c.named_by_lists-named.ensures.named c.in-Some.is in
    named ∙ named_here around at cand st (sym c.is_foreign.ensures ∙ c.if-is_foreign.false) ∙ c.in-Ok.ensures.is st

pub returns-in-Ok-clause-made : goal.returns-in-Ok-clause-made
unfolding maybe_candidate
returns-in-Ok-clause-made c =
    let s = c.args.symbol.now in
    let old = c.args.self.now in
    let ts = trees_in s old.nodes in
    let around : Around = around_of ts c.args.kept in
    let at = c.saturating_sub-at.result in
    let k : ℕ = counted_value Seq36 (bytes_at s c.text.result) in
    let lists = c.named_by_lists-named.result.1 in
    let mid : Linked = record old { counting = record old.counting { lists = lists } } in
    let st = state_of s mid in
    let read = both (λ p bytes. numbered around p (counted_value Seq36 bytes) (state_of s old)) (sym c.saturating_sub-at.ensures) (sym c.text.ensures.is) in
    let cand = candidate_of ts c.in-Some.candidate in
    let named = both (λ p bytes. named_after p (counted_value Seq36 bytes) (state_of s old)) (sym c.saturating_sub-at.ensures) (sym c.text.ensures.is) ∙ sym c.named_by_lists-named.ensures.named.is ∙ ap (λ o. maybe_candidate ts o) c.in-Some.is in
    let none = ap (λ o. substituted_nodes around o) named ∙ no_nodes around at cand st (sym c.is_foreign.ensures ∙ c.if-is_foreign.false) in
    record {
      there = search rules;
      grows = search rules;
      few = search rules;
      makes = omega (arith, none);
      paid = search rules;
      whole = search rules;
      keeps = search rules;
      full = search rules;
    }

pub returns-in-Err-clause-refused : goal.returns-in-Err-clause-refused
unfolding maybe_candidate node_read
returns-in-Err-clause-refused c =
    let s = c.args.symbol.now in
    let old = c.args.self.now in
    let ts = trees_in s old.nodes in
    let around : Around = around_of ts c.args.kept in
    let at = c.saturating_sub-at.result in
    let k : ℕ = counted_value Seq36 (bytes_at s c.text.result) in
    let lists = c.named_by_lists-named.result.1 in
    let mid : Linked = record old { counting = record old.counting { lists = lists } } in
    let st = state_of s mid in
    let read = both (λ p bytes. numbered around p (counted_value Seq36 bytes) (state_of s old)) (sym c.saturating_sub-at.ensures) (sym c.text.ensures.is) in
    let cand = candidate_of ts c.in-Some.candidate in
    let named = read ∙ named_by_some s old around at k lists c.in-Some.candidate c.named_by_lists-named.result.0 c.named_by_lists-named.ensures.named c.in-Some.is in
    fails_is c.in-Err.e (numbered around (c.args.place - 1) (number_in (values_in s old.nodes c.args.parts.now)) (state_of s old))
    (named ∙ named_here around at cand st (sym c.is_foreign.ensures ∙ c.if-is_foreign.false) ∙ c.in-Err.ensures.is st)
