use Rattle.cpp_link.proofs.Basics.{◌≡◌, sym, ◌∙◌, ap, subst, ℕ, ◌≤◌, ◌^◌, slice_get, MatchOption, counted_value, Seq36, is_by_all, named_by_both, bytes_at, trees_in, candidates_of}
use Rattle.cpp_link.proofs.Named.{both_first, both_one, both_two, both_nowhere, IsBoth}
use Rattle.cpp_link.proofs.linked.Linked.named_by_both.Goals as goal

first : (c : goal.Then-is_one_list) → IsBoth c.args.symbol.now c.args.self.now 0 (counted_value Seq36 (bytes_at c.args.symbol.now c.args.digits)) c.numbered-named.result
first c =
    let k : ℕ = counted_value Seq36 (bytes_at c.args.symbol.now c.args.digits) in
    both_first c.args.symbol.now c.args.self.now 0 k c.requires.candidates.0 c.requires.candidates.1
    (ap is_by_all (sym c.requires.candidates.1.by) ∙ sym c.is_one_list.ensures ∙ c.if-is_one_list.true) c.numbered-named.result
    (c.numbered-named.ensures k c.value36-counted.ensures ∙ ap (λ cs. slice_get cs k) c.deref.ensures.value)

pub returns-then-is_one_list-clause-is : goal.returns-then-is_one_list-clause-is
returns-then-is_one_list-clause-is c = (first c).0

pub returns-then-is_one_list-clause-there : goal.returns-then-is_one_list-clause-there
returns-then-is_one_list-clause-there c = (first c).1

pub returns-then-is_one_place-clause-is : goal.returns-then-is_one_place-clause-is
returns-then-is_one_place-clause-is c =
    let k : ℕ = counted_value Seq36 (bytes_at c.args.symbol.now c.args.digits) in
    let same : c.in-Some.number ≡ k = subst (λ o. MatchOption o (2 ^ 64 ≤ k) (λ v. v ≡ k)) c.in-Some.is c.value36-counted.ensures in
    (both_one c.args.symbol.now c.args.self.now 0 c.in-Some.number c.requires.candidates.0 c.longer_place-longer.result c.shorter_place-shorter.result c.candidate_at.result
    c.longer_place-longer.ensures c.shorter_place-shorter.ensures (c.candidate_at.ensures _ c.longer_place-longer.ensures) (sym c.is_one_place.ensures ∙ c.if-is_one_place.true)).0
    ∙ ap (λ n. named_by_both (candidates_of (trees_in c.args.symbol.now c.args.self.now.nodes) c.args.self.now.candidates.list.items) n) same

pub returns-then-is_one_place-clause-there : goal.returns-then-is_one_place-clause-there
returns-then-is_one_place-clause-there c =
    (both_one c.args.symbol.now c.args.self.now 0 c.in-Some.number c.requires.candidates.0 c.longer_place-longer.result c.shorter_place-shorter.result c.candidate_at.result
    c.longer_place-longer.ensures c.shorter_place-shorter.ensures (c.candidate_at.ensures _ c.longer_place-longer.ensures) (sym c.is_one_place.ensures ∙ c.if-is_one_place.true)).1

pub returns-else-is_one_place-clause-is : goal.returns-else-is_one_place-clause-is
returns-else-is_one_place-clause-is c =
    let k : ℕ = counted_value Seq36 (bytes_at c.args.symbol.now c.args.digits) in
    let same : c.in-Some.number ≡ k = subst (λ o. MatchOption o (2 ^ 64 ≤ k) (λ v. v ≡ k)) c.in-Some.is c.value36-counted.ensures in
    (both_two c.args.symbol.now c.args.self.now 0 c.in-Some.number c.requires.candidates.0 c.longer_place-longer.result c.shorter_place-shorter.result
    c.longer_place-longer.ensures c.shorter_place-shorter.ensures (sym c.is_one_place.ensures ∙ c.if-is_one_place.false)).0
    ∙ ap (λ n. named_by_both (candidates_of (trees_in c.args.symbol.now c.args.self.now.nodes) c.args.self.now.candidates.list.items) n) same

pub returns-in-None-clause-is : goal.returns-in-None-clause-is
returns-in-None-clause-is c =
    let k : ℕ = counted_value Seq36 (bytes_at c.args.symbol.now c.args.digits) in
    let items = c.args.self.now.candidates.list.items in
    let past : 2 ^ 64 ≤ k = subst (λ o. MatchOption o (2 ^ 64 ≤ k) (λ v. v ≡ k)) c.in-None.is c.value36-counted.ensures in
    let named : (n : ℕ) → 2 ^ 64 ≤ n → c.numbered-named.result ≡ slice_get items n =
    λ n more. c.numbered-named.ensures n (subst (λ o. MatchOption o (2 ^ 64 ≤ n) (λ v. v ≡ n)) (sym c.in-None.is) more) ∙ ap (λ cs. slice_get cs n) c.deref.ensures.value in
    (both_nowhere c.args.symbol.now c.args.self.now 0 k c.requires.candidates.0 (2 ^ 64) past c.numbered-named.result named).0
