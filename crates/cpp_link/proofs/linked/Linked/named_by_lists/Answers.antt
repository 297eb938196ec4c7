use Rattle.cpp_link.proofs.Basics.{◌≡◌, sym, ◌∙◌, ap, subst, ℕ, ◌≤◌, ◌^◌, slice_get, MatchOption, counted_value, Seq36, is_by_all, bytes_at}
use Rattle.cpp_link.proofs.Named.{named_first, named_nowhere}
use Rattle.cpp_link.proofs.linked.Linked.named_by_lists.Goals as goal

pub returns-then-is_one_list : goal.returns-then-is_one_list
returns-then-is_one_list c =
    let k : ℕ = counted_value Seq36 (bytes_at c.args.symbol.now c.args.digits) in
    record {
      named = named_first c.args.symbol.now c.args.self.now c.args.place k c.requires.candidates.0 c.requires.candidates.1
          (ap is_by_all (sym c.requires.candidates.1.by) ∙ sym c.is_one_list.ensures ∙ c.if-is_one_list.true) c.numbered-named.result
          (c.numbered-named.ensures k c.value36-counted.ensures ∙ ap (λ cs. slice_get cs k) c.deref.ensures.value);
    }

pub returns-in-None : goal.returns-in-None
returns-in-None c =
    let k : ℕ = counted_value Seq36 (bytes_at c.args.symbol.now c.args.digits) in
    let items = c.args.self.now.candidates.list.items in
    let past : 2 ^ 64 ≤ k = subst (λ o. MatchOption o (2 ^ 64 ≤ k) (λ v. v ≡ k)) c.in-None.is c.value36-counted.ensures in
    let at : (n : ℕ) → 2 ^ 64 ≤ n → c.numbered-named.result ≡ slice_get items n =
    λ n more. c.numbered-named.ensures n (subst (λ o. MatchOption o (2 ^ 64 ≤ n) (λ v. v ≡ n)) (sym c.in-None.is) more) ∙ ap (λ cs. slice_get cs n) c.deref.ensures.value in
    record { named = named_nowhere c.args.symbol.now c.args.self.now c.args.place k c.requires.candidates.0 (2 ^ 64) past c.numbered-named.result at c.args.self.now.counting.lists }
