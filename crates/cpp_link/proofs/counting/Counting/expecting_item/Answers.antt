use Rattle.cpp_link.proofs.Basics.{sym, ◌∙◌, ap, true, false, Counting, item_at, expecting_item, expected_of, counting_of}
use Rattle.cpp_grammar.specs.Rescoping.{behind_first}
use Rattle.cpp_references.specs.Around.{around_of}
use Rattle.cpp_link.proofs.counting.Counting.expecting_item.Goals as goal

pub returns-then-is_none_of : goal.returns-then-is_none_of
unfolding expecting_item around_of
returns-then-is_none_of c ts =
    let old = counting_of c.args.self in
    sym (ap (λ b. elim b as (λ _. Counting) [ true ↦ old | false ↦ record old { expected = item_at c.args.place old.awaited.first; awaited = behind_first old.awaited } ]) (sym c.is_none_of.ensures ∙ c.if-is_none_of.true))

pub returns : goal.returns
unfolding expecting_item around_of expected_of
returns c ts =
    let old = counting_of c.args.self in
    ap (λ a. record old { expected = item_at c.args.place old.awaited.first; awaited = a }) c.behind_first.ensures
    ∙ sym (ap (λ b. elim b as (λ _. Counting) [ true ↦ old | false ↦ record old { expected = item_at c.args.place old.awaited.first; awaited = behind_first old.awaited } ]) (sym c.is_none_of.ensures ∙ c.if-is_none_of.false))
