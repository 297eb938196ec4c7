use Rattle.legacy_parts.proofs.Basics.{◌+◌, ap, ◌∙◌, arith, AreNames-low}
use Rattle.legacy_parts.proofs.Places.{found-by, places-are, six}
use Rattle.legacy_parts.proofs.spelled.spelling_in.Goals as goal

pub size_at-first-requires : goal.size_at-first-requires
size_at-first-requires c =
    let placed = c.requires.placed in
    omega (arith, AreNames-low c.args.symbol.now 3 c.args.place.hash placed.0.names placed.2.0, placed.2.2, placed.2.3)

pub returns-clause-spelling : goal.returns-clause-spelling
returns-clause-spelling c = λ path is. (
    let placed = c.requires.placed in
    found-by _ _ _ _ _ _ _ _ _ _ _ _
    (six _ _ _ _ _ _ _ _ _ _ _ _ _ c.new-spans.ensures.items c.in_ok-push_part.ensures.parts c.in_ok-push_part-2.ensures.parts c.in_ok-push_part-3.ensures.parts
    c.in_ok-push_part-4.ensures.parts c.in_ok-push_part-5.ensures.parts c.in_ok-push_part-6.ensures.parts)
    c.new.ensures.items c.new-2.ensures.items c.new-3.ensures.items c.new-4.ensures.items c.new-5.ensures.items c.new-6.ensures.items
    ∙ places-are c.args.symbol.now c.args.place placed path _ _ is (ap (λ n. 3 + n) c.size_at-first.ensures.size) (c.last_at-last.ensures.last placed.0.names placed.2.0))
