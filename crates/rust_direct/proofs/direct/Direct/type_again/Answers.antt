use Rattle.rust_direct.proofs.Basics.{◌≡◌, subst, slice_get, suc, Some, IsNumberAt}
use Rattle.rust_direct.proofs.FoundTokens.{tested}
use Rattle.rust_direct.proofs.TypesRead.{type-repeated}
use Rattle.rust_direct.proofs.direct.Direct.type_again.Goals as goal

pub ended-requires : goal.ended-requires
ended-requires g c =
    let s = c.args.s.now in
    let old = c.args.self.now in
    let found = c.in_ok-note.ensures in
    type-repeated g.S.Showing.IS_BRIEF s old c.repeat.new.self c.len-from.result c.in_ok-number.number c.in_ok-number.end found.0 c.in_ok-note.note c.requires.awaits
    c.requires.letter
    (subst (λ k. IsNumberAt s k c.in_ok-number.number c.in_ok-number.end) c.in_ok-checked_add.ensures.1 c.in_ok-number.ensures)
    (subst (λ p. slice_get old.numbers.items p ≡ Some (suc found.0)) c.in_ok-checked_add-2.ensures.1 found.1) found.2
    (tested c.is_type.result _ c.is_type.ensures c.if-not-is_type.false) c.len-from.ensures c.in_ok-repeat.ensures
