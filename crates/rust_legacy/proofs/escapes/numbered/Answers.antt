use Rattle.rust_legacy.proofs.Basics.{◌-◌, length, take, drop, subst, sym, AreDigits, Hex}
use Rattle.rust_legacy.proofs.Digits.{digits-front}
use Rattle.rust_legacy.proofs.escapes.numbered.Goals as goal

pub value16-requires : goal.value16-requires
value16-requires c =
    let rest = take (length c.args.bytes.now - 2) (drop 2 c.args.bytes.now) in
    (subst (λ n. AreDigits Hex (take n rest)) (sym c.digits_in-count.ensures.count) (digits-front Hex rest), tt)
