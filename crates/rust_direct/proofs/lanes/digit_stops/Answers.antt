use Rattle.rust_direct.proofs.Basics.{ℕ, leb, cond, bit_and, refl, zip2_splat, length-chunk, Base62, is_digit_of}
use lib.Lanes.{chunk}
use Rattle.rust_direct.proofs.LaneLemmas.{joined, splat_is, front-passes}
use Rattle.rust_direct.proofs.lanes.digit_stops.Goals as goal

pub returns : goal.returns
returns c =
    let v = chunk c.args.at 16 c.args.s.now in
    let long = length-chunk c.args.at 16 c.args.s.now c.requires in
    let least = λ (a b : ℕ). cond (leb a b) 255 0 in
    let letter = joined least _ _ v (splat_is v 16 26 long) (joined _ _ _ v (zip2_splat {Y = ℕ} _ v 16 32 long) (splat_is v 16 97 long)) in
    let digit = joined least _ _ v (splat_is v 16 10 long) (zip2_splat {Y = ℕ} _ v 16 48 long) in
    let all = joined bit_and _ _ v letter digit in
    front-passes (is_digit_of Base62) c.args.s.now c.args.at _ _ c.requires c.type_inv.s refl _ all refl
