use Rattle.short_names.proofs.Basics.{ℕ, leb, cond, bit_and, refl, zip2_splat, length-chunk, is_letter, is_name_byte}
use lib.Lanes.{chunk}
use Rattle.short_names.proofs.LaneLemmas.{joined, splat_is, front_is_of}
use Rattle.short_names.proofs.runs.name_lanes.Goals as goal

pub returns : goal.returns
unfolding is_name_byte is_letter
returns c =
    let v = chunk c.args.at 16 c.args.text.now in
    let long = length-chunk c.args.at 16 c.args.text.now c.requires in
    let least = λ (a b : ℕ). cond (leb a b) 255 0 in
    let letter = joined least _ _ v (splat_is v 16 26 long) (joined _ _ _ v (zip2_splat {Y = ℕ} _ v 16 32 long) (splat_is v 16 97 long)) in
    let digit = joined least _ _ v (splat_is v 16 11 long) (zip2_splat {Y = ℕ} _ v 16 48 long) in
    let name = joined bit_and _ _ v (joined bit_and _ _ v letter digit) (zip2_splat {Y = ℕ} _ v 16 95 long) in
    let signs = joined bit_and _ _ v (joined bit_and _ _ v name (zip2_splat {Y = ℕ} _ v 16 46 long)) (zip2_splat {Y = ℕ} _ v 16 36 long) in
    let all = joined bit_and _ _ v signs (zip2_splat {Y = ℕ} _ v 16 128 long) in
    front_is_of is_name_byte c.args.text.now c.args.at _ _ c.requires c.type_inv.text c.first_set.ensures _ all refl
