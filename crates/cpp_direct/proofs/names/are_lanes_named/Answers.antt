use Rattle.cpp_direct.proofs.ForAnswers.{ℕ, bit_or, eqb-true, refl, zip2_of_maps, zip2_splat, length-chunk, is_name_byte, none_of, NameClass}
use lib.Lanes.{chunk}
use Rattle.cpp_direct.proofs.names.are_lanes_named.Goals as goal

pub returns : goal.returns
returns c = λ none.
    let v = chunk c.args.at 16 c.args.bytes.now in
    let long = length-chunk c.args.at 16 c.args.bytes.now c.requires in
    none_of (is_name_byte NameClass.Cpp) c.args.bytes.now c.args.at _ _ c.requires c.type_inv.bytes (eqb-true _ _ none)
    (zip2_of_maps bit_or _ _ v (zip2_splat {Y = ℕ} _ v 16 32 long) (zip2_splat {Y = ℕ} _ v 16 127 long)) refl
