use Rattle.sym_filter.proofs.Basics.{ℕ, refl, zip2_splat, length-chunk, is_no_mark}
use lib.Lanes.{chunk}
use Rattle.sym_filter.proofs.LaneLemmas.{front_is_of}
use Rattle.sym_filter.proofs.lanes.marks.Goals as goal

pub returns : goal.returns
returns c =
    let v = chunk c.args.at 16 c.args.text.now in
    let long = length-chunk c.args.at 16 c.args.text.now c.requires in
    front_is_of is_no_mark c.args.text.now c.args.at _ _ c.requires c.type_inv.text refl _ (zip2_splat {Y = ℕ} _ v 16 95 long) refl
