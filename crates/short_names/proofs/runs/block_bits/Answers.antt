use Rattle.short_names.proofs.Basics.{ℕ, ◌+◌, arith, refl, zip2_splat, length-chunk}
use lib.Lanes.{chunk}
use Rattle.short_names.proofs.BitLemmas.{none-set}
use Rattle.short_names.proofs.runs.block_bits.Goals as goal

pub returns : goal.returns
returns c =
    let text = c.args.text.now in
    let at = c.args.at in
    none-set 64 text at (omega arith) (omega arith) _ _ _ _ _
    (zip2_splat {Y = ℕ} _ (chunk (at + 2) 64 text) 64 100 (length-chunk (at + 2) 64 text (omega arith)))
    (zip2_splat {Y = ℕ} _ (chunk (at + 3) 64 text) 64 58 (length-chunk (at + 3) 64 text (omega arith)))
    refl
