use Rattle.short_names.proofs.Basics.{ℕ, ◌+◌, arith, refl, zip2_splat, length-chunk}
use lib.Lanes.{chunk}
use Rattle.short_names.proofs.BitLemmas.{none-set, few-set}
use Rattle.short_names.proofs.runs.lane_bits.Goals as goal

pub returns-clause-bits : goal.returns-clause-bits
returns-clause-bits c =
    let text = c.args.text.now in
    let at = c.args.at in
    none-set 16 text at (omega arith) (omega arith) _ _ _ _ _
    (zip2_splat {Y = ℕ} _ (chunk (at + 2) 16 text) 16 100 (length-chunk (at + 2) 16 text (omega arith)))
    (zip2_splat {Y = ℕ} _ (chunk (at + 3) 16 text) 16 58 (length-chunk (at + 3) 16 text (omega arith)))
    refl

pub returns-clause-few : goal.returns-clause-few
returns-clause-few c =
    let text = c.args.text.now in
    let at = c.args.at in
    few-set 16 text at (omega arith) (omega arith) _ _ _ _ _
    (zip2_splat {Y = ℕ} _ (chunk (at + 2) 16 text) 16 100 (length-chunk (at + 2) 16 text (omega arith)))
    (zip2_splat {Y = ℕ} _ (chunk (at + 3) 16 text) 16 58 (length-chunk (at + 3) 16 text (omega arith)))
