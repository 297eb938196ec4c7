use Rattle.std.proofs.Common.{ℕ, List, ◌++◌, length, take, ap, ◌∙◌, arith}
use Rattle.std.proofs.lemmas.Slice.{take-put_mid}
use Rattle.rust_tree.proofs.push.put.Goals as goal

pub returns-clause-bytes : goal.returns-clause-bytes
returns-clause-bytes c =
    let same = c.copy_from_slice.ensures.after in
    take-put_mid c.args.at _ c.args.bytes.now c.copy_from_slice.new.self _ (omega (arith, ap (λ (xs : List ℕ). length xs) same)) (omega (arith, c.requires, c.told-bytes))
    ∙ ap (λ xs. take c.args.at c.args.bytes.now ++ xs) same
