-- Bytes that are copied together with more bytes after them; the additional bytes are cut off again.
use Rattle.std.proofs.Common.{◌≡◌, ℕ, ◌+◌, ◌-◌, ◌≤◌, List, ◌++◌, length, take, drop, ap, ◌∙◌, arith}
use Rattle.std.proofs.lemmas.List.{take-take}
use Rattle.std.proofs.Math.Seq.{take-append-add}

-- the bytes after the cut: the old ones, and those that were to be copied
pub cut-back : (old bytes : List ℕ) (from size most : ℕ) → size ≤ most
    → take (length old + size) (old ++ take (from + most - from) (drop from bytes)) ≡ old ++ take size (drop from bytes)
cut-back old bytes from size most few =
    let exact : from + most - from ≡ most = omega arith in
    ap (λ n. take (length old + size) (old ++ take n (drop from bytes))) exact
    ∙ take-append-add old (take most (drop from bytes)) size
    ∙ ap (λ l. old ++ l) (take-take size most (drop from bytes) few)
