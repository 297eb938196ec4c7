-- One step of the walk through a text, by the place that the walk has reached.
use Rattle.short_names.proofs.Basics.{◌≡◌, ◌<◌, ◌≤◌, ◌+◌, ◌-◌, refl, sym, ap, ◌∙◌, ℕ, zero, suc, arith, List, [], ◌∷◌, ◌++◌, length, take, drop, Option, None, Some, length-drop, take-add, Rules, Written, Stepped, stepped, written_for}
use Rattle.std.proofs.lemmas.List.{drop-drop, length-take-le}

skip : (rules : Rules) (n : ℕ) (text : List ℕ) (written : Written) → written_for rules n text written ≡ written_for rules 0 (drop n text) written
unfolding written_for
skip rules zero text written = refl
skip rules (suc n) [] written = refl
skip rules (suc n) (byte ∷ text) written = skip rules n text written

dropped : (size : ℕ) (byte : ℕ) (rest : List ℕ) → 0 < size → drop size (byte ∷ rest) ≡ drop (size - 1) rest
dropped zero byte rest h = absurd (omega (arith, h))
dropped (suc n) byte rest h = ap (λ k. drop k rest) (omega arith)

-- a step that writes
pub goes : (rules : Rules) (text : List ℕ) (at byte : ℕ) (rest : List ℕ) (written next : Written) (size : ℕ)
    → drop at text ≡ byte ∷ rest → stepped rules byte rest written ≡ Some (record { size = size; written = next }) → 0 < size
    → written_for rules 0 (drop at text) written ≡ written_for rules 0 (drop (at + size) text) next
unfolding written_for
goes rules text at byte rest written next size here step some =
    let after : Option Stepped → Option Written = λ o. elim o [ None ↦ None | Some it ↦ written_for rules (it.size - 1) rest it.written ] in
    ap (λ t. written_for rules 0 t written) here ∙ ap after step ∙ skip rules (size - 1) rest next
    ∙ ap (λ t. written_for rules 0 t next) (sym (dropped size byte rest some) ∙ ap (drop size) (sym here) ∙ drop-drop size at text)

-- a step at which brackets don't pair
pub stops : (rules : Rules) (text : List ℕ) (at byte : ℕ) (rest : List ℕ) (written : Written)
    → drop at text ≡ byte ∷ rest → stepped rules byte rest written ≡ None → written_for rules 0 (drop at text) written ≡ None
unfolding written_for
stops rules text at byte rest written here step =
    let after : Option Stepped → Option Written = λ o. elim o [ None ↦ None | Some it ↦ written_for rules (it.size - 1) rest it.written ] in
    ap (λ t. written_for rules 0 t written) here ∙ ap after step

-- the bytes not yet copied, after some more bytes of the text
pub pending-more : (text : List ℕ) (copied at size : ℕ) → copied ≤ at
    → take (at + size - copied) (drop copied text) ≡ take (at - copied) (drop copied text) ++ take size (drop at text)
pending-more text copied at size h =
    ap (λ n. take n (drop copied text)) (omega (arith, h)) ∙ take-add (at - copied) size (drop copied text)
    ∙ ap (λ t. take (at - copied) (drop copied text) ++ take size t) (drop-drop (at - copied) copied text ∙ ap (λ n. drop n text) (omega (arith, h)))

pub length-pending : (text : List ℕ) (copied at : ℕ) → copied ≤ at → at ≤ length text → length (take (at - copied) (drop copied text)) ≡ at - copied
length-pending text copied at h within = length-take-le (at - copied) (drop copied text) (omega (arith, h, within, length-drop copied text))
