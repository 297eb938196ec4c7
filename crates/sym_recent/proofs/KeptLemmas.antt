-- What a table keeps while bytes and entries are added to it.
use Rattle.std.proofs.Common.{◌≡◌, ◌+◌, ◌≤◌, ◌∙◌, ℕ, List, [], ◌∷◌, ◌++◌, Result, Ok, Bool, true, false, not, cond, take, drop, length, sym, ap, subst, ◌-◌, arith}
use Rattle.std.specs.List.{All}
use Rattle.std.proofs.lemmas.List.{append_assoc, length-append, length-drop, take_all, take-append-le, drop-append-le}
use Rattle.std.proofs.lemmas.List.Elements.{All-push, All-weaker}
use Rattle.std.proofs.Math.Seq.{take-append_seam, drop-append_seam}
use Rattle.sym_core.specs.declared.refusal.Refusal.{Refusal}
use Rattle.sym_filter.specs.declared.kinds.Kind.{Kind}
use Rattle.sym_recent.specs.Kept.{IsKept}
use Rattle.sym_recent.specs.declared.table.Entry.{Entry}

-- a stretch of bytes is the same with more bytes after them
pub stretch-longer : (bytes more : List ℕ) (at size : ℕ) → at + size ≤ length bytes → take size (drop at (bytes ++ more)) ≡ take size (drop at bytes)
stretch-longer bytes more at size within =
    ap (take size) (drop-append-le at bytes more (omega (arith, within)))
    ∙ take-append-le size (drop at bytes) more (omega (arith, within, length-drop at bytes))

-- a kept entry is still kept once there are more bytes
pub IsKept-longer : (answer : Kind → List ℕ → Result (List ℕ) Refusal) (bytes more : List ℕ) (entry : Entry) → IsKept answer bytes entry → IsKept answer (bytes ++ more) entry
IsKept-longer answer bytes more entry (within, is) = (
  omega (arith, within, length-append bytes more),
  ap (answer entry.kind) (stretch-longer bytes more entry.at entry.symbol (omega (arith, within)))
      ∙ is
      ∙ ap Ok (sym (stretch-longer bytes more (entry.at + entry.symbol) entry.text (omega (arith, within)))),
)

-- each of some kept entries is still kept once there are more bytes
pub all-longer : (answer : Kind → List ℕ → Result (List ℕ) Refusal) (bytes more : List ℕ) (entries : List Entry)
    → All (IsKept answer bytes) entries → All (IsKept answer (bytes ++ more)) entries
all-longer answer bytes more entries kept = All-weaker (IsKept answer bytes) (IsKept answer (bytes ++ more)) (λ entry. IsKept-longer answer bytes more entry) entries kept

-- an entry is kept if its symbol and its text come right after the bytes so far
pub IsKept-new : (answer : Kind → List ℕ → Result (List ℕ) Refusal) (bytes symbol text : List ℕ) (kind : Kind)
    → answer kind symbol ≡ Ok text
    → IsKept answer ((bytes ++ symbol) ++ text) (record { kind = kind; at = length bytes; symbol = length symbol; text = length text })
IsKept-new answer bytes symbol text kind is =
    let symbol_is : take (length symbol) (drop (length bytes) ((bytes ++ symbol) ++ text)) ≡ symbol =
    ap (λ l. take (length symbol) (drop (length bytes) l)) (append_assoc bytes symbol text)
    ∙ ap (take (length symbol)) (drop-append_seam bytes (symbol ++ text))
    ∙ take-append_seam symbol text in
    let text_is : take (length text) (drop (length bytes + length symbol) ((bytes ++ symbol) ++ text)) ≡ text =
    ap (λ n. take (length text) (drop n ((bytes ++ symbol) ++ text))) (sym (length-append bytes symbol))
    ∙ ap (take (length text)) (drop-append_seam (bytes ++ symbol) text)
    ∙ take_all (length text) text (omega (arith)) in (
      omega (arith, length-append (bytes ++ symbol) text, length-append bytes symbol),
      ap (answer kind) symbol_is ∙ is ∙ ap Ok (sym text_is),
    )

-- entries are still kept, whether bytes were added or memory ran out
pub all-longer-if : (answer : Kind → List ℕ → Result (List ℕ) Refusal) (done : Bool) (bytes more now : List ℕ) (entries : List Entry)
    → now ≡ cond done (bytes ++ more) bytes → All (IsKept answer bytes) entries → All (IsKept answer now) entries
all-longer-if answer true bytes more now entries is kept = subst (λ l. All (IsKept answer l) entries) (sym is) (all-longer answer bytes more entries kept)
all-longer-if answer false bytes more now entries is kept = subst (λ l. All (IsKept answer l) entries) (sym is) kept

-- if memory didn't run out, the bytes or the entry were added
pub done : {X : Type 0} (some err : Bool) (now long short : X) → some ≡ not err → err ≡ false → now ≡ cond some long short → now ≡ long
done some err now long short some_is err_is is = is ∙ ap (λ b. cond b long short) (some_is ∙ ap not err_is)

-- An entry is added after the others, with its symbol and its text after the bytes.
pub all-one_more : (answer : Kind → List ℕ → Result (List ℕ) Refusal) (bytes symbol text : List ℕ) (kind : Kind) (entries : List Entry)
    → answer kind symbol ≡ Ok text → All (IsKept answer bytes) entries
    → All (IsKept answer ((bytes ++ symbol) ++ text)) (entries ++ record { kind = kind; at = length bytes; symbol = length symbol; text = length text } ∷ [])
all-one_more answer bytes symbol text kind entries is kept =
    All-push (IsKept answer ((bytes ++ symbol) ++ text)) entries _
    (all-longer answer (bytes ++ symbol) text entries (all-longer answer bytes symbol entries kept))
    (IsKept-new answer bytes symbol text kind is)

-- likewise for equal lists and an equal entry, which may be left out for want of memory
pub all-added : (answer : Kind → List ℕ → Result (List ℕ) Refusal) (bytes symbol text added : List ℕ) (kind : Kind) (entries now : List Entry) (entry : Entry) (some : Bool)
    → answer kind symbol ≡ Ok text → All (IsKept answer bytes) entries
    → added ≡ (bytes ++ symbol) ++ text → entry ≡ record { kind = kind; at = length bytes; symbol = length symbol; text = length text }
    → now ≡ cond some (entries ++ entry ∷ []) entries → All (IsKept answer added) now
all-added answer bytes symbol text added kind entries now entry true is kept added_is entry_is now_is =
    rw (added_is, now_is, entry_is) (all-one_more answer bytes symbol text kind entries is kept)
all-added answer bytes symbol text added kind entries now entry false is kept added_is entry_is now_is =
    rw (added_is, now_is) (all-longer answer (bytes ++ symbol) text entries (all-longer answer bytes symbol entries kept))

-- a symbol and its text were added, one after the other
pub both : (some other err err_other : Bool) (bytes symbol text first second : List ℕ)
    → some ≡ not err → err ≡ false → first ≡ cond some (bytes ++ symbol) bytes
    → other ≡ not err_other → err_other ≡ false → second ≡ cond other (first ++ text) first
    → second ≡ (bytes ++ symbol) ++ text
both some other err err_other bytes symbol text first second some_is err_is first_is other_is err_other_is second_is =
    done other err_other second (first ++ text) first other_is err_other_is second_is
    ∙ ap (λ l. l ++ text) (done some err first (bytes ++ symbol) bytes some_is err_is first_is)

-- the bytes after a list's front
pub behind : (old new now text : List ℕ) (at : ℕ) → at ≡ length old → now ≡ new → new ≡ old ++ text → take (length now - at) (drop at now) ≡ text
behind old new now text at at_is now_is is =
    rw (at_is, now_is, is)
    (ap (take (length (old ++ text) - length old)) (drop-append_seam old text)
    ∙ take_all (length (old ++ text) - length old) text (omega (arith, length-append old text)))
