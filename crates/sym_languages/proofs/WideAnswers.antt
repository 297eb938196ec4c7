-- What is answered for symbols of the wide grammar that are pressed.
use Rattle.sym_languages.proofs.Basics.{◌≡◌, ◌∙◌, ℕ, List, ◌++◌, length, Option, Some, None, Ok, Err, sym, ap, subst, Vec, Malformed, TooLong, AreBytes, outcome_shaped, outcome_malformed, IsReading, misshapen, well_shaped, wide_mangled, IsKept, kept, with_front, most_pressed, kept_or_refused, kept_if_read, wide_pressed_answer, ReadingIsKept}
use Rattle.std.specs.Global.{Global}
use Rattle.cpp_grammar.specs.Term.{Term}
use Rattle.sym_languages.proofs.LanguageLemmas.{pressed_given}

-- ## By what a symbol reads as

pub reading_kept : ReadingIsKept
unfolding wide_pressed_answer
reading_kept s result bytes (misshapen at bad e) =
    outcome_malformed wide_mangled.table wide_mangled.lawful (λ shape. kept_if_read (most_pressed (length s)) (wide_mangled.unfolded shape)) (λ at. Err (Malformed at)) (Err (Malformed 0)) s at bytes bad
    ∙ ap (kept_if_read (most_pressed (length s))) (sym e)
reading_kept s result bytes (well_shaped (shape, is, text, e)) =
    outcome_shaped wide_mangled.table wide_mangled.lawful (λ shape. kept_if_read (most_pressed (length s)) (wide_mangled.unfolded shape)) (λ at. Err (Malformed at)) (Err (Malformed 0)) s shape bytes is text
    ∙ ap (kept_if_read (most_pressed (length s))) (sym e)

-- a symbol that is read and has no spelling
pub unspelled_answer : (front s : List ℕ) (t : Term) (most : ℕ) → AreBytes s → IsReading wide_mangled s (Ok t) → most ≡ most_pressed (length s) → kept most t ≡ None
    → with_front front (wide_pressed_answer s) ≡ Err TooLong
unspelled_answer front s t most bytes is same none =
    ap (with_front front) (reading_kept s (Ok t) bytes is ∙ ap kept_or_refused (ap (λ m. kept m t) (sym same) ∙ none))

-- a symbol that has a spelling, which was appended
pub spelled_answer : (front old new s spelling out : List ℕ) (t : Term) (most : ℕ) → AreBytes s → IsReading wide_mangled s (Ok t) → most ≡ most_pressed (length s) → kept most t ≡ Some spelling
    → out ≡ spelling → new ≡ old ++ (front ++ out) → (text : List ℕ) × (with_front front (wide_pressed_answer s) ≡ Ok text) × (new ≡ old ++ text)
spelled_answer front old new s spelling out t most bytes is same some put pushed =
    pressed_given front old new out spelling (wide_pressed_answer s) (reading_kept s (Ok t) bytes is ∙ ap kept_or_refused (ap (λ m. kept m t) (sym same) ∙ some)) put pushed

-- the spelling that is kept, given the one that was found
pub kept_none : (given : Option (List ℕ)) (found : Option (Vec ℕ Global)) → IsKept given found → found ≡ None → given ≡ None
kept_none given found is none = subst (λ (o : Option (Vec ℕ Global)). IsKept given o) none is

pub kept_some : (given : Option (List ℕ)) (found : Option (Vec ℕ Global)) (out : Vec ℕ Global) → IsKept given found → found ≡ Some out → given ≡ Some out.items
kept_some given found out is some = subst (λ (o : Option (Vec ℕ Global)). IsKept given o) some is
