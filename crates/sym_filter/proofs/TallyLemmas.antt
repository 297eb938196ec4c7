-- Counting words one at a time.
use Rattle.sym_filter.proofs.Basics.{◌≡◌, ℕ, ◌+◌, Bool, true, false, cond, not, List, [], ◌∷◌, ◌++◌, length, length-append, refl, sym, ap, ◌∙◌, arith, sum_by-append, cond-true, cond-false, Tally, Answering, IsTally, capped, has_text, tally_with, tally_with_word, tally_counted, is_named}

same_fields : (a a' b b' c c' : ℕ) → a ≡ a' → b ≡ b' → c ≡ c' → (let s : Tally = record { words = a; replaced = b; refused = c } in let t : Tally = record { words = a'; replaced = b'; refused = c' } in s ≡ t)
same_fields a a' b b' c c' h i j = rw (h, i, j) refl

same_tally : (s t : Tally) → s.words ≡ t.words → s.replaced ≡ t.replaced → s.refused ≡ t.refused → s ≡ t
same_tally s t h i j = same_fields _ _ _ _ _ _ h i j

pub tally_with-none : (answers : Answering) (tally : Tally) → IsTally tally → tally_with answers tally [] ≡ tally
tally_with-none answers tally h = same_tally _ _ (omega (arith, h.words)) (omega (arith, h.replaced)) (omega (arith, h.refused))

capped-add : (a b c : ℕ) → capped (capped (a + b) + c) ≡ capped (a + (b + c))
capped-add a b c = omega arith

-- counting in two parts
pub tally_with-append : (answers : Answering) (tally : Tally) (runs others : List (List ℕ)) → tally_with answers (tally_with answers tally runs) others ≡ tally_with answers tally (runs ++ others)
tally_with-append answers tally runs others =
    same_tally _ _
    (capped-add tally.words (length runs) (length others) ∙ ap (λ n. capped (tally.words + n)) (sym (length-append runs others)))
    (capped-add tally.replaced _ _ ∙ ap (λ n. capped (tally.replaced + n)) (sym (sum_by-append (λ run. cond (has_text answers run) 1 0) runs others)))
    (capped-add tally.refused _ _ ∙ ap (λ n. capped (tally.refused + n)) (sym (sum_by-append (λ run. cond (not (has_text answers run)) 1 0) runs others)))

-- one run is counted
tally_with-step : (answers : Answering) (tally : Tally) (run : List ℕ) (b : Bool) → has_text answers run ≡ b → IsTally tally → tally_with answers tally (run ∷ []) ≡ tally_counted b tally
tally_with-step answers tally run true h fits = same_tally _ _ refl (rw h refl) (rw h (omega (arith, fits.refused)))
tally_with-step answers tally run false h fits = same_tally _ _ refl (rw h (omega (arith, fits.replaced))) (rw h refl)

-- a word that names a symbol is counted
pub tally_with_word-named : (answers : Answering) (tally : Tally) (word : List ℕ) (b : Bool) → is_named word ≡ true → has_text answers word ≡ b → IsTally tally → tally_with_word answers tally word ≡ tally_counted b tally
tally_with_word-named answers tally word b named h fits =
    ap (tally_with answers tally) (cond-true (is_named word) _ _ named) ∙ tally_with-step answers tally word b h fits

-- other words aren't counted
pub tally_with_word-unnamed : (answers : Answering) (tally : Tally) (word : List ℕ) → is_named word ≡ false → IsTally tally → tally_with_word answers tally word ≡ tally
tally_with_word-unnamed answers tally word named fits =
    ap (tally_with answers tally) (cond-false (is_named word) _ _ named) ∙ tally_with-none answers tally fits
