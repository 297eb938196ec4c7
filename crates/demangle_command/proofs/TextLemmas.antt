-- Words as texts of the parser, and back.
use Rattle.demangle_command.proofs.Basics.{◌≡◌, ◌≢◌, ◌∙◌, ap, refl, sym, ℕ, List, [], ◌∷◌, ◌++◌, length, map, take, get_or, Bor, ◌+◌, ◌<◌, eqb, false, false≢true, map-append, Text}
use Rattle.sym_command.proofs.LineLemmas.{words-more}
use Rattle.demangle_command.specs.Texts.{Decoding, after_byte, after_text, bytes_of}

-- the state after a text and one more byte
pub after-more : (decoding : Decoding) (text : List ℕ) (byte : ℕ) → after_text decoding (text ++ byte ∷ []) ≡ after_byte (after_text decoding text) byte
after-more decoding [] byte = refl
after-more decoding (b ∷ text) byte = after-more (after_byte decoding b) text byte

-- a function's results for the first words and for one more word
pub map-more : (f : List ℕ → List ℕ) (words : List (Bor (List ℕ))) (i : ℕ) (none : Bor (List ℕ)) → i < length words
    → map f (map (λ (word : Bor (List ℕ)). word.now) (take (i + 1) words)) ≡ map f (map (λ (word : Bor (List ℕ)). word.now) (take i words)) ++ f (get_or words i none).now ∷ []
map-more f words i none within =
    let now : Bor (List ℕ) → List ℕ = λ word. word.now in
    ap (map f) (words-more words i none within) ∙ map-append f (map now (take i words)) ((get_or words i none).now ∷ [])

-- a function's results for the first words and for one more word, in a list to which each word adds one entry
pub pushed-more : {A : Type 0} (bytes : A → List ℕ) (f : List ℕ → List ℕ) (old new : List A) (x : A) (words : List (Bor (List ℕ))) (i : ℕ) (none : Bor (List ℕ)) → new ≡ old ++ x ∷ []
    → map bytes old ≡ map f (map (λ (word : Bor (List ℕ)). word.now) (take i words)) → bytes x ≡ f (get_or words i none).now → i < length words
    → map bytes new ≡ map f (map (λ (word : Bor (List ℕ)). word.now) (take (i + 1) words))
pushed-more bytes f old new x words i none pushed so_far here within =
    let done = map f (map (λ (word : Bor (List ℕ)). word.now) (take i words)) in
    ap (map bytes) pushed ∙ map-append bytes old (x ∷ []) ∙ ap (λ (l : List (List ℕ)). l ++ bytes x ∷ []) so_far ∙ ap (λ (b : List ℕ). done ++ b ∷ []) here ∙ sym (map-more f words i none within)

-- if there is a text, there is a word
pub some-words : (texts : List (Bor Text)) → eqb (length texts) 0 ≡ false → map bytes_of (map (λ (text : Bor Text). text.now) texts) ≢ []
some-words [] some = absurd (false≢true (sym some))
some-words (text ∷ texts) some = λ none. cc
