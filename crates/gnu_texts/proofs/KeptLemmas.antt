-- What a spelled text keeps of a text that has no suffix and none of the names that are written differently.
use Rattle.gnu_texts.proofs.Basics.{◌≡◌, ◌<◌, ◌-◌, ◌==◌, ℕ, zero, suc, Bool, true, false, not, ◌&&◌, ◌||◌, List, [], ◌∷◌, ◌++◌, take, drop, nat_eq, codes, refl, sym, ap, ap₂, ◌∙◌, arith, true≢false, eqb-true, take-append-drop, filter-append, starts_with, Piece, AddsBlanks, HasNo, HasNoPlaces, HasNoWords, PartsBrackets, Stays, without_blanks, bytes_of, is_spaced, last_of, operator_size, piece_at, size_of, spelled}
use Rattle.gnu_texts.proofs.FrontLemmas.{no-operator}
use Rattle.gnu_texts.proofs.PieceLemmas.{by-few, words-tail}
use Rattle.gnu_texts.proofs.SpelledLemmas.{drop-less}

-- ## Texts that stay

-- a test at one byte alone
pub at-byte : (byte n : ℕ) (test : Bool) → (byte ≡ n → test ≡ false) → (byte == n && test) ≡ false
at-byte byte n test f = by (byte == n) refl
  where
    by : (b : Bool) → (byte == n) ≡ b → (b && test) ≡ false
    by true e = f (eqb-true byte n e)
    by false e = refl

none-spaced : (byte : ℕ) (text : List ℕ) → starts_with nat_eq (byte ∷ text) (codes ">>") ≡ false → starts_with nat_eq (byte ∷ text) (codes ")[") ≡ false → is_spaced byte text ≡ false
unfolding is_spaced
none-spaced byte text closing array =
    ap₂ (λ a b. a || b)
    (at-byte byte 62 (starts_with nat_eq text (codes ">")) (λ e. sym (ap (λ b. starts_with nat_eq (b ∷ text) (codes ">>")) e) ∙ closing))
    (at-byte byte 41 (starts_with nat_eq text (codes "[")) (λ e. sym (ap (λ b. starts_with nat_eq (b ∷ text) (codes ")[")) e) ∙ array))

places-tail : (byte : ℕ) (text : List ℕ) → HasNoPlaces (byte ∷ text) → HasNoPlaces text
places-tail byte text none = record { words = words-tail byte text none.words; closing = λ k. none.closing (suc k); array = λ k. none.array (suc k) }

stays-by : (last skipped : ℕ) (text : List ℕ) → HasNoPlaces text → is_spaced last (drop skipped text) ≡ false → spelled last skipped text ≡ drop skipped text
unfolding spelled bytes_of last_of size_of is_spaced
stays-by last zero [] none other = refl
stays-by last (suc skipped) [] none other = refl
stays-by last (suc skipped) (byte ∷ text) none other = stays-by last skipped text (places-tail byte text none) other
stays-by last zero (byte ∷ text) none other = by (λ next n. stays-by next n text (places-tail byte text none))
  where
    by : ((next n : ℕ) → is_spaced next (drop n text) ≡ false → spelled next n text ≡ drop n text)
        → let all : List ℕ = byte ∷ text in let piece : Piece = piece_at last all in bytes_of piece all ++ spelled (last_of piece all) (size_of piece all - 1) text ≡ all
    by again =
        let all : List ℕ = byte ∷ text in
        by-few (λ piece. bytes_of piece all ++ spelled (last_of piece all) (size_of piece all - 1) text ≡ all) last all none.words
        (λ some.
        let size = operator_size last all in
        ap (λ t. take size all ++ t) (again 0 (size - 1) refl ∙ drop-less size byte text some) ∙ take-append-drop size all)
        (λ spaced. absurd (true≢false (sym spaced ∙ other)))
        (λ _. ap (λ t. byte ∷ t) (again byte 0 (none-spaced byte text (none.closing 0) (none.array 0))))

pub stays : (text : List ℕ) → Stays text
unfolding is_spaced
stays text none = stays-by 0 0 text none refl

-- ## Blanks

blanks-by : (last skipped : ℕ) (text : List ℕ) → HasNoWords text → without_blanks (spelled last skipped text) ≡ without_blanks (drop skipped text)
unfolding spelled bytes_of last_of size_of
blanks-by last zero [] none = refl
blanks-by last (suc skipped) [] none = refl
blanks-by last (suc skipped) (byte ∷ text) none = blanks-by last skipped text (words-tail byte text none)
blanks-by last zero (byte ∷ text) none = by (λ next n. blanks-by next n text (words-tail byte text none))
  where
    by : ((next n : ℕ) → without_blanks (spelled next n text) ≡ without_blanks (drop n text))
        → let all : List ℕ = byte ∷ text in let piece : Piece = piece_at last all in without_blanks (bytes_of piece all ++ spelled (last_of piece all) (size_of piece all - 1) text) ≡ without_blanks all
    by again =
        let all : List ℕ = byte ∷ text in
        let both : (front rest more : List ℕ) → without_blanks rest ≡ without_blanks more → without_blanks (front ++ rest) ≡ without_blanks (front ++ more) =
        λ front rest more e. filter-append (λ b. not (b == 32)) front rest ∙ ap (λ t. without_blanks front ++ t) e ∙ sym (filter-append (λ b. not (b == 32)) front more) in
        by-few (λ piece. without_blanks (bytes_of piece all ++ spelled (last_of piece all) (size_of piece all - 1) text) ≡ without_blanks all) last all none
        (λ some.
        let size = operator_size last all in
        both (take size all) _ _ (again 0 (size - 1)) ∙ ap (λ t. without_blanks (take size all ++ t)) (drop-less size byte text some) ∙ ap without_blanks (take-append-drop size all))
        (λ _. both (byte ∷ []) (spelled byte 0 text) text (again byte 0))
        (λ _. both (byte ∷ []) (spelled byte 0 text) text (again byte 0))

pub adds-blanks : (text : List ℕ) → AddsBlanks text
adds-blanks text none = blanks-by 0 0 text none

-- ## Brackets side by side

-- in a text after the byte `before`, no byte `first` comes right before a byte `second`
abbrev Apart : (first second before : ℕ) → List ℕ → Type 0
Apart first second before text = HasNo (first ∷ second ∷ []) (before ∷ text)

apart : (first second before byte : ℕ) (text : List ℕ) → (before ≡ first → byte ≡ second → ⊥) → Apart first second byte text → Apart first second before (byte ∷ text)
apart first second before byte text other rest zero = by (first == before) (second == byte) refl refl
  where
    by : (a b : Bool) → (first == before) ≡ a → (second == byte) ≡ b → (a && (b && true)) ≡ false
    by true true e f = absurd (other (sym (eqb-true first before e)) (sym (eqb-true second byte f)))
    by true false e f = refl
    by false b e f = refl
apart first second before byte text other rest (suc k) = rest k

apart-none : (first second before : ℕ) → Apart first second before []
apart-none first second before zero = by (first == before)
  where
    by : (a : Bool) → (a && false) ≡ false
    by true = refl
    by false = refl
apart-none first second before (suc zero) = refl
apart-none first second before (suc (suc k)) = refl

-- a blank comes between `>` and `>`, and between `)` and `[`
spaced-pairs : (text : List ℕ) → (is_spaced 62 (62 ∷ text) ≡ true) × (is_spaced 41 (91 ∷ text) ≡ true)
unfolding is_spaced
spaced-pairs text = (refl, refl)

no-operators : (last : ℕ) (text : List ℕ) → HasNo (codes "operator") text → 0 < operator_size last text → ⊥
no-operators last text none some = absurd (omega (arith, some, no-operator last text (none 0)))

apart-by : (last : ℕ) (text : List ℕ) → HasNoWords text → HasNo (codes "operator") text → Apart 62 62 last (spelled last 0 text) × Apart 41 91 last (spelled last 0 text)
unfolding spelled bytes_of last_of size_of
apart-by last [] words none = (apart-none 62 62 last, apart-none 41 91 last)
apart-by last (byte ∷ text) words none = by (apart-by byte text (words-tail byte text words) (λ k. none (suc k)))
  where
    by : Apart 62 62 byte (spelled byte 0 text) × Apart 41 91 byte (spelled byte 0 text)
        → let all : List ℕ = byte ∷ text in let piece : Piece = piece_at last all in let new : List ℕ = bytes_of piece all ++ spelled (last_of piece all) (size_of piece all - 1) text in
        Apart 62 62 last new × Apart 41 91 last new
    by rest =
        let all : List ℕ = byte ∷ text in
        by-few (λ piece. let new : List ℕ = bytes_of piece all ++ spelled (last_of piece all) (size_of piece all - 1) text in Apart 62 62 last new × Apart 41 91 last new) last all words
        (λ some. absurd (no-operators last all none some))
        (λ _. (
          apart 62 62 last 32 (byte ∷ spelled byte 0 text) (λ _ e. absurd (omega (arith, e))) (apart 62 62 32 byte (spelled byte 0 text) (λ e _. absurd (omega (arith, e))) rest.0),
          apart 41 91 last 32 (byte ∷ spelled byte 0 text) (λ _ e. absurd (omega (arith, e))) (apart 41 91 32 byte (spelled byte 0 text) (λ e _. absurd (omega (arith, e))) rest.1),
        ))
        (λ other. (
          apart 62 62 last byte (spelled byte 0 text) (λ e f. absurd (true≢false (sym (spaced-pairs text).0 ∙ sym (ap₂ (λ a b. is_spaced a (b ∷ text)) e f) ∙ other))) rest.0,
          apart 41 91 last byte (spelled byte 0 text) (λ e f. absurd (true≢false (sym (spaced-pairs text).1 ∙ sym (ap₂ (λ a b. is_spaced a (b ∷ text)) e f) ∙ other))) rest.1,
        ))

pub parts-brackets : (text : List ℕ) → PartsBrackets text
parts-brackets text words none =
    let is = apart-by 0 text words none in
    (λ k. is.0 (suc k), λ k. is.1 (suc k))
