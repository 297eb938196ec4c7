-- A run in ASCII whose word has a text is replaced alike, wherever words begin.
use Rattle.sym_filter.proofs.Basics.{◌≡◌, ℕ, zero, suc, ◌-◌, ◌<◌, Bool, true, false, cond, eqb, ◌&&◌, ◌||◌, List, [], ◌∷◌, ◌++◌, length, take, drop, get_or, refl, sym, ap, ap₂, ◌∙◌, arith, Option, Some, None, list_all, list_any, starts_with, codes, is_some, nat_eq, unwrap_or, and_parts, and_left, and_right, and_from, cond-true, cond-false, eqb-true, eqb-false, ne_eqb, true≢false, Kind, Within, is_wide, kind_by_beginning, kind_of, after_front, before_mark, from_mark, front_length, is_kind_taken, is_mark, START, place_after, with_word, Answering, changed, dots_after, fits, replaced, replaced_at, text_for, trimmed, within, word_of, word_or_text, written}
use Rattle.sym_filter.specs.Everyday.{ReplacedAlike}
use Rattle.sym_filter.proofs.BeginLemmas.{replaced-is}
use Rattle.sym_filter.proofs.RunLemmas.{is_dot, kind_of-other, text_for-unnamed}
use Rattle.sym_filter.proofs.TryLemmas.{is_left_out, tries-read, whole-first, whole-read}

-- ## Nothing is left out at the end of a word in ASCII

or_parts : (a b : Bool) → (a || b) ≡ false → (a ≡ false) × (b ≡ false)
or_parts true b e = cc
or_parts false b e = (refl, e)

or_false : (a : Bool) → (a || false) ≡ a
or_false true = refl
or_false false = refl

left-dots : (bytes : List ℕ) → list_any is_wide bytes ≡ false → list_all is_left_out bytes ≡ list_all is_dot bytes
left-dots [] h = refl
left-dots (byte ∷ bytes) h =
    let parts = or_parts (is_wide byte) (list_any is_wide bytes) h in
    ap₂ (λ (a b : Bool). (eqb byte 46 || a) && b) parts.0 (left-dots bytes parts.1) ∙ ap (λ (a : Bool). a && list_all is_dot bytes) (or_false (eqb byte 46))

-- if a word has only dots, its run has only dots
dots-whole : (bytes : List ℕ) → list_all is_dot (word_of bytes) ≡ true → list_all is_dot bytes ≡ true
dots-whole [] h = refl
dots-whole (byte ∷ bytes) h = step (dots-whole bytes) (list_all is_dot (byte ∷ bytes)) refl h
  where
    step : (list_all is_dot (word_of bytes) ≡ true → list_all is_dot bytes ≡ true) → (b : Bool) → list_all is_dot (byte ∷ bytes) ≡ b → list_all is_dot (cond b [] (byte ∷ word_of bytes)) ≡ true → list_all is_dot (byte ∷ bytes) ≡ true
    step more true e all = e
    step more false e all = let parts = and_parts (is_dot byte) (list_all is_dot (word_of bytes)) all in and_from (is_dot byte) (list_all is_dot bytes) parts.0 (more parts.1)

word-ascii : (bytes : List ℕ) → list_any is_wide bytes ≡ false → list_any is_wide (word_of bytes) ≡ false
word-ascii [] h = refl
word-ascii (byte ∷ bytes) h = let parts = or_parts (is_wide byte) (list_any is_wide bytes) h in step parts.0 (word-ascii bytes parts.1) (list_all is_dot (byte ∷ bytes))
  where
    step : is_wide byte ≡ false → list_any is_wide (word_of bytes) ≡ false → (b : Bool) → list_any is_wide (cond b [] (byte ∷ word_of bytes)) ≡ false
    step first more true = refl
    step first more false = ap₂ (λ (a b : Bool). a || b) first more

word-whole : (bytes : List ℕ) → list_any is_wide bytes ≡ false → trimmed (word_of bytes) ≡ word_of bytes
word-whole [] h = refl
word-whole (byte ∷ bytes) h = step (word-whole bytes (or_parts (is_wide byte) (list_any is_wide bytes) h).1) (list_all is_dot (byte ∷ bytes)) refl
  where
    rest : list_any is_wide bytes ≡ false
    rest = (or_parts (is_wide byte) (list_any is_wide bytes) h).1

    ascii : list_any is_wide (byte ∷ word_of bytes) ≡ false
    ascii = ap₂ (λ (a b : Bool). a || b) (or_parts (is_wide byte) (list_any is_wide bytes) h).0 (word-ascii bytes rest)

    not-all : (b : Bool) → list_all is_dot (byte ∷ bytes) ≡ false → list_all is_dot (byte ∷ word_of bytes) ≡ b → b ≡ false
    not-all false e all = refl
    not-all true e all =
        let parts = and_parts (is_dot byte) (list_all is_dot (word_of bytes)) all in
        sym (and_from _ _ parts.0 (dots-whole bytes parts.1)) ∙ e

    step : trimmed (word_of bytes) ≡ word_of bytes → (b : Bool) → list_all is_dot (byte ∷ bytes) ≡ b → trimmed (cond b [] (byte ∷ word_of bytes)) ≡ cond b [] (byte ∷ word_of bytes)
    step more true e = refl
    step more false e =
        let stops = left-dots (byte ∷ word_of bytes) ascii ∙ not-all (list_all is_dot (byte ∷ word_of bytes)) e refl in
        cond-false (list_all is_left_out (byte ∷ word_of bytes)) _ _ stops ∙ ap (λ (t : List ℕ). byte ∷ t) more

-- ## The name of a symbol that begins at a run's front is its word

apart : (n : ℕ) (word mark front : List ℕ) → starts_with nat_eq word mark ≡ true → n < length mark → n < length front → (get_or mark n 0 ≡ get_or front n 0 → ⊥) → starts_with nat_eq word front ≡ false
apart n word [] front h inside inside' other = absurd (omega arith)
apart n word (m ∷ mark) [] h inside inside' other = absurd (omega arith)
apart n [] (m ∷ mark) (f ∷ front) h inside inside' other = cc
apart zero (byte ∷ word) (m ∷ mark) (f ∷ front) h inside inside' other =
    let same = eqb-true m byte (and_parts (eqb m byte) (starts_with nat_eq word mark) h).0 in
    and_left (eqb f byte) (starts_with nat_eq word front) (ne_eqb f byte (λ e. other (same ∙ sym e)))
apart (suc n) (byte ∷ word) (m ∷ mark) (f ∷ front) h inside inside' other =
    and_right (eqb f byte) (starts_with nat_eq word front) (apart n word mark front (and_parts (eqb m byte) (starts_with nat_eq word mark) h).1 (omega arith) (omega arith) other)

front-none : (word : List ℕ) → starts_with nat_eq word (codes "__imp_") ≡ false → starts_with nat_eq word (codes "_GLOBAL__sub_I_") ≡ false → starts_with nat_eq word (codes "_GLOBAL__sub_D_") ≡ false
    → starts_with nat_eq word (codes "_GLOBAL__I_") ≡ false → starts_with nat_eq word (codes "_GLOBAL__D_") ≡ false → front_length word ≡ 0
front-none word imp sub_i sub_d i d = rw (imp, sub_i, sub_d, i, d) refl

-- a word that begins like a symbol has no front before the symbol, as its second or third byte shows
front-of : (word mark : List ℕ) (n : ℕ) → starts_with nat_eq word mark ≡ true → 1 < length mark → n < length mark → n < 6 → eqb (get_or mark n 0) (get_or (codes "__imp_") n 0) ≡ false → eqb (get_or mark 1 0) 71 ≡ false → front_length word ≡ 0
front-of word mark n h long inside few imp global =
    let other = eqb-false (get_or mark 1 0) 71 global in
    front-none word
    (apart n word mark (codes "__imp_") h inside few (eqb-false (get_or mark n 0) (get_or (codes "__imp_") n 0) imp))
    (apart 1 word mark (codes "_GLOBAL__sub_I_") h long (omega arith) other)
    (apart 1 word mark (codes "_GLOBAL__sub_D_") h long (omega arith) other)
    (apart 1 word mark (codes "_GLOBAL__I_") h long (omega arith) other)
    (apart 1 word mark (codes "_GLOBAL__D_") h long (omega arith) other)

front-chosen : (word : List ℕ) (kind : Kind) (z r other_z other_r : Bool) → starts_with nat_eq word (codes "_Z") ≡ z → starts_with nat_eq word (codes "_R") ≡ r → starts_with nat_eq word (codes "__Z") ≡ other_z → starts_with nat_eq word (codes "__R") ≡ other_r
    → kind_by_beginning word ≡ Some kind → front_length word ≡ 0
front-chosen word kind true r other_z other_r a b c d e = front-of word (codes "_Z") 1 a (omega arith) (omega arith) (omega arith) refl refl
front-chosen word kind false true other_z other_r a b c d e = front-of word (codes "_R") 1 b (omega arith) (omega arith) (omega arith) refl refl
front-chosen word kind false false true other_r a b c d e = front-of word (codes "__Z") 2 c (omega arith) (omega arith) (omega arith) refl refl
front-chosen word kind false false false true a b c d e = front-of word (codes "__R") 2 d (omega arith) (omega arith) (omega arith) refl refl
front-chosen word kind false false false false a b c d e = absurd (no_kind (sym (rw (a, b, c, d) refl) ∙ e))
  where
    no_kind : None ≡ Some kind → ⊥
    no_kind h = cc

no-front : (word : List ℕ) (kind : Kind) → kind_by_beginning word ≡ Some kind → front_length word ≡ 0
no-front word kind e = front-chosen word kind _ _ _ _ refl refl refl refl e

-- if a choice between a kind and none has a kind, the test is true and this is the kind
chosen : (b : Bool) (o : Option Kind) (kind : Kind) → cond b o None ≡ Some kind → (b ≡ true) × (o ≡ Some kind)
chosen true o kind e = (refl, e)
chosen false o kind e = cc

begun : (byte : ℕ) (bytes : List ℕ) (kind : Kind) → kind_by_beginning (byte ∷ bytes) ≡ Some kind → is_mark START (after_front (byte ∷ bytes)) ≡ true
begun byte bytes kind e = ap (λ n. is_mark START (drop n (byte ∷ bytes))) (no-front (byte ∷ bytes) kind e) ∙ ap (λ (o : Option Kind). is_kind_taken START o (byte ∷ bytes)) e

name-first : (word : List ℕ) (kind : Kind) → kind_by_beginning word ≡ Some kind → from_mark START word ≡ word
name-first [] kind e = refl
name-first (byte ∷ bytes) kind e =
    cond-true (is_mark START (after_front (byte ∷ bytes))) _ _ (begun byte bytes kind e) ∙ ap (λ n. drop n (byte ∷ bytes)) (no-front (byte ∷ bytes) kind e)

nothing-before : (word : List ℕ) → from_mark START word ≡ word → before_mark START word ≡ []
nothing-before word e =
    let none : length word - length (from_mark START word) ≡ 0 = omega (arith, ap length e) in
    ap (λ n. take n word) none

-- ## The text

own-text : (answers : Answering) (word : List ℕ) (kind : Kind) → kind_of word ≡ Some kind → trimmed word ≡ word → is_some (text_for answers word) ≡ true → word_or_text (within answers) word ≡ word_or_text answers word
own-text answers word kind named whole some =
    let is = whole-first answers word whole ∙ whole-read answers word some in
    tries-read answers word kind named (ap is_some is ∙ some) ∙ ap (λ (o : Option (List ℕ)). unwrap_or o []) is ∙ there (text_for answers word) some
  where
    there : (o : Option (List ℕ)) → is_some o ≡ true → unwrap_or o [] ≡ unwrap_or o word
    there None h = cc
    there (Some text) h = refl

written-alike : (answers : Answering) (word : List ℕ) (kind : Kind) → kind_of word ≡ Some kind → trimmed word ≡ word → is_some (text_for answers word) ≡ true → written Within answers START word ≡ word_or_text answers word
written-alike answers word kind named whole some =
    let first = name-first word kind (chosen (fits word) (kind_by_beginning word) kind named).1 in
    ap₂ (λ (before name : List ℕ). before ++ word_or_text (within answers) name) (nothing-before word first) first ∙ own-text answers word kind named whole some

changed-alike : (answers : Answering) (run : List ℕ) (kind : Kind) → kind_of (word_of run) ≡ Some kind → list_any is_wide run ≡ false → is_some (text_for answers (word_of run)) ≡ true → changed Within answers START run ≡ replaced answers run
changed-alike answers run kind named ascii some =
    cond-true (fits (word_of run)) _ _ (chosen (fits (word_of run)) (kind_by_beginning (word_of run)) kind named).0
    ∙ ap (λ (t : List ℕ). t ++ dots_after run) (written-alike answers (word_of run) kind named (word-whole run ascii) some) ∙ sym (replaced-is answers run)

nothing-named : (answers : Answering) (word : List ℕ) → kind_of word ≡ None → is_some (text_for answers word) ≡ true → ⊥
nothing-named answers word none some = true≢false (sym some ∙ ap is_some (text_for-unnamed answers word none))

by-kind : (answers : Answering) (run : List ℕ) (o : Option Kind) → kind_of (word_of run) ≡ o → list_any is_wide run ≡ false → is_some (text_for answers (word_of run)) ≡ true → replaced_at Within answers run ≡ replaced answers run
by-kind answers run None named ascii some = absurd (nothing-named answers (word_of run) named some)
by-kind answers [] (Some kind) named ascii some = cc
by-kind answers (byte ∷ run) (Some kind) named ascii some = step (eqb byte 95) refl
  where
    step : (b : Bool) → eqb byte 95 ≡ b → cond b (changed Within answers START (byte ∷ run)) (byte ∷ with_word Within (changed Within answers) (place_after Within START byte) run) ≡ replaced answers (byte ∷ run)
    step true e = changed-alike answers (byte ∷ run) kind named ascii some
    step false e = absurd (nothing-named answers (word_of (byte ∷ run)) (kind_of-other byte run (eqb-false byte 95 e)) some)

pub replaced_alike : ReplacedAlike
replaced_alike answers run ascii some = by-kind answers run (kind_of (word_of run)) refl ascii some
