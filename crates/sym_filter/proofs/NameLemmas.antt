-- Where in a word the name of a symbol begins.
use Rattle.sym_filter.proofs.Basics.{◌≡◌, ℕ, zero, suc, ◌+◌, ◌-◌, ◌<◌, ◌≤◌, Bool, true, false, cond, List, [], ◌∷◌, length, take, drop, get_or, refl, sym, ap, ◌∙◌, arith, list_all, cond-true, cond-false, drop_more, length-drop, drop-drop, Within, Place, before_mark, after_front, from_mark, front_length, is_mark, place_after, word_of}
use Rattle.sym_filter.proofs.RunLemmas.{is_dot}
use Rattle.sym_filter.proofs.WordLemmas.{slice_from}

-- the bytes that come after a front
pub after_front-at : (word : List ℕ) (at front : ℕ) → front ≡ front_length (take (length word - at) (drop at word)) → drop (at + front) word ≡ after_front (drop at word)
after_front-at word at front is = sym (drop-drop front at word) ∙ ap (λ n. drop n (drop at word)) (is ∙ ap front_length (slice_from word at))

mark-at : (place : Place) (word : List ℕ) (at front : ℕ) (b : Bool) → front ≡ front_length (take (length word - at) (drop at word)) → b ≡ is_mark place (take (length word - (at + front)) (drop (at + front) word)) → is_mark place (after_front (drop at word)) ≡ b
mark-at place word at front b is marks = ap (is_mark place) (sym (slice_from word (at + front) ∙ after_front-at word at front is)) ∙ sym marks

-- if no symbol's name begins at a place, even after a front, the first name is looked for from the next byte on
pub byte_before : (place : Place) (word : List ℕ) (at front : ℕ) (b : Bool) → at < length word → front ≡ front_length (take (length word - at) (drop at word)) → b ≡ is_mark place (take (length word - (at + front)) (drop (at + front) word)) → b ≡ false
    → from_mark place (drop at word) ≡ from_mark (place_after Within place (get_or word at 0)) (drop (at + 1) word)
byte_before place word at front b inside is marks no_name =
    let next = drop_more word at 0 inside in
    ap (from_mark place) next ∙ cond-false (is_mark place (after_front (get_or word at 0 ∷ drop (at + 1) word))) _ _ (ap (λ (t : List ℕ). is_mark place (after_front t)) (sym next) ∙ mark-at place word at front b is marks ∙ no_name)

-- if a symbol's name begins at a place, perhaps after a front, it is the first name
pub name_there : (place : Place) (word : List ℕ) (at front : ℕ) (b : Bool) → at < length word → front ≡ front_length (take (length word - at) (drop at word)) → b ≡ is_mark place (take (length word - (at + front)) (drop (at + front) word)) → b ≡ true
    → from_mark place (drop at word) ≡ drop (at + front) word
name_there place word at front b inside is marks a_name =
    let next = drop_more word at 0 inside in
    ap (from_mark place) next ∙ cond-true (is_mark place (after_front (get_or word at 0 ∷ drop (at + 1) word))) _ _ (ap (λ (t : List ℕ). is_mark place (after_front t)) (sym next) ∙ mark-at place word at front b is marks ∙ a_name)
    ∙ ap after_front (sym next) ∙ sym (after_front-at word at front is)

nothing_left : (place : Place) (rest : List ℕ) → length rest ≡ 0 → from_mark place rest ≡ rest
nothing_left place [] h = refl
nothing_left place (byte ∷ rest) h = absurd (omega arith)

-- no name begins at the end of a word
pub no_name : (place : Place) (word : List ℕ) (at : ℕ) → length word ≤ at → from_mark place (drop at word) ≡ drop at word
no_name place word at past = nothing_left place (drop at word) (omega (arith, length-drop at word))

-- the bytes that come before the name
pub before_name : (place : Place) (word : List ℕ) (at : ℕ) → at ≤ length word → from_mark place word ≡ drop at word → before_mark place word ≡ take at word
before_name place word at inside is =
    let size : length word - length (from_mark place word) ≡ at = omega (arith, ap length is, length-drop at word) in
    ap (λ n. take n word) size

-- the name in what is held, and the bytes before it, as slices give them
pub name_of : (place : Place) (held word other : List ℕ) (at : ℕ) → word ≡ held → other ≡ held → from_mark place word ≡ drop at word → take (length other - at) (drop at other) ≡ from_mark place held
name_of place held word other at same same' is =
    ap (λ (t : List ℕ). take (length t - at) (drop at t)) same' ∙ slice_from held at ∙ sym (ap (from_mark place) (sym same) ∙ is ∙ ap (drop at) same)

pub front_of : (place : Place) (held word other : List ℕ) (at : ℕ) → word ≡ held → other ≡ held → before_mark place word ≡ take at word → take at other ≡ before_mark place held
front_of place held word other at same same' is = ap (take at) same' ∙ sym (ap (before_mark place) (sym same) ∙ is ∙ ap (take at) same)

-- if a word has no dots at its end, its name has none at its end either
tail-word : (byte : ℕ) (bytes : List ℕ) (b : Bool) → cond b [] (byte ∷ word_of bytes) ≡ byte ∷ bytes → word_of bytes ≡ bytes
tail-word byte bytes true h = cc
tail-word byte bytes false h = ap (drop 1) h

word_of-drop : (n : ℕ) (word : List ℕ) → word_of word ≡ word → word_of (drop n word) ≡ drop n word
word_of-drop zero [] h = h
word_of-drop zero (byte ∷ word) h = h
word_of-drop (suc n) [] h = h
word_of-drop (suc n) (byte ∷ word) h = word_of-drop n word (tail-word byte word (list_all is_dot (byte ∷ word)) h)

pub name_is_word : (place : Place) (held word : List ℕ) (at : ℕ) → word ≡ held → from_mark place word ≡ drop at word → word_of held ≡ held → word_of (from_mark place held) ≡ from_mark place held
name_is_word place held word at same is h =
    let name : from_mark place held ≡ drop at held = ap (from_mark place) (sym same) ∙ is ∙ ap (drop at) same in
    ap word_of name ∙ word_of-drop at held h ∙ sym name
