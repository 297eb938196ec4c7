-- The tries for a word that begins within a run, and the text that they give it.
use Rattle.sym_filter.proofs.Basics.{◌≡◌, ℕ, ◌+◌, ◌-◌, ◌<◌, ◌≤◌, Bool, true, false, cond, eqb, leb, ◌&&◌, ◌||◌, List, [], ◌∷◌, ◌++◌, length, take, drop, get_or, refl, sym, ap, ap₂, ◌∙◌, arith, Option, Some, None, append_assoc, list_all, list_any, starts_with, codes, is_some, nat_eq, unwrap_or, result_ok, and_parts, and_left, cond-true, cond-false, eqb-true, ne_eqb, lt-leb, drop_all, append-nil, drop_more, take-append-drop, length-take, take_more, drop-drop, Kind, Ascii, LONGEST_WORD, kind_of, symbol_of, underscore_of, is_byte_of, is_wide, Answering, either, first_run, followed_by, has_text, later_runs, or_answer, replaced, runs_of, text_for, text_of_front, text_of_parts, text_of_tries, trimmed, with_runs, within, word_of, word_or_text, dots_after}
use Rattle.sym_filter.specs.declared.kinds.Lang.TheVariants.{Cpp, Rust}
use Rattle.sym_filter.proofs.RunLemmas.{first_run-append, later_runs-append, replaced-unnamed, text_for-named, text_for-unnamed, with_runs-ends, with_runs-run, word_of-splits}

-- ## A word is its symbol, perhaps after an underscore

begins_so : (word mark : List ℕ) → starts_with nat_eq word (95 ∷ mark) ≡ true → 95 ∷ drop 1 word ≡ word
begins_so [] mark h = cc
begins_so (byte ∷ word) mark h = let parts = and_parts (eqb 95 byte) (starts_with nat_eq word mark) h in ap (λ (b : ℕ). b ∷ word) (eqb-true 95 byte parts.0)

known : (is kind : Kind) → Some is ≡ Some kind → is ≡ kind
known is kind e = ap (λ (o : Option Kind). unwrap_or o is) e

skips_none : (is kind : Kind) (word : List ℕ) → Some is ≡ Some kind → is.skip ≡ 0 → underscore_of kind.skip ++ symbol_of kind word ≡ word
skips_none is kind word e none = ap (λ (n : ℕ). underscore_of n ++ drop n word) (ap (λ (k : Kind). k.skip) (sym (known is kind e)) ∙ none)

skips_one : (is kind : Kind) (word mark : List ℕ) → Some is ≡ Some kind → is.skip ≡ 1 → starts_with nat_eq word (95 ∷ mark) ≡ true → underscore_of kind.skip ++ symbol_of kind word ≡ word
skips_one is kind word mark e one begins =
    ap (λ (n : ℕ). underscore_of n ++ drop n word) (ap (λ (k : Kind). k.skip) (sym (known is kind e)) ∙ one) ∙ begins_so word mark begins

word-chosen : (word : List ℕ) (kind : Kind) (short cpp rust other_cpp other_rust : Bool) → starts_with nat_eq word (codes "__Z") ≡ other_cpp → starts_with nat_eq word (codes "__R") ≡ other_rust
    → cond short (cond cpp (Some (record { lang = Cpp; skip = 0 })) (cond rust (Some (record { lang = Rust; skip = 0 })) (cond other_cpp (Some (record { lang = Cpp; skip = 1 })) (cond other_rust (Some (record { lang = Rust; skip = 1 })) None)))) None ≡ Some kind
    → underscore_of kind.skip ++ symbol_of kind word ≡ word
word-chosen word kind false cpp rust other_cpp other_rust z r e = cc
word-chosen word kind true true rust other_cpp other_rust z r e = skips_none (record { lang = Cpp; skip = 0 }) kind word e refl
word-chosen word kind true false true other_cpp other_rust z r e = skips_none (record { lang = Rust; skip = 0 }) kind word e refl
word-chosen word kind true false false true other_rust z r e = skips_one (record { lang = Cpp; skip = 1 }) kind word (codes "_Z") e refl z
word-chosen word kind true false false false true z r e = skips_one (record { lang = Rust; skip = 1 }) kind word (codes "_R") e refl r
word-chosen word kind true false false false false z r e = cc

pub word-of_symbol : (word : List ℕ) (kind : Kind) → kind_of word ≡ Some kind → underscore_of kind.skip ++ symbol_of kind word ≡ word
word-of_symbol word kind e =
    word-chosen word kind (leb (length word) LONGEST_WORD) (starts_with nat_eq word (codes "_Z")) (starts_with nat_eq word (codes "_R")) (starts_with nat_eq word (codes "__Z")) (starts_with nat_eq word (codes "__R")) refl refl e

-- ## The answer is the text by tries

own-none : (first own parts : Option (List ℕ)) → either first (either own parts) ≡ None → own ≡ None
own-none None None parts e = refl
own-none None (Some text) parts e = cc
own-none (Some text) own parts e = cc

tries-none : (answers : Answering) (word : List ℕ) → text_of_tries answers word ≡ None → text_for answers word ≡ None
unfolding text_of_tries
tries-none answers word e = own-none (text_of_front answers word) (text_for answers word) (text_of_parts answers word) e

answered : (answers : Answering) (word : List ℕ) (kind : Kind) (o : Option (List ℕ)) → text_of_tries answers word ≡ o → kind_of word ≡ Some kind → result_ok (or_answer o (answers kind (symbol_of kind word))) ≡ o
answered answers word kind (Some text) e h = refl
answered answers word kind None e h = sym (text_for-named answers word kind (answers kind (symbol_of kind word)) h refl) ∙ tries-none answers word e

pub text_for-within : (answers : Answering) (word : List ℕ) (kind : Kind) → kind_of word ≡ Some kind → text_for (within answers) word ≡ text_of_tries answers word
text_for-within answers word kind h =
    text_for-named (within answers) word kind (within answers kind (symbol_of kind word)) h refl
    ∙ ap (λ (w : List ℕ). result_ok (or_answer (text_of_tries answers w) (answers kind (symbol_of kind word)))) (word-of_symbol word kind h)
    ∙ answered answers word kind (text_of_tries answers word) refl h

nothing_there : (o : Option (List ℕ)) → is_some o ≡ false → o ≡ None
nothing_there None h = refl
nothing_there (Some text) h = cc

text-there : (o : Option (List ℕ)) (word : List ℕ) → is_some o ≡ true → unwrap_or o word ≡ unwrap_or o []
text-there None word h = cc
text-there (Some text) word h = refl

pub tries-read : (answers : Answering) (word : List ℕ) (kind : Kind) → kind_of word ≡ Some kind → is_some (text_of_tries answers word) ≡ true → word_or_text (within answers) word ≡ unwrap_or (text_of_tries answers word) []
tries-read answers word kind named h = ap (λ (o : Option (List ℕ)). unwrap_or o word) (text_for-within answers word kind named) ∙ text-there (text_of_tries answers word) word h

pub tries-unread : (answers : Answering) (word : List ℕ) (kind : Kind) → kind_of word ≡ Some kind → is_some (text_of_tries answers word) ≡ false → word_or_text (within answers) word ≡ word
tries-unread answers word kind named h = ap (λ (o : Option (List ℕ)). unwrap_or o word) (text_for-within answers word kind named ∙ nothing_there (text_of_tries answers word) h)

-- ## The tries, one by one

first-read : (rest : List ℕ) (first others : Option (List ℕ)) → is_some first ≡ true → (unwrap_or (either (followed_by rest first) others) [] ≡ unwrap_or first [] ++ rest) × (is_some (either (followed_by rest first) others) ≡ true)
first-read rest None others h = cc
first-read rest (Some text) others h = (refl, refl)

-- the front has a text
pub front-read : (answers : Answering) (word front : List ℕ) (end : ℕ) → front ≡ trimmed word → take end word ≡ trimmed word → end ≤ length word → is_some (text_for answers front) ≡ true
    → (unwrap_or (text_of_tries answers word) [] ≡ unwrap_or (text_for answers front) [] ++ drop end word) × (is_some (text_of_tries answers word) ≡ true)
unfolding text_of_tries
front-read answers word front end is same inside h =
    let size : length (trimmed word) ≡ end = ap length (sym same) ∙ omega (arith, length-take end word) in
    let read = first-read (drop (length (trimmed word)) word) (text_for answers (trimmed word)) (either (text_for answers word) (text_of_parts answers word)) (ap (λ (w : List ℕ). is_some (text_for answers w)) (sym is) ∙ h) in
    (read.0 ∙ ap₂ (λ (w : List ℕ) (n : ℕ). unwrap_or (text_for answers w) [] ++ drop n word) (sym is) size, read.1)

-- the front has no text, so the other tries give the answer
pub front-unread : (answers : Answering) (word front : List ℕ) → front ≡ trimmed word → is_some (text_for answers front) ≡ false → text_of_tries answers word ≡ either (text_for answers word) (text_of_parts answers word)
unfolding text_of_tries
front-unread answers word front is h =
    let none : text_for answers (trimmed word) ≡ None = ap (text_for answers) (sym is) ∙ nothing_there (text_for answers front) h in
    ap (λ (o : Option (List ℕ)). either (followed_by (drop (length (trimmed word)) word) o) (either (text_for answers word) (text_of_parts answers word))) none

own-read : (own parts : Option (List ℕ)) → is_some own ≡ true → either own parts ≡ own
own-read None parts h = cc
own-read (Some text) parts h = refl

pub whole-read : (answers : Answering) (word : List ℕ) → is_some (text_for answers word) ≡ true → either (text_for answers word) (text_of_parts answers word) ≡ text_for answers word
whole-read answers word h = own-read (text_for answers word) (text_of_parts answers word) h

pub whole-unread : (answers : Answering) (word : List ℕ) → is_some (text_for answers word) ≡ false → either (text_for answers word) (text_of_parts answers word) ≡ text_of_parts answers word
whole-unread answers word h = ap (λ (o : Option (List ℕ)). either o (text_of_parts answers word)) (nothing_there (text_for answers word) h)

followed_by-nothing : (o : Option (List ℕ)) → followed_by [] o ≡ o
followed_by-nothing None = refl
followed_by-nothing (Some text) = ap (λ (t : List ℕ). Some t) (append-nil text)

either-twice : (o other : Option (List ℕ)) → either o (either o other) ≡ either o other
either-twice None other = refl
either-twice (Some text) other = refl

-- the front is the whole word, so the first two tries are one
pub whole-first : (answers : Answering) (word : List ℕ) → trimmed word ≡ word → text_of_tries answers word ≡ either (text_for answers word) (text_of_parts answers word)
unfolding text_of_tries
whole-first answers word same =
    let later = either (text_for answers word) (text_of_parts answers word) in
    ap (λ (w : List ℕ). either (followed_by (drop (length w) word) (text_for answers w)) later) same
    ∙ ap (λ (d : List ℕ). either (followed_by d (text_for answers word)) later) (drop_all (length word) word (omega arith))
    ∙ ap (λ (o : Option (List ℕ)). either o later) (followed_by-nothing (text_for answers word))
    ∙ either-twice (text_for answers word) (text_of_parts answers word)

-- nothing was appended for a try that has no text
pub nothing-appended : (out out' : List ℕ) (o : Option (List ℕ)) → out' ≡ out ++ unwrap_or o [] → is_some o ≡ false → out' ≡ out
nothing-appended out out' o e h = e ∙ ap (λ (p : Option (List ℕ)). out ++ unwrap_or p []) (nothing_there o h) ∙ append-nil out

-- two parts were appended, one after the other
pub more-pushed : (out mid new a b : List ℕ) → new ≡ mid ++ b → mid ≡ out ++ a → new ≡ out ++ (a ++ b)
more-pushed out mid new a b e f = e ∙ ap (λ (t : List ℕ). t ++ b) f ∙ append_assoc out a b

pub two-parts : (out mid new a b part text : List ℕ) → new ≡ mid ++ b → mid ≡ out ++ a → b ≡ part → text ≡ a ++ part → new ≡ out ++ text
two-parts out mid new a b part text e f g h = more-pushed out mid new a b e f ∙ ap (λ (t : List ℕ). out ++ t) (ap (λ (t : List ℕ). a ++ t) g ∙ sym h)

pub then-pushed : (out mid new : List ℕ) (first other : Option (List ℕ)) → new ≡ mid ++ unwrap_or other [] → mid ≡ out ++ unwrap_or first [] → is_some first ≡ false → new ≡ out ++ unwrap_or other []
then-pushed out mid new first other e f none = e ∙ ap (λ (t : List ℕ). t ++ unwrap_or other []) (nothing-appended out mid first f none)

-- ## A word without its last bytes

abbrev pub is_left_out : ℕ → Bool
is_left_out byte = eqb byte 46 || leb 128 byte

trimmed-none : (bytes : List ℕ) → list_all is_left_out bytes ≡ true → trimmed bytes ≡ []
trimmed-none [] h = refl
trimmed-none (byte ∷ bytes) h = cond-true (list_all is_left_out (byte ∷ bytes)) _ _ h

and-none : (b : Bool) → (b && false) ≡ false
and-none true = refl
and-none false = refl

some-kept : (front : List ℕ) (byte : ℕ) (rest : List ℕ) → is_left_out byte ≡ false → list_all is_left_out ((front ++ (byte ∷ [])) ++ rest) ≡ false
some-kept [] byte rest other = and_left (is_left_out byte) (list_all is_left_out rest) other
some-kept (first ∷ front) byte rest other = ap (λ (b : Bool). is_left_out first && b) (some-kept front byte rest other) ∙ and-none (is_left_out first)

trimmed-after : (front rest : List ℕ) → list_all is_left_out rest ≡ true → (byte : ℕ) → is_left_out byte ≡ false → trimmed ((front ++ (byte ∷ [])) ++ rest) ≡ front ++ (byte ∷ [])
trimmed-after [] rest h byte other =
    cond-false (list_all is_left_out (byte ∷ rest)) _ _ (and_left (is_left_out byte) (list_all is_left_out rest) other) ∙ ap (λ (t : List ℕ). byte ∷ t) (trimmed-none rest h)
trimmed-after (first ∷ front) rest h byte other =
    let stops : list_all is_left_out (first ∷ ((front ++ (byte ∷ [])) ++ rest)) ≡ false = some-kept (first ∷ front) byte rest other in
    cond-false (list_all is_left_out (first ∷ ((front ++ (byte ∷ [])) ++ rest))) _ _ stops ∙ ap (λ (t : List ℕ). first ∷ t) (trimmed-after front rest h byte other)

kept : (byte : ℕ) → (byte ≡ 46 → ⊥) → byte < 128 → is_left_out byte ≡ false
kept byte no_dot ascii = ap₂ (λ (a b : Bool). a || b) (ne_eqb byte 46 no_dot) (lt-leb 128 byte ascii)

pub trimmed-last : (word : List ℕ) (end : ℕ) → 0 < end → end ≤ length word → list_all is_left_out (drop end word) ≡ true → (get_or word (end - 1) 0 ≡ 46 → ⊥) → get_or word (end - 1) 0 < 128 → take end word ≡ trimmed word
trimmed-last word end some inside left no_dot ascii =
    let place : end - 1 + 1 ≡ end = omega arith in
    let last = get_or word (end - 1) 0 in
    let front : take end word ≡ take (end - 1) word ++ (last ∷ []) = ap (λ n. take n word) (sym place) ∙ take_more word (end - 1) 0 (omega arith) in
    let whole : (take (end - 1) word ++ (last ∷ [])) ++ drop end word ≡ word = ap (λ (t : List ℕ). t ++ drop end word) (sym front) ∙ take-append-drop end word in
    front ∙ sym (ap trimmed (sym whole) ∙ trimmed-after (take (end - 1) word) (drop end word) left last (kept last no_dot ascii))

pub trimmed-all : (word : List ℕ) (end : ℕ) → end ≡ 0 → list_all is_left_out (drop end word) ≡ true → [] ≡ trimmed word
trimmed-all word end none left = sym (trimmed-none word (ap (λ (n : ℕ). list_all is_left_out (drop n word)) (sym none) ∙ left))

-- ## The parts of a word in ASCII

-- what is written for a run
pub run-read : (answers : Answering) (run word : List ℕ) (end : ℕ) → word ≡ word_of run → take end run ≡ word_of run → end ≤ length run → is_some (text_for answers word) ≡ true → replaced answers run ≡ unwrap_or (text_for answers word) [] ++ drop end run
unfolding replaced
run-read answers run word end is same inside h =
    let size : length (word_of run) ≡ end = ap length (sym same) ∙ omega (arith, length-take end run) in
    ap₂ (λ (w : List ℕ) (n : ℕ). word_or_text answers w ++ drop n run) (sym is) size ∙ ap (λ (t : List ℕ). t ++ drop end run) (text-there (text_for answers word) word h)

pub run-unread : (answers : Answering) (run word : List ℕ) → word ≡ word_of run → is_some (text_for answers word) ≡ false → replaced answers run ≡ run
unfolding replaced
run-unread answers run word is h =
    let none : text_for answers (word_of run) ≡ None = ap (text_for answers) (sym is) ∙ nothing_there (text_for answers word) h in
    ap (λ (o : Option (List ℕ)). unwrap_or o (word_of run) ++ dots_after run) none ∙ word_of-splits run

runs_of-ends : (run : List ℕ) (byte : ℕ) (more : List ℕ) → list_all (is_byte_of Ascii) run ≡ true → is_byte_of Ascii byte ≡ false → runs_of Ascii (run ++ (byte ∷ more)) ≡ run ∷ runs_of Ascii more
runs_of-ends run byte more h other =
    let first : first_run Ascii (run ++ (byte ∷ more)) ≡ run = first_run-append Ascii run (byte ∷ more) h ∙ ap (λ t. run ++ t) (cond-false (is_byte_of Ascii byte) _ _ other) ∙ append-nil run in
    let later : later_runs Ascii (run ++ (byte ∷ more)) ≡ runs_of Ascii more = later_runs-append Ascii run (byte ∷ more) h ∙ cond-false (is_byte_of Ascii byte) _ _ other in
    ap₂ (λ (a : List ℕ) (b : List (List ℕ)). a ∷ b) first later

runs_of-run : (run : List ℕ) → list_all (is_byte_of Ascii) run ≡ true → runs_of Ascii run ≡ run ∷ []
runs_of-run run h =
    let whole : run ++ [] ≡ run = append-nil run in
    let first : first_run Ascii run ≡ run = ap (first_run Ascii) (sym whole) ∙ first_run-append Ascii run [] h ∙ whole in
    let later : later_runs Ascii run ≡ [] = ap (later_runs Ascii) (sym whole) ∙ later_runs-append Ascii run [] h in
    ap₂ (λ (a : List ℕ) (b : List (List ℕ)). a ∷ b) first later

no_runs : (answers : Answering) → with_runs Ascii (replaced answers) [] ≡ []
no_runs answers = with_runs-run Ascii (replaced answers) [] refl ∙ replaced-unnamed answers [] refl

no_text : (answers : Answering) → list_any (has_text answers) (runs_of Ascii []) ≡ false
no_text answers = ap (λ (o : Option (List ℕ)). is_some o || false) (text_for-unnamed answers [] refl)

-- a part up to the end of what is left, or to a byte that isn't ASCII
part-whole : (rest : List ℕ) (count : ℕ) → count ≡ length rest → take count rest ≡ rest
part-whole rest count e = ap (λ (n : ℕ). take n rest) e ∙ append-none rest
  where
    append-none : (rest : List ℕ) → take (length rest) rest ≡ rest
    append-none [] = refl
    append-none (byte ∷ rest) = ap (λ (t : List ℕ). byte ∷ t) (append-none rest)

drop-whole : (rest : List ℕ) (count : ℕ) → count ≡ length rest → drop count rest ≡ []
drop-whole rest count e = ap (λ (n : ℕ). drop n rest) e ∙ none rest
  where
    none : (rest : List ℕ) → drop (length rest) rest ≡ []
    none [] = refl
    none (byte ∷ rest) = none rest

pub last-part : (answers : Answering) (rest : List ℕ) (count : ℕ) → count ≡ length rest → list_all (is_byte_of Ascii) (take count rest) ≡ true
    → with_runs Ascii (replaced answers) rest ≡ replaced answers (take count rest) ++ with_runs Ascii (replaced answers) (drop count rest)
last-part answers rest count e h =
    let whole = part-whole rest count e in
    ap (with_runs Ascii (replaced answers)) (sym whole) ∙ with_runs-run Ascii (replaced answers) (take count rest) h
    ∙ sym (ap (λ (t : List ℕ). replaced answers (take count rest) ++ t) (ap (with_runs Ascii (replaced answers)) (drop-whole rest count e) ∙ no_runs answers) ∙ append-nil (replaced answers (take count rest)))

pub last-part_text : (answers : Answering) (rest : List ℕ) (count : ℕ) → count ≡ length rest → list_all (is_byte_of Ascii) (take count rest) ≡ true
    → list_any (has_text answers) (runs_of Ascii rest) ≡ (has_text answers (take count rest) || list_any (has_text answers) (runs_of Ascii (drop count rest)))
last-part_text answers rest count e h =
    let whole = part-whole rest count e in
    ap (λ (t : List ℕ). list_any (has_text answers) (runs_of Ascii t)) (sym whole) ∙ ap (list_any (has_text answers)) (runs_of-run (take count rest) h)
    ∙ sym (ap (λ (b : Bool). has_text answers (take count rest) || b) (ap (λ (t : List ℕ). list_any (has_text answers) (runs_of Ascii t)) (drop-whole rest count e) ∙ no_text answers))

split-at : (rest : List ℕ) (count : ℕ) → count < length rest → take count rest ++ (get_or rest count 0 ∷ drop (count + 1) rest) ≡ rest
split-at rest count inside = ap (λ (t : List ℕ). take count rest ++ t) (sym (drop_more rest count 0 inside)) ∙ take-append-drop count rest

pub next-part : (answers : Answering) (rest : List ℕ) (count : ℕ) → count < length rest → list_all (is_byte_of Ascii) (take count rest) ≡ true → is_byte_of Ascii (get_or rest count 0) ≡ false
    → with_runs Ascii (replaced answers) rest ≡ (replaced answers (take count rest) ++ (get_or rest count 0 ∷ [])) ++ with_runs Ascii (replaced answers) (drop (count + 1) rest)
next-part answers rest count inside h other =
    ap (with_runs Ascii (replaced answers)) (sym (split-at rest count inside))
    ∙ with_runs-ends Ascii (replaced answers) (take count rest) (get_or rest count 0) (drop (count + 1) rest) h other
    ∙ sym (append_assoc (replaced answers (take count rest)) (get_or rest count 0 ∷ []) (with_runs Ascii (replaced answers) (drop (count + 1) rest)))

pub next-part_text : (answers : Answering) (rest : List ℕ) (count : ℕ) → count < length rest → list_all (is_byte_of Ascii) (take count rest) ≡ true → is_byte_of Ascii (get_or rest count 0) ≡ false
    → list_any (has_text answers) (runs_of Ascii rest) ≡ (has_text answers (take count rest) || list_any (has_text answers) (runs_of Ascii (drop (count + 1) rest)))
next-part_text answers rest count inside h other =
    ap (λ (t : List ℕ). list_any (has_text answers) (runs_of Ascii t)) (sym (split-at rest count inside))
    ∙ ap (list_any (has_text answers)) (runs_of-ends (take count rest) (get_or rest count 0) (drop (count + 1) rest) h other)

-- the text by parts, where the word has bytes that aren't ASCII
pub parts_are : (answers : Answering) (word : List ℕ) (some : Bool) → list_any is_wide word ≡ true → some ≡ list_any (has_text answers) (runs_of Ascii word) → text_of_parts answers word ≡ cond some (Some (with_runs Ascii (replaced answers) word)) None
parts_are answers word some wide e = ap₂ (λ (a b : Bool). cond (a && b) (Some (with_runs Ascii (replaced answers) word)) None) wide (sym e)

pub parts-some : (answers : Answering) (word : List ℕ) (some : Bool) (bytes : List ℕ) → list_any is_wide word ≡ true → some ≡ list_any (has_text answers) (runs_of Ascii word) → some ≡ true → with_runs Ascii (replaced answers) word ≡ bytes
    → (bytes ≡ unwrap_or (text_of_parts answers word) []) × (true ≡ is_some (text_of_parts answers word))
parts-some answers word some bytes wide e is whole =
    let there = parts_are answers word some wide e ∙ ap (λ (b : Bool). cond b (Some (with_runs Ascii (replaced answers) word)) None) is in
    (sym (ap (λ (o : Option (List ℕ)). unwrap_or o []) there ∙ whole), sym (ap is_some there))

pub parts-unread : (answers : Answering) (word : List ℕ) (some : Bool) → list_any is_wide word ≡ true → some ≡ list_any (has_text answers) (runs_of Ascii word) → some ≡ false → text_of_parts answers word ≡ None
parts-unread answers word some wide e is = parts_are answers word some wide e ∙ ap (λ (b : Bool). cond b (Some (with_runs Ascii (replaced answers) word)) None) is

pub cut-back : (out bytes : List ℕ) → take (length out) (out ++ bytes) ≡ out
cut-back [] bytes = refl
cut-back (byte ∷ out) bytes = ap (λ (t : List ℕ). byte ∷ t) (cut-back out bytes)

-- one more part is written
pub parts-more : (answers : Answering) (word rest : List ℕ) (at count : ℕ) (bytes more : List ℕ) → with_runs Ascii (replaced answers) word ≡ bytes ++ with_runs Ascii (replaced answers) (drop at word) → rest ≡ drop at word
    → with_runs Ascii (replaced answers) rest ≡ more ++ with_runs Ascii (replaced answers) (drop count rest) → with_runs Ascii (replaced answers) word ≡ (bytes ++ more) ++ with_runs Ascii (replaced answers) (drop (at + count) word)
parts-more answers word rest at count bytes more so_far is next =
    let left : drop count rest ≡ drop (at + count) word = ap (λ (t : List ℕ). drop count t) is ∙ drop-drop count at word in
    so_far ∙ ap (λ (t : List ℕ). bytes ++ t) (ap (with_runs Ascii (replaced answers)) (sym is) ∙ next ∙ ap (λ (t : List ℕ). more ++ with_runs Ascii (replaced answers) t) left)
    ∙ sym (append_assoc bytes more (with_runs Ascii (replaced answers) (drop (at + count) word)))

or-more : (a b c : Bool) → (a || (b || c)) ≡ ((a || b) || c)
or-more true b c = refl
or-more false b c = refl

pub texts-more : (answers : Answering) (word rest : List ℕ) (at count : ℕ) (some here : Bool) → list_any (has_text answers) (runs_of Ascii word) ≡ (some || list_any (has_text answers) (runs_of Ascii (drop at word))) → rest ≡ drop at word
    → list_any (has_text answers) (runs_of Ascii rest) ≡ (here || list_any (has_text answers) (runs_of Ascii (drop count rest))) → list_any (has_text answers) (runs_of Ascii word) ≡ ((some || here) || list_any (has_text answers) (runs_of Ascii (drop (at + count) word)))
texts-more answers word rest at count some here so_far is next =
    let left : drop count rest ≡ drop (at + count) word = ap (λ (t : List ℕ). drop count t) is ∙ drop-drop count at word in
    so_far ∙ ap (λ (b : Bool). some || b) (ap (λ (t : List ℕ). list_any (has_text answers) (runs_of Ascii t)) (sym is) ∙ next ∙ ap (λ (t : List ℕ). here || list_any (has_text answers) (runs_of Ascii t)) left)
    ∙ or-more some here (list_any (has_text answers) (runs_of Ascii (drop (at + count) word)))

-- all parts are written
pub parts-end : (answers : Answering) (word : List ℕ) (at : ℕ) (bytes : List ℕ) → at ≡ length word → with_runs Ascii (replaced answers) word ≡ bytes ++ with_runs Ascii (replaced answers) (drop at word) → with_runs Ascii (replaced answers) word ≡ bytes
parts-end answers word at bytes e so_far =
    so_far ∙ ap (λ (t : List ℕ). bytes ++ t) (ap (with_runs Ascii (replaced answers)) (drop-whole word at e) ∙ no_runs answers) ∙ append-nil bytes

or-none : (b : Bool) → (b || false) ≡ b
or-none true = refl
or-none false = refl

pub texts-end : (answers : Answering) (word : List ℕ) (at : ℕ) (some : Bool) → at ≡ length word → list_any (has_text answers) (runs_of Ascii word) ≡ (some || list_any (has_text answers) (runs_of Ascii (drop at word))) → some ≡ list_any (has_text answers) (runs_of Ascii word)
texts-end answers word at some e so_far =
    sym (so_far ∙ ap (λ (b : Bool). some || b) (ap (λ (t : List ℕ). list_any (has_text answers) (runs_of Ascii t)) (drop-whole word at e) ∙ no_text answers) ∙ or-none some)
