-- The text by tries depends only on the texts for the words that are tried, and these words have few bytes together.
use Rattle.sym_filter.proofs.Basics.{◌≡◌, ℕ, ◌+◌, ◌≤◌, Bool, true, false, cond, eqb, ◌&&◌, ◌||◌, List, [], ◌∷◌, ◌++◌, length, map, refl, ap, ap₂, arith, Option, Some, None, list_all, list_any, is_some, sum_by, unwrap_or, sum_by-append, Ascii, is_byte_of, is_wide, Agree, Answering, TriesAreFew, TriesDecide, dots_after, either, first_run, followed_by, has_text, later_runs, replaced, runs_of, text_for, text_of_parts, text_of_tries, tried, trimmed, with_later_runs, with_runs, word_of}
use Rattle.sym_filter.proofs.TryLemmas.{is_left_out}

-- ## What the tries depend on

replaced-same : (answers other : Answering) (run : List ℕ) → text_for answers (word_of run) ≡ text_for other (word_of run) → replaced answers run ≡ replaced other run
unfolding replaced
replaced-same answers other run h = ap (λ (o : Option (List ℕ)). unwrap_or o (word_of run) ++ dots_after run) h

any-same : (answers other : Answering) (runs : List (List ℕ)) → Agree answers other (map word_of runs) → list_any (has_text answers) runs ≡ list_any (has_text other) runs
any-same answers other [] h = refl
any-same answers other (run ∷ runs) h = ap₂ (λ (o : Option (List ℕ)) (b : Bool). is_some o || b) h.0 (any-same answers other runs h.1)

later-same : (answers other : Answering) (text : List ℕ) → Agree answers other (map word_of (later_runs Ascii text)) → with_later_runs Ascii (replaced answers) text ≡ with_later_runs Ascii (replaced other) text
later-same answers other [] h = refl
later-same answers other (byte ∷ text) h = step (is_byte_of Ascii byte) h (later-same answers other text)
  where
    step : (b : Bool) → Agree answers other (map word_of (cond b (later_runs Ascii text) (first_run Ascii text ∷ later_runs Ascii text)))
        → (Agree answers other (map word_of (later_runs Ascii text)) → with_later_runs Ascii (replaced answers) text ≡ with_later_runs Ascii (replaced other) text)
        → cond b (with_later_runs Ascii (replaced answers) text) (byte ∷ (replaced answers (first_run Ascii text) ++ with_later_runs Ascii (replaced answers) text))
        ≡ cond b (with_later_runs Ascii (replaced other) text) (byte ∷ (replaced other (first_run Ascii text) ++ with_later_runs Ascii (replaced other) text))
    step true h later = later h
    step false h later = ap (λ (t : List ℕ). byte ∷ t) (ap₂ (λ (a b : List ℕ). a ++ b) (replaced-same answers other (first_run Ascii text) h.0) (later h.1))

parts-same : (answers other : Answering) (word : List ℕ) → Agree answers other (map word_of (runs_of Ascii word)) → text_of_parts answers word ≡ text_of_parts other word
parts-same answers other word h =
    let whole : with_runs Ascii (replaced answers) word ≡ with_runs Ascii (replaced other) word = ap₂ (λ (a b : List ℕ). a ++ b) (replaced-same answers other (first_run Ascii word) h.0) (later-same answers other word h.1) in
    ap₂ (λ (b : Bool) (t : List ℕ). cond (list_any is_wide word && b) (Some t) None) (any-same answers other (runs_of Ascii word) h) whole

pub decide : TriesDecide
unfolding text_of_tries
decide answers other word h =
    ap₂ (λ (a b : Option (List ℕ)). either a b) (ap (followed_by _) h.0) (ap₂ (λ (a b : Option (List ℕ)). either a b) h.1.0 (parts-same answers other word h.1.1))

-- ## How many bytes the tried words have

word-short : (run : List ℕ) → length (word_of run) ≤ length run
word-short [] = omega arith
word-short (byte ∷ run) = step (list_all (λ other. eqb other 46) (byte ∷ run)) (word-short run)
  where
    step : (b : Bool) → length (word_of run) ≤ length run → length (cond b [] (byte ∷ word_of run)) ≤ length (byte ∷ run)
    step true h = omega arith
    step false h = omega arith

trimmed-short : (word : List ℕ) → length (trimmed word) ≤ length word
trimmed-short [] = omega arith
trimmed-short (byte ∷ word) = step (list_all is_left_out (byte ∷ word)) (trimmed-short word)
  where
    step : (b : Bool) → length (trimmed word) ≤ length word → length (cond b [] (byte ∷ trimmed word)) ≤ length (byte ∷ word)
    step true h = omega arith
    step false h = omega arith

abbrev size : List (List ℕ) → ℕ
size runs = sum_by length (map word_of runs)

size-first : (run : List ℕ) (runs : List (List ℕ)) → size (run ∷ runs) ≡ length (word_of run) + size runs
size-first run runs = omega (arith, sum_by-append length (word_of run ∷ []) (map word_of runs))

runs-short : (text : List ℕ) → length (first_run Ascii text) + size (later_runs Ascii text) ≤ length text
runs-short [] = omega arith
runs-short (byte ∷ text) = step (is_byte_of Ascii byte) (runs-short text) (word-short (first_run Ascii text))
  where
    step : (b : Bool) → length (first_run Ascii text) + size (later_runs Ascii text) ≤ length text → length (word_of (first_run Ascii text)) ≤ length (first_run Ascii text)
        → length (cond b (byte ∷ first_run Ascii text) []) + size (cond b (later_runs Ascii text) (first_run Ascii text ∷ later_runs Ascii text)) ≤ length (byte ∷ text)
    step true h short = omega arith
    step false h short =
        let later : size (first_run Ascii text ∷ later_runs Ascii text) ≤ length (byte ∷ text) = omega (arith, h, short, size-first (first_run Ascii text) (later_runs Ascii text)) in
        omega (arith, later)

pub few : TriesAreFew
few word =
    let parts : size (runs_of Ascii word) ≤ length word = omega (arith, runs-short word, word-short (first_run Ascii word), size-first (first_run Ascii word) (later_runs Ascii word)) in
    let all : sum_by length (tried word) ≡ length (trimmed word) + (length word + size (runs_of Ascii word)) = omega (arith, sum_by-append length (trimmed word ∷ word ∷ []) (map word_of (runs_of Ascii word))) in
    omega (arith, trimmed-short word, parts, all)
