-- Facts on runs and on what a filter holds back of a run.
use Rattle.sym_filter.proofs.Basics.{zero, ◌≡◌, ℕ, suc, ◌-◌, ◌≤◌, Bool, true, false, cond, eqb, leb, ◌&&◌, List, [], ◌∷◌, ◌++◌, length, drop, refl, sym, ap, ap₂, ◌∙◌, arith, Option, Some, None, Result, replicate, filter, list_all, result_ok, and_parts, and_from, and_left, and_right, cond-true, cond-false, ne_eqb, eqb-true, true≢false, list_all-append, append-nil, length-drop, drop-append_seam, and-true, is_run_byte, is_byte_of, Answering, first_run, later_runs, with_later_runs, with_runs, replaced, is_named, text_for, word_or_text, word_of, dots_after, Kind, Letters, Any, Ascii, Within, kind_of, kind_by_beginning, symbol_of, LONGEST_WORD}
use Rattle.sym_core.specs.declared.refusal.Refusal.{Refusal}

abbrev pub is_dot : ℕ → Bool
is_dot byte = eqb byte 46

-- a run at the front of a text is a front of the text's first run
pub first_run-append : (letters : Letters) (run more : List ℕ) → list_all (is_byte_of letters) run ≡ true → first_run letters (run ++ more) ≡ run ++ first_run letters more
first_run-append letters [] more h = refl
first_run-append letters (byte ∷ run) more h =
    let parts = and_parts (is_byte_of letters byte) (list_all (is_byte_of letters) run) h in
    cond-true (is_byte_of letters byte) _ _ parts.0 ∙ ap (λ (t : List ℕ). byte ∷ t) (first_run-append letters run more parts.1)

-- the changed bytes after the first run of a text stay the same if a run is put before the text
pub with_later_runs-append : (letters : Letters) (change : List ℕ → List ℕ) (run more : List ℕ) → list_all (is_byte_of letters) run ≡ true → with_later_runs letters change (run ++ more) ≡ with_later_runs letters change more
with_later_runs-append letters change [] more h = refl
with_later_runs-append letters change (byte ∷ run) more h =
    let parts = and_parts (is_byte_of letters byte) (list_all (is_byte_of letters) run) h in
    cond-true (is_byte_of letters byte) _ _ parts.0 ∙ with_later_runs-append letters change run more parts.1

pub later_runs-append : (letters : Letters) (run more : List ℕ) → list_all (is_byte_of letters) run ≡ true → later_runs letters (run ++ more) ≡ later_runs letters more
later_runs-append letters [] more h = refl
later_runs-append letters (byte ∷ run) more h =
    let parts = and_parts (is_byte_of letters byte) (list_all (is_byte_of letters) run) h in
    cond-true (is_byte_of letters byte) _ _ parts.0 ∙ later_runs-append letters run more parts.1

-- a run that ends at another byte, or at the end of the text
pub with_runs-ends : (letters : Letters) (change : List ℕ → List ℕ) (run : List ℕ) (byte : ℕ) (more : List ℕ) → list_all (is_byte_of letters) run ≡ true → is_byte_of letters byte ≡ false → with_runs letters change (run ++ (byte ∷ more)) ≡ change run ++ (byte ∷ with_runs letters change more)
with_runs-ends letters change run byte more h other =
    let first : first_run letters (run ++ (byte ∷ more)) ≡ run = first_run-append letters run (byte ∷ more) h ∙ ap (λ t. run ++ t) (cond-false (is_byte_of letters byte) _ _ other) ∙ append-nil run in
    let later : with_later_runs letters change (run ++ (byte ∷ more)) ≡ byte ∷ with_runs letters change more = with_later_runs-append letters change run (byte ∷ more) h ∙ cond-false (is_byte_of letters byte) _ _ other in
    ap₂ (λ (a b : List ℕ). change a ++ b) first later

pub with_runs-run : (letters : Letters) (change : List ℕ → List ℕ) (run : List ℕ) → list_all (is_byte_of letters) run ≡ true → with_runs letters change run ≡ change run
with_runs-run letters change run h =
    let whole : run ++ [] ≡ run = append-nil run in
    let first : first_run letters run ≡ run = ap (first_run letters) (sym whole) ∙ first_run-append letters run [] h ∙ whole in
    let later : with_later_runs letters change run ≡ [] = ap (with_later_runs letters change) (sym whole) ∙ with_later_runs-append letters change run [] h in
    ap₂ (λ (a b : List ℕ). change a ++ b) first later ∙ append-nil (change run)

filter-step : (run : List ℕ) (rest : List (List ℕ)) (b : Bool) → cond b (run ∷ rest) rest ≡ cond b (run ∷ []) [] ++ rest
filter-step run rest true = refl
filter-step run rest false = refl

pub filter-front : (run : List ℕ) (rest : List (List ℕ)) → cond (is_named run) (run ∷ rest) rest ≡ filter is_named (run ∷ []) ++ rest
filter-front run rest = filter-step run rest (is_named run)

-- the word of a run that has only dots is empty
pub word_of-dots : (dots : List ℕ) → list_all is_dot dots ≡ true → word_of dots ≡ []
word_of-dots [] h = refl
word_of-dots (dot ∷ dots) h = cond-true (list_all is_dot (dot ∷ dots)) _ _ h

pub word_of-append_dots : (word dots : List ℕ) → list_all is_dot dots ≡ true → word_of (word ++ dots) ≡ word_of word
word_of-append_dots [] dots h = word_of-dots dots h
word_of-append_dots (byte ∷ word) dots h =
    let same : list_all is_dot ((byte ∷ word) ++ dots) ≡ list_all is_dot (byte ∷ word) = list_all-append is_dot (byte ∷ word) dots ∙ ap (λ b. list_all is_dot (byte ∷ word) && b) h ∙ and-true (list_all is_dot (byte ∷ word)) in
    ap₂ (λ (b : Bool) (t : List ℕ). cond b [] (byte ∷ t)) same (word_of-append_dots word dots h)

word_of-step : (byte : ℕ) (bytes : List ℕ) (b : Bool) → word_of bytes ++ dots_after bytes ≡ bytes → cond b [] (byte ∷ word_of bytes) ++ drop (length (cond b [] (byte ∷ word_of bytes))) (byte ∷ bytes) ≡ byte ∷ bytes
word_of-step byte bytes true h = refl
word_of-step byte bytes false h = ap (λ (t : List ℕ). byte ∷ t) h

pub word_of-splits : (run : List ℕ) → word_of run ++ dots_after run ≡ run
word_of-splits [] = refl
word_of-splits (byte ∷ bytes) = word_of-step byte bytes (list_all is_dot (byte ∷ bytes)) (word_of-splits bytes)

-- a run whose word names no symbol stays
pub word_or_text-unnamed : (answers : Answering) (word : List ℕ) → kind_of word ≡ None → word_or_text answers word ≡ word
unfolding text_for
word_or_text-unnamed answers word h = rw h refl

pub replaced-unnamed : (answers : Answering) (run : List ℕ) → kind_of (word_of run) ≡ None → replaced answers run ≡ run
unfolding replaced
replaced-unnamed answers run h = ap (λ t. t ++ dots_after run) (word_or_text-unnamed answers (word_of run) h) ∙ word_of-splits run

-- repeated dots are all dots
pub list_all-dots : (n : ℕ) → list_all is_dot (replicate n 46) ≡ true
list_all-dots zero = refl
list_all-dots (suc n) = list_all-dots n

dot_is_run_byte : (letters : Letters) → is_byte_of letters 46 ≡ true
unfolding is_run_byte
dot_is_run_byte Any = refl
dot_is_run_byte Ascii = refl
dot_is_run_byte Within = refl

pub list_all-run_dots : (letters : Letters) (n : ℕ) → list_all (is_byte_of letters) (replicate n 46) ≡ true
list_all-run_dots letters zero = refl
list_all-run_dots letters (suc n) = and_from (is_byte_of letters 46) (list_all (is_byte_of letters) (replicate n 46)) (dot_is_run_byte letters) (list_all-run_dots letters n)

pub word_of-held : (held : List ℕ) (dots : ℕ) → word_of held ≡ held → word_of (held ++ replicate dots 46) ≡ held
word_of-held held dots h = word_of-append_dots held (replicate dots 46) (list_all-dots dots) ∙ h

pub list_all-held : (letters : Letters) (held : List ℕ) (dots : ℕ) → list_all (is_byte_of letters) held ≡ true → list_all (is_byte_of letters) (held ++ replicate dots 46) ≡ true
list_all-held letters held dots h = list_all-append (is_byte_of letters) held (replicate dots 46) ∙ and_from _ _ h (list_all-run_dots letters dots)

pub after-held : (held : List ℕ) (dots : ℕ) → word_of held ≡ held → dots_after (held ++ replicate dots 46) ≡ replicate dots 46
after-held held dots h =
    ap (λ (w : List ℕ). drop (length w) (held ++ replicate dots 46)) (word_of-held held dots h) ∙ drop-append_seam held (replicate dots 46)

-- a part with a byte that is no dot continues the run's word, up to the last such byte
pub word_of-part : (run part : List ℕ) → list_all is_dot part ≡ false → word_of (run ++ part) ≡ run ++ word_of part
word_of-part [] part h = refl
word_of-part (byte ∷ run) part h =
    let other : list_all is_dot (byte ∷ (run ++ part)) ≡ false = list_all-append is_dot (byte ∷ run) part ∙ and_right (list_all is_dot (byte ∷ run)) (list_all is_dot part) h in
    cond-false _ _ _ other ∙ ap (λ (t : List ℕ). byte ∷ t) (word_of-part run part h)

list_all-word_step : (byte : ℕ) (bytes : List ℕ) (b : Bool) → list_all is_dot (byte ∷ bytes) ≡ b → list_all is_dot (word_of bytes) ≡ list_all is_dot bytes → list_all is_dot (cond b [] (byte ∷ word_of bytes)) ≡ b
list_all-word_step byte bytes true h same = refl
list_all-word_step byte bytes false h same = ap (λ (b : Bool). is_dot byte && b) same ∙ h

pub list_all-word_of : (run : List ℕ) → list_all is_dot (word_of run) ≡ list_all is_dot run
list_all-word_of [] = refl
list_all-word_of (byte ∷ bytes) = list_all-word_step byte bytes (list_all is_dot (byte ∷ bytes)) refl (list_all-word_of bytes)

word_of-word_step : (byte : ℕ) (bytes : List ℕ) (b : Bool) → list_all is_dot (byte ∷ bytes) ≡ b → word_of (word_of bytes) ≡ word_of bytes → word_of (cond b [] (byte ∷ word_of bytes)) ≡ cond b [] (byte ∷ word_of bytes)
word_of-word_step byte bytes true h same = refl
word_of-word_step byte bytes false h same =
    let other : list_all is_dot (byte ∷ word_of bytes) ≡ false = ap (λ (b : Bool). is_dot byte && b) (list_all-word_of bytes) ∙ h in
    cond-false _ _ _ other ∙ ap (λ (t : List ℕ). byte ∷ t) same

-- the word of a word is the word
pub word_of-word : (run : List ℕ) → word_of (word_of run) ≡ word_of run
word_of-word [] = refl
word_of-word (byte ∷ bytes) = word_of-word_step byte bytes (list_all is_dot (byte ∷ bytes)) refl (word_of-word bytes)

after-step : (byte : ℕ) (bytes : List ℕ) (b : Bool) → list_all is_dot (byte ∷ bytes) ≡ b → list_all is_dot (dots_after bytes) ≡ true → list_all is_dot (drop (length (cond b [] (byte ∷ word_of bytes))) (byte ∷ bytes)) ≡ true
after-step byte bytes true h dots = h
after-step byte bytes false h dots = dots

dots_after-dots : (run : List ℕ) → list_all is_dot (dots_after run) ≡ true
dots_after-dots [] = refl
dots_after-dots (byte ∷ bytes) = after-step byte bytes (list_all is_dot (byte ∷ bytes)) refl (dots_after-dots bytes)

all_dots : (dots : List ℕ) → list_all is_dot dots ≡ true → dots ≡ replicate (length dots) 46
all_dots [] h = refl
all_dots (byte ∷ bytes) h =
    let parts = and_parts (is_dot byte) (list_all is_dot bytes) h in
    ap₂ (λ (a : ℕ) (t : List ℕ). a ∷ t) (eqb-true byte 46 parts.0) (all_dots bytes parts.1)

-- a run is its word and dots
pub word_and_dots : (run : List ℕ) → run ≡ word_of run ++ replicate (length run - length (word_of run)) 46
word_and_dots run =
    let dots : dots_after run ≡ replicate (length (dots_after run)) 46 = all_dots (dots_after run) (dots_after-dots run) in
    sym (word_of-splits run) ∙ ap (λ (t : List ℕ). word_of run ++ t) (dots ∙ ap (λ (n : ℕ). replicate n 46) (length-drop (length (word_of run)) run))

-- a word grows with its run
longer-step : (byte : ℕ) (run rest : List ℕ) (b c : Bool) → list_all is_dot (byte ∷ run) ≡ b → list_all is_dot (byte ∷ (run ++ rest)) ≡ c → (b ≡ false → c ≡ false) → length (word_of run) ≤ length (word_of (run ++ rest)) → length (cond b [] (byte ∷ word_of run)) ≤ length (cond c [] (byte ∷ word_of (run ++ rest)))
longer-step byte run rest true c h i same fewer = omega arith
longer-step byte run rest false true h i same fewer = absurd (true≢false (same refl))
longer-step byte run rest false false h i same fewer = omega arith

pub word_of-longer : (run rest : List ℕ) → length (word_of run) ≤ length (word_of (run ++ rest))
word_of-longer [] rest = omega arith
word_of-longer (byte ∷ run) rest =
    longer-step byte run rest _ _ refl refl (λ h. list_all-append is_dot (byte ∷ run) rest ∙ and_left (list_all is_dot (byte ∷ run)) (list_all is_dot rest) h) (word_of-longer run rest)

-- without a kind there is none to choose
cond_none : (b : Bool) (kind : Option Kind) → kind ≡ None → cond b kind None ≡ None
cond_none true kind h = h
cond_none false kind h = refl

kind_by_beginning-other : (byte : ℕ) (word : List ℕ) → (byte ≡ 95 → ⊥) → kind_by_beginning (byte ∷ word) ≡ None
kind_by_beginning-other byte word other =
    let e : eqb 95 byte ≡ false = ne_eqb 95 byte (λ e. other (sym e)) in
    rw e refl

kind_of-step : (byte : ℕ) (word : List ℕ) (b : Bool) → (byte ≡ 95 → ⊥) → kind_of (cond b [] (byte ∷ word)) ≡ None
kind_of-step byte word true other = refl
kind_of-step byte word false other = cond_none (leb (length (byte ∷ word)) LONGEST_WORD) _ (kind_by_beginning-other byte word other)

pub kind_of-other : (byte : ℕ) (more : List ℕ) → (byte ≡ 95 → ⊥) → kind_of (word_of (byte ∷ more)) ≡ None
kind_of-other byte more other = kind_of-step byte (word_of more) (list_all is_dot (byte ∷ more)) other

-- ## The text that replaces a word

-- the text of a word is that of its symbol
pub text_for-named : (answers : Answering) (word : List ℕ) (kind : Kind) (answer : Result (List ℕ) Refusal) → kind_of word ≡ Some kind → answers kind (symbol_of kind word) ≡ answer → text_for answers word ≡ result_ok answer
unfolding text_for
text_for-named answers word kind answer h is = rw (h, is) refl

-- the text for a word follows from the answer for its symbol
pub text_of-symbol : (answers : Answering) (word symbol : List ℕ) (kind : Kind) (answer : Result (List ℕ) Refusal) → kind_of word ≡ Some kind → symbol ≡ symbol_of kind word → answers kind symbol ≡ answer → text_for answers word ≡ result_ok answer
text_of-symbol answers word symbol kind answer named same is = text_for-named answers word kind answer named (ap (answers kind) (sym same) ∙ is)

pub text_for-unnamed : (answers : Answering) (word : List ℕ) → kind_of word ≡ None → text_for answers word ≡ None
unfolding text_for
text_for-unnamed answers word h = rw h refl
