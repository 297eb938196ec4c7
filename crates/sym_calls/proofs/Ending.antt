-- How a call ends, depending on what was answered.
use Rattle.sym_calls.proofs.Basics.{◌≡◌, ◌≢◌, ◌≤◌, inl, inr, ℕ, ◌-◌, Bool, true, false, cond, List, [], ◌++◌, length, take, drop, Option, Some, Result, Ok, Err, refl, sym, ap, subst, ◌∙◌, arith, nat_le, IfSome, ◌==◌, length-drop, take_all, Refusal, Malformed, BadReference, BadValue, TooLong, Memory, Detail, AreBytes, Mangled, IsAnswer, answer, Kind, symbol_of, answer_of, answers_by, cpp_by, wide_answer_of, pressed_of, AreCountsOf, AreWideCountsOf, Answering, filtered_at, tally_at, Asked, Outcome, answers_as, CountingEndsAs, CountingEndsBy, Ending, EndsAs, IsCounted, IsTallied, IsTextWritten, NameCounted, PressEndsAs, Tallied, answered, answers_at, filter_told, ending_of, named, name_or_type_told, name_told, numbers_of, press_told, refused, status_alone, text_told, told_of, unspelled, written}
use Rattle.sym_core.specs.declared.counts.Counts.{Counts}
use Rattle.sym_demangle.proofs.Answering.{is_answer}
use Rattle.sym_filter.specs.Demangled.{IsAppended}
use Rattle.sym_languages.specs.WidePressed.{wide_pressed_of}
use Rattle.sym_calls.specs.declared.counting.SymbolCounts.{SymbolCounts}
use Rattle.sym_calls.specs.declared.filtering.TextTally.{TextTally}

-- what follows the first n bytes, as a slice
pub rest-of : (at : ℕ) (bytes : List ℕ) → take (length bytes - at) (drop at bytes) ≡ drop at bytes
rest-of at bytes = take_all (length bytes - at) (drop at bytes) (omega (arith, length-drop at bytes))

low-cond : (test : Bool) (a b : Ending) → a.status ≤ 6 → b.status ≤ 6 → (cond test a b).status ≤ 6
low-cond true a b first second = first
low-cond false a b first second = second

written-low : (bytes buffer : List ℕ) → (written bytes buffer).status ≤ 6
unfolding written
written-low bytes buffer = low-cond (nat_le (length bytes) (length buffer)) _ _ (omega arith) (omega arith)

-- the status of an answer is one that a lack of memory may replace
pub answered-low : (answer : Result (List ℕ) Refusal) (skip : ℕ) (buffer : List ℕ) → (answered answer skip buffer).status ≤ 6
unfolding answered refused
answered-low (Ok bytes) skip buffer = written-low bytes buffer
answered-low (Err (Malformed at)) skip buffer = omega arith
answered-low (Err (BadReference at)) skip buffer = omega arith
answered-low (Err (BadValue at)) skip buffer = omega arith
answered-low (Err TooLong) skip buffer = omega arith
answered-low (Err Memory) skip buffer = omega arith

-- a refusal is what was answered, unless memory ran out
pub refusal-ends : (e : Refusal) (answer : Result (List ℕ) Refusal) (skip : ℕ) (buffer : List ℕ) (found : Ending) → (e ≢ Memory → answer ≡ Err e) → found ≡ refused e skip buffer → EndsAs (answered answer skip buffer) buffer found
unfolding answered refused
refusal-ends Memory answer skip buffer found given is = inr (answered-low answer skip buffer, is)
refusal-ends (Malformed at) answer skip buffer found given is = inl (is ∙ sym (ap (λ r. answered r skip buffer) (given (λ e. cc))))
refusal-ends (BadReference at) answer skip buffer found given is = inl (is ∙ sym (ap (λ r. answered r skip buffer) (given (λ e. cc))))
refusal-ends (BadValue at) answer skip buffer found given is = inl (is ∙ sym (ap (λ r. answered r skip buffer) (given (λ e. cc))))
refusal-ends TooLong answer skip buffer found given is = inl (is ∙ sym (ap (λ r. answered r skip buffer) (given (λ e. cc))))

-- a text that was appended to an empty list, and put into the buffer
pub appended-ends : {A : Type 0} → (answer : Result (List ℕ) Refusal) (skip : ℕ) (buffer old new : List ℕ) (result : Result A Refusal) (done : A) (found : Ending) → old ≡ []
    → result ≡ Ok done → IsAppended answer old new result → found ≡ written new buffer → EndsAs (answered answer skip buffer) buffer found
unfolding answered
appended-ends answer skip buffer old new result done found empty ok is put =
    let here = subst (λ r. IsAppended answer old new r) ok is in
    inl (put ∙ sym (ap (λ r. answered r skip buffer) (here.1 ∙ ap (λ t. Ok t) (ap (λ o. o ++ here.0) (sym empty) ∙ sym here.2))))

-- a symbol that has no text
pub not-appended-ends : {A : Type 0} → (answer : Result (List ℕ) Refusal) (skip : ℕ) (buffer old new : List ℕ) (result : Result A Refusal) (refusal : Refusal) (found : Ending)
    → result ≡ Err refusal → IsAppended answer old new result → found ≡ refused refusal skip buffer → EndsAs (answered answer skip buffer) buffer found
not-appended-ends answer skip buffer old new result refusal found err is told =
    let here = subst (λ r. IsAppended answer old new r) err is in
    refusal-ends refusal answer skip buffer found here.0 told

-- a text that the short way wrote
pub short-written : {W : Type 0} (m : Mangled W) (detail : Detail) (limit : ℕ) (symbol text shown buffer : List ℕ) (found : Ending) → AreBytes symbol
    → IsAnswer m detail symbol limit (Ok text) → shown ≡ text → found ≡ written shown buffer → IsTextWritten (answer m detail symbol limit) buffer found
short-written m detail limit symbol text shown buffer found bytes is same told =
    (text, sym (is_answer m detail symbol limit (Ok text) bytes is), told ∙ ap (λ b. written b buffer) same)

-- the outcome of a call that may write a text is right for a symbol with this answer, if there is an outcome
abbrev Told : Result (List ℕ) Refusal → (old new : List ℕ) → Option Outcome → Type 0
Told answer old new result = IfSome result (λ outcome. IsTextWritten answer old (ending_of outcome new))

-- the outcome is right for an equal answer, too
pub same-told : (answer wanted : Result (List ℕ) Refusal) (old new : List ℕ) (result : Option Outcome) → answer ≡ wanted → Told answer old new result → Told wanted old new result
same-told answer wanted old new result same given = subst (λ a. Told a old new result) same given

-- a call that wrote a text ends as the symbol's answer says
pub told-ends : (answer : Result (List ℕ) Refusal) (skip : ℕ) (old new : List ℕ) (result : Option Outcome) (outcome : Outcome) → result ≡ Some outcome
    → Told answer old new result → EndsAs (answered answer skip old) old (ending_of outcome new)
unfolding answered
told-ends answer skip old new result outcome is told =
    let here = subst (λ r. Told answer old new r) is told in
    inl (here.2 ∙ sym (ap (λ r. answered r skip old) here.1))

-- a symbol that was read into rows: its text was appended to an empty list, and put into the buffer
pub read-ends : (answer : Result (List ℕ) Refusal) (skip : ℕ) (buffer old new : List ℕ) (found : Ending) → old ≡ []
    → (text : List ℕ) × (answer ≡ Ok text) × (new ≡ old ++ text) → found ≡ written new buffer → EndsAs (answered answer skip buffer) buffer found
unfolding answered
read-ends answer skip buffer old new found empty (text, is, appended) put =
    inl (put ∙ sym (ap (λ r. answered r skip buffer) (is ∙ ap (λ t. Ok t) (ap (λ o. o ++ text) (sym empty) ∙ sym appended))))

-- a name whose symbol is read
pub name-ends : (answers : Answering) (asked : Asked) (name buffer : List ℕ) (kind : Kind) (found : Ending) → named asked.underscore name ≡ Ok kind
    → EndsAs (answered (answers kind (symbol_of kind name)) kind.skip buffer) buffer found → EndsAs (name_told answers asked name buffer) buffer found
unfolding told_of
name-ends answers asked name buffer kind found is ends = subst (λ r. EndsAs (told_of answers r name buffer) buffer found) (sym is) ends

-- there is no memory for the symbol's lists
pub no-symbol-lists : (answer : Result (List ℕ) Refusal) (skip : ℕ) (buffer : List ℕ) (found : Ending) → found ≡ status_alone 5 buffer → EndsAs (answered answer skip buffer) buffer found
no-symbol-lists answer skip buffer found told = inr (answered-low answer skip buffer, told)

-- there is no memory for the name's lists
pub no-lists-end : (answers : Answering) (asked : Asked) (name buffer : List ℕ) (kind : Kind) (found : Ending) → named asked.underscore name ≡ Ok kind
    → found ≡ status_alone 5 buffer → EndsAs (name_told answers asked name buffer) buffer found
no-lists-end answers asked name buffer kind found is told = name-ends answers asked name buffer kind found is (no-symbol-lists _ kind.skip buffer found told)

-- a name that has no symbol, or a symbol of too many bytes
pub no-name-ends : (answers : Answering) (asked : Asked) (name buffer : List ℕ) (status : ℕ) (found : Ending) → named asked.underscore name ≡ Err status
    → found ≡ status_alone status buffer → EndsAs (name_told answers asked name buffer) buffer found
unfolding told_of
no-name-ends answers asked name buffer status found is told = inl (told ∙ sym (ap (λ r. told_of answers r name buffer) is))

-- a call with valid flags
pub text-ends : (option : Option Asked) (asked : Asked) (limit : ℕ) (name buffer : List ℕ) (found : Ending) → option ≡ Some asked
    → EndsAs (name_or_type_told (answers_at asked limit) asked name buffer) buffer found → EndsAs (text_told option limit name buffer) buffer found
unfolding text_told
text-ends option asked limit name buffer found is ends = subst (λ o. EndsAs (text_told o limit name buffer) buffer found) (sym is) ends

pub press-ends : (option : Option Asked) (asked : Asked) (name buffer : List ℕ) (found : Ending) → option ≡ Some asked → asked.wide ≡ false
    → EndsAs (name_told pressed_of asked name buffer) buffer found → PressEndsAs (press_told option name buffer) buffer found
unfolding press_told
press-ends option asked name buffer found is narrow ends =
    let wide = unspelled (name_told wide_pressed_of asked name buffer) in
    inl (subst (λ o. EndsAs (press_told o name buffer) buffer found) (sym is)
    (subst (λ b. EndsAs (cond b wide (name_told pressed_of asked name buffer)) buffer found) (sym narrow) ends))

-- a lack of memory may replace the outcome of a call for a pressed spelling, also where the symbol has no spelling
lacks-memory : (told : Ending) (buffer : List ℕ) (test : Bool) → test ≡ (told.status == 4) → told.status ≤ 6
    → PressEndsAs (cond test (status_alone 12 told.buffer) told) buffer (status_alone 5 buffer)
lacks-memory told buffer true is low = inr (refl, refl)
lacks-memory told buffer false is low = inl (inr (low, refl))

unspelled-ends : (told : Ending) (buffer : List ℕ) (found : Ending) → EndsAs told buffer found → PressEndsAs (unspelled told) buffer (unspelled found)
unfolding unspelled
unspelled-ends told buffer found (inl same) = inl (inl (ap (λ (ending : Ending). unspelled ending) same))
unspelled-ends told buffer found (inr (low, none)) =
    subst (λ (ending : Ending). PressEndsAs (unspelled told) buffer (unspelled ending)) (sym none) (lacks-memory told buffer (told.status == 4) refl low)

pub wide-press-ends : (option : Option Asked) (asked : Asked) (name buffer : List ℕ) (found last : Ending) → option ≡ Some asked → asked.wide ≡ true
    → EndsAs (name_told wide_pressed_of asked name buffer) buffer found → last ≡ unspelled found → PressEndsAs (press_told option name buffer) buffer last
unfolding press_told
wide-press-ends option asked name buffer found last is wide ends turns =
    let told = unspelled (name_told wide_pressed_of asked name buffer) in
    subst (λ o. PressEndsAs (press_told o name buffer) buffer last) (sym is)
    (subst (λ b. PressEndsAs (cond b told (name_told pressed_of asked name buffer)) buffer last) (sym wide)
    (subst (λ (ending : Ending). PressEndsAs told buffer ending) (sym turns) (unspelled-ends (name_told wide_pressed_of asked name buffer) buffer found ends)))

pub filter-asked : (option : Option Asked) (asked : Asked) (limit : ℕ) (text buffer : List ℕ) (found : Ending) → option ≡ Some asked
    → EndsAs (written (filtered_at asked.letters (answers_at asked limit) text) buffer) buffer found → EndsAs (filter_told option limit text buffer) buffer found
unfolding filter_told
filter-asked option asked limit text buffer found is ends = subst (λ o. EndsAs (filter_told o limit text buffer) buffer found) (sym is) ends

pub tally-asked : (option : Option Asked) (asked : Asked) (limit : ℕ) (text : List ℕ) (old new : TextTally) (status : ℕ) → option ≡ Some asked
    → Tallied (tally_at asked.letters (answers_at asked limit) text) old new status → IsTallied option limit text old new status
unfolding IsTallied
tally-asked option asked limit text old new status is tallied = subst (λ o. IsTallied o limit text old new status) (sym is) tallied

pub counting-ends : (option : Option Asked) (asked : Asked) (kind : Kind) (name : List ℕ) (wide : Bool) (old new : SymbolCounts) (found : Ending) → option ≡ Some asked → asked.wide ≡ wide
    → named asked.underscore name ≡ Ok kind → CountingEndsBy wide kind (symbol_of kind name) old new found → CountingEndsAs option name old new found
unfolding CountingEndsAs NameCounted
counting-ends option asked kind name wide old new found is same known ends =
    subst (λ o. CountingEndsAs o name old new found) (sym is)
    (subst (λ r. NameCounted asked.wide r name old new found) (sym known)
    (subst (λ w. CountingEndsBy w kind (symbol_of kind name) old new found) (sym same) ends))

-- there is no memory for the text's lists
pub no-filter-ends : (bytes buffer : List ℕ) (found : Ending) → found ≡ status_alone 5 buffer → EndsAs (written bytes buffer) buffer found
no-filter-ends bytes buffer found told = inr (written-low bytes buffer, told)

-- a fact of the answers at the requested limit and detail, where it is known whether legacy Rust names are paths
pub by-legacy : {A W : Type 0} → (P : Answering → A → Type 0) (cpp : Mangled W) (asked : Asked) (legacy : Bool) (limit of_languages : ℕ) (detail : Detail) (found : A) → asked.legacy ≡ legacy → of_languages ≡ limit → detail ≡ asked.detail
    → P (answers_by cpp legacy of_languages detail) found → P (answers_by cpp asked.legacy limit asked.detail) found
by-legacy P cpp asked legacy limit of_languages detail found is same_limit same_detail given =
    subst (λ b. P (answers_by cpp b limit asked.detail) found) (sym is)
    (subst (λ n. P (answers_by cpp legacy n asked.detail) found) same_limit (subst (λ d. P (answers_by cpp legacy of_languages d) found) same_detail given))

-- a fact of the answers, where it is known which grammar reads C++
pub by-width : {A : Type 0} → (P : Answering → A → Type 0) (asked : Asked) (wide : Bool) (limit : ℕ) (found : A) → asked.wide ≡ wide
    → P (answers_as asked.texts asked.legacy (answers_by (cpp_by wide) asked.legacy limit asked.detail)) found → P (answers_at asked limit) found
by-width P asked wide limit found is given = subst (λ b. P (answers_as asked.texts asked.legacy (answers_by (cpp_by b) asked.legacy limit asked.detail)) found) (sym is) given

-- a symbol that isn't read
pub refusal-counts : (refusal : Refusal) (answer : Result (List ℕ) Refusal) (are_counts : Counts → Type 0) (skip : ℕ) (counts : SymbolCounts) (found : Ending)
    → (refusal ≢ Memory → (answer ≡ Err refusal) × (refusal ≢ TooLong)) → found ≡ refused refusal skip [] → IsCounted answer are_counts skip counts counts found
unfolding IsCounted refused
refusal-counts Memory answer are_counts skip counts found given is = inr (refl, inl is)
refusal-counts (Malformed at) answer are_counts skip counts found given is = inr (refl, inr (Malformed at, (λ e. cc), (given (λ e. cc)).0, is))
refusal-counts (BadReference at) answer are_counts skip counts found given is = inr (refl, inr (BadReference at, (λ e. cc), (given (λ e. cc)).0, is))
refusal-counts (BadValue at) answer are_counts skip counts found given is = inr (refl, inr (BadValue at, (λ e. cc), (given (λ e. cc)).0, is))
refusal-counts TooLong answer are_counts skip counts found given is = absurd ((given (λ e. cc)).1 refl)

-- a symbol that is read
pub read-counts : (answer : Result (List ℕ) Refusal) (are_counts : Counts → Type 0) (skip : ℕ) (old new : SymbolCounts) (read : Counts) (found : Ending)
    → found ≡ status_alone 0 [] → numbers_of new ≡ read → are_counts read → IsCounted answer are_counts skip old new found
unfolding IsCounted
read-counts answer are_counts skip old new read found told same are = inl (told, subst are_counts (sym same) are)

-- there is no memory for the symbol's lists
pub no-lists-count : (answer : Result (List ℕ) Refusal) (are_counts : Counts → Type 0) (skip : ℕ) (counts : SymbolCounts) (found : Ending)
    → found ≡ status_alone 5 [] → IsCounted answer are_counts skip counts counts found
unfolding IsCounted
no-lists-count answer are_counts skip counts found told = inr (refl, inl told)

-- counting with either grammar
pub wide-counted : (kind : Kind) (symbol slice : List ℕ) (old new : SymbolCounts) (found : Ending) → slice ≡ symbol
    → IsCounted (wide_answer_of 0 Detail.Full kind slice) (AreWideCountsOf kind.lang slice) kind.skip old new found → CountingEndsBy true kind symbol old new found
unfolding CountingEndsBy
wide-counted kind symbol slice old new found same given =
    subst (λ s. IsCounted (wide_answer_of 0 Detail.Full kind s) (AreWideCountsOf kind.lang s) kind.skip old new found) same given

pub abi-counted : (kind : Kind) (symbol slice : List ℕ) (old new : SymbolCounts) (found : Ending) → slice ≡ symbol
    → IsCounted (answer_of 0 Detail.Full kind slice) (AreCountsOf kind.lang slice) kind.skip old new found → CountingEndsBy false kind symbol old new found
unfolding CountingEndsBy
abi-counted kind symbol slice old new found same given =
    subst (λ s. IsCounted (answer_of 0 Detail.Full kind s) (AreCountsOf kind.lang s) kind.skip old new found) same given
