-- The lines of words.
use Rattle.sym_command.proofs.Basics.{◌≡◌, ℕ, ◌+◌, ◌<◌, Bool, true, false, cond, ◌&&◌, List, [], ◌∷◌, ◌++◌, length, take, get_or, map, sym, ap, ◌∙◌, append_assoc, refl, subst, Bor, Option, Some, None, Err, Result, is_some, unwrap_or, list_all, false≢true, append-nil, map-append, take_more, kind_of, symbol_of, Answering, is_read, text_for, BeginsWith, Asked, answer_for, is_read_word, line_of, counts_text, complaint_about, complaint_of, status_of, Counting, AreCountsFor, IsCountsLine, IsBehindLine, AreLines}
use Rattle.std.proofs.lemmas.List.Folds.{list_all-append}
use Rattle.std.proofs.Math.Bool.{and-true}
use Rattle.sym_core.specs.declared.refusal.Refusal.{Refusal}
use Rattle.sym_filter.specs.declared.kinds.Kind.{Kind}
use Rattle.sym_core.specs.declared.refusal.Refusal.TheVariants.{Malformed, BadReference, BadValue, TooLong, Memory}
use Rattle.sym_core.specs.declared.counts.Counts.{Counts}

pub answer_for-named : (answers : Answering) (word : List ℕ) (kind : Kind) (answer : Result (List ℕ) Refusal) → kind_of word ≡ Some kind → answers kind (symbol_of kind word) ≡ answer → answer_for answers word ≡ Some answer
unfolding answer_for
answer_for-named answers word kind answer h is = rw (h, is) refl

pub answer_for-unnamed : (answers : Answering) (word : List ℕ) → kind_of word ≡ None → answer_for answers word ≡ None
unfolding answer_for
answer_for-unnamed answers word h = rw h refl

-- bytes were appended twice
pub begins-then : (first middle last : List ℕ) → BeginsWith middle first → BeginsWith last middle → BeginsWith last first
begins-then first middle last a b = (a.0 ++ b.0, b.1 ∙ ap (λ (t : List ℕ). t ++ b.0) a.1 ∙ append_assoc first a.0 b.0)

-- the line of a word that has a text
pub text-line : (answers : Answering) (word out mid new text : List ℕ) → text_for answers word ≡ Some text → mid ≡ out ++ text → new ≡ mid ++ 10 ∷ [] → new ≡ out ++ line_of answers word
text-line answers word out mid new text has given pushed =
    pushed ∙ ap (λ (t : List ℕ). t ++ 10 ∷ []) given ∙ append_assoc out text (10 ∷ []) ∙ ap (λ o. out ++ (unwrap_or o word ++ 10 ∷ [])) (sym has)

-- the line of a word that has no text
pub word-line : (answers : Answering) (word bytes out mid new : List ℕ) → text_for answers word ≡ None → bytes ≡ word → mid ≡ out → new ≡ mid ++ bytes ++ 10 ∷ [] → new ≡ out ++ line_of answers word
word-line answers word bytes out mid new none same given pushed =
    pushed ∙ ap (λ (t : List ℕ). t ++ bytes ++ 10 ∷ []) given ∙ ap (λ (t : List ℕ). out ++ t ++ 10 ∷ []) same ∙ append_assoc out word (10 ∷ []) ∙ ap (λ o. out ++ (unwrap_or o word ++ 10 ∷ [])) (sym none)

-- what is said of a word, given the answer for it
pub complaint-line : (asked : Asked) (answers : Answering) (word err new : List ℕ) (answer : Option (Result (List ℕ) Refusal)) → answer_for answers word ≡ answer → new ≡ err ++ complaint_about asked word answer → new ≡ err ++ complaint_of asked answers word
complaint-line asked answers word err new answer is said = said ∙ ap (λ a. err ++ complaint_about asked word a) (sym is)

-- the words so far, with the next one
pub words-more : (words : List (Bor (List ℕ))) (i : ℕ) (d : Bor (List ℕ)) → i < length words → map (λ word. word.now) (take (i + 1) words) ≡ map (λ word. word.now) (take i words) ++ (get_or words i d).now ∷ []
words-more words i d h = ap (map (λ (word : Bor (List ℕ)). word.now)) (take_more words i d h) ∙ map-append (λ (word : Bor (List ℕ)). word.now) (take i words) (get_or words i d ∷ [])

-- the lines so far, with those of one more word
pub AreLines-more : (answers : Answering) (counting : Counting) (stats : Bool) (words : List (List ℕ)) (word lines behind : List ℕ) → AreLines answers counting stats words lines → IsBehindLine (AreCountsFor counting word) (stats && is_read_word (answer_for answers word)) behind → AreLines answers counting stats (words ++ word ∷ []) (lines ++ (line_of answers word ++ behind))
AreLines-more answers counting stats [] word lines behind none here = (behind, [], here, refl, ap (λ (t : List ℕ). t ++ (line_of answers word ++ behind)) none ∙ sym (append-nil (line_of answers word ++ behind)))
AreLines-more answers counting stats (first ∷ words) word lines behind h here =
    let rest = AreLines-more answers counting stats words word h.1 behind h.3 here in
    let more = line_of answers word ++ behind in
    (h.0, h.1 ++ more, h.2, rest, ap (λ (t : List ℕ). t ++ more) h.4 ∙ append_assoc (line_of answers first ++ h.0) h.1 more)

-- a word that names no symbol has no bytes after its line
pub nothing-behind : (answers : Answering) (counting : Counting) (stats : Bool) (word : List ℕ) → kind_of word ≡ None → IsBehindLine (AreCountsFor counting word) (stats && is_read_word (answer_for answers word)) []
nothing-behind answers counting true word none = subst (λ (b : Bool). IsBehindLine (AreCountsFor counting word) b []) (sym (ap is_read_word (answer_for-unnamed answers word none))) refl
nothing-behind answers counting false word none = refl

-- the answer for a word's symbol
pub answer_of-symbol : (answers : Answering) (word symbol : List ℕ) (kind : Kind) (answer : Result (List ℕ) Refusal) → kind_of word ≡ Some kind → symbol ≡ symbol_of kind word → answers kind symbol ≡ answer → answer_for answers word ≡ Some answer
answer_of-symbol answers word symbol kind answer named same is = answer_for-named answers word kind answer named (ap (answers kind) (sym same) ∙ is)

-- the line of counts, if counts are requested
pub counts-behind : (answers : Answering) (counting : Counting) (stats : Bool) (word symbol : List ℕ) (kind : Kind) (answer : Result (List ℕ) Refusal) (counts : Counts) → stats ≡ true → kind_of word ≡ Some kind → symbol ≡ symbol_of kind word → answer_for answers word ≡ Some answer → is_read answer ≡ true → counting kind.lang symbol counts → IsBehindLine (AreCountsFor counting word) (stats && is_read_word (answer_for answers word)) (counts_text counts.rows counts.nodes counts.steps ++ 10 ∷ [])
counts-behind answers counting true word symbol kind answer counts asked named same answered read are =
    let text = counts_text counts.rows counts.nodes counts.steps ++ 10 ∷ [] in
    let counted : IsCountsLine (AreCountsFor counting word) text = record { counts = counts; are = (kind, named, subst (λ (t : List ℕ). counting kind.lang t counts) same are); is = refl } in
    subst (λ (b : Bool). IsBehindLine (AreCountsFor counting word) b text) (sym (ap is_read_word answered ∙ read)) counted
counts-behind answers counting false word symbol kind answer counts asked named same answered read are = absurd (false≢true asked)

not-read : (refusal : Refusal) → (refusal ≡ TooLong → ⊥) → is_read (Err refusal) ≡ false
not-read (Malformed at) h = refl
not-read (BadReference at) h = refl
not-read (BadValue at) h = refl
not-read TooLong h = absurd (h refl)
not-read Memory h = refl

pub refused-behind : (answers : Answering) (counting : Counting) (stats : Bool) (word : List ℕ) (refusal : Refusal) → answer_for answers word ≡ Some (Err refusal) → (refusal ≡ TooLong → ⊥) → IsBehindLine (AreCountsFor counting word) (stats && is_read_word (answer_for answers word)) []
refused-behind answers counting true word refusal answered other = subst (λ (b : Bool). IsBehindLine (AreCountsFor counting word) b []) (sym (ap is_read_word answered ∙ not-read refusal other)) refl
refused-behind answers counting false word refusal answered other = refl

status-step : (all word : Bool) (old new : ℕ) → old ≡ cond all 0 1 → new ≡ cond word old 1 → new ≡ cond (all && word) 0 1
status-step true true old new h e = e ∙ h
status-step true false old new h e = e
status-step false true old new h e = e ∙ h
status-step false false old new h e = e

pub status-more : (answers : Answering) (done all : List (List ℕ)) (word : List ℕ) (old new : ℕ) (has_text : Bool) → all ≡ done ++ word ∷ [] → old ≡ status_of answers done → has_text ≡ is_some (text_for answers word) → new ≡ cond has_text old 1 → new ≡ status_of answers all
status-more answers done all word old new has_text e so_far has chosen =
    let test : List ℕ → Bool = λ w. is_some (text_for answers w) in
    let whole : list_all test all ≡ (list_all test done && has_text) = ap (list_all test) e ∙ list_all-append test done (word ∷ []) ∙ ap (λ (b : Bool). list_all test done && b) (and-true (test word) ∙ sym has) in
    status-step (list_all test done) has_text old new so_far chosen ∙ ap (λ (b : Bool). cond b 0 1) (sym whole)
