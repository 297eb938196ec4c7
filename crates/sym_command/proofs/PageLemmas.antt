-- The lines of the words so far: those that are written and those that wait to be.
use Rattle.sym_command.proofs.Basics.{◌≡◌, ℕ, Bool, ◌&&◌, List, [], ◌∷◌, ◌++◌, Option, Result, Ok, Err, Bor, map, take, drop, refl, sym, ap, subst, ◌∙◌, append_assoc, ◌≢◌, OnErr, IfOk, flat_map, append-nil, map-append, take-append-drop, Answering, BeginsWith, Puts, PutsFront, Asked, Counting, AreLines, AreCountsFor, IsBehindLine, answer_for, is_read_word, line_of, complaint_of, status_of}
use Rattle.std.proofs.lemmas.Grind.{flat_map-append}
use Rattle.sym_filter.specs.declared.streams.FilterFault.{FilterFault}
use Rattle.sym_filter.proofs.StreamLemmas.{Appends-none, Puts-push, Puts-join, Puts-same, Puts-all, PutsFront-of, PutsFront-join}
use Rattle.sym_command.specs.Command.{Took, Says, AnswersWords, AnswersFront}
use Rattle.sym_command.proofs.LineLemmas.{AreLines-more}

pub record SoFar (asked : Asked) (answers : Answering) (counting : Counting) (stats : Bool) (words : List (List ℕ)) (out out' err err' : Option (List ℕ)) (lines_wait said_wait : List ℕ) : Type 0 where
  pub lines : List ℕ
  pub are_lines : AreLines answers counting stats words lines
  pub puts : Puts out out' [] lines_wait lines
  pub says : Puts err err' [] said_wait (flat_map (complaint_of asked answers) words)

module _ (asked : Asked) (answers : Answering) (counting : Counting) (stats : Bool) where
  pub SoFar-begin : (out err : Option (List ℕ)) (lines_wait said_wait : List ℕ) → lines_wait ≡ [] → said_wait ≡ [] → SoFar asked answers counting stats [] out out err err lines_wait said_wait
  SoFar-begin out err lines_wait said_wait none nothing = record {
    lines = [];
    are_lines = refl;
    puts = Puts-push out [] lines_wait [] none;
    says = Puts-push err [] said_wait [] nothing;
  }

  -- one more word
  pub SoFar-word : (words all : List (List ℕ)) (word : List ℕ) (out out' err err' : Option (List ℕ)) (lines_wait lines_wait' said_wait said_wait' behind : List ℕ) → SoFar asked answers counting stats words out out' err err' lines_wait said_wait
      → all ≡ words ++ word ∷ [] → lines_wait' ≡ lines_wait ++ line_of answers word ++ behind → IsBehindLine (AreCountsFor counting word) (stats && is_read_word (answer_for answers word)) behind
      → said_wait' ≡ said_wait ++ complaint_of asked answers word → SoFar asked answers counting stats all out out' err err' lines_wait' said_wait'
  SoFar-word words all word out out' err err' lines_wait lines_wait' said_wait said_wait' behind so_far e pushed here said =
      let complaints = complaint_of asked answers in
      let more = line_of answers word ++ behind in
      let all_said : flat_map complaints words ++ complaints word ≡ flat_map complaints all =
      ap (λ (t : List ℕ). flat_map complaints words ++ t) (sym (append-nil (complaints word))) ∙ sym (ap (flat_map complaints) e ∙ flat_map-append complaints words (word ∷ [])) in record {
        lines = so_far.lines ++ more;
        are_lines = subst (λ (ws : List (List ℕ)). AreLines answers counting stats ws (so_far.lines ++ more)) (sym e) (AreLines-more answers counting stats words word so_far.lines behind so_far.are_lines here);
        puts = Puts-join out out' out' [] lines_wait lines_wait' so_far.lines more so_far.puts (Puts-push out' lines_wait lines_wait' more (pushed ∙ append_assoc lines_wait (line_of answers word) behind));
        says = Puts-same err err' [] said_wait' (flat_map complaints words ++ complaints word) (flat_map complaints all) all_said
            (Puts-join err err' err' [] said_wait said_wait' (flat_map complaints words) (complaints word) so_far.says (Puts-push err' said_wait said_wait' (complaints word) said));
      }

  -- some of the waiting lines are written
  pub SoFar-written : (words : List (List ℕ)) (out mid out' err mid' err' : Option (List ℕ)) (lines_wait lines_wait' said_wait said_wait' : List ℕ) → SoFar asked answers counting stats words out mid err mid' lines_wait said_wait
      → Puts mid out' lines_wait lines_wait' [] → Puts mid' err' said_wait said_wait' [] → SoFar asked answers counting stats words out out' err err' lines_wait' said_wait'
  SoFar-written words out mid out' err mid' err' lines_wait lines_wait' said_wait said_wait' so_far p q =
      let said = flat_map (complaint_of asked answers) words in record {
        lines = so_far.lines;
        are_lines = so_far.are_lines;
        puts = Puts-same out out' [] lines_wait' (so_far.lines ++ []) so_far.lines (append-nil so_far.lines) (Puts-join out mid out' [] lines_wait lines_wait' so_far.lines [] so_far.puts p);
        says = Puts-same err err' [] said_wait' (said ++ []) said (append-nil said) (Puts-join err mid' err' [] said_wait said_wait' said [] so_far.says q);
      }

  -- a beginning of the waiting lines is written
  pub SoFar-stopped : (words all rest : List (List ℕ)) (out mid out' err mid' err' : Option (List ℕ)) (lines_wait said_wait : List ℕ) → SoFar asked answers counting stats words out mid err mid' lines_wait said_wait
      → all ≡ words ++ rest → PutsFront mid out' lines_wait [] → PutsFront mid' err' said_wait [] → Took out out' err err' (AnswersFront asked answers counting stats all)
  SoFar-stopped words all rest out mid out' err mid' err' lines_wait said_wait so_far e p q =
      let said = flat_map (complaint_of asked answers) words in
      let o = PutsFront-join out mid out' [] lines_wait so_far.lines [] so_far.puts p in
      let s = PutsFront-join err mid' err' [] said_wait said [] so_far.says q in record {
        lines = o.gone;
        said = s.gone;
        to_out = o.writes;
        to_err = s.writes;
        held = record {
          first = words;
          rest = rest;
          are_first = e;
          whole = so_far.lines;
          are_lines = so_far.are_lines;
          lines_begin = subst (λ (t : List ℕ). BeginsWith t o.gone) (append-nil so_far.lines) o.begins;
          said_begin = subst (λ (t : List ℕ). BeginsWith t s.gone) (append-nil said) s.begins;
        };
      }

  -- all waiting lines are written
  pub SoFar-all : (words all : List (List ℕ)) (status : ℕ) (out mid out' err mid' err' : Option (List ℕ)) (lines_wait said_wait : List ℕ) → SoFar asked answers counting stats words out mid err mid' lines_wait said_wait
      → all ≡ words → status ≡ status_of answers words → Puts mid out' lines_wait [] [] → Puts mid' err' said_wait [] [] → Took out out' err err' (AnswersWords asked answers counting stats all status)
  SoFar-all words all status out mid out' err mid' err' lines_wait said_wait so_far e is p q =
      let written = SoFar-written words out mid out' err mid' err' lines_wait [] said_wait [] so_far p q in
      subst (λ (ws : List (List ℕ)). Took out out' err err' (AnswersWords asked answers counting stats ws status)) (sym e) (record {
        lines = written.lines;
        said = flat_map (complaint_of asked answers) words;
        to_out = Puts-all out out' written.lines written.puts;
        to_err = Puts-all err err' (flat_map (complaint_of asked answers) words) written.says;
        held = record { are_lines = written.are_lines; complaints = refl; ends = is };
      })

-- nothing is written
pub PutsFront-none : (known : Option (List ℕ)) (wait : List ℕ) → PutsFront known known wait []
PutsFront-none known wait = record { gone = []; writes = Appends-none known; begins = (wait ++ [], refl) }

pub PutsFront-all : (a b : Option (List ℕ)) (wait wait' : List ℕ) → Puts a b wait wait' [] → PutsFront a b wait []
PutsFront-all a b wait wait' p = PutsFront-of a b wait wait' [] [] p

-- a fact about the bytes that two streams took may be replaced by a fact that it implies
pub Took-as : (out out' err err' : Option (List ℕ)) (P Q : List ℕ → List ℕ → Type 0) → Took out out' err err' P → ((lines said : List ℕ) → P lines said → Q lines said) → Took out out' err err' Q
Took-as out out' err err' P Q took turns = record { lines = took.lines; said = took.said; to_out = took.to_out; to_err = took.to_err; held = turns took.lines took.said took.held }

-- only the second stream took bytes, if any did
pub Took-said : (out err err' : Option (List ℕ)) (Q : List ℕ → List ℕ → Type 0) → Says err err' → ((said : List ℕ) → Q [] said) → Took out out err err' Q
Took-said out err err' Q says turns = record { lines = []; said = says.0; to_out = Appends-none out; to_err = says.1; held = turns says.0 }

pub PutsFront-from : (a b : Option (List ℕ)) (wait wait' : List ℕ) → wait' ≡ wait → PutsFront a b wait' [] → PutsFront a b wait []
PutsFront-from a b wait wait' same p = subst (λ (t : List ℕ). PutsFront a b t []) same p

-- what holds anyway holds on failure
pub OnErr-anyway : {A E : Type 0} (r : Result A E) (P : Type 0) → P → OnErr r P
OnErr-anyway (Ok x) P p = tt
OnErr-anyway (Err e) P p = p

-- on failure, anything holds of success
pub IfOk-not : {A E : Type 0} (r : Result A E) (P : A → Type 0) (y : E) → r ≡ Err y → IfOk r P
IfOk-not (Ok x) P y is = absurd cc
IfOk-not (Err e) P y is = tt

-- a lack of memory isn't a failure to read
pub never_read : FilterFault.Memory ≢ FilterFault.Read
never_read is = absurd (let no : FilterFault.Memory ≡ FilterFault.Read = is in cc)

-- the first words and the others
pub words-split : (words : List (Bor (List ℕ))) (i : ℕ) → map (λ word. word.now) words ≡ map (λ word. word.now) (take i words) ++ map (λ word. word.now) (drop i words)
words-split words i =
    let now : Bor (List ℕ) → List ℕ = λ word. word.now in
    ap (map now) (sym (take-append-drop i words)) ∙ map-append now (take i words) (drop i words)
