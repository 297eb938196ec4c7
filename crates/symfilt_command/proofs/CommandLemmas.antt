-- What the program did, by what the parts of its command line did.
use Rattle.std.proofs.Common.{◌≡◌, ◌≢◌, ◌⊎◌, ℕ, Bool, false, Bor, List, [], ◌∷◌, length, map, eqb, Option, Result, Ok, Err, refl, sym, subst, inl, inr, ◌++◌}
use Rattle.std.specs.Prelude.{IfOk, OnOk, OnErr}
use Rattle.std.specs.Io.KnownBytes.{Appends}
use Rattle.std.proofs.lemmas.Bool.{eqb-false}
use Rattle.sym_print.specs.declared.detail.Detail.{Detail}
use Rattle.sym_demangle.specs.Mangled.{Mangled}
use Rattle.sym_filter.specs.Runs.{Answering, filtered_at}
use Rattle.sym_filter.specs.Streams.{FiltersAllAt, FiltersFrontAt}
use Rattle.sym_filter.specs.declared.streams.FilterFault.{FilterFault}
use Rattle.sym_filter.specs.declared.words.Tally.{Tally}
use Rattle.sym_filter.proofs.StreamLemmas.{Appends-join}
use Rattle.clap.specs.Words.{Row, Text as Bytes, IsAmong}
use Rattle.clap.specs.declared.error.kind.ErrorKind.{ErrorKind}
use Rattle.clap.specs.declared.error.kind.ErrorKind.TheVariants.{OutOfMemory}
use Rattle.sym_command.specs.CommandLine.{AreGiven, AreRefused, faults_in, symbols_of}
use Rattle.sym_command.specs.Command.{AnswersFront, AnswersWords, Took, Says}
use Rattle.sym_command.specs.declared.options.Asked.{Asked}
use Rattle.sym_command.specs.declared.options.Options.{Options}
use Rattle.sym_command.specs.declared.outcome.Filtering.{Filtering}
use Rattle.sym_command.specs.declared.outcome.Run.{Run}
use Rattle.sym_command.specs.declared.outcome.Run.TheVariants.{Done, Filter}
use Rattle.sym_command.proofs.CommandLemmas.{faulty}
use Rattle.sym_command.proofs.PageLemmas.{Took-said, OnErr-anyway}
use Rattle.sym_languages.specs.Languages.{answers_by}
use Rattle.symfilt_command.specs.Command.{answers_of, counting_of, filter_answers, AreBegun, IsRunOf, IsRun, IsStopped, Filtered, FilteredFront}

-- ## What is answered

-- a fact about the answers, where it is known whether legacy Rust names are paths
pub by-legacy : {W : Type 0} → (P : Answering → Type 0) (cpp : Mangled W) (legacy known : Bool) (limit : ℕ) (detail : Detail) → legacy ≡ known → P (answers_by cpp known limit detail) → P (answers_by cpp legacy limit detail)
by-legacy P cpp legacy known limit detail is given = subst (λ paths. P (answers_by cpp paths limit detail)) (sym is) given

-- a fact about what is requested, where the request is known
pub by-asked : (P : Asked → Type 0) (asked known : Asked) → asked ≡ known → P known → P asked
by-asked P asked known is given = subst (λ a. P a) (sym is) given

-- ## Words that the parser refuses

pub unparsed-run : (words : List Bytes) (kind : ErrorKind) (out err err' : Option (List ℕ)) (result : Result Run FilterFault) → (kind ≡ OutOfMemory) ⊎ IsAmong kind (faults_in words) → OnOk result (kind ≢ OutOfMemory)
    → IfOk result (λ run. run ≡ Done 2) → Says err err' → IfOk result (λ run. Took out out err err' (IsRun words run))
unparsed-run words kind out err err' (Ok run) fails known is says = Took-said out err err' (IsRun words run) says (λ said. inr (faulty (faults_in words) kind known fails, is, refl))
unparsed-run words kind out err err' (Err fault) fails known is says = tt

pub unparsed-stopped : (words : List Bytes) (out err err' : Option (List ℕ)) (result : Result Run FilterFault) → Says err err' → OnErr result (Took out out err err' (IsStopped words))
unparsed-stopped words out err err' result says = OnErr-anyway result _ (Took-said out err err' (IsStopped words) says (λ said. inr refl))

-- ## Words that the parser accepts

pub some-words : (words : List (Bor (List ℕ))) → eqb (length words) 0 ≡ false → map (λ (word : Bor (List ℕ)). word.now) words ≢ []
some-words [] some = λ none. eqb-false 0 0 some refl
some-words (word ∷ words) some = λ none. cc

abbrev pub IsStoppedOf : List Row → List ℕ → List ℕ → Type 0
IsStoppedOf rows lines said = AreBegun rows lines said ⊎ (lines ≡ [])

-- options that are refused
pub refused-run : (rows : List Row) (out err err' : Option (List ℕ)) (result : Result Run FilterFault) → AreRefused rows → IfOk result (λ run. run ≡ Done 2) → Says err err' → IfOk result (λ run. Took out out err err' (IsRunOf rows run))
refused-run rows out err err' (Ok run) refused is says = Took-said out err err' (IsRunOf rows run) says (λ said. subst (λ (r : Run). IsRunOf rows r [] said) (sym is) (inr (refl, refl, refused)))
refused-run rows out err err' (Err fault) refused is says = tt

pub refused-stopped : (rows : List Row) (out err err' : Option (List ℕ)) (result : Result Run FilterFault) → Says err err' → OnErr result (Took out out err err' (IsStoppedOf rows))
refused-stopped rows out err err' result says = OnErr-anyway result _ (Took-said out err err' (IsStoppedOf rows) says (λ said. inr refl))

-- symbols that are answered, where there is at least one
pub answered-run : (rows : List Row) (options : Options) (words : List Bytes) (status : ℕ) (out out' err err' : Option (List ℕ)) → AreGiven rows options → words ≡ symbols_of rows → words ≢ []
    → Took out out' err err' (AnswersWords options.asked (answers_of options) (counting_of options) options.stats words status) → Took out out' err err' (IsRunOf rows (Done status))
answered-run rows options words status out out' err err' given are some took = record {
  lines = took.lines;
  said = took.said;
  to_out = took.to_out;
  to_err = took.to_err;
  held = inl (record {
    options = options;
    given = given;
    some = subst (λ (symbols : List Bytes). symbols ≢ []) are some;
    answered = subst (λ symbols. AnswersWords options.asked (answers_of options) (counting_of options) options.stats symbols status took.lines took.said) are took.held;
  });
}

pub begun-run : (rows : List Row) (options : Options) (words : List Bytes) (out out' err err' : Option (List ℕ)) → AreGiven rows options → words ≡ symbols_of rows
    → Took out out' err err' (AnswersFront options.asked (answers_of options) (counting_of options) options.stats words) → Took out out' err err' (IsStoppedOf rows)
begun-run rows options words out out' err err' given are took = record {
  lines = took.lines;
  said = took.said;
  to_out = took.to_out;
  to_err = took.to_err;
  held = inl (record {
    options = options;
    given = given;
    front = subst (λ symbols. AnswersFront options.asked (answers_of options) (counting_of options) options.stats symbols took.lines took.said) are took.held;
  });
}

-- ## Without a symbol

-- the words request the filter, and nothing was written for them
pub record AsksAlone (words : List Bytes) (filtering : Filtering) (lines said : List ℕ) : Type 0 where
  pub no_line : lines ≡ []
  pub nothing_said : said ≡ []
  pub asked : IsRun words (Filter filtering) [] []

asks_alone : (words : List Bytes) (filtering : Filtering) (lines said : List ℕ) → IsRun words (Filter filtering) lines said → AsksAlone words filtering lines said
asks_alone words filtering lines said (inl (taken, ran)) = record { no_line = ran.0; nothing_said = ran.1; asked = inl (taken, (refl, refl, ran.2)) }
asks_alone words filtering lines said (inr (faulty, is, none)) = cc

pub filtered-whole : (words : List Bytes) (run : Run) (filtering : Filtering) (coming coming' out mid out' err err' : Option (List ℕ)) (tally : Tally) → run ≡ Filter filtering → Took out mid err err' (IsRun words run)
    → FiltersAllAt filtering.letters (filter_answers filtering) coming coming' mid out' tally → Filtered words coming coming' out out' err err'
filtered-whole words run filtering coming coming' out mid out' err err' tally is took all =
    let alone = asks_alone words filtering took.lines took.said (subst (λ (r : Run). IsRun words r took.lines took.said) is took.held) in
    let text = filtered_at filtering.letters (filter_answers filtering) all.text in record {
      filtering = filtering;
      asked = alone.asked;
      tally = tally;
      filtered = record {
        text = all.text;
        reads = all.reads;
        ends = all.ends;
        writes = subst (λ (lines : List ℕ). Appends out out' (lines ++ text)) alone.no_line (Appends-join out mid out' took.lines text took.to_out all.writes);
        counts = all.counts;
      };
      silent = subst (λ (said : List ℕ). Appends err err' said) alone.nothing_said took.to_err;
    }

pub filtered-stopped : (words : List Bytes) (run : Run) (filtering : Filtering) (coming coming' out mid out' err err' : Option (List ℕ)) → run ≡ Filter filtering → Took out mid err err' (IsRun words run)
    → FiltersFrontAt filtering.letters (filter_answers filtering) coming coming' mid out' → FilteredFront words coming coming' out out' err err'
filtered-stopped words run filtering coming coming' out mid out' err err' is took front =
    let alone = asks_alone words filtering took.lines took.said (subst (λ (r : Run). IsRun words r took.lines took.said) is took.held) in record {
      filtering = filtering;
      asked = alone.asked;
      filtered = record {
        text = front.text;
        gone = front.gone;
        reads = front.reads;
        writes = subst (λ (lines : List ℕ). Appends out out' (lines ++ front.gone)) alone.no_line (Appends-join out mid out' took.lines front.gone took.to_out front.writes);
        begins = front.begins;
      };
      silent = subst (λ (said : List ℕ). Appends err err' said) alone.nothing_said took.to_err;
    }
