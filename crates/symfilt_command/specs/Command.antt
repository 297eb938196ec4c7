-- What the program did, by the words of its command line.
use Rattle.std.specs.Prelude.{◌≡◌, ◌≢◌, ◌⊎◌, ℕ, List, [], Bool, Option}
use Rattle.std.specs.Io.KnownBytes.{Appends}
use Rattle.sym_print.specs.declared.detail.Detail.{Detail}
use Rattle.sym_filter.specs.Runs.{Answering}
use Rattle.sym_short.specs.Rewriting.{answers_as}
use Rattle.sym_short.specs.declared.texts.Texts.{Texts}
use Rattle.sym_filter.specs.Streams.{FiltersAllAt, FiltersFrontAt}
use Rattle.sym_filter.specs.declared.words.Tally.{Tally}
use Rattle.cpp_grammar.specs.Mangled.{cpp_mangled, wide_mangled}
use Rattle.sym_languages.specs.Languages.{answers_by, pressed_of, AreCountsOf, AreWideCountsOf}
use Rattle.sym_languages.specs.WidePressed.{wide_pressed_of}
use Rattle.clap.specs.Words.{Row, Text as Bytes}
use Rattle.sym_command.specs.CommandLine.{AreGiven, AreRefused, AsksFilter, symbols_of, found_in, faults_in}
use Rattle.sym_command.specs.Lines.{Counting}
use Rattle.sym_command.specs.Command.{Took, AnswersWords, AnswersFront}
use Rattle.sym_command.specs.declared.options.Asked.{Asked}
use Rattle.sym_command.specs.declared.options.Asked.TheVariants.{Text, WideText, Pressed, WidePressed}
use Rattle.sym_command.specs.declared.options.Options.{Options}
use Rattle.sym_command.specs.declared.outcome.Filtering.{Filtering}
use Rattle.sym_command.specs.declared.outcome.Run.{Run}
use Rattle.sym_command.specs.declared.outcome.Run.TheVariants.{Done, Filter}

-- what is requested for each symbol: its text, whole or short, with C++ by either grammar, or its pressed spelling
abbrev pub answers_at : Asked → Texts → (legacy : Bool) → ℕ → Detail → Answering
answers_at Text texts legacy limit detail = answers_as texts legacy (answers_by cpp_mangled legacy limit detail)
answers_at WideText texts legacy limit detail = answers_as texts legacy (answers_by wide_mangled legacy limit detail)
answers_at Pressed texts legacy limit detail = pressed_of
answers_at WidePressed texts legacy limit detail = wide_pressed_of

abbrev pub answers_of : Options → Answering
answers_of options = answers_at options.asked options.texts options.legacy options.limit options.detail

-- which counts are those of a symbol, by what is requested
abbrev pub counting_at : Asked → Counting
counting_at Text = AreCountsOf
counting_at WideText = AreWideCountsOf
counting_at Pressed = AreCountsOf
counting_at WidePressed = AreWideCountsOf

abbrev pub counting_of : Options → Counting
counting_of options = counting_at options.asked

-- what the filter answers for the words of standard input
abbrev pub filter_answers : Filtering → Answering
filter_answers filtering = answers_at filtering.asked filtering.texts filtering.legacy filtering.limit filtering.detail

-- ## What a command line did, by what its parser found

-- the symbols of a command line are answered as its options request
pub record AreAnswered (rows : List Row) (status : ℕ) (lines said : List ℕ) : Type 0 where
  pub options : Options
  pub given : AreGiven rows options
  pub some : symbols_of rows ≢ []
  pub answered : AnswersWords options.asked (answers_of options) (counting_of options) options.stats (symbols_of rows) status lines said

-- A command line with symbols has answered them. A command line whose options are refused has written no line. A command line that requests
-- the filter has written nothing.
abbrev pub IsRunOf : List Row → Run → List ℕ → List ℕ → Type 0
IsRunOf rows (Done status) lines said = AreAnswered rows status lines said ⊎ ((status ≡ 2) × (lines ≡ []) × AreRefused rows)
IsRunOf rows (Filter filtering) lines said = (lines ≡ []) × (said ≡ []) × AsksFilter rows filtering

-- beginnings of the lines of a command line's first symbols
pub record AreBegun (rows : List Row) (lines said : List ℕ) : Type 0 where
  pub options : Options
  pub given : AreGiven rows options
  pub front : AnswersFront options.asked (answers_of options) (counting_of options) options.stats (symbols_of rows) lines said

-- ## What the words of a command line did

-- The parser accepts the words, and what it found was done; or it refuses them or they request help, and no line was written.
abbrev pub IsRun : List Bytes → Run → List ℕ → List ℕ → Type 0
IsRun words run lines said =
    ((faults_in words ≡ []) × IsRunOf (found_in words) run lines said) ⊎ ((faults_in words ≢ []) × (run ≡ Done 2) × (lines ≡ []))

-- A command line that a fault stopped has written beginnings of the lines of its symbols, or only what its parser says, if the fault came
-- before the symbols were known.
abbrev pub IsStopped : List Bytes → List ℕ → List ℕ → Type 0
IsStopped words lines said = AreBegun (found_in words) lines said ⊎ (lines ≡ [])

-- ## What the program did over an input and its two outputs

-- The words request the filter, and the input was filtered.
pub record Filtered (words : List Bytes) (coming coming' out out' err err' : Option (List ℕ)) : Type 0 where
  pub filtering : Filtering
  pub asked : IsRun words (Filter filtering) [] []
  pub tally : Tally
  pub filtered : FiltersAllAt filtering.letters (filter_answers filtering) coming coming' out out' tally
  pub silent : Appends err err' []

-- Some of the input was filtered before a fault.
pub record FilteredFront (words : List Bytes) (coming coming' out out' err err' : Option (List ℕ)) : Type 0 where
  pub filtering : Filtering
  pub asked : IsRun words (Filter filtering) [] []
  pub filtered : FiltersFrontAt filtering.letters (filter_answers filtering) coming coming' out out'
  pub silent : Appends err err' []

-- The words are answered or refused, with this status, and nothing was read; or the input was filtered, and the status is 0.
abbrev pub Ends : List Bytes → (coming coming' out out' err err' : Option (List ℕ)) → ℕ → Type 0
Ends words coming coming' out out' err err' status =
    ((coming' ≡ coming) × Took out out' err err' (IsRun words (Done status)))
    ⊎ ((status ≡ 0) × Filtered words coming coming' out out' err err')

-- what the program did up to a fault
abbrev pub Stops : List Bytes → (coming coming' out out' err err' : Option (List ℕ)) → Type 0
Stops words coming coming' out out' err err' =
    ((coming' ≡ coming) × Took out out' err err' (IsStopped words)) ⊎ FilteredFront words coming coming' out out' err err'
