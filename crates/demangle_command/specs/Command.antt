-- What a command line did to an input and two outputs.
use Rattle.std.specs.Prelude.{◌≡◌, ◌≢◌, ◌⊎◌, ℕ, List, [], ◌∷◌, ◌++◌, Bool, true, false, not, ◌&&◌, ◌==◌, Option, None, codes, if◌then◌else◌}
use Rattle.std.specs.Fmt.{decimal}
use Rattle.std.specs.Io.KnownBytes.{Appends, Consumes, IsAtEnd}
use Rattle.clap.specs.Words.{Row, Text, IsAmong}
use Rattle.clap.specs.declared.error.kind.ErrorKind.{ErrorKind}
use Rattle.clap.specs.declared.error.kind.ErrorKind.TheVariants.{DisplayHelp, DisplayVersion}
use Rattle.sym_filter.specs.Entries.{entries_of}
use Rattle.sym_filter.specs.Runs.{Answering, filtered_at, tally_at}
use Rattle.sym_filter.specs.declared.kinds.Letters.TheVariants.{Within}
use Rattle.sym_filter.specs.Streams.{PutsFront}
use Rattle.sym_filter.specs.declared.words.Tally.{Tally}
use Rattle.sym_short.specs.Rewriting.{answers_as, spelled_answers}
use Rattle.sym_short.specs.declared.texts.Texts.{Texts}
use Rattle.sym_short.specs.declared.texts.Texts.TheVariants as texts
use Rattle.text_details.specs.Details.{Detailing, no_details}
use Rattle.text_colours.specs.Answers.{colored_answers}
use Rattle.sym_command.specs.Command.{Took}
use Rattle.demangle_command.specs.CommandLine.{AreGiven, AreOptions, names_of, found_in, faults_in}
use Rattle.demangle_command.specs.Escaping.{answer_by}
use Rattle.demangle_names.specs.Names.{AnswersNames, NamesFront, status_of}
use Rattle.demangle_names.specs.Reasons.{reasons_of}
use Rattle.demangle_names.specs.Saying.{said_of_words}
use Rattle.demangle_command.specs.Styled.{styled_answer, styled_details}
use Rattle.demangle_names.specs.Spelling.{is_gnu}
use Rattle.demangle_names.specs.Style.{reads_paths}
use Rattle.demangle_names.specs.declared.options.Options.{Options}
use Rattle.demangle_names.specs.declared.spelling.Spelling.{Spelling}
use Rattle.demangle_names.specs.declared.spelling.Spelling.TheVariants as spelling
use Rattle.json_lines.specs.Objects.{name_lines, names_stay}
use Rattle.json_lines.specs.Texts.{TellsObjects, TellsObjectsFront}

-- what is answered for symbols by these options, before any spelling: the symbols' texts, whole or short
abbrev pub unspelled_of : Options → Answering
unspelled_of options = answers_as options.texts (reads_paths options.style) (styled_answer options.style options.limit options.detail)

-- what is answered by these options, in the spelling that they name, without colours and escapes
abbrev pub unescaped_of : Options → Answering
unescaped_of options = spelled_answers (is_gnu options.spelling) (reads_paths options.style) (unspelled_of options)

-- Details are known only of whole texts in the plain spelling.
abbrev pub details_as : Texts → Spelling → Detailing → Detailing
details_as texts.Whole spelling.Plain details = details
details_as texts.Whole spelling.Gnu details = no_details
details_as (texts.Short keeps_inline) spelling details = no_details

-- the details of what is answered before any spelling
abbrev pub unspelled_details : Options → Detailing
unspelled_details options = details_as options.texts spelling.Plain (styled_details options.style options.limit options.detail)

-- the details of what is answered by these options
abbrev pub details_of : Options → Detailing
details_of options = details_as options.texts options.spelling (styled_details options.style options.limit options.detail)

-- whether texts are whole
abbrev pub are_whole : Texts → Bool
are_whole texts.Whole = true
are_whole (texts.Short keeps_inline) = false

-- Texts are coloured if that is requested, if they have details, and if they go neither into strings of JSON nor into objects.
abbrev pub shows_colors : Options → Bool
shows_colors options = options.colors && (are_whole options.texts && (not (is_gnu options.spelling) && (not options.escape && not options.json)))

-- what is answered by these options, with the parts of texts in colours if the options say so
abbrev pub shown_of : Options → Answering
shown_of options = if shows_colors options then colored_answers (details_of options) (unescaped_of options) else unescaped_of options

-- these answers, with texts escaped if that is requested
abbrev pub escaped_by : (escapes : Bool) → Answering → Answering
escaped_by escapes answers kind symbol = answer_by escapes (answers kind symbol)

abbrev pub answers_of : Options → Answering
answers_of options = escaped_by options.escape (shown_of options)

-- ## An input

-- what is said of an input that was filtered, if that is requested
abbrev pub summary_if : Bool → Tally → List ℕ
summary_if true tally = codes "demangle: " ++ (decimal tally.refused ++ (codes " of " ++ (decimal tally.words ++ (codes " symbols stay" ++ 10 ∷ []))))
summary_if false tally = []

-- what is said of an input's words without a text, if that is requested
abbrev pub reasons_if : Bool → Answering → List ℕ → List ℕ
reasons_if true answers text = said_of_words (reasons_of answers) (entries_of Within answers text)
reasons_if false answers text = []

-- An input was filtered to its end. If reasons are requested, a line was written for each word that stays, with its place and the reason.
pub record TellsInput (answers : Answering) (why : Bool) (coming coming' out out' err err' : Option (List ℕ)) (tally : Tally) : Type 0 where
  pub text : List ℕ
  pub reads : Consumes coming coming' text
  pub ends : IsAtEnd coming'
  pub writes : Appends out out' (filtered_at Within answers text)
  pub counts : tally ≡ tally_at Within answers text
  pub says : Appends err err' (reasons_if why answers text)

-- What was written is a beginning of the filtered text of the bytes that were read, and what was said is a beginning of the
-- reasons for these bytes.
pub record TellsInputFront (answers : Answering) (why : Bool) (coming coming' out out' err err' : Option (List ℕ)) : Type 0 where
  pub text : List ℕ
  pub reads : Consumes coming coming' text
  pub writes : PutsFront out out' [] (filtered_at Within answers text)
  pub says : PutsFront err err' [] (reasons_if why answers text)

-- An input was filtered to its end, and then the number of symbols that stay was written, if that is requested.
pub record FiltersInput (answers : Answering) (why strict : Bool) (coming coming' out out' err err' : Option (List ℕ)) (status : ℕ) : Type 0 where
  pub tally : Tally
  pub before : Option (List ℕ)
  pub filtered : TellsInput answers why coming coming' out out' err before tally
  pub says : Appends before err' (summary_if why tally)
  pub ends : status ≡ status_of strict (not (tally.refused == 0))

-- Before a fault, a part of an input was filtered, and reasons were said for some of the words that stay. Or the whole input
-- was filtered, and a beginning of the summary, which says how many symbols stay, was written.
abbrev pub FiltersInputFront : Answering → (why : Bool) → (coming coming' out out' err err' : Option (List ℕ)) → Type 0
FiltersInputFront answers why coming coming' out out' err err' =
    TellsInputFront answers why coming coming' out out' err err'
    ⊎ ((tally : Tally) × (before : Option (List ℕ)) × TellsInput answers why coming coming' out out' err before tally × PutsFront before err' [] (summary_if why tally))

-- ## A command line that its parser accepts, by what the parser found

-- the command line's names are answered by its options
pub record Answered (rows : List Row) (terminal : Bool) (status : ℕ) (lines said : List ℕ) : Type 0 where
  pub options : Options
  pub given : AreGiven rows terminal options
  pub no_objects : options.json ≡ false
  pub some : names_of rows ≢ []
  pub one_stays : Bool
  pub answered : AnswersNames (answers_of options) options.types options.why (names_of rows) one_stays lines said
  pub ends : status ≡ status_of options.strict one_stays

pub record AnsweredFront (rows : List Row) (terminal : Bool) (lines said : List ℕ) : Type 0 where
  pub options : Options
  pub given : AreGiven rows terminal options
  pub no_objects : options.json ≡ false
  pub front : NamesFront (answers_of options) options.types options.why (names_of rows) lines said

-- the command line has no names, and the input was filtered by its options
pub record Filtered (rows : List Row) (terminal : Bool) (coming coming' out out' err err' : Option (List ℕ)) (status : ℕ) : Type 0 where
  pub options : Options
  pub given : AreGiven rows terminal options
  pub no_objects : options.json ≡ false
  pub none : names_of rows ≡ []
  pub filtered : FiltersInput (answers_of options) options.why options.strict coming coming' out out' err err' status

pub record FilteredFront (rows : List Row) (terminal : Bool) (coming coming' out out' err err' : Option (List ℕ)) : Type 0 where
  pub options : Options
  pub given : AreGiven rows terminal options
  pub no_objects : options.json ≡ false
  pub none : names_of rows ≡ []
  pub filtered : FiltersInputFront (answers_of options) options.why coming coming' out out' err err'

-- ## Objects

-- The objects of names were written, and the input wasn't read.
pub record NamesByObjects (answers : Answering) (details : Detailing) (options : Options) (names : List (List ℕ)) (coming coming' out out' : Option (List ℕ)) (status : ℕ) : Type 0 where
  pub some : names ≢ []
  pub unread : coming' ≡ coming
  pub writes : Appends out out' (name_lines options.types (reads_paths options.style) answers details names)
  pub ends : status ≡ status_of options.strict (names_stay options.types (reads_paths options.style) answers details names)

-- There is no name, and the objects of the input's words were written.
pub record InputByObjects (answers : Answering) (details : Detailing) (options : Options) (names : List (List ℕ)) (coming coming' out out' : Option (List ℕ)) (status : ℕ) : Type 0 where
  pub none : names ≡ []
  pub one_stays : Bool
  pub told : TellsObjects (reads_paths options.style) answers details coming coming' out out' one_stays
  pub ends : status ≡ status_of options.strict one_stays

abbrev pub ByObjects : Answering → Detailing → Options → List (List ℕ) → (coming coming' out out' : Option (List ℕ)) → ℕ → Type 0
ByObjects answers details options names coming coming' out out' status =
    NamesByObjects answers details options names coming coming' out out' status ⊎ InputByObjects answers details options names coming coming' out out' status

-- a beginning of the objects' lines was written
abbrev pub ByObjectsFront : Answering → Detailing → Options → List (List ℕ) → (coming coming' out out' : Option (List ℕ)) → Type 0
ByObjectsFront answers details options names coming coming' out out' =
    ((coming' ≡ coming) × PutsFront out out' [] (name_lines options.types (reads_paths options.style) answers details names))
    ⊎ ((names ≡ []) × TellsObjectsFront (reads_paths options.style) answers details coming coming' out out')

-- As the options request, the objects of the command line's names, or of the input's words, were written. Texts aren't escaped twice. Nothing
-- is said on standard error.
pub record Objects (rows : List Row) (terminal : Bool) (coming coming' out out' err err' : Option (List ℕ)) (status : ℕ) : Type 0 where
  pub options : Options
  pub given : AreGiven rows terminal options
  pub objects : options.json ≡ true
  pub told : ByObjects (unescaped_of options) (details_of options) options (names_of rows) coming coming' out out' status
  pub silent : Appends err err' []

pub record ObjectsFront (rows : List Row) (terminal : Bool) (coming coming' out out' err err' : Option (List ℕ)) : Type 0 where
  pub options : Options
  pub given : AreGiven rows terminal options
  pub objects : options.json ≡ true
  pub told : ByObjectsFront (unescaped_of options) (details_of options) options (names_of rows) coming coming' out out'
  pub silent : Appends err err' []

-- ## What an accepted command line did

-- the command line's names are answered; or no style, spelling or colouring has the given name, and no line was written
abbrev pub IsEndedOf : List Row → (terminal : Bool) → ℕ → List ℕ → List ℕ → Type 0
IsEndedOf rows terminal status lines said = Answered rows terminal status lines said ⊎ ((status ≡ 2) × (lines ≡ []) × AreOptions rows terminal None)

-- what was written up to a fault: beginnings of the lines, or no line
abbrev pub IsStoppedOf : List Row → (terminal : Bool) → List ℕ → List ℕ → Type 0
IsStoppedOf rows terminal lines said = AnsweredFront rows terminal lines said ⊎ (lines ≡ [])

-- what a command line did, if it may also filter the input or write objects
abbrev pub EndsOf : List Row → (terminal : Bool) → (coming coming' out out' err err' : Option (List ℕ)) → ℕ → Type 0
EndsOf rows terminal coming coming' out out' err err' status =
    ((coming' ≡ coming) × Took out out' err err' (IsEndedOf rows terminal status)) ⊎ Filtered rows terminal coming coming' out out' err err' status
    ⊎ Objects rows terminal coming coming' out out' err err' status

abbrev pub StopsOf : List Row → (terminal : Bool) → (coming coming' out out' err err' : Option (List ℕ)) → Type 0
StopsOf rows terminal coming coming' out out' err err' =
    ((coming' ≡ coming) × Took out out' err err' (IsStoppedOf rows terminal)) ⊎ FilteredFront rows terminal coming coming' out out' err err'
    ⊎ ObjectsFront rows terminal coming coming' out out' err err'

-- ## A command line that its parser doesn't accept

-- whether a command line requests help or the version
abbrev pub is_request : ErrorKind → Bool
is_request DisplayHelp = true
is_request DisplayVersion = true
is_request other = false

-- Requested help is on standard output, and the status is 0. The reason why a command line is wrong is on standard error, and the status is 2.
abbrev pub IsTold : Bool → ℕ → List ℕ → List ℕ → Type 0
IsTold true status lines said = (status ≡ 0) × (said ≡ [])
IsTold false status lines said = (status ≡ 2) × (lines ≡ [])

abbrev pub IsUntaken : List Text → ℕ → List ℕ → List ℕ → Type 0
IsUntaken words status lines said = (kind : ErrorKind) × IsAmong kind (faults_in words) × IsTold (is_request kind) status lines said

-- ## The words of a command line

-- The parser accepts the command line's words, and what it found was done; or it refuses the words.
abbrev pub Ends : List Text → (terminal : Bool) → (coming coming' out out' err err' : Option (List ℕ)) → ℕ → Type 0
Ends words terminal coming coming' out out' err err' status =
    ((faults_in words ≡ []) × EndsOf (found_in words) terminal coming coming' out out' err err' status)
    ⊎ ((coming' ≡ coming) × Took out out' err err' (IsUntaken words status))

-- What a command line did up to a fault. Before the parser's result is known, only what the parser says may have been written.
abbrev pub Stops : List Text → (terminal : Bool) → (coming coming' out out' err err' : Option (List ℕ)) → Type 0
Stops words terminal coming coming' out out' err err' =
    StopsOf (found_in words) terminal coming coming' out out' err err'
    ⊎ ((coming' ≡ coming) × Took out out' err err' (λ lines said. (faults_in words ≢ []) ⊎ ((lines ≡ []) × (said ≡ []))))
