-- What each exported call answers, and what it writes.
use Rattle.sym_core.specs.declared.TheConstants.{MOST_BYTES}
use Rattle.std.specs.Prelude.{◌≡◌, ◌≢◌, ◌⊎◌, ◌≤◌, ℕ, List, [], drop, length, ◌++◌, Bool, true, false, Option, Some, None, Result, Ok, Err, ◌+◌, ◌&&◌, ◌==◌, not, min, nat_le, nat_lt, bit_and, if◌then◌else◌}
use Rattle.sym_core.specs.declared.counts.Counts.{Counts}
use Rattle.sym_core.specs.declared.refusal.Refusal.{Refusal}
use Rattle.sym_core.specs.declared.refusal.Refusal.TheVariants.{Malformed, BadReference, BadValue, TooLong, Memory}
use Rattle.sym_print.specs.declared.detail.Detail.{Detail}
use Rattle.sym_filter.specs.declared.kinds.Kind.{Kind}
use Rattle.sym_filter.specs.declared.kinds.Letters.{Letters}
use Rattle.sym_filter.specs.declared.words.Tally.{Tally}
use Rattle.sym_filter.specs.Kinds.{kind_by_beginning, symbol_of}
use Rattle.sym_languages.specs.Languages.{answer_of, answers_by, cpp_by, wide_answer_of, AreCountsOf, AreWideCountsOf, pressed_of}
use Rattle.sym_languages.specs.WidePressed.{wide_pressed_of}
use Rattle.sym_filter.specs.Runs.{Answering, filtered_at, tally_at}
use Rattle.sym_short.specs.Rewriting.{answers_as, texts_by}
use Rattle.type_names.specs.Types.{is_type_word, type_answer}
use Rattle.sym_calls.specs.declared.flags.Asked.{Asked}
use Rattle.sym_calls.specs.declared.outcome.Outcome.{Outcome}
use Rattle.sym_calls.specs.declared.counting.SymbolCounts.{SymbolCounts}
use Rattle.sym_calls.specs.declared.filtering.TextTally.{TextTally}

-- whether a flag is among flags
unfoldable pub has : (flags flag : ℕ) → Bool
has flags flag = not (bit_and flags flag == 0)

-- the detail that flags request: 1 is brief, 2 is without parameters
unfoldable pub detail_of : ℕ → Detail
detail_of flags =
    if has flags 1 then (if has flags 2 then Detail.BriefNoParameters else Detail.Brief)
    else (if has flags 2 then Detail.NoParameters else Detail.Full)

-- which letters words of a text have: by flag 64 words begin within runs, too, and by flag 32 words have only ASCII letters
unfoldable pub letters_of : ℕ → Letters
letters_of flags = if has flags 64 then Letters.Within else (if has flags 32 then Letters.Ascii else Letters.Any)

-- what flags request, if each flag exists: 4 the wide grammar, 8 that legacy Rust names are paths, 16 that a name may begin with an
-- underscore, 128 that a name without a symbol may be a type, 256 that texts of C++ symbols are short, 512 that short texts have inline
-- namespaces
unfoldable pub asked_of : ℕ → Option Asked
asked_of flags =
    if nat_lt flags 1024 then Some (record { detail = detail_of flags; texts = texts_by (has flags 256) (has flags 512); wide = has flags 4; legacy = has flags 8; underscore = has flags 16; letters = letters_of flags; types = has flags 128 })
    else None

-- what is answered for symbols, as flags request
abbrev pub answers_at : Asked → (limit : ℕ) → Answering
answers_at asked limit = answers_as asked.texts asked.legacy (answers_by (cpp_by asked.wide) asked.legacy limit asked.detail)

-- The kind of a name whose symbol is read, by the name's first bytes; or a status. The status is 11 for a name without a symbol, which may
-- be a symbol after an underscore that no flag allows, and 7 for a symbol of too many bytes.
unfoldable pub named : (underscore : Bool) → List ℕ → Result Kind ℕ
named underscore name =
    elim (kind_by_beginning name) [
      | None ↦ Err 11
      | Some kind ↦ if nat_lt 0 kind.skip && not underscore then Err 11
          else (if nat_le (length (symbol_of kind name)) MOST_BYTES then Ok kind else Err 7)
    ]

-- how a call ends: its status, the buffer after it, and what is reported with the status
pub record Ending : Type 0 where
  pub status : ℕ
  pub buffer : List ℕ
  pub length : ℕ
  pub offset : ℕ

-- how a call ends with this outcome and this buffer
abbrev pub ending_of : Outcome → List ℕ → Ending
ending_of outcome buffer = record { status = outcome.status; buffer = buffer; length = outcome.length; offset = outcome.offset }

-- how a call ends with only a status; the buffer stays as it was
abbrev pub status_alone : ℕ → List ℕ → Ending
status_alone status buffer = record { status = status; buffer = buffer; length = 0; offset = 0 }

-- a status with the offset of a byte in a symbol that begins after n bytes; no number above 2^32 - 1 is reported
abbrev pub status_at : (status offset skip : ℕ) → List ℕ → Ending
status_at status offset skip buffer = record { status = status; buffer = buffer; length = 0; offset = min (offset + skip) 4294967295 }

-- a refusal, by its number
unfoldable pub refused : Refusal → (skip : ℕ) → List ℕ → Ending
refused (Malformed at) skip buffer = status_at 1 at skip buffer
refused (BadReference at) skip buffer = status_at 2 at skip buffer
refused (BadValue at) skip buffer = status_at 3 at skip buffer
refused TooLong skip buffer = status_alone 4 buffer
refused Memory skip buffer = status_alone 5 buffer

-- bytes are written to the front of a buffer, or the call says how large the buffer has to be
unfoldable pub written : List ℕ → List ℕ → Ending
written bytes buffer =
    if nat_le (length bytes) (length buffer)
    then record { status = 0; buffer = bytes ++ drop (length bytes) buffer; length = length bytes; offset = 0 }
    else record { status = 6; buffer = buffer; length = length bytes; offset = 0 }

unfoldable pub answered : Result (List ℕ) Refusal → (skip : ℕ) → List ℕ → Ending
answered (Ok bytes) skip buffer = written bytes buffer
answered (Err refusal) skip buffer = refused refusal skip buffer

-- A symbol with this answer has a text, and a call that writes it to the buffer ends this way.
abbrev pub IsTextWritten : Result (List ℕ) Refusal → (old_buffer : List ℕ) → (found : Ending) → Type 0
IsTextWritten answer old_buffer found = (text : List ℕ) × (answer ≡ Ok text) × (found ≡ written text old_buffer)

-- what is answered for the symbol of a name of a kind, or the status of a name without a symbol
unfoldable pub told_of : Answering → Result Kind ℕ → (name buffer : List ℕ) → Ending
told_of answers (Ok kind) name buffer = answered (answers kind (symbol_of kind name)) kind.skip buffer
told_of answers (Err status) name buffer = status_alone status buffer

-- what is answered for a name by its symbol
abbrev pub name_told : Answering → Asked → (name buffer : List ℕ) → Ending
name_told answers asked name buffer = told_of answers (named asked.underscore name) name buffer

-- What is answered for a name by its symbol; or by the type that the name may be, if it doesn't begin like a symbol (11) and types are requested.
unfoldable pub type_or_told : (types : Bool) → Answering → Result Kind ℕ → (name buffer : List ℕ) → Ending
type_or_told types answers (Ok kind) name buffer = told_of answers (Ok kind) name buffer
type_or_told types answers (Err status) name buffer =
    if types && (status == 11 && is_type_word name) then answered (type_answer answers name) 0 buffer else status_alone status buffer

abbrev pub name_or_type_told : Answering → Asked → (name buffer : List ℕ) → Ending
name_or_type_told answers asked name buffer = type_or_told asked.types answers (named asked.underscore name) name buffer

-- the text of a name's symbol, or of the type that the name is
unfoldable pub text_told : Option Asked → (limit : ℕ) → (name buffer : List ℕ) → Ending
text_told None limit name buffer = status_alone 8 buffer
text_told (Some asked) limit name buffer = name_or_type_told (answers_at asked limit) asked name buffer

-- A symbol that is read but has no pressed spelling gets a status of its own. It replaces 4, which means nothing else
-- here, since pressing has no limit.
unfoldable pub unspelled : Ending → Ending
unspelled ending = if ending.status == 4 then status_alone 12 ending.buffer else ending

-- the pressed spelling of a name's symbol
unfoldable pub press_told : Option Asked → (name buffer : List ℕ) → Ending
press_told None name buffer = status_alone 8 buffer
press_told (Some asked) name buffer =
    if asked.wide then unspelled (name_told wide_pressed_of asked name buffer) else name_told pressed_of asked name buffer

-- a text in which each word that has a text is replaced by that text
unfoldable pub filter_told : Option Asked → (limit : ℕ) → (text buffer : List ℕ) → Ending
filter_told None limit text buffer = status_alone 8 buffer
filter_told (Some asked) limit text buffer = written (filtered_at asked.letters (answers_at asked limit) text) buffer

-- A call ends this way, or runs out of memory and leaves the buffer as it was. Calls that are refused for their arguments never run out of memory.
abbrev pub EndsAs : (wanted : Ending) → (old_buffer : List ℕ) → (found : Ending) → Type 0
EndsAs wanted old_buffer found = (found ≡ wanted) ⊎ ((wanted.status ≤ 6) × (found ≡ status_alone 5 old_buffer))

-- A call for a pressed spelling ends as other calls do. It may also run out of memory where a symbol has no spelling
-- (12).
abbrev pub PressEndsAs : (wanted : Ending) → (old_buffer : List ℕ) → (found : Ending) → Type 0
PressEndsAs wanted old_buffer found = EndsAs wanted old_buffer found ⊎ ((wanted.status ≡ 12) × (found ≡ status_alone 5 old_buffer))

-- the numbers of a tally
abbrev pub tally_of : TextTally → Tally
tally_of tally = record { words = tally.words; replaced = tally.replaced; refused = tally.refused }

-- what is reported of a filtered text's words: this tally with status 0, and otherwise nothing
abbrev pub Tallied : Tally → (old new : TextTally) → (status : ℕ) → Type 0
Tallied counted old new status = ((status ≡ 0) × (tally_of new ≡ counted)) ⊎ ((status ≢ 0) × (new ≡ old))

-- what is reported of a text's words: nothing if one of the flags doesn't exist, and otherwise the tally of the text
unfoldable pub IsTallied : Option Asked → (limit : ℕ) → (text : List ℕ) → (old new : TextTally) → (status : ℕ) → Type 0
IsTallied None limit text old new status = new ≡ old
IsTallied (Some asked) limit text old new status = Tallied (tally_at asked.letters (answers_at asked limit) text) old new status

-- the numbers of counts
abbrev pub numbers_of : SymbolCounts → Counts
numbers_of counts = record { rows = counts.rows; nodes = counts.nodes; steps = counts.steps }

-- How counting ends for a symbol with this answer at a limit of 0. A symbol that is read gets its counts. Otherwise the status is the
-- reason why it isn't read, or a lack of memory, and the counts stay as they were.
unfoldable pub IsCounted : Result (List ℕ) Refusal → (are_counts : Counts → Type 0) → (skip : ℕ) → (old new : SymbolCounts) → Ending → Type 0
IsCounted answer are_counts skip old new found =
    ((found ≡ status_alone 0 []) × are_counts (numbers_of new))
    ⊎ ((new ≡ old) × ((found ≡ status_alone 5 [])
    ⊎ ((refusal : Refusal) × (refusal ≢ TooLong) × (answer ≡ Err refusal) × (found ≡ refused refusal skip []))))

-- how counting ends for the symbol of a name, with either grammar of C++
unfoldable pub CountingEndsBy : (wide : Bool) → Kind → List ℕ → (old new : SymbolCounts) → Ending → Type 0
CountingEndsBy true kind symbol old new found =
    IsCounted (wide_answer_of 0 Detail.Full kind symbol) (AreWideCountsOf kind.lang symbol) kind.skip old new found
CountingEndsBy false kind symbol old new found =
    IsCounted (answer_of 0 Detail.Full kind symbol) (AreCountsOf kind.lang symbol) kind.skip old new found

-- how counting ends for a name: as for its symbol, or with a status where the name has no symbol that is read
unfoldable pub NameCounted : (wide : Bool) → Result Kind ℕ → (name : List ℕ) → (old new : SymbolCounts) → Ending → Type 0
NameCounted wide (Ok kind) name old new found = CountingEndsBy wide kind (symbol_of kind name) old new found
NameCounted wide (Err status) name old new found = (new ≡ old) × (found ≡ status_alone status [])

-- How counting ends. Only the grammar and the underscore matter among what flags request.
unfoldable pub CountingEndsAs : Option Asked → (name : List ℕ) → (old new : SymbolCounts) → Ending → Type 0
CountingEndsAs None name old new found = (new ≡ old) × (found ≡ status_alone 8 [])
CountingEndsAs (Some asked) name old new found = NameCounted asked.wide (named asked.underscore name) name old new found
