-- What the call for parts answers, and what it writes.
use Rattle.std.specs.Prelude.{◌≡◌, ◌⊎◌, ◌≤◌, ℕ, List, drop, length, map, ◌++◌, Bool, true, false, Option, Some, None, Result, Ok, Err, ◌&&◌, not, nat_le, if◌then◌else◌}
use Rattle.sym_core.specs.declared.refusal.Refusal.{Refusal}
use Rattle.sym_filter.specs.declared.kinds.Kind.{Kind}
use Rattle.sym_filter.specs.Kinds.{symbol_of}
use Rattle.sym_parts.specs.Words.{kind_number, role_number}
use Rattle.sym_parts.specs.declared.part.Part.{Part}
use Rattle.sym_short.specs.declared.texts.Texts.{Texts}
use Rattle.sym_short.specs.declared.texts.Texts.TheVariants as texts
use Rattle.symbol_parts.specs.Parsed.{Parsed, Parsing, cpp_marking, parsed_by}
use Rattle.text_details.specs.Manglings.{mangling_number, mangling_of}
use Rattle.sym_languages.specs.Languages.{cpp_by}
use Rattle.sym_calls.specs.Calls.{Ending, ending_of, named, refused, status_alone}
use Rattle.sym_calls.specs.declared.flags.Asked.{Asked}
use Rattle.sym_calls.specs.declared.outcome.Outcome.{Outcome}
use Rattle.sym_calls.specs.declared.parts.NameFound.{NameFound}
use Rattle.sym_calls.specs.declared.parts.NamePart.{NamePart}

-- how a call for parts ends: how a call for the text ends, what the caller's parts are then, and what is reported of the name
pub record PartsEnding : Type 0 where
  pub ending : Ending
  pub parts : List NamePart
  pub found : NameFound

-- how a call for parts ends with this outcome and these parts
abbrev pub parts_ending : Outcome → (buffer : List ℕ) → (parts : List NamePart) → NameFound → PartsEnding
parts_ending outcome buffer parts found = record { ending = ending_of outcome buffer; parts = parts; found = found }

-- nothing is reported of a name
abbrev pub none_found : NameFound
none_found = record { count = 0; kind = 0; mangling = 0 }

-- the end of a call for a text that writes no text
abbrev pub without_text : Ending → (parts : List NamePart) → PartsEnding
without_text ending parts = record { ending = ending; parts = parts; found = none_found }

-- a part, with its role as a number
unfoldable pub numbered : Part → NamePart
numbered part = record { role = role_number part.role; start = part.start; length = part.length; from = part.from; to = part.to }

-- what is reported of a name with a text
abbrev pub reported : Parsed → (mangling : ℕ) → NameFound
reported parsed mangling = record { count = length parsed.parts; kind = kind_number parsed.kind; mangling = mangling }

-- the text is written to the front of the buffer, and the parts to the front of the caller's parts; where either has no room, neither is written
unfoldable pub both_written : Parsed → (mangling : ℕ) → (buffer : List ℕ) → (parts : List NamePart) → PartsEnding
both_written parsed mangling buffer parts =
    if nat_le (length parsed.text) (length buffer) && nat_le (length parsed.parts) (length parts)
    then record {
      ending = record { status = 0; buffer = parsed.text ++ drop (length parsed.text) buffer; length = length parsed.text; offset = 0 };
      parts = map numbered parsed.parts ++ drop (length parsed.parts) parts;
      found = reported parsed mangling;
    }
    else record { ending = record { status = 6; buffer = buffer; length = length parsed.text; offset = 0 }; parts = parts; found = reported parsed mangling }

unfoldable pub parsed_told : Result Parsed Refusal → (mangling skip : ℕ) → (buffer : List ℕ) → (parts : List NamePart) → PartsEnding
parsed_told (Ok parsed) mangling skip buffer parts = both_written parsed mangling buffer parts
parsed_told (Err refusal) mangling skip buffer parts = without_text (refused refusal skip buffer) parts

-- what is answered for the symbol of a name of a kind, or the status of a name without a symbol
unfoldable pub parts_of_kind : Parsing → (legacy : Bool) → Result Kind ℕ → (name buffer : List ℕ) → (parts : List NamePart) → PartsEnding
parts_of_kind parses legacy (Ok kind) name buffer parts =
    parsed_told (parses kind (symbol_of kind name)) (mangling_number (mangling_of legacy kind.lang (symbol_of kind name))) kind.skip buffer parts
parts_of_kind parses legacy (Err status) name buffer parts = without_text (status_alone status buffer) parts

abbrev pub name_parts_told : Parsing → Asked → (name buffer : List ℕ) → (parts : List NamePart) → PartsEnding
name_parts_told parses asked name buffer parts = parts_of_kind parses asked.legacy (named asked.underscore name) name buffer parts

-- whether texts are whole
unfoldable pub is_whole : Texts → Bool
is_whole texts.Whole = true
is_whole _ = false

-- what is answered for symbols where flags request this; short texts and types have no parts (status 8)
unfoldable pub parts_told : Option Asked → (limit : ℕ) → (name buffer : List ℕ) → (parts : List NamePart) → PartsEnding
parts_told None limit name buffer parts = without_text (status_alone 8 buffer) parts
parts_told (Some asked) limit name buffer parts =
    if is_whole asked.texts && not asked.types
    then name_parts_told (parsed_by (cpp_by asked.wide) cpp_marking asked.legacy limit asked.detail) asked name buffer parts
    else without_text (status_alone 8 buffer) parts

-- A call ends this way, or runs out of memory and leaves the buffer and the parts as they were. Calls that are refused for their arguments
-- never run out of memory.
abbrev pub PartsEndAs : (wanted : PartsEnding) → (old_buffer : List ℕ) → (old_parts : List NamePart) → (found : PartsEnding) → Type 0
PartsEndAs wanted old_buffer old_parts found =
    (found ≡ wanted) ⊎ ((wanted.ending.status ≤ 6) × (found ≡ without_text (status_alone 5 old_buffer) old_parts))
