-- What a name is.
use Rattle.std.specs.Prelude.{ℕ, List, Bool, is_some, false, true, Option, Some, None, Result, Ok, Err, if◌then◌else◌}
use Rattle.sym_core.specs.declared.refusal.Refusal.{Refusal}
use Rattle.sym_filter.specs.Kinds.{kind_of, symbol_of}
use Rattle.sym_filter.specs.Runs.{Answering, text_for, trimmed}
use Rattle.sym_filter.specs.declared.kinds.Kind.{Kind}
use Rattle.text_details.specs.Details.{Details, Detailing, details_in}
use Rattle.type_names.specs.Types.{type_for}
use Rattle.text_details.specs.Manglings.{mangling_of}
use Rattle.text_details.specs.declared.manglings.Mangling.{Mangling}
use Rattle.text_details.specs.declared.manglings.Mangling.TheVariants.{Itanium}
use Rattle.json_lines.specs.declared.meanings.Meaning.{Meaning as Meaning-type}
use Rattle.json_lines.specs.declared.meanings.Meaning.TheVariants as meanings

-- ## Meanings

-- a symbol or a type with a text, and perhaps the text's details; a symbol without a text, and the reason; or no symbol
pub data Meaning : Type 0 where
  has_text : Mangling → List ℕ → Option Details → Meaning
  refused : Refusal → Meaning
  no_symbol : Meaning

-- what a name is as a symbol, by the symbol's answer
abbrev pub answered : Mangling → Option Details → Result (List ℕ) Refusal → Meaning
answered mangling details (Ok text) = has_text mangling text details
answered mangling details (Err refusal) = refused refusal

-- what a name is as a symbol, by its kind
abbrev pub meaning_by : (reads_paths : Bool) → Answering → Detailing → List ℕ → Option Kind → Meaning
meaning_by reads_paths answers details name None = no_symbol
meaning_by reads_paths answers details name (Some kind) =
    answered (mangling_of reads_paths kind.lang (symbol_of kind name)) (details kind (symbol_of kind name)) (answers kind (symbol_of kind name))

unfoldable pub symbol_meaning : (reads_paths : Bool) → Answering → Detailing → List ℕ → Meaning
symbol_meaning reads_paths answers details name = meaning_by reads_paths answers details name (kind_of name)

-- what a name is: a type, if it has a text as a type, and otherwise as this meaning says
abbrev pub meaning_or : Option (List ℕ) → Meaning → Meaning
meaning_or (Some text) meaning = has_text Itanium text None
meaning_or None meaning = meaning

-- What a name is: a type, if types are read and the name is one, and otherwise what it is as a symbol. No details are known of types.
abbrev pub meaning_of : (types reads_paths : Bool) → Answering → Detailing → List ℕ → Meaning
meaning_of types reads_paths answers details name = meaning_or (type_for types answers name) (symbol_meaning reads_paths answers details name)

-- a name without a text stays
abbrev pub stays : Meaning → Bool
stays (has_text mangling text details) = false
stays (refused refusal) = true
stays no_symbol = true

-- what a name is, as code has it
abbrev pub meaning_in : Meaning-type → Meaning
meaning_in (meanings.Text text mangling details) = has_text mangling text.items (details_in details)
meaning_in (meanings.Refused refusal) = refused refusal
meaning_in meanings.NoSymbol = no_symbol

-- ## Names in a text

-- The name that a word of a text is: the word without the dots and non-ASCII bytes at its end, if what is left has a text; otherwise the
-- whole word.
unfoldable pub named_by : Answering → List ℕ → List ℕ
named_by answers word = if is_some (text_for answers (trimmed word)) then trimmed word else word
