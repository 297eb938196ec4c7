-- What is written for names, and what is said of names that stay.
use Rattle.std.specs.Prelude.{◌≡◌, ℕ, List, [], ◌∷◌, ◌++◌, Bool, true, false, not, ◌==◌, ◌||◌, ◌&&◌, Option, Some, None, Result, Ok, Err, codes, if◌then◌else◌}
use Rattle.std.specs.List.{flat_map, list_any}
use Rattle.sym_core.specs.declared.refusal.Refusal.{Refusal}
use Rattle.sym_filter.specs.declared.kinds.Letters.TheVariants.{Within}
use Rattle.sym_filter.specs.declared.words.Tally.{Tally}
use Rattle.sym_filter.specs.Runs.{Answering, filtered_at, tally_at}
use Rattle.sym_filter.specs.Streams.{BeginsWith, PutsFront}
use Rattle.sym_command.specs.Lines.{answer_for, reason_of}
use Rattle.type_names.specs.Types.{type_for}

-- a text in which each word that has a text is replaced by that text; words may begin within runs
abbrev pub filtered : Answering → List ℕ → List ℕ
filtered answers text = filtered_at Within answers text

-- the line of a name
abbrev pub line_of : List ℕ → List ℕ
line_of name = name ++ 10 ∷ []

-- a text stays if one of its words has no text, or if the text has no word
abbrev pub stays_by : Tally → Bool
stays_by tally = not (tally.refused == 0) || (tally.replaced == 0)

abbrev pub name_stays : Answering → List ℕ → Bool
name_stays answers name = stays_by (tally_at Within answers (line_of name))

-- why a name stays, by the answer for it as a symbol
abbrev pub reason_by : Option (Result (List ℕ) Refusal) → List ℕ
reason_by None = codes "not a symbol"
reason_by (Some (Ok text)) = codes "not a symbol"
reason_by (Some (Err refusal)) = reason_of refusal

-- the line on standard error that says why a name stays
abbrev pub said_line : List ℕ → List ℕ → List ℕ
said_line name reason = codes "demangle: " ++ name ++ codes ": " ++ reason ++ 10 ∷ []

-- the line that says why a name stays, if that is requested; otherwise nothing
abbrev pub said_if : Bool → Answering → List ℕ → List ℕ
said_if true answers name = said_line name (reason_by (answer_for answers name))
said_if false answers name = []

abbrev pub said_of : (why : Bool) → Answering → List ℕ → List ℕ
said_of why answers name = said_if (why && name_stays answers name) answers name

-- ## Names, which may be types

-- what is written for a name: if it is a type, the line of the type's text; otherwise its own line, filtered
abbrev pub written_by : Option (List ℕ) → Answering → List ℕ → List ℕ
written_by (Some text) answers name = line_of text
written_by None answers name = filtered answers (line_of name)

-- whether the name stays; a type never does
abbrev pub stays_by_type : Option (List ℕ) → Answering → List ℕ → Bool
stays_by_type (Some text) answers name = false
stays_by_type None answers name = name_stays answers name

abbrev pub written_for : (types : Bool) → Answering → List ℕ → List ℕ
written_for types answers name = written_by (type_for types answers name) answers name

abbrev pub stays_for : (types : Bool) → Answering → List ℕ → Bool
stays_for types answers name = stays_by_type (type_for types answers name) answers name

-- what is said of a name
abbrev pub said_for : (types why : Bool) → Answering → List ℕ → List ℕ
said_for types why answers name = said_if (why && stays_for types answers name) answers name

-- Names are answered one by one. If reasons are requested, a line says for each name that stays why it does.
pub record AnswersNames (answers : Answering) (types why : Bool) (names : List (List ℕ)) (one_stays : Bool) (lines said : List ℕ) : Type 0 where
  pub are_lines : lines ≡ flat_map (written_for types answers) names
  pub is_said : said ≡ flat_map (said_for types why answers) names
  pub stay : one_stays ≡ list_any (stays_for types answers) names

-- ## Up to a fault

-- for a name that is no type, a beginning of its line was filtered, and a beginning of the filtered text was written
pub record LineFront (answers : Answering) (why : Bool) (name : List ℕ) (lines said : List ℕ) : Type 0 where
  pub text : List ℕ
  pub text_begins : BeginsWith (line_of name) text
  pub lines_begin : BeginsWith (filtered answers text) lines
  pub said_begins : BeginsWith (said_of why answers name) said

-- for a type, a beginning of its line was written
abbrev pub NameFrontBy : Option (List ℕ) → Answering → (why : Bool) → (name lines said : List ℕ) → Type 0
NameFrontBy (Some text) answers why name lines said = BeginsWith (line_of text) lines × (said ≡ [])
NameFrontBy None answers why name lines said = LineFront answers why name lines said

abbrev pub NameFront : Answering → (types why : Bool) → (name lines said : List ℕ) → Type 0
NameFront answers types why name lines said = NameFrontBy (type_for types answers name) answers why name lines said

-- the first names were answered whole, and the next one in part
pub record NamesFront (answers : Answering) (types why : Bool) (names : List (List ℕ)) (lines said : List ℕ) : Type 0 where
  pub whole : List (List ℕ)
  pub next : List ℕ
  pub others : List (List ℕ)
  pub are_names : names ≡ whole ++ next ∷ others
  pub next_lines : List ℕ
  pub next_said : List ℕ
  pub are_lines : lines ≡ flat_map (written_for types answers) whole ++ next_lines
  pub is_said : said ≡ flat_map (said_for types why answers) whole ++ next_said
  pub front : NameFront answers types why next next_lines next_said

-- A beginning of a text was filtered, and a beginning of the filtered text was written.
pub record FiltersSome (answers : Answering) (whole : List ℕ) (taken taken' : Option (List ℕ)) : Type 0 where
  pub text : List ℕ
  pub begins : BeginsWith whole text
  pub puts : PutsFront taken taken' [] (filtered answers text)

-- the status: 1 if a name stays although none may
abbrev pub status_of : (strict one_stays : Bool) → ℕ
status_of strict one_stays = if strict && one_stays then 1 else 0
