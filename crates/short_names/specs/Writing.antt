-- What has been written of a short text at a place of the original text, by the writer's lists.
use Rattle.std.specs.Prelude.{◌≡◌, ◌≤◌, ◌<◌, ℕ, List, [], ◌∷◌, ◌++◌, ◌+◌, ◌-◌, Bool, true, false, length, take, drop, get_or, codes, slice_get, Option, None, Some, Result, IfOk, OnOk}
use Rattle.short_names.specs.declared.writing.Listed.{Listed}
use Rattle.short_names.specs.declared.writing.Bracket.{Bracket}
use Rattle.short_names.specs.declared.writing.Writing.{Writing}
use Rattle.short_names.specs.declared.table.TheConstants.{TEMPLATES, STD, STRING_LIST, STRING_TEMPLATE}
use Rattle.short_names.specs.declared.names.Change.{Change}
use Rattle.short_names.specs.declared.names.Change.TheVariants as changes
use Rattle.short_names.specs.Changes.{IsChange, is_nothing}
use Rattle.short_names.specs.Names.{named_in, with_template}
use Rattle.short_names.specs.Plain.{behind_run}
use Rattle.short_names.specs.Runs.{run_of, is_name_byte}
use Rattle.short_names.specs.Closing.{IsString}
use Rattle.short_names.specs.Elements.{joined}
use Rattle.short_names.specs.Short.{short_rules, for_list}
use Rattle.short_names.specs.Starts.{starts_of}
use Rattle.short_names.specs.Walk.{Answer, Opened, Written, is_list, written_for, start}

-- elements that have ended, each with `, ` after it
unfoldable pub ended : List (List ℕ) → List ℕ
ended [] = []
ended (element ∷ elements) = element ++ codes ", " ++ ended elements

-- what was written before the innermost element, and all that was written
unfoldable pub before_last : List Opened → List ℕ
before_last [] = []
before_last (top ∷ around) = (before_last around ++ top.before ++ top.name) ++ top.bracket ∷ ended top.elements

abbrev pub all_of : Written → List ℕ
all_of written = before_last written.opened ++ written.last

-- the name of the table before a list
abbrev pub IsListed : (name : List ℕ) → Option Listed → Type 0
IsListed name None = named_in name ≡ None
IsListed name (Some listed) = (listed.row < length TEMPLATES) × (named_in name ≡ with_template listed.whole (slice_get TEMPLATES listed.row))

-- an open bracket; the text before its element, and the elements around the bracket that have begun, come before it
pub record IsOpen (top : Opened) (before : List ℕ) (bracket : Bracket) (earlier : ℕ) (starts : List ℕ) : Type 0 where
  pub kind : bracket.is_list ≡ is_list top
  pub named : IsListed top.name bracket.named
  pub place_is : bracket.place ≡ length (before ++ top.before ++ top.name)
  pub first_is : bracket.first ≡ earlier
  pub starts_are : starts ≡ starts_of (bracket.place + 1) (top.elements ++ [] ∷ [])
  pub no_list : is_list top ≡ false → (top.name ≡ []) × (top.elements ≡ [])

-- the open brackets, the outermost first, and the starts of all elements that have begun
pub record IsInnermost (P : List Bracket → List ℕ → Type 0) (top : Opened) (before : List ℕ) (brackets : List Bracket) (starts : List ℕ) : Type 0 where
  pub bracket : Bracket
  pub around : List Bracket
  pub earlier : List ℕ
  pub own : List ℕ
  pub brackets_are : brackets ≡ around ++ bracket ∷ []
  pub starts_are : starts ≡ earlier ++ own
  pub is : IsOpen top before bracket (length earlier) own
  pub outer : P around earlier

abbrev pub AreOpen : List Opened → List Bracket → List ℕ → Type 0
AreOpen [] brackets starts = (brackets ≡ []) × (starts ≡ [])
AreOpen (top ∷ around) brackets starts = IsInnermost (AreOpen around) top (before_last around) brackets starts

-- The lists hold what was written up to a place of the text. This includes the bytes before that place that weren't copied
-- yet.
pub record IsAt (text : List ℕ) (now : Writing) (written : Written) : Type 0 where
  pub goes_on : written_for short_rules 0 (drop now.at text) written ≡ written_for short_rules 0 text start
  pub copied : now.copied ≤ now.at
  pub within : now.at ≤ length text
  pub bytes : now.out.items ++ take (now.at - now.copied) (drop now.copied text) ≡ all_of written
  pub opened : AreOpen written.opened now.brackets.items now.starts.items

-- after a step from a place, more of the text was written; `Steps` also allows brackets that don't pair
pub record Goes (text : List ℕ) (from : ℕ) (now : Writing) : Type 0 where
  pub written : Written
  pub is : IsAt text now written
  pub further : from < now.at

abbrev pub Steps : (text : List ℕ) → (from : ℕ) → Writing → (pairs : Bool) → Type 0
Steps text from now true = Goes text from now
Steps text from now false = written_for short_rules 0 text start ≡ None

-- the text isn't at its end
abbrev pub CanStep : (text : List ℕ) → Writing → Type 0
CanStep text now = (written : Written) × IsAt text now written × (now.at < length text)

-- a run is at the place, with what becomes shorter there; outside of brackets something becomes shorter
abbrev pub CanChange : (text : List ℕ) → Writing → (size : ℕ) → Change → Type 0
CanChange text now size change =
    CanStep text now × (is_name_byte (get_or text now.at 0) ≡ true) × (size ≡ length (run_of (drop now.at text)))
    × IsChange (run_of (drop now.at text)) (behind_run (drop now.at text)) change × (now.at + size ≤ length text) × (is_nothing change ≡ true → 0 < length now.brackets.items)

-- a usual name and a constructor or destructor that follows it are at the place
abbrev pub IsAtMember : (text : List ℕ) → Writing → (row size : ℕ) → Type 0
IsAtMember text now row size =
    CanStep text now × (is_name_byte (get_or text now.at 0) ≡ true)
    × IsChange (run_of (drop now.at text)) (behind_run (drop now.at text)) (changes.Member row size) × (now.at + size ≤ length text)

-- the template of `std::string` and its list, which become `std::string`, are at the place
abbrev pub IsAtString : (text : List ℕ) → Writing → (size : ℕ) → Type 0
IsAtString text now size =
    CanStep text now × (is_name_byte (get_or text now.at 0) ≡ true) × (size ≡ length (run_of (drop now.at text)))
    × (named_in (run_of (drop now.at text)) ≡ with_template STD (slice_get TEMPLATES STRING_TEMPLATE)) × IsString STD STRING_TEMPLATE (behind_run (drop now.at text))
    × (now.at + size + length STRING_LIST ≤ length text)

-- whatever was written before, more was written
abbrev pub GoesFrom : {E : Type 0} → (text : List ℕ) → (old new : Writing) → Result (Unit {0}) E → Type 0
GoesFrom text old new result = (written : Written) → IsAt text old written → OnOk result (Goes text old.at new)

-- whatever was written before, more was written, or brackets don't pair
abbrev pub StepsFrom : {E : Type 0} → (text : List ℕ) → (old new : Writing) → Result Bool E → Type 0
StepsFrom text old new result = (written : Written) → IsAt text old written → IfOk result (λ pairs. Steps text old.at new pairs)

-- ## Closing

-- the innermost bracket was closed, and nothing was written
pub record IsClosed (old new : Writing) (around : List Bracket) (bracket : Bracket) : Type 0 where
  pub at_is : new.at ≡ old.at + 1
  pub copied_is : new.copied ≡ old.copied
  pub out_is : new.out.items ≡ old.out.items
  pub brackets_are : new.brackets.items ≡ around
  pub starts_are : new.starts.items ≡ take bracket.first old.starts.items

-- A list of a name of the table ends at the place, with the name and its elements after a text.
pub record IsPending (text : List ℕ) (now : Writing) (list : Bracket) (listed : Listed) (before name : List ℕ) (elements : List (List ℕ)) : Type 0 where
  pub copied : now.copied ≤ now.at
  pub within : now.at < length text
  pub bytes : now.out.items ++ take (now.at - now.copied) (drop now.copied text) ≡ before ++ name ++ 60 ∷ joined elements
  pub row : listed.row < length TEMPLATES
  pub named : named_in name ≡ with_template listed.whole (slice_get TEMPLATES listed.row)
  pub place : list.place ≡ length (before ++ name)
  pub first : list.first ≤ length now.starts.items
  pub starts : drop list.first now.starts.items ≡ starts_of (list.place + 1) elements
  pub some : 0 < length elements

abbrev pub CanClose : (text : List ℕ) → Writing → Bracket → Listed → Type 0
CanClose text now list listed = (before : List ℕ) × (name : List ℕ) × (elements : List (List ℕ)) × IsPending text now list listed before name elements

-- what is written for a name and its list comes after the text before the name
abbrev pub answer_of : (text : List ℕ) → (at : ℕ) → (name : List ℕ) → (elements : List (List ℕ)) → Answer
answer_of text at name elements = for_list (named_in name) name elements (drop (at + 1) text)

pub record IsShortened (text : List ℕ) (old new : Writing) (listed : Listed) (before name : List ℕ) (elements : List (List ℕ)) : Type 0 where
  pub out_is : new.out.items ≡ before ++ (answer_of text old.at name elements).bytes
  pub at_is : new.at ≡ old.at + (1 + (answer_of text old.at name elements).size)
  pub within : new.at ≤ length text
  pub copied_is : new.copied ≡ new.at
  pub brackets_are : new.brackets.items ≡ old.brackets.items
  pub starts_are : new.starts.items ≡ old.starts.items
