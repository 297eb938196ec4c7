-- How a text is walked through from the inside out, by rules for names and for lists.
use Rattle.std.specs.Prelude.{◌≡◌, ℕ, zero, suc, List, [], ◌∷◌, ◌++◌, ◌+◌, ◌-◌, Bool, true, false, ◌==◌, ◌&&◌, ◌||◌, nat_eq, length, take, drop, codes, Option, None, Some, if◌then◌else◌}
use Rattle.std.specs.List.{starts_with}
use Rattle.short_names.specs.Runs.{is_name_byte, run_of, operator_size}

-- What is written in place of a part of a text, and how many of the bytes after that part are written with it.
pub record Answer : Type 0 where
  pub bytes : List ℕ
  pub size : ℕ

-- Rules: which names have lists that are changed; what is written for another name that is changed, by the text after the
-- name, and how many bytes this replaces, from the name's first on; and what is written for a name and its list, by the list's
-- elements and the text after the list. A list after any other name counts as a list without a name.
pub record Rules : Type 0 where
  pub opens : (run : List ℕ) → Bool
  pub for_name : (run rest : List ℕ) → Option Answer
  pub for_list : (run : List ℕ) → (elements : List (List ℕ)) → (rest : List ℕ) → Answer

-- An open bracket: its byte, the name before it if it is a list's, what was written before this name in the element around it,
-- and its own elements that have ended.
pub record Opened : Type 0 where
  pub bracket : ℕ
  pub name : List ℕ
  pub before : List ℕ
  pub elements : List (List ℕ)

-- What was written: the brackets that are open, the innermost first, and what was written so far of the current element.
pub record Written : Type 0 where
  pub opened : List Opened
  pub last : List ℕ

-- A step: how many bytes of the text it took, and what was written after it.
pub record Stepped : Type 0 where
  pub size : ℕ
  pub written : Written

abbrev pub is_list : Opened → Bool
is_list top = top.bracket == 60

abbrev pub is_empty : List Opened → Bool
is_empty [] = true
is_empty (top ∷ around) = false

-- a part of a text is written as it is, or as an answer says
abbrev pub keeps : List ℕ → Written → Option Stepped
keeps bytes written = Some (record { size = length bytes; written = record written { last = written.last ++ bytes } })

abbrev pub answers : ℕ → Answer → Written → Option Stepped
answers size answer written = Some (record { size = size + answer.size; written = record written { last = written.last ++ answer.bytes } })

-- a bracket is opened, with the name before it
abbrev pub opens : (bracket : ℕ) → (name : List ℕ) → Written → Option Stepped
opens bracket name written = Some (record {
  size = length name + 1;
  written = record { opened = record { bracket = bracket; name = name; before = written.last; elements = [] } ∷ written.opened; last = [] };
})

-- the operator's sign after a run, if the sign is no bracket; outside of brackets no sign is needed
abbrev pub sign_of : List Opened → (run rest : List ℕ) → List ℕ
sign_of [] run rest = []
sign_of (top ∷ around) run rest = take (operator_size run rest) rest

-- a name without a changed list, and an operator's sign after it
abbrev pub at_plain : (run rest : List ℕ) → Written → Option Answer → Option Stepped
at_plain run rest written None = keeps (run ++ sign_of written.opened run rest) written
at_plain run rest written (Some answer) = answers 0 answer written

-- a name, and a list that follows it
abbrev pub at_name : Rules → (run rest : List ℕ) → Written → Option Stepped
at_name rules run rest written =
    if starts_with nat_eq rest (codes "<") && rules.opens run then opens 60 run written
    else at_plain run rest written (rules.for_name run rest)

-- `>` closes the innermost bracket, if it is a list's
abbrev pub closes_list : Rules → Opened → List Opened → (last rest : List ℕ) → Option Stepped
closes_list rules list around last rest =
    answers 1 (rules.for_list list.name (list.elements ++ last ∷ []) rest) (record { opened = around; last = list.before })

-- another closing bracket closes the innermost open one, unless that one is a list's
abbrev pub closes_group : Opened → List Opened → ℕ → List ℕ → Option Stepped
closes_group group around byte last = keeps (byte ∷ []) (record { opened = around; last = group.before ++ group.bracket ∷ last })

-- `, ` ends an element of a list
abbrev pub ends_element : Opened → List Opened → List ℕ → Option Stepped
ends_element list around last =
    Some (record { size = 2; written = record { opened = record list { elements = list.elements ++ last ∷ [] } ∷ around; last = [] } })

-- the opening brackets, `<`, `(`, `[`, `{`; and the closing ones other than a list's
abbrev pub is_opening : ℕ → Bool
is_opening byte = byte == 60 || byte == 40 || byte == 91 || byte == 123

abbrev pub is_closing : ℕ → Bool
is_closing byte = byte == 41 || byte == 93 || byte == 125

-- A byte that belongs to no name, within a bracket, with the text that begins with that byte. An arrow is no bracket.
unfoldable pub at_sign : Rules → Opened → List Opened → (byte : ℕ) → (rest : List ℕ) → Written → Option Stepped
at_sign rules top around byte rest written =
    if is_opening byte then opens byte [] written
    else (if byte == 62 then (if is_list top then closes_list rules top around written.last rest else None)
    else (if is_closing byte then (if is_list top then None else closes_group top around byte written.last)
    else (if is_list top && starts_with nat_eq (byte ∷ rest) (codes ", ") then ends_element top around written.last
    else (if starts_with nat_eq (byte ∷ rest) (codes "->") then keeps (codes "->") written
    else keeps (byte ∷ []) written))))

-- a byte that belongs to no name; outside of brackets it is written as it is
abbrev pub at_byte : Rules → List Opened → (byte : ℕ) → (rest : List ℕ) → Written → Option Stepped
at_byte rules [] byte rest written = keeps (byte ∷ []) written
at_byte rules (top ∷ around) byte rest written = at_sign rules top around byte rest written

-- A piece of a nonempty text: a run of bytes of names, or a sign.
unfoldable pub stepped : Rules → (byte : ℕ) → (rest : List ℕ) → Written → Option Stepped
stepped rules byte rest written =
    let run = run_of (byte ∷ rest) in
    if is_name_byte byte then at_name rules run (drop (length run) (byte ∷ rest)) written
    else at_byte rules written.opened byte rest written

-- ## A text

-- What is written for a text whose first `skipped` bytes were written before; none if the text's brackets don't pair.
unfoldable pub written_for : Rules → (skipped : ℕ) → List ℕ → Written → Option Written
written_for rules skipped [] written = Some written
written_for rules (suc skipped) (byte ∷ text) written = written_for rules skipped text written
written_for rules zero (byte ∷ text) written = elim (stepped rules byte text written) [
  | None ↦ None
  | Some next ↦ written_for rules (next.size - 1) text next.written
]

abbrev pub start : Written
start = record { opened = []; last = [] }

-- what was written, if each bracket was closed
abbrev pub closed_text : List ℕ → List Opened → List ℕ → List ℕ
closed_text text [] last = last
closed_text text (top ∷ around) last = text

abbrev pub text_or : List ℕ → Option Written → List ℕ
text_or text None = text
text_or text (Some written) = closed_text text written.opened written.last

-- A text by rules. A text whose brackets don't pair stays as it is.
unfoldable pub by_rules : Rules → List ℕ → List ℕ
by_rules rules text = text_or text (written_for rules 0 text start)

-- what was written, if anything was, has no open bracket
abbrev pub is_closed : Option Written → Bool
is_closed None = false
is_closed (Some written) = is_empty written.opened

-- the brackets of a text pair, as far as rules look at them
abbrev pub Pairs : Rules → List ℕ → Type 0
Pairs rules text = is_closed (written_for rules 0 text start) ≡ true
