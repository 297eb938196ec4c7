-- The qualifiers of member functions: where they are, what they qualify, and what is written for them.
use Rattle.std.specs.Prelude.{◌≡◌, ℕ, ◌+◌, List, [], length, Bool, true, false, codes}
use Rattle.cpp_grammar.specs.Term.{RefQualifier, any_value, lvalue_only, rvalue_only}
use Rattle.cpp_direct.specs.declared.marks.MarkPlace.{MarkPlace}
use Rattle.cpp_direct.specs.declared.open.Mark.{Mark}
use Rattle.cpp_direct.specs.declared.open.Mark.TheVariants as marks
use Rattle.cpp_direct.specs.Holes.{StandsAt}
use Rattle.cpp_direct.specs.HolesOfLists.{mark_letters}

-- the function is const
abbrev pub has_const : Mark → Bool
has_const marks.Plain = false
has_const marks.Const = true
has_const marks.Lvalue = false
has_const marks.ConstLvalue = true
has_const marks.Rvalue = false
has_const marks.ConstRvalue = true

-- the ref-qualifier of the function
abbrev pub called_on : Mark → RefQualifier
called_on marks.Plain = any_value
called_on marks.Const = any_value
called_on marks.Lvalue = lvalue_only
called_on marks.ConstLvalue = lvalue_only
called_on marks.Rvalue = rvalue_only
called_on marks.ConstRvalue = rvalue_only

-- the text of the qualifiers, after the function's parameters
abbrev pub mark_text : Mark → List ℕ
mark_text marks.Plain = []
mark_text marks.Const = codes " const"
mark_text marks.Lvalue = codes " &"
mark_text marks.ConstLvalue = codes " const &"
mark_text marks.Rvalue = codes " &&"
mark_text marks.ConstRvalue = codes " const &&"

-- The letters of `place.mark` are at the place, and `place.end` is the place after them.
pub record IsMarkPlace (s : List ℕ) (at : ℕ) (place : MarkPlace) : Type 0 where
  pub stands : StandsAt s at (mark_letters (has_const place.mark) (called_on place.mark))
  pub ends : place.end ≡ at + length (mark_letters (has_const place.mark) (called_on place.mark))
