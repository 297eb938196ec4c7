-- Trees of Rust whose text is known. No lifetime is bound around them.
use Rattle.std.specs.Prelude.{◌≡◌, ℕ, ◌+◌, ◌*◌, ◌≤◌, List, [], ◌∷◌, ◌++◌, length, Bool, true, false, Option, Some, None, codes, cond}
use Rattle.sym_print.specs.declared.detail.Detail.{Detail}
use Rattle.sym_print.specs.declared.detail.Detail.TheVariants.{Full, Brief}
use Rattle.sym_print.specs.Unshared.{Unshared, text_of, cost_of}
use Rattle.sym_direct.specs.Marked.{opens, closes, IsUnmarked, IsHidden, IsSeenAs}
use Rattle.rust_tree.specs.Symbol.{Path, Ty, Arguments, Tys}
use Rattle.rust_tree.specs.Need.{need, need_of_type, need_of_types, need_of_arguments}
use Rattle.rust_tree.specs.Shown.{path_parts, type_parts, arguments_from, types_from}

-- how much is shown: all, or names without their arguments
abbrev pub detail_by : (brief : Bool) → Detail
detail_by true = Brief
detail_by false = Full

-- How a text is written as bytes. If all is shown, they are the text. Otherwise the visible bytes are the text, unless the text
-- is in a stretch that is left out.
pub record IsWrittenAs (brief : Bool) (text bytes : List ℕ) : Type 0 where
  pub whole : brief ≡ false → text ≡ bytes
  pub seen : brief ≡ true → IsSeenAs bytes text
  pub hidden : brief ≡ true → IsHidden bytes

-- parts that were written as these bytes, and cost at most four for each byte
pub record Shows (brief : Bool) (parts : Unshared) (bytes : List ℕ) : Type 0 where
  pub text_is : IsWrittenAs brief (text_of parts) bytes
  pub cost : 1 + cost_of parts ≤ 4 * length bytes

-- parts that have this text, none of them ever left out
pub record Spells (parts : Unshared) (bytes : List ℕ) : Type 0 where
  pub text_is : text_of parts ≡ bytes
  pub plain : IsUnmarked bytes
  pub cost : 1 + cost_of parts ≤ 4 * length bytes

-- A path with this text in a form: in the form of a value, the path's arguments follow `::`. The path needs no lifetime that
-- is bound around it.
pub record PathPrints (brief : Bool) (value : Bool) (p : Path) (bytes : List ℕ) : Type 0 where
  pub shows : Shows brief (path_parts (detail_by brief) 0 value p) bytes
  pub needs_none : need p ≡ 0

-- Printing the path costs at least one less than the bound, so one more part without text fits.
abbrev pub HasRoom : (brief : Bool) (value : Bool) → Path → (bytes : List ℕ) → Type 0
HasRoom brief value p bytes = 2 + cost_of (path_parts (detail_by brief) 0 value p) ≤ 4 * length bytes

-- a type with this text
pub record TypePrints (brief : Bool) (t : Ty) (bytes : List ℕ) : Type 0 where
  pub shows : Shows brief (type_parts (detail_by brief) 0 t) bytes
  pub needs_none : need_of_type t ≡ 0

-- ## Lists

-- what optional parts print, and what they cost
abbrev pub text_of_some : Option Unshared → List ℕ
text_of_some None = []
text_of_some (Some parts) = text_of parts

abbrev pub cost_of_some : Option Unshared → ℕ
cost_of_some None = 0
cost_of_some (Some parts) = cost_of parts

-- the bytes before and after the arguments of a path: marks where arguments aren't shown
abbrev pub opening : (brief : Bool) (value : Bool) → List ℕ
opening true value = opens ∷ []
opening false value = cond value (codes "::<") (codes "<")

abbrev pub closing : (brief : Bool) → List ℕ
closing true = closes ∷ []
closing false = codes ">"

-- Arguments with this text. They need no lifetime that is bound around them.
pub record ArgumentsPrint (brief : Bool) (args : Arguments) (bytes : List ℕ) : Type 0 where
  pub text_is : IsWrittenAs brief (text_of_some (arguments_from (detail_by brief) 0 [] args)) bytes
  pub cost : cost_of_some (arguments_from (detail_by brief) 0 [] args) ≤ 4 * length bytes
  pub needs_none : need_of_arguments args ≡ 0

-- The arguments so far have this text, whatever arguments follow. A separator comes before the next argument.
pub record ArgumentsBegin (brief : Bool) (made : Arguments → Arguments) (separator bytes : List ℕ) : Type 0 where
  pub plain : IsUnmarked separator
  pub text_is : (rest : Arguments) (more : List ℕ) → IsWrittenAs brief (text_of_some (arguments_from (detail_by brief) 0 separator rest)) more
      → IsWrittenAs brief (text_of_some (arguments_from (detail_by brief) 0 [] (made rest))) (bytes ++ more)
  pub cost : (rest : Arguments) → cost_of_some (arguments_from (detail_by brief) 0 [] (made rest)) ≤ 4 * length bytes + cost_of_some (arguments_from (detail_by brief) 0 separator rest)
  pub needs_none : (rest : Arguments) → need_of_arguments rest ≡ 0 → need_of_arguments (made rest) ≡ 0

-- likewise for the types of a tuple
pub record TypesBegin (brief : Bool) (made : Tys → Tys) (separator bytes : List ℕ) : Type 0 where
  pub plain : IsUnmarked separator
  pub text_is : (rest : Tys) (more : List ℕ) → IsWrittenAs brief (text_of_some (types_from (detail_by brief) 0 separator rest)) more
      → IsWrittenAs brief (text_of_some (types_from (detail_by brief) 0 [] (made rest))) (bytes ++ more)
  pub cost : (rest : Tys) → cost_of_some (types_from (detail_by brief) 0 [] (made rest)) ≤ 4 * length bytes + cost_of_some (types_from (detail_by brief) 0 separator rest)
  pub needs_none : (rest : Tys) → need_of_types rest ≡ 0 → need_of_types (made rest) ≡ 0
