-- What is known of a path or a type that was read, by the forms in which its text is right.
use Rattle.std.specs.Prelude.{◌≡◌, ℕ, List, Bool, true, false, cond, Some}
use Rattle.rust_tree.specs.Symbol.{Path, Ty}
use Rattle.rust_grammar.specs.Value.{Value, a_path}
use Rattle.rust_grammar.specs.Unfold.{as_path, as_type}
use Rattle.rust_direct.specs.declared.open.Forms.{Forms}
use Rattle.rust_direct.specs.declared.open.Forms.TheVariants as forms
use Rattle.rust_direct.specs.Prints.{PathPrints, TypePrints, HasRoom}

-- A path with this text in each of these forms.
abbrev pub PathHas : (brief : Bool) → Forms → Path → (bytes : List ℕ) → Type 0
PathHas brief forms.Alike p bytes = PathPrints brief true p bytes × PathPrints brief false p bytes
PathHas brief forms.Valued p bytes = PathPrints brief true p bytes
PathHas brief forms.Plain p bytes = PathPrints brief false p bytes
PathHas brief _ p bytes = ⊥

-- In each of these forms, the bound on the path's cost has room for one more part without text.
abbrev pub HaveRoom : (brief : Bool) → Forms → Path → (bytes : List ℕ) → Type 0
HaveRoom brief forms.Alike p bytes = HasRoom brief true p bytes × HasRoom brief false p bytes
HaveRoom brief forms.Valued p bytes = HasRoom brief true p bytes
HaveRoom brief forms.Plain p bytes = HasRoom brief false p bytes
HaveRoom brief _ p bytes = ⊥

-- what a reference may assume of the value that it names, if the value was written in these forms
abbrev pub Says : (brief : Bool) → Forms → Value → (bytes : List ℕ) → Type 0
Says brief forms.Typed v bytes = (t : Ty) × (as_type (Some v) ≡ Some t) × TypePrints brief t bytes
Says brief forms.Unnamed v bytes = Unit {0}
Says brief f v bytes = (p : Path) × (as_path (Some v) ≡ Some p) × PathHas brief f p bytes

-- a path or a type that was read, with this text
abbrev pub Holds : (brief : Bool) → Forms → Value → (bytes : List ℕ) → Type 0
Holds brief forms.Typed v bytes = (t : Ty) × (as_type (Some v) ≡ Some t) × TypePrints brief t bytes
Holds brief forms.Unnamed v bytes = ⊥
Holds brief f v bytes = (p : Path) × (v ≡ a_path p) × PathHas brief f p bytes

-- the text is right in a form of a path: after a value, or elsewhere
abbrev pub has_form : (value : Bool) → Forms → Bool
has_form value forms.Alike = true
has_form true forms.Valued = true
has_form false forms.Plain = true
has_form value _ = false

-- the text is that of a path
abbrev pub is_path : Forms → Bool
is_path forms.Typed = false
is_path forms.Unnamed = false
is_path _ = true

-- the text is that of a type
abbrev pub is_type : Forms → Bool
is_type forms.Valued = false
is_type forms.Unnamed = false
is_type _ = true

-- the form in which a path with arguments is written
abbrev pub form_of : (value : Bool) → Forms
form_of value = cond value forms.Valued forms.Plain
