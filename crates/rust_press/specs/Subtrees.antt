-- The pressed spelling of a part of a symbol is read as this part, after whatever was spelled before it.
use Rattle.std.specs.Prelude.{◌≡◌, ℕ, ◌≤◌, ◌⊎◌, List, [], ◌∷◌, length, Bool, Option}
use Rattle.sym_shape.specs.declared.rule.Sym.TheVariants.{Kind}
use Rattle.rust_grammar.specs.declared.production.Production.{Production}
use Rattle.rust_grammar.specs.Value as value
use Rattle.rust_grammar.specs.Value.{Value}
use Rattle.rust_grammar.specs.Unfold.{greatest_u64}
use Rattle.rust_tree.specs.Symbol as tree
use Rattle.rust_tree.specs.Need.{need, need_of_type}
use Rattle.rust_press.specs.Spellable.{IsSpellable, IsSpellableType, IsSpellableConstant}
use Rattle.rust_press.specs.Pressing.{press_path, press_constant, type_or_reference, spell_type}
use Rattle.rust_press.specs.PressLaws.{Presses}

-- what a type is read as: the type itself, or the path that the type is
abbrev pub IsTypeValue : tree.Ty → List Value → Type 0
IsTypeValue type values = (values ≡ value.a_type type ∷ []) ⊎ ((path : tree.Path) × (type ≡ tree.path_type path) × (values ≡ value.a_path path ∷ []))

-- A path that a symbol may have, and that closes under the bound lifetimes, is read where it is pressed: as a reference
-- to what ended before, or spelled out. The whole spelling has a length of 64 bits.
abbrev pub PathsAreRead : Type 0
PathsAreRead =
    (s : List ℕ) (bound : ℕ) (inside : Option Production) (minus : Bool) (path : tree.Path)
    → length s ≤ greatest_u64 → IsSpellable path → need path ≤ bound
    → Presses s bound inside minus (Kind 1) (press_path path) (λ values. values ≡ value.a_path path ∷ [])

-- A type that a symbol may have, and that closes under the bound lifetimes, is read in the same way.
abbrev pub TypesAreRead : Type 0
TypesAreRead =
    (s : List ℕ) (bound : ℕ) (inside : Option Production) (minus : Bool) (type : tree.Ty)
    → length s ≤ greatest_u64 → IsSpellableType type → need_of_type type ≤ bound
    → Presses s bound inside minus (Kind 11) (type_or_reference type (spell_type type)) (IsTypeValue type)

-- A constant that a symbol may have is read in the same way.
abbrev pub ConstantsAreRead : Type 0
ConstantsAreRead =
    (s : List ℕ) (bound : ℕ) (inside : Option Production) (minus : Bool) (constant : tree.Constant)
    → length s ≤ greatest_u64 → IsSpellableConstant constant
    → Presses s bound inside minus (Kind 21) (press_constant constant) (λ values. values ≡ value.a_constant constant ∷ [])
