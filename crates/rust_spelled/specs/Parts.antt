-- Which bytes spell the parts of a name that come once.
use Rattle.std.specs.Prelude.{ℕ, ◌+◌, ◌==◌, List, [], ◌∷◌, ◌++◌, Option, Some, None, if◌then◌else◌}
use Rattle.sym_shape.specs.declared.rule.Row.{Row}
use Rattle.rust_grammar.specs.declared.production.Production.{Production}
use Rattle.rust_grammar.specs.declared.production.Production.TheVariants as rules
use Rattle.sym_parts.specs.declared.role.Role.{Role}
use Rattle.sym_parts.specs.declared.role.Role.TheVariants as role
use Rattle.sym_parts.specs.declared.spelling.Span.{Span}
use Rattle.sym_parts.specs.declared.spelling.Spelled.{Spelled}
use Rattle.sym_parts.specs.Spelling.{span}
use Rattle.rust_spelled.specs.Rows.{row_at, production_at, behind, span_at}

abbrev pub spelled : Role → Span → Spelled
spelled r bytes = record { role = r; span = bytes }

-- ## The name

-- the name that a path adds: the path's parent is the scope, and what follows the parent is the base
unfoldable pub name_spelled : List Row → (named : Option ℕ) → List Spelled
name_spelled rows None = []
name_spelled rows (Some path) =
    spelled role.Scope (span_at rows (path + 2)) ∷ spelled role.Base (span (row_at rows (path + 2)).to (row_at rows path).to) ∷ []

-- ## What the name begins with

-- the row of an impl's path, after its disambiguator, if there is one
unfoldable pub impl_path_by : Option Production → List Row → (root : ℕ) → ℕ
impl_path_by (Some rules.Disambiguator) rows root = behind rows (root + 1)
impl_path_by _ rows root = root + 1

-- the row of an impl's self type, which follows the impl's path
abbrev pub impl_type : List Row → (root : ℕ) → ℕ
impl_type rows root = behind rows (impl_path_by (production_at rows (root + 1)) rows root)

-- an impl, and its self type, which is at this row
unfoldable pub impl_of_type : List Row → (root type : ℕ) → List Spelled
impl_of_type rows root type = spelled role.Impl (span_at rows root) ∷ spelled role.SelfType (span_at rows type) ∷ []

-- an impl, its self type, which is at this row, and its trait, which follows the type
unfoldable pub impl_of_trait : List Row → (root type : ℕ) → List Spelled
impl_of_trait rows root type = impl_of_type rows root type ++ spelled role.Trait (span_at rows (behind rows type)) ∷ []

-- the crate or impl that a name begins with; a reference is neither
unfoldable pub root_spelled : Option Production → List Row → (root : ℕ) → List Spelled
root_spelled (Some rules.Crate) rows root = spelled role.Crate (span_at rows root) ∷ []
root_spelled (Some rules.InherentImpl) rows root = impl_of_type rows root (impl_type rows root)
root_spelled (Some rules.TraitImpl) rows root = impl_of_trait rows root (impl_type rows root)
root_spelled (Some rules.TraitDefinition) rows root = impl_of_trait rows root (root + 1)
root_spelled _ rows root = []

-- ## What follows the symbol's path

-- the suffix, if the row with this number is one
unfoldable pub suffix_spelled : Option Production → List Row → (number : ℕ) → List Spelled
suffix_spelled (Some rules.Suffix) rows number = spelled role.Suffix (span_at rows number) ∷ []
suffix_spelled _ rows number = []

-- the path of the instantiating crate, whose row has one more symbol of its rule after it, and the suffix; either may
-- be missing
unfoldable pub rest_spelled : List Row → (number : ℕ) → List Spelled
rest_spelled rows number =
    if (row_at rows number).after == 1
    then spelled role.InstantiatingCrate (span_at rows number) ∷ suffix_spelled (production_at rows (behind rows number)) rows (behind rows number)
    else suffix_spelled (production_at rows number) rows number
