-- Laws of the table that imply `Insides`: encodings are made by productions that open an encoding, and what a special name
-- is about occurs only in the kinds of special names.
use Rattle.cpp_term.proofs.Basics.{◌≡◌, refl, ℕ, Bool, true, false, not, ◌||◌, nat_eq, Production, SPECIAL, SPECIAL_AFTER_G, number_of_kind, wide_alternatives, each_passes, opens}
use Rattle.cpp_grammar.specs.declared.kind.Kind.{Kind}

-- the kinds of special names
unfoldable pub is_special_kind : ℕ → Bool
is_special_kind k = nat_eq k SPECIAL || nat_eq k SPECIAL_AFTER_G

-- a production of these kinds whose parts are types and names
unfoldable pub in_special : Production → Bool
in_special Production.SpecialType = true
in_special Production.ParameterObject = true
in_special Production.SpecialName = true
in_special Production.Temporary = true
in_special Production.ModuleInitializer = true
in_special Production.ConstructionVtable = true
in_special _ = false

-- a tree of the kind of encodings opens an encoding
pub encodings_open : (kind : Kind) → each_passes (λ p. not (nat_eq (number_of_kind kind) 4) || opens p) (wide_alternatives kind) ≡ true
unfolding number_of_kind wide_alternatives each_passes opens
encodings_open Kind.Symbol = refl
encodings_open _ = refl

pub special_types : (kind : Kind) → each_passes (λ p. not (in_special p) || is_special_kind (number_of_kind kind)) (wide_alternatives kind) ≡ true
unfolding number_of_kind wide_alternatives is_special_kind in_special each_passes
special_types Kind.Symbol = refl
special_types _ = refl
