-- How many nodes a rule may add after these parts, if no other part has a row: before the parts without a row, and at the
-- rule's end.
use Rattle.std.specs.Prelude.{ℕ, ◌+◌, List, [], ◌∷◌, length}
use Rattle.cpp_grammar.specs.declared.production.Production.{Production}
use Rattle.cpp_grammar.specs.Unfolding.{production_at}
use Rattle.cpp_link.specs.declared.part.Part.{Part}
use Rattle.cpp_link.specs.Owed.{made_at_end, owes_of}

-- a name is made after its own part; with arguments, it is made once more at the end
unfoldable pub name_closes : List Part → ℕ
name_closes (name ∷ Part.Nothing ∷ parts) = 0
name_closes _ = 1

-- a pack makes one node of its elements, unless it has none
unfoldable pub pack_makes : Part → ℕ
pack_makes Part.Nothing = 0
pack_makes _ = 1

-- a pack is made after its elements, and the list that begins with the pack is made at the end
unfoldable pub pack_closes : List Part → ℕ
pack_closes (elements ∷ []) = pack_makes elements + 1
pack_closes _ = 1

unfoldable pub closes_of : Production → List Part → ℕ
closes_of Production.InternalName parts = name_closes parts
closes_of Production.SourceName parts = name_closes parts
closes_of Production.Tag parts = name_closes parts
closes_of Production.TypeTag parts = name_closes parts
closes_of Production.PackArgument parts = pack_closes parts
closes_of p parts = owes_of p (length parts)

unfoldable pub closes : (number : ℕ) → List Part → ℕ
closes number parts = closes_of (production_at number) parts

-- what is added only at the end, once all the parts are read
unfoldable pub ends_of : Production → List Part → ℕ
ends_of Production.InternalName parts = name_closes parts
ends_of Production.SourceName parts = name_closes parts
ends_of Production.Tag parts = name_closes parts
ends_of Production.TypeTag parts = name_closes parts
ends_of p parts = made_at_end p
