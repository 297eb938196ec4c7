-- Fronts of a text in which no word begins.
use Rattle.std.specs.Prelude.{ℕ, List, [], ◌∷◌, Bool, true, not, ◌==◌, ◌&&◌}
use Rattle.sym_filter.specs.declared.kinds.Letters.{Letters}
use Rattle.sym_filter.specs.declared.places.Place.{Place}
use Rattle.sym_filter.specs.Places.{may_begin, place_after}

-- no word begins at any of these bytes
abbrev pub is_plain : Letters → Place → List ℕ → Bool
is_plain letters place [] = true
is_plain letters place (byte ∷ bytes) = not (may_begin letters place && byte == 95) && is_plain letters (place_after letters place byte) bytes
