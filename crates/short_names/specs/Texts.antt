-- The texts of the table.
use Rattle.std.specs.Prelude.{ℕ, List, [], ◌-◌, ◌&&◌, nat_le, length, take, drop, if◌then◌else◌}
use Rattle.short_names.specs.declared.table.Place.{Place}
use Rattle.short_names.specs.declared.table.TheConstants.{TEXTS}

-- a name or a pattern, by its place among all
unfoldable pub text_of : Place → List ℕ
text_of place = if nat_le place.from place.to && nat_le place.to (length TEXTS) then take (place.to - place.from) (drop place.from TEXTS) else []
