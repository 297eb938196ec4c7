-- The lists found so far and the lists of the remaining paths are together the lists of all paths.
use Rattle.std.proofs.Common.{◌≡◌, ◌++◌, length, drop, map}
use Rattle.std.specs.List.{flat_map}
use Rattle.rust_spelled.specs.Arguments.{arguments_of, generics, items_of, list_of}
use Rattle.rust_spelled.proofs.lists.lists_of.Given as goal

abbrev pub invariant-loop-path : goal.invariant-loop-path
invariant-loop-path l = record {
  lists : l.found.lists.items ++ map (list_of l.rows) (generics l.rows (drop l.path-index l.paths)) ≡ map (list_of l.rows) (generics l.rows l.paths);
  items : l.found.items.items ++ items_of l.rows (length l.found.elements.items) (generics l.rows (drop l.path-index l.paths)) ≡ items_of l.rows 0 (generics l.rows l.paths);
  elements : l.found.elements.items ++ flat_map (arguments_of l.rows) (generics l.rows (drop l.path-index l.paths)) ≡ flat_map (arguments_of l.rows) (generics l.rows l.paths);
}
