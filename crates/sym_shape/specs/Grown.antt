-- A table whose trees are all trees of another table.
use Rattle.sym_shape.specs.declared.rule.Sym.TheVariants.{Kind}
use Rattle.sym_shape.specs.Table.{Table}
use Rattle.sym_shape.specs.Tree.{Tree, IsTree}

-- every tree of the start kind of one table is also a tree of the start kind of the other
abbrev pub GrowsInto : Table → Table → Type 0
GrowsInto old new = (tree : Tree) → IsTree old (Kind 0) tree → IsTree new (Kind 0) tree
