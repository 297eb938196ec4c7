-- The name that was reached has the template's last piece, and the name's node isn't an alias.
use Rattle.cpp_layout.proofs.Basics.{◌≡◌, ◌<◌, length, false, last_piece, entry_at, is_again, IsAliasBelow, printed_tree}
use Rattle.cpp_layout.proofs.Naming.{layers}
use Rattle.cpp_layout.proofs.symbol.Symbol.ends_in_angle.Given as goal

abbrev pub invariant-entities : goal.invariant-entities
invariant-entities l = record {
  node : l.place.node < length l.self.table.nodes;
  context : IsAliasBelow (length l.self.table.nodes) l.place.ctx.argument;
  own : is_again (entry_at l.self.table.nodes l.place.node).node ≡ false;
  last : last_piece (printed_tree l.self l.place.ctx l.place.node) ≡ last_piece (printed_tree l.self l.fn.ctx l.template);
}

abbrev pub decreases-entities : goal.decreases-entities
decreases-entities l = layers (printed_tree l.self l.place.ctx l.place.node)
