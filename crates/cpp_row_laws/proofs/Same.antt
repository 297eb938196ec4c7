-- The greatest number of nodes that a production makes is what its row says.
use Rattle.std.proofs.Common.{◌≡◌, refl}
use Rattle.cpp_grammar.specs.declared.production.Production.{Production}
use Rattle.cpp_grammar.specs.Row.{most_made, most_at_end}
use Rattle.cpp_grammar.specs.Rows.{row_of}
use Rattle.cpp_link.specs.Owed.{made_at_end}

pub same_end : (p : Production) → made_at_end p ≡ most_at_end (row_of p).form
unfolding made_at_end row_of most_at_end most_made
same_end Production.Mark = refl
same_end _ = refl
