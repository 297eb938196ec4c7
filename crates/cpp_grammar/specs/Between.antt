-- What surrounds the parts of a production, and what is done before each of them. Each piece is added to the name so far, and a
-- name that something is added to becomes a candidate, unless it is one already or never becomes one.
use Rattle.std.specs.Prelude.{ℕ, List, length}
use Rattle.cpp_grammar.specs.declared.production.Production.{Production}
use Rattle.cpp_grammar.specs.Values.{State, Around, Value, part}
use Rattle.cpp_grammar.specs.Surrounding.{Continuation}
use Rattle.cpp_grammar.specs.Builders.{argument, built, bytes_in, number_in, tree_in, truth_in}
use Rattle.cpp_grammar.specs.Row.{before_part}
use Rattle.cpp_grammar.specs.Meant.{all_given, around_part, done, gained, given, is_listing, made, packs_within, replaced, tested}
use Rattle.cpp_grammar.specs.Rows.{row_of}
unfoldable pub use Rattle.cpp_grammar.specs.Surrounding.{in_name, in_types, in_signature, under_expansion, after, inside, extended, with_tag, applied, no_items, inherited, Continuation, next, named_so_far, listed_so_far, parameter_so_far, argument_so_far, index_of}

-- What is done before the next part of a production that begins at a place, after parts with these values: some of the
-- values are made into trees, and candidates are appended.
unfoldable pub between : Production → Around → (place : ℕ) → List Value → State → Continuation
unfolding row_of before_part done around_part packs_within gained replaced tested made is_listing given all_given built argument tree_in bytes_in number_in truth_in part
between p around place vs state = done (before_part (row_of p) (length vs)) around place vs state
