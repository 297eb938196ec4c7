use Rattle.cpp_link.proofs.Basics.{refl, ap, [], Ok, room_same, ◌>>=◌, standing, first_around, first_state, tree_if_there, arguments_in, is_lambda, showing_in, prefix_in, packs_in, around_of, prefix_of, lists_of, cpp_view, cpp_makes, OUTSIDE, root_tallied}
use Rattle.cpp_link.proofs.Endings.{first_begins}
use Rattle.cpp_link.proofs.language.LinkedLinking.root.Goals as goal

pub returns-clause-opens : goal.returns-clause-opens
unfolding first_around first_state tree_if_there around_of arguments_in is_lambda showing_in prefix_in packs_in prefix_of
returns-clause-opens c = root_tallied (cpp_view c.args.symbol.now) cpp_makes c.args.symbol.now c.args._rows.now c.args.self.now c.args.self.now c.args._row (Ok OUTSIDE) refl (λ rule taken parts is holds. (
  record { rule = standing rule taken 0 first_around first_state; values = []; state = first_state },
  ap (λ m. m >>= λ state. Ok (record { rule = standing rule taken 0 first_around first_state; values = []; state = state })) (first_begins (standing rule taken 0 first_around first_state) parts refl),
  record { surrounds = record { there = (tt, tt); is = refl; closed = tt }; packs = refl },
  holds,
  [],
  refl,
  tt,
))

pub returns-clause-keeps : goal.returns-clause-keeps
returns-clause-keeps c = room_same (lists_of c.args.self.now)
