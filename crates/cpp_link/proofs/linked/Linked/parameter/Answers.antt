use Rattle.cpp_link.proofs.Basics.{◌∙◌, sym, ap, ℕ, [], ◌∷◌, Ok, true, counted_value, Decimal, ◌>>=◌, Term, parameter, Around, State, appended, argument_at, after, listed_so_far, parameter_so_far, bytes_at, trees_in, tree_of_node, around_of, parameter_read, goes_on, behind_first, named_if, appended_if, fails_is}
use Rattle.cpp_term.specs.Values as values
use Rattle.cpp_link.proofs.linked.Linked.parameter.Goals as goal

pub returns-in-Ok-clause-is : goal.returns-in-Ok-clause-is
unfolding parameter_so_far listed_so_far parameter_read goes_on behind_first named_if appended_if
returns-in-Ok-clause-is c v state =
    let y = c.args.self.now.nodes in
    let around : Around = around_of (trees_in c.args.symbol.now y) c.args.kept in
    let k : ℕ = counted_value Decimal (bytes_at c.args.symbol.now c.args.digits) in
    let then : State = record state { packs = c.in-Ok.packs } in
    let own : Term = tree_of_node c.args.symbol.now y c.in-Ok.node in
    ap (λ m. m >>= λ s. listed_so_far around (parameter k (argument_at around k)) [] s) (c.in-Ok.ensures.is state)
    ∙ ap (λ t. Ok (record { values = values.tree t true ∷ []; context = after t true around; state = appended around own then })) (sym c.in-Ok.ensures.tree)

pub returns-in-Err-clause-refused : goal.returns-in-Err-clause-refused
unfolding parameter_so_far parameter_read
returns-in-Err-clause-refused c state =
    let around : Around = around_of (trees_in c.args.symbol.now c.args.self.now.nodes) c.args.kept in
    let k : ℕ = counted_value Decimal (bytes_at c.args.symbol.now c.args.digits) in
    let before : State = record state { packs = c.args.self.now.packs } in
    fails_is c.in-Err.e (parameter_so_far around c.args.place k [] before) (ap (λ m. m >>= λ s. listed_so_far around (parameter k (argument_at around k)) [] s) (c.in-Err.ensures.is state))
