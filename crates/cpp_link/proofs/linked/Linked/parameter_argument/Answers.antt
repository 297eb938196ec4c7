use Rattle.cpp_link.proofs.Basics.{◌∙◌, sym, ap, ℕ, [], ◌∷◌, Ok, true, counted_value, Decimal, ◌>>=◌, parameter, Around, State, appended, next, argument_at, argument_so_far, bytes_at, trees_in, around_of, parameter_read, goes_on, behind_first, named_if, appended_if, fails_is}
use Rattle.cpp_term.specs.Values as values
use Rattle.cpp_link.proofs.linked.Linked.parameter_argument.Goals as goal

pub returns-in-Ok-clause-is : goal.returns-in-Ok-clause-is
unfolding argument_so_far parameter_read goes_on behind_first named_if appended_if appended
returns-in-Ok-clause-is c v state =
    let y = c.args.self.now.nodes in
    let around : Around = around_of (trees_in c.args.symbol.now y) c.args.kept in
    let k : ℕ = counted_value Decimal (bytes_at c.args.symbol.now c.args.digits) in
    let then : State = record state { packs = c.in-Ok.packs } in
    ap (λ m. m >>= λ s. next (values.tree (parameter k (argument_at around k)) true ∷ []) around (record s { candidates = state.candidates })) (c.in-Ok.ensures.is state)
    ∙ ap (λ t. Ok (record { values = values.tree t true ∷ []; context = around; state = then })) (sym c.in-Ok.ensures.tree)

pub returns-in-Err-clause-refused : goal.returns-in-Err-clause-refused
unfolding argument_so_far parameter_read
returns-in-Err-clause-refused c state =
    let around : Around = around_of (trees_in c.args.symbol.now c.args.self.now.nodes) c.args.kept in
    let k : ℕ = counted_value Decimal (bytes_at c.args.symbol.now c.args.digits) in
    let before : State = record state { packs = c.args.self.now.packs } in
    fails_is c.in-Err.e (argument_so_far around c.args.place k before) (ap (λ m. m >>= λ s. next (values.tree (parameter k (argument_at around k)) true ∷ []) around (record s { candidates = state.candidates })) (c.in-Err.ensures.is state))
