use Rattle.cpp_grammar.proofs.Basics.{false, sym, listed_rule, Head}
use Rattle.cpp_grammar.proofs.table.rule.Goals as goal

pub returns-in-Some : goal.returns-in-Some
unfolding listed_rule
returns-in-Some c = rw (c.symbols_from.ensures, c.place_of.ensures) (sym (c.in-Some.ensures.rule _))

pub returns-in-None : goal.returns-in-None
returns-in-None c =
    let head : Head = record { eats = false; count = 0 } in
    sym (c.in-None.ensures.rule head)
