use Rattle.std.proofs.Common.{false, sym}
use Rattle.rust_grammar.specs.Listed.{listed_rule}
use Rattle.rust_grammar.specs.declared.table.Head.{Head}
use Rattle.rust_grammar.proofs.table.rule.Goals as goal

pub returns-in-Some : goal.returns-in-Some
unfolding listed_rule
returns-in-Some c = rw (c.symbols_from.ensures, c.place_of.ensures) (sym (c.in-Some.ensures.rule _))

pub returns-in-None : goal.returns-in-None
returns-in-None c =
    let head : Head = record { number = 0; eats = false; count = 0 } in
    sym (c.in-None.ensures.rule head)
