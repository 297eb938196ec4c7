use Rattle.sym_calls.proofs.Basics.{sym, ap, ◌∙◌, get_or, arith, lt-leb, drop_all, are_ends}
use Rattle.sym_calls.proofs.Telling.{ends-on, ends-down}
use Rattle.sym_calls.proofs.texts.are_ends.Goals as goal

-- an end decreases
pub returns-then-end-from : goal.returns-then-end-from
returns-then-end-from c =
    sym (c.loop-end.invariant ∙ ends-down c.loop-end.from c.args.len c.args.ends.now c.loop-end.end-index c.loop-end-test.true (lt-leb c.loop-end.from (get_or c.args.ends.now c.loop-end.end-index 0) c.if-end-from.true))

pub loop-end-preserved : goal.loop-end-preserved
loop-end-preserved c = c.loop-end.invariant ∙ ends-on c.loop-end.from c.args.len c.args.ends.now c.loop-end.end-index c.loop-end-test.true (omega (arith, c.if-end-from.false))

pub returns : goal.returns
unfolding are_ends
returns c = sym (c.loop-end.invariant ∙ ap (λ l. are_ends c.loop-end.from c.args.len l) (drop_all c.loop-end.end-index c.args.ends.now (omega (arith, c.loop-end-test.false))))
