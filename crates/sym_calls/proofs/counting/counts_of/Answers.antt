use Rattle.sym_calls.proofs.Basics.{sym, ◌∙◌, true, false, symbol_of}
use Rattle.sym_calls.proofs.Ending.{abi-counted, counting-ends, rest-of, wide-counted}
use Rattle.sym_calls.proofs.counting.counts_of.Goals as goal

-- the wide grammar is requested
pub returns-then-asked : goal.returns-then-asked
returns-then-asked c =
    counting-ends _ c.in-Some.asked c.in-Ok.kind c.args.name.now true c.args.counts.now c.count_in.new.counts _ (sym c.asked_of.ensures ∙ c.in-Some.is) c.if-asked.true (sym c.named.ensures.is ∙ c.in-Ok.is)
    (wide-counted c.in-Ok.kind (symbol_of c.in-Ok.kind c.args.name.now) _ c.args.counts.now c.count_in.new.counts _ (rest-of c.in-Ok.kind.skip c.args.name.now) c.count_in.ensures)

pub returns : goal.returns
returns c =
    counting-ends _ c.in-Some.asked c.in-Ok.kind c.args.name.now false c.args.counts.now c.count_in-2.new.counts _ (sym c.asked_of.ensures ∙ c.in-Some.is) c.if-asked.false (sym c.named.ensures.is ∙ c.in-Ok.is)
    (abi-counted c.in-Ok.kind (symbol_of c.in-Ok.kind c.args.name.now) _ c.args.counts.now c.count_in-2.new.counts _ (rest-of c.in-Ok.kind.skip c.args.name.now) c.count_in-2.ensures)
