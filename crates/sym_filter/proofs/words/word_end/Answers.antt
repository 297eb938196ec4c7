use Rattle.std.proofs.Common.{arith}
use Rattle.sym_filter.proofs.PlainLemmas.{word_of-last, word_of-none}
use Rattle.sym_filter.proofs.words.word_end.Goals as goal

pub returns-then-part-end-ne46-clause-word : goal.returns-then-part-end-ne46-clause-word
returns-then-part-end-ne46-clause-word c =
    word_of-last c.args.part.now c.loop-end.end (omega arith) c.loop-end.invariant.within c.loop-end.invariant.dots c.if-part-end-ne46.true

pub returns-clause-word : goal.returns-clause-word
returns-clause-word c = word_of-none c.args.part.now c.loop-end.end (omega arith) c.loop-end.invariant.dots
