use Rattle.json_lines.proofs.Basics.{arith, trimmed-all, trimmed-last}
use Rattle.json_lines.proofs.texts.trimmed_end.Goals as goal

pub returns-then-word-end-lt128-clause-trimmed : goal.returns-then-word-end-lt128-clause-trimmed
returns-then-word-end-lt128-clause-trimmed c =
    trimmed-last c.args.word.now c.bytes.end (omega arith) c.bytes.invariant.within c.bytes.invariant.left c.if-word-end-ne46.true c.if-word-end-lt128.true

pub returns-clause-trimmed : goal.returns-clause-trimmed
returns-clause-trimmed c = trimmed-all c.args.word.now c.bytes.end (omega arith) c.bytes.invariant.left
