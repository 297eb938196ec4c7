use Rattle.sym_calls.proofs.Basics.{true, false, answers_as, AreTold}
use Rattle.sym_calls.proofs.Ending.{by-legacy}
use Rattle.sym_calls.proofs.texts.tell_in.Goals as goal

pub returns-then-asked-clause-told : goal.returns-then-asked-clause-told
returns-then-asked-clause-told g c =
    by-legacy (λ answers told. AreTold (answers_as c.args.asked.texts c.args.asked.legacy answers) c.args.asked c.args.names.now 0 c.args.ends.now c.args.buffer.now c.tell_as.new.buffer told) g.C.Mangling.mangled c.args.asked true c.args.limit _ _ c.tell_as.new.outcomes
    c.if-asked.true c.with_legacy.ensures.limit c.with_legacy.ensures.detail c.tell_as.ensures.told

pub returns-clause-told : goal.returns-clause-told
returns-clause-told g c =
    by-legacy (λ answers told. AreTold (answers_as c.args.asked.texts c.args.asked.legacy answers) c.args.asked c.args.names.now 0 c.args.ends.now c.args.buffer.now c.tell_as-2.new.buffer told) g.C.Mangling.mangled c.args.asked false c.args.limit _ _ c.tell_as-2.new.outcomes
    c.if-asked.false c.languages.ensures.limit c.languages.ensures.detail c.tell_as-2.ensures.told
