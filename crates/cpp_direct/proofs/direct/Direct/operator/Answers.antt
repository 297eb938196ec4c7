use Rattle.cpp_direct.proofs.ForAnswers.{operator-follows, operator-last}
use Rattle.cpp_direct.proofs.direct.Direct.operator.Goals as goal

pub operator_ended-requires-clause-read : goal.operator_ended-requires-clause-read
operator_ended-requires-clause-read g c =
    let read = c.in_ok-operator_name.ensures in
    operator-last _ c.args.self.now c.push_pair.new.self c.operator_name.new.self read.0 read.1 c.requires.writing
    c.in_ok-push_pair.ensures read.2 read.4 c.if-self.false

pub nest_named-requires-clause-named : goal.nest_named-requires-clause-named
nest_named-requires-clause-named g c =
    let read = c.in_ok-operator_name.ensures in
    operator-follows _ c.args.self.now c.push_pair.new.self c.operator_name.new.self _ _ read.0 read.1 c.requires.writing
    c.in_ok-push_pair.ensures read.2 (read.3 c.if-not-branch.false) read.4 c.end-class_from.ensures c.end.ensures
