use Rattle.cpp_parts.proofs.Basics.{◌++◌, sym, ap, subst, arith, on_ok_weaker, skipped, IsTask, Lists, marks_of_task, marks_of_tasks, weight_of_task}
use Rattle.cpp_parts.proofs.Walking.{lists-skip, lists-begin}
use Rattle.cpp_parts.proofs.walk.take.Goals as goal

pub skip-requires : goal.skip-requires
unfolding marks_of_task skipped
skip-requires c = omega (arith, c.requires.fits, ap (λ t. skipped (marks_of_task c.args.y.now t)) c.in-Skip.is)

pub take_encoding-requires-clause-node : goal.take_encoding-requires-clause-node
unfolding IsTask
take_encoding-requires-clause-node c = (subst (IsTask c.args.y.now c.args.most) c.in-Encoding.is c.requires.task).0

pub take_encoding-requires-clause-item : goal.take_encoding-requires-clause-item
unfolding IsTask
take_encoding-requires-clause-item c = (subst (IsTask c.args.y.now c.args.most) c.in-Encoding.is c.requires.task).1

pub take_name-requires-clause-node : goal.take_name-requires-clause-node
unfolding IsTask
take_name-requires-clause-node c = (subst (IsTask c.args.y.now c.args.most) c.in-Name.is c.requires.task).0

pub take_name-requires-clause-item : goal.take_name-requires-clause-item
unfolding IsTask
take_name-requires-clause-item c = (subst (IsTask c.args.y.now c.args.most) c.in-Name.is c.requires.task).1

pub take_elements-requires-clause-node : goal.take_elements-requires-clause-node
unfolding IsTask
take_elements-requires-clause-node c = (subst (IsTask c.args.y.now c.args.most) c.in-Elements.is c.requires.task).0

pub take_elements-requires-clause-item : goal.take_elements-requires-clause-item
unfolding IsTask
take_elements-requires-clause-item c = (subst (IsTask c.args.y.now c.args.most) c.in-Elements.is c.requires.task).1

pub returns-in-Skip-clause-lists : goal.returns-in-Skip-clause-lists
returns-in-Skip-clause-lists c =
    subst (λ t. Lists c.args.found.now c.skip.new.self (marks_of_task c.args.y.now t ++ marks_of_tasks c.args.y.now c.args.tasks.now) (marks_of_tasks c.args.y.now c.args.tasks.now)) (sym c.in-Skip.is)
    (lists-skip c.args.y.now c.args.found.now c.skip.new.self c.in-Skip.length (marks_of_tasks c.args.y.now c.args.tasks.now) c.skip.ensures.stretches c.skip.ensures.place)

pub returns-in-Skip-clause-weight : goal.returns-in-Skip-clause-weight
unfolding weight_of_task
returns-in-Skip-clause-weight c = omega (arith, ap (weight_of_task c.args.y.now) c.in-Skip.is)

pub returns-in-Begin-clause-lists : goal.returns-in-Begin-clause-lists
returns-in-Begin-clause-lists c =
    on_ok_weaker c.begin.result
    (λ p. subst (λ t. Lists c.args.found.now c.begin.new.self (marks_of_task c.args.y.now t ++ marks_of_tasks c.args.y.now c.args.tasks.now) (marks_of_tasks c.args.y.now c.args.tasks.now)) (sym c.in-Begin.is)
    (lists-begin c.args.y.now c.args.found.now c.begin.new.self c.in-Begin.role c.in-Begin.ordinal c.in-Begin.length (marks_of_tasks c.args.y.now c.args.tasks.now) p c.begin.ensures.place))
    c.begin.ensures.stretches

pub returns-in-Begin-clause-weight : goal.returns-in-Begin-clause-weight
unfolding weight_of_task
returns-in-Begin-clause-weight c = on_ok_weaker c.begin.result (λ p. omega (arith, ap (weight_of_task c.args.y.now) c.in-Begin.is)) c.begin.ensures.stretches

pub take_encoding-requires-clause-specials : goal.take_encoding-requires-clause-specials
unfolding IsTask
take_encoding-requires-clause-specials c = (subst (IsTask c.args.y.now c.args.most) c.in-Encoding.is c.requires.task).2

pub take_name-requires-clause-tags : goal.take_name-requires-clause-tags
unfolding IsTask
take_name-requires-clause-tags c = (subst (IsTask c.args.y.now c.args.most) c.in-Name.is c.requires.task).2

pub take_elements-requires-clause-numbers : goal.take_elements-requires-clause-numbers
unfolding IsTask
take_elements-requires-clause-numbers c = (subst (IsTask c.args.y.now c.args.most) c.in-Elements.is c.requires.task).2
