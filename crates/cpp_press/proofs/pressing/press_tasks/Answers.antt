use Rattle.cpp_press.proofs.Basics.{◌≡◌, refl, rules, length, ap, arith, sym, subst, ◌∙◌, Task, Way, ◌onto◌, in_way, press_task, press_tasks, plain_at, AreTasks, whole_of, known_in, noted, standing_of, template_standing_of}
use Rattle.cpp_spelling.specs.Bytes.{text_bytes}
use Rattle.cpp_press_laws.specs.Short.{IsShort}
use Rattle.cpp_press_laws.proofs.Short.Law.{pressed-short}
use Rattle.cpp_press.proofs.Continuation.{popped, task-there, weight-there, changed-goes, text-goes, ended-goes, first-goes, last-goes, last-few}
use Rattle.cpp_press.proofs.pressing.press_tasks.Goals as goal

-- ## What each task requires

pub push_text-requires-clause-there : goal.push_text-requires-clause-there
push_text-requires-clause-there c =
    (task-there c.tasks.invariant.0 (popped c.pop.new.self.items c.pop.ensures.items c.in-Some.is c.in-Text.is)).0

pub likeness_of-requires-clause-node : goal.likeness_of-requires-clause-node
likeness_of-requires-clause-node c =
    (task-there c.tasks.invariant.0 (popped c.pop.new.self.items c.pop.ensures.items c.in-Some.is c.in-Ended.is)).0

pub likeness_of-requires-clause-number : goal.likeness_of-requires-clause-number
likeness_of-requires-clause-number c =
    let there = task-there c.tasks.invariant.0 (popped c.pop.new.self.items c.pop.ensures.items c.in-Some.is c.in-Ended.is) in
    omega (arith, there.0, c.tasks.invariant.1.long)

pub template_standing_of-standing-requires-clause-node : goal.template_standing_of-standing-requires-clause-node
template_standing_of-standing-requires-clause-node c =
    (task-there c.tasks.invariant.0 (popped c.pop.new.self.items c.pop.ensures.items c.in-Some.is c.in-Template.is)).0.0

pub template_standing_of-standing-requires-clause-number : goal.template_standing_of-standing-requires-clause-number
template_standing_of-standing-requires-clause-number c =
    let there = task-there c.tasks.invariant.0 (popped c.pop.new.self.items c.pop.ensures.items c.in-Some.is c.in-Template.is) in
    omega (arith, there.0.0, c.tasks.invariant.1.long)

pub step_template-requires-clause-name : goal.step_template-requires-clause-name
step_template-requires-clause-name c =
    (task-there c.tasks.invariant.0 (popped c.pop.new.self.items c.pop.ensures.items c.in-Some.is c.in-Template.is)).0.0

pub step_template-requires-clause-arguments : goal.step_template-requires-clause-arguments
step_template-requires-clause-arguments c =
    (task-there c.tasks.invariant.0 (popped c.pop.new.self.items c.pop.ensures.items c.in-Some.is c.in-Template.is)).0.1

pub step_template-requires-clause-tasks : goal.step_template-requires-clause-tasks
step_template-requires-clause-tasks c =
    (task-there c.tasks.invariant.0 (popped c.pop.new.self.items c.pop.ensures.items c.in-Some.is c.in-Template.is)).1

pub standing_of-standing-requires-clause-node : goal.standing_of-standing-requires-clause-node
standing_of-standing-requires-clause-node c =
    (task-there c.tasks.invariant.0 (popped c.pop.new.self.items c.pop.ensures.items c.in-Some.is c.in-Tree.is)).0

pub standing_of-standing-requires-clause-number : goal.standing_of-standing-requires-clause-number
standing_of-standing-requires-clause-number c =
    let there = task-there c.tasks.invariant.0 (popped c.pop.new.self.items c.pop.ensures.items c.in-Some.is c.in-Tree.is) in
    omega (arith, there.0, c.tasks.invariant.1.long)

pub step_tree-requires-clause-node : goal.step_tree-requires-clause-node
step_tree-requires-clause-node c =
    (task-there c.tasks.invariant.0 (popped c.pop.new.self.items c.pop.ensures.items c.in-Some.is c.in-Tree.is)).0

pub step_tree-requires-clause-tasks : goal.step_tree-requires-clause-tasks
step_tree-requires-clause-tasks c =
    (task-there c.tasks.invariant.0 (popped c.pop.new.self.items c.pop.ensures.items c.in-Some.is c.in-Tree.is)).1

pub then_tree-requires-clause-tasks : goal.then_tree-requires-clause-tasks
unfolding AreTasks
then_tree-requires-clause-tasks c = subst (AreTasks c.args.symbol.now) (sym c.in_ok-tasks.ensures.items) tt

-- ## Turns

pub tasks-init : goal.tasks-init
tasks-init c =
    let y = c.args.symbol.now in (
      first-goes c.in_ok-components.ensures.first c.in_ok-components.ensures.count c.then_tree.ensures.tasks
          (c.then_tree.ensures.presses ∙ ap (λ n. in_way 0 Way.Encoding (plain_at y n) onto press_tasks y c.in_ok-tasks.tasks.items) c.root_node.ensures.root
          ∙ ap (λ l. in_way 0 Way.Encoding (plain_at y y.root) onto press_tasks y l) c.in_ok-tasks.ensures.items)
          c.in_ok-out.ensures.items,
      c.requires.firsts,
    )

pub tasks-smaller-in-Continue-branch-4 : goal.tasks-smaller-in-Continue-branch-4
tasks-smaller-in-Continue-branch-4 c =
    omega (arith, weight-there c.args.symbol.now (popped c.pop.new.self.items c.pop.ensures.items c.in-Some.is c.in-Text.is))

pub tasks-preserved-in-Continue-branch-4 : goal.tasks-preserved-in-Continue-branch-4
tasks-preserved-in-Continue-branch-4 c = (
  text-goes (text_bytes c.args.symbol.now c.in-Text.text) (Task.Text c.in-Text.text) c.tasks.invariant.0
      (popped c.pop.new.self.items c.pop.ensures.items c.in-Some.is c.in-Text.is) refl c.in_ok-push_text-in-Text.ensures.text,
  c.tasks.invariant.1,
)

pub tasks-smaller-in-Continue-branch-5 : goal.tasks-smaller-in-Continue-branch-5
tasks-smaller-in-Continue-branch-5 c =
    omega (arith, weight-there c.args.symbol.now (popped c.pop.new.self.items c.pop.ensures.items c.in-Some.is c.in-Ended.is))

pub tasks-preserved-in-Continue-branch-5 : goal.tasks-preserved-in-Continue-branch-5
tasks-preserved-in-Continue-branch-5 c = (
  ended-goes c.in-Ended.node c.in-Ended.encoding c.tasks.invariant.1 c.tasks.invariant.0
      (popped c.pop.new.self.items c.pop.ensures.items c.in-Some.is c.in-Ended.is)
      (λ q. c.in_ok-push-in-Ended.ensures.first q ∙ ap (λ l. noted (known_in c.tasks.components) l c.tasks.components.count q) c.likeness_of.ensures)
      c.in_ok-push-in-Ended.ensures.count,
  c.tasks.invariant.1,
)

pub tasks-smaller-in-Continue-branch-6 : goal.tasks-smaller-in-Continue-branch-6
tasks-smaller-in-Continue-branch-6 c =
    omega (
      arith,
      weight-there c.args.symbol.now (popped c.pop.new.self.items c.pop.ensures.items c.in-Some.is c.in-Template.is),
      c.in_ok-step_template-in-Template.ensures.weight,
    )

pub tasks-preserved-in-Continue-branch-6 : goal.tasks-preserved-in-Continue-branch-6
tasks-preserved-in-Continue-branch-6 c =
    let top = popped c.pop.new.self.items c.pop.ensures.items c.in-Some.is c.in-Template.is in
    let there = task-there c.tasks.invariant.0 top in (
      changed-goes c.tasks.invariant.0 top c.in_ok-step_template-in-Template.ensures.tasks
          (λ cs places. c.in_ok-step_template-in-Template.ensures.presses (length c.tasks.out.items) cs
          (c.template_standing_of-standing.ensures
          ∙ ap (template_standing_of (plain_at c.args.symbol.now c.in-Template.name)) (places c.in-Template.name c.in-Template.encoding there.0.0))),
      c.tasks.invariant.1,
    )

pub tasks-smaller : goal.tasks-smaller
tasks-smaller c =
    omega (
      arith,
      weight-there c.args.symbol.now (popped c.pop.new.self.items c.pop.ensures.items c.in-Some.is c.in-Tree.is),
      c.in_ok-step_tree-in-Tree.ensures.weight,
    )

pub tasks-preserved : goal.tasks-preserved
tasks-preserved c =
    let y = c.args.symbol.now in
    let task : Task = Task.Tree c.in-Tree.node c.in-Tree.way c.in-Tree.encoding in
    let top = popped c.pop.new.self.items c.pop.ensures.items c.in-Some.is c.in-Tree.is in
    let there = task-there c.tasks.invariant.0 top in (
      changed-goes c.tasks.invariant.0 top c.in_ok-step_tree-in-Tree.ensures.tasks
          (λ cs places. subst (λ n. press_tasks y c.step_tree.new.tasks.items n cs ≡ (press_task y task onto press_tasks y c.pop.new.self.items) n cs)
          (c.len-here.ensures ∙ c.tasks.out.ok.0)
          (c.in_ok-step_tree-in-Tree.ensures.presses cs
          (c.standing_of-standing.ensures ∙ ap (standing_of c.in-Tree.way (plain_at y c.in-Tree.node)) (places c.in-Tree.node c.in-Tree.encoding there.0)))),
      c.tasks.invariant.1,
    )

-- ## After the last turn

pub returns-clause-pressed : goal.returns-clause-pressed
returns-clause-pressed c = last-goes c.tasks.invariant.0 (search rules)

pub returns-clause-components : goal.returns-clause-components
returns-clause-components c = last-few c.tasks.invariant.0 (search rules)

pub returns-clause-short : goal.returns-clause-short
returns-clause-short c =
    let tree = whole_of c.args.symbol.now in
    subst (IsShort tree) (sym (last-goes c.tasks.invariant.0 (search rules))) (pressed-short tree)
