use Rattle.rust_press.proofs.Basics.{◌≡◌, ◌<◌, ◌++◌, ◌∷◌, [], length, slice_get, Some, rules, arith, ap, sym, subst, ◌∙◌, length-trees, trees_of, number_at, press_root, placed, IsNodeStep, Task, of_symbol}
use Rattle.rust_press.proofs.WriterSteps.{components-last, goes-first, popped, node-goes, end-goes, node-there, end-there}
use Rattle.rust_press.proofs.ComponentCount.{few-components}
use Rattle.rust_press.proofs.pressing.press_tasks.Goals as goal

pub tasks-init : goal.tasks-init
tasks-init c =
    let y = c.args.symbol.now in
    let ns = c.args.firsts.now in
    let are = c.requires in
    let many = length-trees y.bytes y.table.nodes in
    let count : c.counts.result.nodes ≡ length (trees_of y) = omega (arith, c.counts.ensures.nodes, many) in (
      goes-first y ns c.push.new.self.items c.in_ok-places.places.items c.in_ok-out.out.items c.root_node.result c.counts.result.nodes c.root_node.ensures.root
          (omega (arith, c.root_node.ensures.within, many))
          (c.in_ok-push.ensures.items ∙ ap (λ l. l ++ Task.Node c.root_node.result ∷ []) c.in_ok-tasks.ensures.items) c.in_ok-out.ensures.items c.in_ok-places.ensures.places
          (λ i low. omega (arith, are.below i (omega (arith, low, are.long)), count)),
      are,
    )

pub press_node-requires-clause-node : goal.press_node-requires-clause-node
press_node-requires-clause-node c =
    let y = c.args.symbol.now in
    let ns = c.args.firsts.now in
    let top = popped c.tasks.tasks.items c.pop.new.self.items c.pop.result c.in-Some.task (Task.Node c.in-Node.node) c.pop.ensures.items c.in-Some.is c.in-Node.is in
    (node-there y ns (press_root y) c.tasks.tasks.items c.pop.new.self.items c.tasks.places.items c.tasks.out.items c.in-Node.node c.tasks.invariant.0 c.tasks.invariant.1 top).node

pub press_node-requires-clause-numbers : goal.press_node-requires-clause-numbers
press_node-requires-clause-numbers c =
    let y = c.args.symbol.now in
    let ns = c.args.firsts.now in
    let top = popped c.tasks.tasks.items c.pop.new.self.items c.pop.result c.in-Some.task (Task.Node c.in-Node.node) c.pop.ensures.items c.in-Some.is c.in-Node.is in
    (node-there y ns (press_root y) c.tasks.tasks.items c.pop.new.self.items c.tasks.places.items c.tasks.out.items c.in-Node.node c.tasks.invariant.0 c.tasks.invariant.1 top).number

pub press_node-requires-clause-places : goal.press_node-requires-clause-places
press_node-requires-clause-places c =
    let y = c.args.symbol.now in
    let ns = c.args.firsts.now in
    let top = popped c.tasks.tasks.items c.pop.new.self.items c.pop.result c.in-Some.task (Task.Node c.in-Node.node) c.pop.ensures.items c.in-Some.is c.in-Node.is in
    let low = (node-there y ns (press_root y) c.tasks.tasks.items c.pop.new.self.items c.tasks.places.items c.tasks.out.items c.in-Node.node c.tasks.invariant.0 c.tasks.invariant.1 top).place in
    subst (λ l. number_at ns c.in-Node.node < length l) (sym c.deref.ensures.value) low

pub tasks-smaller-in-Continue-branch-5 : goal.tasks-smaller-in-Continue-branch-5
tasks-smaller-in-Continue-branch-5 c =
    let y = c.args.symbol.now in
    let ns = c.args.firsts.now in
    let top = popped c.tasks.tasks.items c.pop.new.self.items c.pop.result c.in-Some.task (Task.Node c.in-Node.node) c.pop.ensures.items c.in-Some.is c.in-Node.is in
    (node-goes y ns (press_root y) c.tasks.tasks.items c.pop.new.self.items c.press_node.new.tasks.items c.in-Node.node c.tasks.places.items c.tasks.out.items c.press_node.new.out.items
    c.tasks.invariant.0 top
    (subst (λ l. IsNodeStep y c.in-Node.node (number_at ns c.in-Node.node) l c.pop.new.self.items c.tasks.out.items c.press_node.new.tasks.items c.press_node.new.out.items) c.deref.ensures.value c.in_ok-press_node-in-Node.ensures.step)).1

pub tasks-preserved-in-Continue-branch-5 : goal.tasks-preserved-in-Continue-branch-5
tasks-preserved-in-Continue-branch-5 c =
    let y = c.args.symbol.now in
    let ns = c.args.firsts.now in
    let top = popped c.tasks.tasks.items c.pop.new.self.items c.pop.result c.in-Some.task (Task.Node c.in-Node.node) c.pop.ensures.items c.in-Some.is c.in-Node.is in (
      (node-goes y ns (press_root y) c.tasks.tasks.items c.pop.new.self.items c.press_node.new.tasks.items c.in-Node.node c.tasks.places.items c.tasks.out.items c.press_node.new.out.items
          c.tasks.invariant.0 top
          (subst (λ l. IsNodeStep y c.in-Node.node (number_at ns c.in-Node.node) l c.pop.new.self.items c.tasks.out.items c.press_node.new.tasks.items c.press_node.new.out.items) c.deref.ensures.value c.in_ok-press_node-in-Node.ensures.step)).0,
      c.tasks.invariant.1,
    )

pub first_of-number-requires : goal.first_of-number-requires
first_of-number-requires c =
    let y = c.args.symbol.now in
    let ns = c.args.firsts.now in
    let top = popped c.tasks.tasks.items c.pop.new.self.items c.pop.result c.in-Some.task (Task.Ended c.in-Ended.node c.in-Ended.place) c.pop.ensures.items c.in-Some.is c.in-Ended.is in
    (end-there y ns (press_root y) c.tasks.tasks.items c.pop.new.self.items c.tasks.places.items c.tasks.out.items c.in-Ended.node c.in-Ended.place c.tasks.invariant.0 c.tasks.invariant.1 top).number

pub end_component-requires-clause-node : goal.end_component-requires-clause-node
end_component-requires-clause-node c =
    let y = c.args.symbol.now in
    let ns = c.args.firsts.now in
    let top = popped c.tasks.tasks.items c.pop.new.self.items c.pop.result c.in-Some.task (Task.Ended c.in-Ended.node c.in-Ended.place) c.pop.ensures.items c.in-Some.is c.in-Ended.is in
    (end-there y ns (press_root y) c.tasks.tasks.items c.pop.new.self.items c.tasks.places.items c.tasks.out.items c.in-Ended.node c.in-Ended.place c.tasks.invariant.0 c.tasks.invariant.1 top).node

pub end_component-requires-clause-places : goal.end_component-requires-clause-places
end_component-requires-clause-places c =
    let y = c.args.symbol.now in
    let ns = c.args.firsts.now in
    let top = popped c.tasks.tasks.items c.pop.new.self.items c.pop.result c.in-Some.task (Task.Ended c.in-Ended.node c.in-Ended.place) c.pop.ensures.items c.in-Some.is c.in-Ended.is in
    let low = (end-there y ns (press_root y) c.tasks.tasks.items c.pop.new.self.items c.tasks.places.items c.tasks.out.items c.in-Ended.node c.in-Ended.place c.tasks.invariant.0 c.tasks.invariant.1 top).place in
    omega (arith, low, c.first_of-number.ensures.number)

pub tasks-smaller : goal.tasks-smaller
tasks-smaller c =
    let y = c.args.symbol.now in
    let ns = c.args.firsts.now in
    let top = popped c.tasks.tasks.items c.pop.new.self.items c.pop.result c.in-Some.task (Task.Ended c.in-Ended.node c.in-Ended.place) c.pop.ensures.items c.in-Some.is c.in-Ended.is in
    let e = c.in_ok-end_component-in-Ended.ensures in
    (end-goes y ns (press_root y) c.tasks.tasks.items c.pop.new.self.items c.in-Ended.node c.in-Ended.place c.tasks.places.items c.end_component.new.places.items c.tasks.out.items c.end_component.new.out.items
    c.tasks.invariant.1 c.tasks.invariant.0 top (e.places ∙ ap (λ n. placed c.tasks.places.items n c.in-Ended.place) c.first_of-number.ensures.number) e.bytes).1

pub tasks-preserved : goal.tasks-preserved
tasks-preserved c =
    let y = c.args.symbol.now in
    let ns = c.args.firsts.now in
    let top = popped c.tasks.tasks.items c.pop.new.self.items c.pop.result c.in-Some.task (Task.Ended c.in-Ended.node c.in-Ended.place) c.pop.ensures.items c.in-Some.is c.in-Ended.is in
    let e = c.in_ok-end_component-in-Ended.ensures in (
      (end-goes y ns (press_root y) c.tasks.tasks.items c.pop.new.self.items c.in-Ended.node c.in-Ended.place c.tasks.places.items c.end_component.new.places.items c.tasks.out.items c.end_component.new.out.items
          c.tasks.invariant.1 c.tasks.invariant.0 top (e.places ∙ ap (λ n. placed c.tasks.places.items n c.in-Ended.place) c.first_of-number.ensures.number) e.bytes).0,
      c.tasks.invariant.1,
    )

pub returns-clause-components : goal.returns-clause-components
returns-clause-components c =
    let y = c.args.symbol.now in
    let whole = c.root_node.ensures.root_is in
    few-components y whole.0 (subst (λ m. slice_get (trees_of y) m ≡ Some (of_symbol whole.0)) c.root_node.ensures.root whole.1)
    (components-last y c.args.firsts.now (press_root y) c.tasks.tasks.items c.tasks.places.items c.tasks.out.items c.tasks.invariant.0 (search rules))
