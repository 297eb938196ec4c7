use Rattle.sym_print.proofs.Basics.{◌≡◌, ◌-◌, ◌++◌, length, take, reverse, [], arith, ap, ◌∙◌, refl, All-same, Sub, text_of_stack, cost_of_stack, steps_of_stack, peak_of_stack}
use Rattle.sym_print.proofs.Stack.{next_may_come, All-visit, replaced, text_of_visit, cost_of_visit, steps_of_visit}
use Rattle.sym_print.proofs.Peak.{peak_of_visit}
use Rattle.sym_print.proofs.entries.open_item.Given as given
use Rattle.sym_print.proofs.entries.open_item.Goals as goal

pub push_parts-requires-clause-may_come : goal.push_parts-requires-clause-may_come
push_parts-requires-clause-may_come g c = next_may_come (g.Y.Layout.may_come c.args.y.now) c.args.stack.now.items (Sub c.args.item) c.requires.may_come c.requires.next

-- the parts are in the item's place
there : (g : given.Over) → (c : goal.After-push_parts g) → c.push_parts.new.stack.items ≡ take (length c.args.stack.now.items - 1) c.args.stack.now.items ++ reverse c.push_parts.ensures.parts.added
there g c =
    replaced c.args.stack.now.items c.take_item.new.stack.items c.push_parts.new.stack.items c.push_parts.ensures.parts.added c.in_ok-take_item.ensures.items c.push_parts.ensures.parts.is

pub returns-clause-may_come : goal.returns-clause-may_come
returns-clause-may_come g c =
    All-same (g.Y.Layout.may_come c.args.y.now) _ _ (there g c)
    (All-visit (g.Y.Layout.may_come c.args.y.now) c.args.stack.now.items c.push_parts.ensures.parts.added c.requires.may_come c.push_parts.ensures.parts.all)

pub returns-clause-text : goal.returns-clause-text
returns-clause-text g c =
    let parts = c.push_parts.ensures.parts.added in
    ap (text_of_stack (g.Y.Layout.unshared c.args.y.now) (g.Y.Layout.bytes_of c.args.y.now)) (there g c)
    ∙ text_of_visit (g.Y.Layout.unshared c.args.y.now) (g.Y.Layout.bytes_of c.args.y.now) c.args.stack.now.items parts parts c.args.item [] [] c.requires.next c.push_parts.ensures.parts.joined refl

pub returns-clause-cost : goal.returns-clause-cost
returns-clause-cost g c =
    let parts = c.push_parts.ensures.parts.added in
    omega (
      arith,
      c.in_ok-take_item.ensures.spent,
      ap (cost_of_stack (g.Y.Layout.unshared c.args.y.now) (g.Y.Layout.bytes_of c.args.y.now)) (there g c),
      cost_of_visit (g.Y.Layout.unshared c.args.y.now) (g.Y.Layout.bytes_of c.args.y.now) c.args.stack.now.items parts parts c.args.item 0 1 c.requires.next c.push_parts.ensures.parts.joined refl,
    )

pub returns-clause-remaining : goal.returns-clause-remaining
returns-clause-remaining g c =
    let parts = c.push_parts.ensures.parts.added in
    omega (
      arith,
      c.in_ok-take_item.ensures.steps,
      ap (steps_of_stack (g.Y.Layout.unshared c.args.y.now) (g.Y.Layout.bytes_of c.args.y.now)) (there g c),
      steps_of_visit (g.Y.Layout.unshared c.args.y.now) (g.Y.Layout.bytes_of c.args.y.now) c.args.stack.now.items parts parts c.args.item 0 1 c.requires.next c.push_parts.ensures.parts.joined refl,
    )

pub returns-clause-parts : goal.returns-clause-parts
returns-clause-parts g c = record {
  added = c.push_parts.ensures.parts.added;
  is = there g c;
  all = c.push_parts.ensures.parts.all;
  joined = c.push_parts.ensures.parts.joined;
}

pub returns-clause-peak : goal.returns-clause-peak
returns-clause-peak g c =
    peak_of_visit (g.Y.Layout.unshared c.args.y.now) (g.Y.Layout.bytes_of c.args.y.now) c.args.stack.now.items c.push_parts.new.stack.items c.push_parts.ensures.parts.added c.args.item c.requires.next c.push_parts.ensures.parts.joined (there g c)
    (omega (arith, c.in_ok-take_item.ensures.len, c.push_parts.ensures.few, c.args.stack.now.ok.0, c.push_parts.new.stack.ok.0))

pub returns-in_err-take_item-clause-peak : goal.returns-in_err-take_item-clause-peak
returns-in_err-take_item-clause-peak g c = omega (arith, ap (peak_of_stack (g.Y.Layout.unshared c.args.y.now)) c.in_err-take_item.ensures.err.0)
