use Rattle.rust_parts.proofs.Basics.{on_ok_weaker, sym, ap, arith, ◌∙◌, cost_of, steps_of_parts, MayCome, printed_by, path_at, All-same, scope}
use Rattle.rust_parts.proofs.Growing.{grow-same}
use Rattle.rust_parts.proofs.Sorting.{scope-by, sort-below}
use Rattle.rust_parts.proofs.Taking.{parts-payable}
use Rattle.rust_parts.proofs.walk.take_scope.Goals as goal

pub push_scope-requires-clause-below : goal.push_scope-requires-clause-below
push_scope-requires-clause-below c =
    sort-below c.args.y.now c.args.node _ c.path_sort-sort.result c.path_sort-sort.ensures c.requires.node

pub push_scope-requires-clause-paid : goal.push_scope-requires-clause-paid
push_scope-requires-clause-paid c =
    parts-payable c.args.y.now c.args.most c.args.item _ c.requires.item (c.parts-parts.ensures.parts ∙ ap (printed_by c.args.y.now) (sym c.deref.ensures.0)) (All-same (MayCome c.args.y.now) _ _ c.deref.ensures.0 c.parts-parts.ensures.may_come)

pub returns-clause-grows : goal.returns-clause-grows
returns-clause-grows c =
    on_ok_weaker c.push_scope.result (λ g. grow-same c.args.y.now c.args.most _ _ _ _ _ _ g (scope-by c.args.y.now c.args.lists c.args.node c.path_sort-sort.result c.path_sort-sort.ensures _ ∙ sym (ap (scope c.args.lists (path_at c.args.y.now c.args.node)) (c.parts-parts.ensures.parts ∙ ap (printed_by c.args.y.now) (sym c.deref.ensures.0)))) (omega (arith, ap steps_of_parts (c.parts-parts.ensures.parts ∙ ap (printed_by c.args.y.now) (sym c.deref.ensures.0))))) c.push_scope.ensures.grows

pub push_scope-requires-clause-lists : goal.push_scope-requires-clause-lists
push_scope-requires-clause-lists c =
    omega (arith, c.requires.lists, ap cost_of (c.parts-parts.ensures.parts ∙ ap (printed_by c.args.y.now) (sym c.deref.ensures.0)))
