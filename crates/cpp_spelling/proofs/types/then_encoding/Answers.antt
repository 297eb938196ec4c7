use Rattle.cpp_spelling.proofs.Basics.{◌∙◌, ap, arith, Spelling, Way, ◌onto◌, in_way, plain_at, press_tasks}
use Rattle.cpp_spelling.proofs.Made.{function-spelled, function-weighs}
use Rattle.cpp_spelling.proofs.types.then_encoding.Goals as goal

pub returns-in-Function-clause-presses : goal.returns-in-Function-clause-presses
returns-in-Function-clause-presses c =
    let y = c.args.symbol.now in
    let here = c.args.here in
    let f = c.in-Function in
    c.then_tree-in-Function-2.ensures.presses
    ∙ ap {A = Spelling} {B = Spelling} (λ (r : Spelling). in_way here (Way.Name f.qualifiers f.mark) (plain_at y f.name) onto r) c.then_tree-in-Function.ensures.presses
    ∙ ap {A = Spelling} {B = Spelling} (λ (r : Spelling). in_way here (Way.Name f.qualifiers f.mark) (plain_at y f.name) onto in_way here Way.Type (plain_at y f.returned) onto r) c.then_tree.ensures.presses
    ∙ function-spelled y here c.args.node f.name f.returned f.parameters f.under f.qualifiers f.mark (press_tasks y c.args.tasks.now.items) f.is

pub returns-in-Function-clause-weight : goal.returns-in-Function-clause-weight
returns-in-Function-clause-weight c =
    let f = c.in-Function in
    omega (
      arith,
      c.then_tree.ensures.weight,
      c.then_tree-in-Function.ensures.weight,
      c.then_tree-in-Function-2.ensures.weight,
      function-weighs c.args.symbol.now c.args.node f.name f.returned f.parameters f.under f.qualifiers f.mark f.is,
    )
