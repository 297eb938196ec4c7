use Rattle.cpp_spelling.proofs.Basics.{ap, sym, arith, ◌∙◌, Spelling, first_equal, reference, text_bytes, ◌onto◌, written, ending, plain_at, press_tasks, spelled_onto}
use Rattle.cpp_spelling.proofs.Standing.{apart-way, known-way, fresh-way}
use Rattle.cpp_spelling.proofs.Ways.{apart-tree, known-tree, fresh-tree}
use Rattle.cpp_spelling.proofs.Weighing.{weight-some}
use Rattle.cpp_spelling.proofs.steps.step_tree.Goals as goal

pub returns-in-Apart-clause-presses : goal.returns-in-Apart-clause-presses
unfolding ◌onto◌
returns-in-Apart-clause-presses c = λ cs is.
    let t = plain_at c.args.symbol.now c.args.node in
    let apart = apart-way c.args.way t (first_equal c.args.encoding t 0 cs) (sym c.in-Apart.is ∙ is) in
    ap {A = Spelling} (λ (f : Spelling). f c.args.here cs) c.then_spelled.ensures.presses
    ∙ ap {A = Spelling} (λ (f : Spelling). spelled_onto c.args.encoding c.args.here c.args.way t f c.args.here cs) c.in_ok-make_room.ensures.presses
    ∙ sym (apart-tree c.args.encoding c.args.here c.args.way t (press_tasks c.args.symbol.now c.args.tasks.now.items) cs apart)

pub returns-in-Known-clause-presses : goal.returns-in-Known-clause-presses
unfolding ◌onto◌ written text_bytes reference
returns-in-Known-clause-presses c = λ cs is.
    let t = plain_at c.args.symbol.now c.args.node in
    let known = known-way c.args.way t (first_equal c.args.encoding t 0 cs) c.in-Known.number (sym c.in-Known.is ∙ is) in
    ap {A = Spelling} (λ (f : Spelling). f c.args.here cs) c.then_text.ensures.presses
    ∙ ap {A = Spelling} (λ (f : Spelling). (reference c.in-Known.number onto f) c.args.here cs) c.in_ok-make_room.ensures.presses
    ∙ sym (known-tree c.args.encoding c.args.here c.in-Known.number c.args.way t (press_tasks c.args.symbol.now c.args.tasks.now.items) cs known.0 known.1)

pub returns-in-Known-clause-weight : goal.returns-in-Known-clause-weight
returns-in-Known-clause-weight c =
    omega (arith, c.then_text.ensures.weight, c.in_ok-make_room.ensures.weight, weight-some (plain_at c.args.symbol.now c.args.node))

pub returns-in-Fresh-clause-presses : goal.returns-in-Fresh-clause-presses
unfolding ◌onto◌ ending
returns-in-Fresh-clause-presses c = λ cs is.
    let t = plain_at c.args.symbol.now c.args.node in
    let fresh = fresh-way c.args.way t (first_equal c.args.encoding t 0 cs) (sym c.in-Fresh.is ∙ is) in
    ap {A = Spelling} (λ (f : Spelling). f c.args.here cs) c.then_spelled-in-Fresh.ensures.presses
    ∙ ap {A = Spelling} (λ (f : Spelling). spelled_onto c.args.encoding c.args.here c.args.way t f c.args.here cs) c.then_ended.ensures.presses
    ∙ ap {A = Spelling} (λ (f : Spelling). spelled_onto c.args.encoding c.args.here c.args.way t (ending c.args.encoding t onto f) c.args.here cs) c.in_ok-make_room.ensures.presses
    ∙ sym (fresh-tree c.args.encoding c.args.here c.args.way t (press_tasks c.args.symbol.now c.args.tasks.now.items) cs fresh.0 fresh.1)
