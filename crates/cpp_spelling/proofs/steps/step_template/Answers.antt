use Rattle.cpp_spelling.proofs.Basics.{ap, sym, ◌∙◌, Spelling, first_equal, reference, Way, text_bytes, ◌onto◌, written, in_way, plain_at, press_tasks, arguments_onto, template_onto}
use Rattle.cpp_spelling.proofs.Standing.{apart-name, known-name, fresh-name}
use Rattle.cpp_spelling.proofs.Ways.{apart-template}
use Rattle.cpp_spelling.proofs.Templates.{known-template, fresh-template}
use Rattle.cpp_spelling.proofs.steps.step_template.Goals as goal

pub returns-in-Apart-clause-presses : goal.returns-in-Apart-clause-presses
unfolding ◌onto◌
returns-in-Apart-clause-presses c = λ here cs is.
    let y = c.args.symbol.now in
    let t = plain_at y c.args.name in
    let apart = apart-name t (first_equal c.args.encoding t 0 cs) (sym c.in-Apart.is ∙ is) in
    ap {A = Spelling} (λ (f : Spelling). f here cs) c.then_tree.ensures.presses
    ∙ ap {A = Spelling} (λ (f : Spelling). (in_way c.args.encoding Way.Type t onto f) here cs) c.then_arguments.ensures.presses
    ∙ ap {A = Spelling} (λ (f : Spelling). (in_way c.args.encoding Way.Type t onto arguments_onto c.args.encoding (plain_at y c.args.arguments) f) here cs) c.in_ok-make_room.ensures.presses
    ∙ ap {A = Spelling} (λ (f : Spelling). f here cs) (sym (apart-template c.args.encoding c.args.in_type t (plain_at y c.args.arguments) (press_tasks y c.args.tasks.now.items) apart))

pub returns-in-Known-clause-presses : goal.returns-in-Known-clause-presses
unfolding ◌onto◌ written text_bytes reference
returns-in-Known-clause-presses c = λ here cs is.
    let y = c.args.symbol.now in
    let t = plain_at y c.args.name in
    let known = known-name t (first_equal c.args.encoding t 0 cs) c.in-Known.number (sym c.in-Known.is ∙ is) in
    ap {A = Spelling} (λ (f : Spelling). f here cs) c.then_text.ensures.presses
    ∙ ap {A = Spelling} (λ (f : Spelling). (reference c.in-Known.number onto f) here cs) c.then_arguments-in-Known.ensures.presses
    ∙ ap {A = Spelling} (λ (f : Spelling). (reference c.in-Known.number onto arguments_onto c.args.encoding (plain_at y c.args.arguments) f) here cs) c.in_ok-make_room.ensures.presses
    ∙ sym (known-template c.args.encoding c.args.in_type t (plain_at y c.args.arguments) (press_tasks y c.args.tasks.now.items) c.in-Known.number here cs known.0 known.1)

pub returns-in-Fresh-clause-presses : goal.returns-in-Fresh-clause-presses
unfolding ◌onto◌
returns-in-Fresh-clause-presses c = λ here cs is.
    let y = c.args.symbol.now in
    let t = plain_at y c.args.name in
    let fresh = fresh-name t (first_equal c.args.encoding t 0 cs) (sym c.in-Fresh.is ∙ is) in
    ap {A = Spelling} (λ (f : Spelling). f here cs) c.then_template_out.ensures.presses
    ∙ ap {A = Spelling} (λ (f : Spelling). template_onto c.args.encoding c.args.in_type t (plain_at y c.args.arguments) f here cs) c.in_ok-make_room.ensures.presses
    ∙ sym (fresh-template c.args.encoding c.args.in_type t (plain_at y c.args.arguments) (press_tasks y c.args.tasks.now.items) here cs fresh.0 fresh.1)
