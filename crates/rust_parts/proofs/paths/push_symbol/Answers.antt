use Rattle.rust_parts.proofs.Basics.{on_ok_weaker, ap, arith, steps_of_parts, printed_by, whole_of}
use Rattle.rust_parts.proofs.Growing.{grow-same, grow-then, as-plain, grow-name}
use Rattle.rust_parts.proofs.Standing.{symbol-nothing, symbol-text, symbol-item}
use Rattle.rust_parts.proofs.paths.push_symbol.Goals as goal

pub returns-in-Nothing-clause-grows : goal.returns-in-Nothing-clause-grows
returns-in-Nothing-clause-grows c =
    on_ok_weaker c.push_plain.result (λ is. as-plain c.args.y.now c.args.most _ _ (printed_by c.args.y.now c.args.parts.now) _ _ is (symbol-nothing (whole_of c.args.y.now) _ c.in-Nothing.ensures) (omega arith)) c.push_plain.ensures.tasks

pub returns-in-Text-clause-grows : goal.returns-in-Text-clause-grows
returns-in-Text-clause-grows c =
    on_ok_weaker c.push_plain-in-Text.result (λ is. as-plain c.args.y.now c.args.most _ _ (printed_by c.args.y.now c.args.parts.now) _ _ is (symbol-text (whole_of c.args.y.now) _ _ _ c.in-Text.ensures.0) (omega arith)) c.push_plain-in-Text.ensures.tasks

pub returns-in_ok-push_suffixed-in-Item-clause-grows : goal.returns-in_ok-push_suffixed-in-Item-clause-grows
returns-in_ok-push_suffixed-in-Item-clause-grows c =
    on_ok_weaker c.push.result (λ is. grow-same c.args.y.now c.args.most _ _ _ _ _ _ (grow-then c.args.y.now c.args.most _ _ _ _ _ _ _ c.in_ok-push_suffixed-in-Item.ensures.grows (grow-name c.args.y.now c.args.most _ _ _ _ _ is c.root_path.ensures.below c.in-Item.ensures.1 (omega (arith, c.in-Item.ensures.1.1)))) (symbol-item _ _ _ _ _ c.root_path.ensures.path c.in-Item.ensures.0) (omega (arith, ap steps_of_parts c.in-Item.ensures.0))) c.push.ensures.tasks
