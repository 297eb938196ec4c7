use Rattle.json_lines.proofs.Basics.{◌∙◌, ◌++◌, List, ℕ, ap, sym, rules, on_ok_weaker}
use Rattle.json_lines.proofs.StringLemmas.{backspace, control-code, feed, newline, return, tab}
use Rattle.json_lines.proofs.strings.push_control.Goals as goal

pub returns-in-8 : goal.returns-in-8
returns-in-8 c = search (rules, backspace)

pub returns-in-9 : goal.returns-in-9
returns-in-9 c = search (rules, tab)

pub returns-in-10 : goal.returns-in-10
returns-in-10 c = search (rules, newline)

pub returns-in-12 : goal.returns-in-12
returns-in-12 c = search (rules, feed)

pub returns-in-13 : goal.returns-in-13
returns-in-13 c = search (rules, return)

pub returns-in_default : goal.returns-in_default
returns-in_default c =
    let n = c.in_default in
    on_ok_weaker c.push_code.result (λ pushed. pushed ∙ ap (λ (t : List ℕ). c.args.out.now.items ++ t) (sym (control-code c.args.byte c.requires (search rules) (search rules) (search rules) (search rules) (search rules)))) c.push_code.ensures
