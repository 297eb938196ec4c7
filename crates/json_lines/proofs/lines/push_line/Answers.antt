use Rattle.json_lines.proofs.Basics.{◌∙◌, ◌++◌, Option, ℕ, ap, sym, false, append-nil, line_members, members_text}
use Rattle.json_lines.proofs.LineLemmas.{no-text}
use Rattle.json_lines.proofs.lines.push_line.Goals as goal

pub returns-in-None : goal.returns-in-None
returns-in-None c =
    let old = c.args.out.now.items in
    sym (append-nil old) ∙ ap (λ t. old ++ t) (sym (no-text false)) ∙ ap (λ (line : Option ℕ). old ++ members_text false (line_members line)) (sym c.in-None.is)
