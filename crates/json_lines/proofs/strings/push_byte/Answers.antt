use Rattle.json_lines.proofs.Basics.{◌∙◌, ◌++◌, List, ℕ, sym, ap, arith, append-nil, on_ok_weaker, escaped_byte}
use Rattle.json_lines.proofs.StringLemmas.{escape-byte}
use Rattle.json_lines.proofs.strings.push_byte.Goals as goal

pub returns : goal.returns
returns c =
    on_ok_weaker c.push_escaped.result (λ pushed. pushed ∙ ap (λ (t : List ℕ). c.args.out.now.items ++ t) (append-nil (escaped_byte c.args.byte) ∙ sym (escape-byte c.args.byte (omega arith)))) c.push_escaped.ensures.pushed
