use Rattle.json_lines.proofs.Basics.{◌∙◌, ◌++◌, ap, sym, true, append-nil, on_ok_weaker, Refusal, refusal_members, members_text}
use Rattle.json_lines.proofs.LineLemmas.{no-text}
use Rattle.json_lines.proofs.lines.push_refusal.Goals as goal

pub returns-in-Malformed : goal.returns-in-Malformed
returns-in-Malformed c =
    on_ok_weaker c.push_error.result (λ pushed. pushed ∙ ap (λ (refusal : Refusal). c.args.out.now.items ++ members_text true (refusal_members refusal)) (sym c.in-Malformed.is)) c.push_error.ensures

pub returns-in-Memory : goal.returns-in-Memory
returns-in-Memory c =
    let old = c.args.out.now.items in
    sym (append-nil old) ∙ ap (λ t. old ++ t) (sym (no-text true)) ∙ ap (λ (refusal : Refusal). old ++ members_text true (refusal_members refusal)) (sym c.in-Memory.is)
