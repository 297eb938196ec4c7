use Rattle.json_lines.proofs.Basics.{◌∙◌, ◌++◌, [], ◌∷◌, List, ℕ, ap, append_assoc, on_ok_weaker, print, json_tokens, part_object}
use Rattle.json_lines.proofs.parts.push_next.Goals as goal

pub returns : goal.returns
returns c =
    let text = print (json_tokens (part_object c.args.part)) in
    on_ok_weaker c.push_part.result (λ pushed. pushed ∙ ap (λ (t : List ℕ). t ++ text) c.in_ok-push.ensures.items ∙ append_assoc c.args.out.now.items (44 ∷ []) text) c.push_part.ensures
