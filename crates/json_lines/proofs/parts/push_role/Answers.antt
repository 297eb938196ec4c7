use Rattle.json_lines.proofs.Basics.{◌∙◌, codes, false, on_ok_weaker, role_name}
use Rattle.json_lines.proofs.LineLemmas.{put-word}
use Rattle.json_lines.proofs.parts.push_role.Goals as goal

pub returns : goal.returns
returns c =
    on_ok_weaker c.push_string.result (λ pushed. put-word false (codes "role") (role_name c.args.role) c.as_bytes.result.now c.args.out.now.items c.push_name.new.out.items c.push_string.new.out.items
    (c.as_bytes.ensures.value ∙ c.name.ensures) c.in_ok-push_name.ensures pushed) c.push_string.ensures
