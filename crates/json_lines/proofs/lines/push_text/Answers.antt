use Rattle.json_lines.proofs.Basics.{◌∙◌, on_ok_weaker, utf8_lossy}
use Rattle.json_lines.proofs.LineLemmas.{put-word}
use Rattle.json_lines.proofs.lines.push_text.Goals as goal

pub returns : goal.returns
returns c =
    on_ok_weaker c.push_string.result (λ pushed. put-word c.args.has_some c.args.name.now (utf8_lossy c.args.bytes.now) c.as_bytes.result.now c.args.out.now.items c.push_name.new.out.items c.push_string.new.out.items
    (c.as_bytes.ensures.value ∙ c.in_ok-text.ensures.lossy) c.in_ok-push_name.ensures pushed) c.push_string.ensures
