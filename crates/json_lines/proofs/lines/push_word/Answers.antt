use Rattle.json_lines.proofs.Basics.{true, on_ok_weaker}
use Rattle.json_lines.proofs.LineLemmas.{put-word}
use Rattle.json_lines.proofs.lines.push_word.Goals as goal

pub returns : goal.returns
returns c =
    on_ok_weaker c.push_string.result (λ pushed. put-word true c.args.name.now c.args.word.now c.as_bytes.result.now c.args.out.now.items c.push_name.new.out.items c.push_string.new.out.items c.as_bytes.ensures.value c.in_ok-push_name.ensures pushed) c.push_string.ensures
