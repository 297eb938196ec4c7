use Rattle.std.proofs.lemmas.Result.{on_ok_weaker}
use Rattle.json_lines.proofs.LineLemmas.{put-numbers}
use Rattle.json_lines.proofs.parts.push_two.Goals as goal

pub returns : goal.returns
returns c =
    on_ok_weaker c.push_number-2.result (λ pushed. put-numbers c.args.first.now c.args.one c.args.second.now c.args.other c.from.result c.from-2.result c.args.out.now.items c.push_number.new.out.items c.push_number-2.new.out.items
    c.from.ensures c.from-2.ensures c.in_ok-push_number.ensures pushed) c.push_number-2.ensures
