use Rattle.json_lines.proofs.Basics.{◌∙◌, ◌++◌, List, ℕ, ap, codes, Part, parts_text}
use Rattle.json_lines.proofs.LineLemmas.{put-parts}
use Rattle.json_lines.proofs.parts.push_parts.Goals as goal

pub returns : goal.returns
returns c =
    put-parts (codes "parts") c.args.parts.now c.args.out.now.items c.push_name.new.out.items c.push.new.self.items c.push_items.new.out.items c.push-2.new.self.items
    c.in_ok-push_name.ensures c.in_ok-push.ensures.items c.in_ok-push_items.ensures c.in_ok-push-2.ensures.items
