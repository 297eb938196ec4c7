use Rattle.json_lines.proofs.Basics.{◌∙◌, ◌++◌, List, ℕ, ap, sym, codes, true, false, member, no_members, string, role_name, two_numbers, members_text}
use Rattle.json_lines.proofs.LineLemmas.{part-text, put-part}
use Rattle.json_lines.proofs.parts.push_part.Goals as goal

pub returns : goal.returns
returns c =
    let part = c.args.part in
    let old = c.args.out.now.items in
    let role = members_text false (member (codes "role") (string (role_name part.role)) no_members) in
    let stretch = members_text true (two_numbers (codes "start") part.start (codes "length") part.length no_members) in
    let spelling = members_text true (two_numbers (codes "from") part.from (codes "to") part.to no_members) in
    put-part role stretch spelling old c.push.new.self.items c.push_role.new.out.items c.push_two.new.out.items c.push_two-2.new.out.items c.push-2.new.self.items
    c.in_ok-push.ensures.items c.in_ok-push_role.ensures c.in_ok-push_two.ensures c.in_ok-push_two-2.ensures c.in_ok-push-2.ensures.items
    ∙ ap (λ (t : List ℕ). old ++ t) (sym (part-text part))
