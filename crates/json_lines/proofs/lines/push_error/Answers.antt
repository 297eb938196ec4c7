use Rattle.json_lines.proofs.Basics.{◌∙◌, ◌++◌, ℕ, ap, codes, true, on_ok_weaker, decimal, Members, member, no_members, number, string, members_text}
use Rattle.json_lines.proofs.LineLemmas.{put-two, text-word}
use Rattle.json_lines.proofs.lines.push_error.Goals as goal

pub returns : goal.returns
returns c =
    let place : ℕ → Members = λ at. member (codes "at") (number (decimal at)) no_members in
    let mid = c.push_word.new.out.items in
    on_ok_weaker c.push_number.result (λ pushed. put-two c.args.out.now.items mid c.push_number.new.out.items (members_text true (member (codes "error") (string c.args.reason.now) no_members)) (members_text true (place c.args.at)) _ c.in_ok-push_word.ensures
    (pushed ∙ ap (λ (at : ℕ). mid ++ members_text true (place at)) c.from.ensures) (text-word true (codes "error") c.args.reason.now (place c.args.at))) c.push_number.ensures
