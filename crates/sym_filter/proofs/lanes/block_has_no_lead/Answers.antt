use Rattle.sym_filter.proofs.Basics.{◌&&◌, and_parts, is_no_lead}
use Rattle.sym_filter.proofs.LaneLemmas.{all-next}
use Rattle.sym_filter.proofs.lanes.block_has_no_lead.Goals as goal

pub returns : goal.returns
returns c = λ all.
    let text = c.args.text.now in
    let at = c.args.at in
    let first = c.has_no_lead in
    let second = c.has_no_lead-2 in
    let third = c.has_no_lead-3 in
    let fourth = c.has_no_lead-4 in
    let three = and_parts ((first.result && second.result) && third.result) fourth.result all in
    let two = and_parts (first.result && second.result) third.result three.0 in
    let one = and_parts first.result second.result two.0 in
    all-next is_no_lead text at 48 (all-next is_no_lead text at 32 (all-next is_no_lead text at 16 (first.ensures one.0) (second.ensures one.1)) (third.ensures two.1)) (fourth.ensures three.1)
