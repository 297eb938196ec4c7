use Rattle.sym_filter.proofs.Basics.{◌&&◌, and_parts, is_no_mark}
use Rattle.sym_filter.proofs.LaneLemmas.{all-next}
use Rattle.sym_filter.proofs.lanes.block_has_no_mark.Goals as goal

pub returns : goal.returns
returns c = λ all.
    let text = c.args.text.now in
    let at = c.args.at in
    let first = c.has_no_mark in
    let second = c.has_no_mark-2 in
    let third = c.has_no_mark-3 in
    let fourth = c.has_no_mark-4 in
    let three = and_parts ((first.result && second.result) && third.result) fourth.result all in
    let two = and_parts (first.result && second.result) third.result three.0 in
    let one = and_parts first.result second.result two.0 in
    all-next is_no_mark text at 48 (all-next is_no_mark text at 32 (all-next is_no_mark text at 16 (first.ensures one.0) (second.ensures one.1)) (third.ensures two.1)) (fourth.ensures three.1)
