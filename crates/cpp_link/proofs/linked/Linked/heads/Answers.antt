use Rattle.cpp_link.proofs.Basics.{◌∙◌, nth_head}
use Rattle.cpp_link.proofs.Awaited.{heads_are}
use Rattle.cpp_link.proofs.linked.Linked.heads.Goals as goal

pub returns : goal.returns
unfolding nth_head
returns c =
    let one = c.first_head-one.ensures in
    let two = c.first_head-two.ensures in
    let three = c.first_head-three.ensures in
    let four = c.first_head-four.ensures in
    heads_are c.args.encoding _ _ _ _ _ one.head (two.head ∙ one.others 0) (three.head ∙ two.others 0 ∙ one.others 1) (four.head ∙ three.others 0 ∙ two.others 1 ∙ one.others 2)
