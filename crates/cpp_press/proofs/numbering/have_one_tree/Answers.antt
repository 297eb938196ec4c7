use Rattle.cpp_press.proofs.Basics.{[], sym, subst, arith, found_in, ComeNext, both_at}
use Rattle.cpp_press.proofs.Numbered.{begins-one, goes-on, item-is, told-one}
use Rattle.cpp_press.proofs.numbering.have_one_tree.Goals as goal

pub firsts_after-requires-clause-next : goal.firsts_after-requires-clause-next
firsts_after-requires-clause-next c =
    let one = c.args.one.now in
    let other = c.args.other.now in
    (both_at one other, [], begins-one one other (found_in c.in_ok-keys.keys) c.in_ok-keys.ensures.none)

pub firsts_after-requires-2-clause-next : goal.firsts_after-requires-2-clause-next
firsts_after-requires-2-clause-next c =
    let one = c.args.one.now in
    let other = c.args.other.now in
    let firsts = c.in_ok-firsts.firsts.items in
    let known = c.in_ok-firsts.ensures.firsts (both_at one other) []
    (begins-one one other (found_in c.in_ok-keys.keys) c.in_ok-keys.ensures.none) in (
      both_at one other,
      firsts,
      subst (λ m. ComeNext other (both_at one other) firsts m (found_in c.firsts_after.new.keys)) (sym c.counts-2.ensures.nodes)
          (goes-on one other firsts (found_in c.firsts_after.new.keys) c.in_ok-firsts.ensures.long known),
    )

pub returns-clause-same : goal.returns-clause-same
returns-clause-same c =
    let one = c.args.one.now in
    let other = c.args.other.now in
    let firsts = c.in_ok-firsts.firsts.items in
    let others = c.in_ok-others.others.items in
    let known = c.in_ok-firsts.ensures.firsts (both_at one other) []
    (begins-one one other (found_in c.in_ok-keys.keys) c.in_ok-keys.ensures.none) in
    let all = c.in_ok-others.ensures.firsts (both_at one other) firsts
    (subst (λ m. ComeNext other (both_at one other) firsts m (found_in c.firsts_after.new.keys)) (sym c.counts-2.ensures.nodes)
    (goes-on one other firsts (found_in c.firsts_after.new.keys) c.in_ok-firsts.ensures.long known)) in
    told-one one other firsts others (found_in c.firsts_after-2.new.keys) c.index-first.result.now c.index-other_first.result.now c.in_ok-firsts.ensures.long
    c.in_ok-others.ensures.long (omega (arith, c.root_node.ensures.within, c.root_node.ensures.root)) (omega (arith, c.root_node-2.ensures.within, c.root_node-2.ensures.root)) all
    (item-is firsts c.root_node.result one.root c.index-first.result.now c.index-first.ensures c.root_node.ensures.root
    (omega (arith, c.root_node.ensures.within, c.root_node.ensures.root, c.in_ok-firsts.ensures.long)))
    (item-is others c.root_node-2.result other.root c.index-other_first.result.now c.index-other_first.ensures c.root_node-2.ensures.root
    (omega (arith, c.root_node-2.ensures.within, c.root_node-2.ensures.root, c.in_ok-others.ensures.long)))
