use Rattle.cpp_press.proofs.Basics.{◌<◌, ◌++◌, length, [], ◌∷◌, ap, arith, sym, subst, ◌∙◌, length-append, append-nil, AreBelow, AreFirsts, plain_at, found_in, IsKey, IsKeyOf}
use Rattle.cpp_press.proofs.Numbered.{after-below, after-more}
use Rattle.cpp_press.proofs.numbering.firsts_after.Goals as goal

pub loop-node-init : goal.loop-node-init
loop-node-init c = (
  λ at firsts comes. subst (λ l. AreFirsts at (IsKey at) l (found_in c.args.keys.now))
      (sym (ap (λ l. firsts ++ l) c.in_ok-own.ensures.items ∙ append-nil firsts)) comes.known,
  ap length c.in_ok-own.ensures.items,
  c.requires.index,
)

pub key_of-requires-clause-before : goal.key_of-requires-clause-before
key_of-requires-clause-before c = ap length c.deref.ensures.value ∙ c.loop-node.invariant.1

pub key_of-requires-clause-below : goal.key_of-requires-clause-below
key_of-requires-clause-below c =
    let next = c.requires.next in
    subst (λ l. AreBelow l 4294967295) (sym c.deref.ensures.value)
    (after-below next.0 next.1 c.loop-node.own.items (found_in c.loop-node.keys) 4294967295
    (omega (arith, next.2.many, c.loop-node.invariant.1, c.requires.few, c.loop-node-test.true, c.counts-count.ensures.nodes_bound, c.counts-count.ensures.is_read.fits))
    (c.loop-node.invariant.0 next.0 next.1 next.2))

pub loop-node-preserved : goal.loop-node-preserved
loop-node-preserved c =
    let y = c.args.symbol.now in
    let inv = c.loop-node.invariant in
    let own = c.loop-node.own.items in
    let n = c.in_ok-first.first in
    let o = c.in_ok-first.ensures in
    let room : c.loop-node.node < length y.table.nodes = omega (arith, c.loop-node-test.true, c.counts-count.ensures.nodes) in
    let key = subst (λ l. IsKeyOf (plain_at y) l (plain_at y c.loop-node.node) c.key_of.result) c.deref.ensures.value c.key_of.ensures in (
      λ at firsts comes. subst (λ l. AreFirsts at (IsKey at) (firsts ++ l) (found_in c.first_with.new.self)) (sym c.in_ok-push.ensures.items)
          (after-more y at firsts own c.args.before c.loop-node.node n (found_in c.args.keys.now) c.loop-node.keys (found_in c.first_with.new.self) c.key_of.result
          comes inv.1 room key o.known o.fresh (inv.0 at firsts comes)),
      omega (arith, ap length c.in_ok-push.ensures.items, length-append own (n ∷ []), inv.1),
      o.index,
    )

pub returns-clause-long : goal.returns-clause-long
returns-clause-long c =
    omega (arith, c.loop-node.invariant.1, c.loop-node-test.false, c.loop-node.auto.node-end, c.counts-count.ensures.nodes)

pub returns-clause-firsts : goal.returns-clause-firsts
returns-clause-firsts c = c.loop-node.invariant.0
