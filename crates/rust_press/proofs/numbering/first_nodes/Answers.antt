use Rattle.rust_press.proofs.Basics.{◌≡◌, ◌<◌, length, slice_get, [], ◌∷◌, ap, arith, sym, subst, length-append, length-trees, trees_of, AreFirsts, first-below, none-first, firsts-more, found_in}
use Rattle.rust_press.proofs.KeyLemmas.{AreOne, IsKey, test, are-keys, looked-up, at-node}
use Rattle.rust_press.proofs.numbering.first_nodes.Goals as goal

pub loop-node-init : goal.loop-node-init
loop-node-init c =
    let y = c.args.symbol.now in (
      none-first (slice_get (trees_of y)) (IsKey y) c.in_ok-firsts.firsts.items (found_in c.in_ok-keys.keys) c.in_ok-firsts.ensures.items
          c.in_ok-keys.ensures.none,
      ap length c.in_ok-firsts.ensures.items,
      c.in_ok-keys.ensures.index,
    )

pub loop-node-preserved : goal.loop-node-preserved
loop-node-preserved c =
    let y = c.args.symbol.now in
    let inv = c.loop-node.invariant in
    let ns = c.loop-node.firsts.items in
    let n = c.in_ok-first.first in
    let o = c.in_ok-first.ensures in
    let room : c.loop-node.node < length (trees_of y) = omega (arith, c.loop-node-test.true, c.counts-count.ensures.nodes, length-trees y.bytes y.table.nodes) in
    let own = at-node y ns c.deref.result.now c.loop-node.node c.key_of.result c.deref.ensures.value c.key_of.ensures in (
      subst (λ l. AreFirsts (slice_get (trees_of y)) (IsKey y) l (found_in c.first_with.new.self)) (sym c.in_ok-push.ensures.items)
          (firsts-more AreOne test (slice_get (trees_of y)) (length (trees_of y)) (IsKey y) ns (found_in c.loop-node.keys) (found_in c.first_with.new.self) c.key_of.result c.loop-node.node n
          (are-keys y) (looked-up c.loop-node.keys) inv.0 (sym inv.1) room own o.known o.fresh),
      omega (arith, ap length c.in_ok-push.ensures.items, length-append ns (n ∷ []), inv.1),
      o.index,
    )

pub returns-clause-firsts : goal.returns-clause-firsts
returns-clause-firsts c =
    let y = c.args.symbol.now in
    let inv = c.loop-node.invariant in
    let firsts = c.loop-node.firsts.items in
    let long : length firsts ≡ length (trees_of y) =
    omega (arith, inv.1, c.loop-node-test.false, c.loop-node.auto.node-end, c.counts-count.ensures.nodes, length-trees y.bytes y.table.nodes) in record {
      long = long;
      same = inv.0.apart.same;
      equal = inv.0.apart.equal;
      below = λ i low. omega (arith, long, first-below (slice_get (trees_of y)) (IsKey y) firsts (found_in c.loop-node.keys) inv.0 i low);
    }
