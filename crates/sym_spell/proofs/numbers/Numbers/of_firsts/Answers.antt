use Rattle.std.proofs.Common.{length, [], ◌∷◌, ap, arith, sym, subst, ◌∙◌, length-append, refl}
use Rattle.sym_spell.specs.Numbers.{number_at, AreCounted}
use Rattle.sym_spell.proofs.Entering.{enters}
use Rattle.sym_spell.proofs.Counting.{Same, number-test, none-counted, counted-more, entries-few, numbers-below}
use Rattle.sym_spell.proofs.numbers.Numbers.of_firsts.Goals as goal

pub loop-node-init : goal.loop-node-init
loop-node-init c = (
  none-counted c.args.firsts.now c.in_ok-numbers.numbers.items c.in_ok-entries.entries.keys c.in_ok-numbers.ensures.items c.in_ok-entries.ensures.empty,
  ap length c.in_ok-numbers.ensures.items,
  refl,
)

pub overflow_add-looks : goal.overflow_add-looks
overflow_add-looks c = omega (arith, c.loop-node.invariant.2, c.loop-node-test.true, c.requires.few)

pub overflow_cast-number : goal.overflow_cast-number
overflow_cast-number c =
    let inv = c.loop-node.invariant in
    let o = c.in_ok-number.ensures in
    let e = enters Same _ number-test c.loop-node.entries.keys c.insert_full.new.self.keys (number_at c.args.firsts.now c.loop-node.node) c.in_ok-number.number o.index o.keys o.within o.stored o.unique in
    omega (arith, e.low, inv.0.many, entries-few c.loop-node.numbers.items inv.0.numbered.next, inv.1, c.loop-node-test.true, c.requires.few)

pub loop-node-preserved : goal.loop-node-preserved
loop-node-preserved c =
    let o = c.in_ok-number.ensures in
    let inv = c.loop-node.invariant in
    let firsts = c.args.firsts.now in
    let ns = c.loop-node.numbers.items in
    let n = c.in_ok-number.number in
    let key = number_at firsts c.loop-node.node in
    let e = enters Same _ number-test c.loop-node.entries.keys c.insert_full.new.self.keys key n o.index o.keys o.within o.stored o.unique in (
      subst (λ l. AreCounted firsts l c.insert_full.new.self.keys) (sym c.in_ok-push.ensures.items)
          (counted-more firsts ns c.loop-node.entries.keys c.insert_full.new.self.keys key n inv.0 (ap (number_at firsts) (sym inv.1)) e),
      omega (arith, ap length c.in_ok-push.ensures.items, length-append ns (n ∷ []), inv.1),
      omega (arith, inv.2),
    )

pub invariant_of-result : goal.invariant_of-result
invariant_of-result c =
    let inv = c.loop-node.invariant in
    let all = numbers-below c.loop-node.numbers.items inv.0.numbered.next in
    let is = inv.2 ∙ sym inv.1 in (λ i low. omega (arith, all i low, is), is)

pub returns-clause-numbers : goal.returns-clause-numbers
returns-clause-numbers c =
    let inv = c.loop-node.invariant in
    let are = inv.0.numbered in
    record {
      long = omega (arith, inv.1, c.loop-node-test.false, c.loop-node.auto.node-end);
      same = are.same;
      equal = are.equal;
      next = are.next;
    }
