use Rattle.std.proofs.Common.{◌≡◌, ◌<◌, refl, sym, ◌∙◌}
use Rattle.example_layout.specs.Dag.{bytes_of, mark_of}
use Rattle.sym_print.specs.declared.layout.Part.TheVariants.{Fixed}
use Rattle.example_layout.proofs.DagLemmas.{leaf-prints, pair-prints, one-pushed, three-pushed, mark-left, mark-right, pair-may_come}
use Rattle.example_layout.proofs.DagLayout.fill.Goals as goal
use Rattle.example_layout.proofs.DagLayout.fill.Goals.{then-item, else-item}

pub returns-in-Leaf-clause-parts : goal.returns-in-Leaf-clause-parts
returns-in-Leaf-clause-parts c =
    leaf-prints c.args.self.now.nodes.items c.args.item c.index.result.now c.requires.may_come.0 c.requires.may_come.1 c.push.new.self.items c.in-Leaf.byte _
    (sym c.index.ensures ∙ c.in-Leaf.is) refl (one-pushed c.args.parts.now.items c.push.new.self.items c.requires.empty c.push.ensures.items)

pub returns-after-item-clause-parts : goal.returns-after-item-clause-parts
returns-after-item-clause-parts c =
    let marked : (bytes_of (Fixed c.if-item.push) ≡ mark_of c.args.item.ctx) × (c.if-item.push < 2) =
    elim c.if-item.branch [
      | then-item w ↦ mark-right c.if-item.push c.args.item.ctx w.if-item.true w.push-is
      | else-item w ↦ mark-left c.if-item.push c.args.item.ctx w.if-item.false w.push-is
    ] in
    pair-prints c.args.self.now.nodes.items c.args.item c.index.result.now c.requires.may_come.0 c.requires.may_come.1 c.push-in-Pair-3.new.self.items c.in-Pair.left c.in-Pair.right c.if-item.push _ _
    (sym c.index.ensures ∙ c.in-Pair.is) refl refl refl refl marked.0
    (three-pushed c.args.parts.now.items c.push-in-Pair.new.self.items c.push-in-Pair-2.new.self.items c.push-in-Pair-3.new.self.items
    c.requires.empty c.push-in-Pair.ensures.items c.push-in-Pair-2.ensures.items c.push-in-Pair-3.ensures.items)

pub returns-after-item-clause-may_come : goal.returns-after-item-clause-may_come
returns-after-item-clause-may_come c =
    let marked : (bytes_of (Fixed c.if-item.push) ≡ mark_of c.args.item.ctx) × (c.if-item.push < 2) =
    elim c.if-item.branch [
      | then-item w ↦ mark-right c.if-item.push c.args.item.ctx w.if-item.true w.push-is
      | else-item w ↦ mark-left c.if-item.push c.args.item.ctx w.if-item.false w.push-is
    ] in
    pair-may_come c.args.self.now.nodes.items c.args.item.node c.index.result.now c.in-Pair.left c.in-Pair.right c.if-item.push _ _ c.push-in-Pair-3.new.self.items c.requires.may_come.0 c.requires.may_come.1
    (sym c.index.ensures ∙ c.in-Pair.is) refl refl marked.1
    (three-pushed c.args.parts.now.items c.push-in-Pair.new.self.items c.push-in-Pair-2.new.self.items c.push-in-Pair-3.new.self.items
    c.requires.empty c.push-in-Pair.ensures.items c.push-in-Pair-2.ensures.items c.push-in-Pair-3.ensures.items)
