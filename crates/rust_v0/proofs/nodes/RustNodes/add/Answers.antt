use Rattle.rust_v0.proofs.Basics.{◌≡◌, sym, ap, ◌∙◌, Some, None, refl, ends_tree}
use Rattle.rust_v0.specs.CodeSemantics as semantics
use Rattle.rust_v0.proofs.Adding.{added_gives}
use Rattle.rust_v0.proofs.nodes.RustNodes.add.Goals as goal

pub returns-in-Some-clause-gives : goal.returns-in-Some-clause-gives
returns-in-Some-clause-gives c at read place there keeps (t, is, makes) =
    let stands = c.in_ok-number.ensures.stands at.symbol t keeps.table makes in
    let ending : (semantics.placed c.args.node c.in_ok-number.number).1 ≡ Some c.in-Some.target = ap (λ r. r.1) (sym c.placed-added.ensures) ∙ c.in-Some.is in
    rw c.placed-added.ensures (added_gives at c.args.self.now (record { nodes = c.push.new.self; targets = c.note.new.targets; alloc = c.args.self.now.alloc })
    c.in_ok-number.number read (rw place there) keeps c.push.ensures.grows stands.0 c.args.node (is ∙ ap (ends_tree at) (sym makes.tree)) (stands.1 ∙ ap Some (sym makes.tree))
    (rw (ending, place) (c.note.ensures.noted there)))

pub returns-in_default-clause-gives : goal.returns-in_default-clause-gives
returns-in_default-clause-gives c at read place there keeps (t, is, makes) =
    let stands = c.in_ok-number.ensures.stands at.symbol t keeps.table makes in
    let ending : (semantics.placed c.args.node c.in_ok-number.number).1 ≡ None = ap (λ r. r.1) (sym c.placed-added.ensures) ∙ c.in_default.is in
    rw c.placed-added.ensures (added_gives at c.args.self.now (record { nodes = c.push.new.self; targets = c.args.self.now.targets; alloc = c.args.self.now.alloc })
    c.in_ok-number.number read (rw place there) keeps c.push.ensures.grows stands.0 c.args.node (is ∙ ap (ends_tree at) (sym makes.tree)) (stands.1 ∙ ap Some (sym makes.tree))
    (rw ending refl))
