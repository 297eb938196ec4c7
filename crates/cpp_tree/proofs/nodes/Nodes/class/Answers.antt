use Rattle.cpp_tree.proofs.Basics.{◌≡◌, sym, ap, ◌∙◌, length, given_alone, free_in, over, trees, tree_at, class_is, entry_at, free_is, argument_class}
use Rattle.cpp_term.specs.Items as items
use Rattle.cpp_tree.proofs.Noting.{class-by-given, class-later, argument-below, chosen-below}
use Rattle.cpp_tree.proofs.Trees.{class_at, placed-none, placed-some, same-class, same-below}
use Rattle.cpp_tree.proofs.nodes.Nodes.class.Goals as goal

pub returns-in-None : goal.returns-in-None
returns-in-None c =
    let y = over c.args.symbol.now c.args.self.now in
    let at = class_at y c.args.ty.node c.entry-held.result.class c.requires.table c.requires.ty.0 (ap (λ e. e.class) (sym c.entry-held.ensures)) in
    record { class = at.0 ∙ ap items.class_of (sym (placed-none (trees y) c.args.ty c.in-None.is)); below = at.1 }

pub returns-in-Some : goal.returns-in-Some
returns-in-Some c =
    let y = over c.args.symbol.now c.args.self.now in
    let e = entry_at c.args.self.now.nodes c.args.ty.node in
    let a = c.in-Some.argument in
    let g = c.given_alone-given.result in
    let few = c.given_alone-given.ensures.below in
    let one : free_is c.entry-held.result.free ≡ free_in (tree_at (trees y) c.args.ty.node) = ap (λ x. free_is x.free) c.entry-held.ensures ∙ (c.requires.table.each c.args.ty.node c.requires.ty.0).free in
    let is = same-class c.chosen.result c.entry-held.result e c.given_class.result (argument_class c.args.self.now.nodes g) c.chosen.ensures c.entry-held.ensures c.given_class.ensures in
    record {
      class = ap (λ x. class_is (trees y) x) is ∙ class-by-given y c.requires.table c.args.ty.node g (tree_at (trees y) a) c.requires.ty.0 few (c.given_alone-given.ensures.tree ∙ ap (given_alone (tree_at (trees y) a)) one) ∙ ap items.class_of (sym (placed-some (trees y) c.args.ty a c.in-Some.is));
      below = same-below _ _ _ is (chosen-below y c.requires.table (length c.args.self.now.nodes) e.by_argument.head e.class (argument_class c.args.self.now.nodes g)
          (class-later y c.requires.table c.args.ty.node (length c.args.self.now.nodes) e.class c.requires.ty.0 (c.requires.table.each c.args.ty.node c.requires.ty.0).class_below)
          (argument-below y c.requires.table g few));
    }
