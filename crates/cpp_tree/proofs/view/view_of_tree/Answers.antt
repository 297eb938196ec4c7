use Rattle.cpp_tree.proofs.Basics.{ap, sym, ◌∙◌, erase, over, fields_of}
use Rattle.cpp_tree.proofs.Trees.{erased_place, place_most, later_parts}
use Rattle.cpp_tree.proofs.view.view_of_tree.Goals as goal

pub returns : goal.returns
returns c =
    let seen = c.view_of_own.ensures in
    let y = over c.args.symbol.now c.args.nodes.now in
    record {
      fields = seen.fields ∙ ap fields_of (ap erase (sym c.node.ensures.tree) ∙ erased_place y c.resolved-place.result _ c.resolved-place.ensures.tree);
      texts = seen.texts;
      parts = later_parts c.resolved-place.result.node c.args.tree c.view_of_own.result (place_most y c.args.tree c.resolved-place.result c.requires.table c.requires.tree c.resolved-place.ensures.is) (seen.parts c.resolved-place.result.node c.node.ensures.below);
      few = seen.few;
    }
