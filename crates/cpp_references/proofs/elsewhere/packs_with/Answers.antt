use Rattle.cpp_references.proofs.Basics.{◌∙◌, ap, refl, Some, pack_length, placed-some, trees_in}
use Rattle.cpp_references.proofs.elsewhere.packs_with.Goals as goal

pub returns : goal.returns
returns c = c.packs.ensures ∙ ap pack_length (placed-some (trees_in c.args.symbol.now c.args.nodes.now) (record { node = c.args.node; under = Some c.args.argument }) c.args.argument refl)
