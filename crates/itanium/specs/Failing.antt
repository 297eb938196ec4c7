-- A symbol whose shape denotes a refusal is refused for that reason, by both grammars.
use Rattle.std.proofs.Common.{refl, subst}
use Rattle.sym_core.specs.declared.refusal.Refusal.{Refusal}
use Rattle.sym_shape.specs.Grown.{GrowsInto}
use Rattle.sym_shape.specs.declared.rule.Sym.TheVariants.{Kind}
use Rattle.sym_shape.specs.Tree.{Tree, IsTree, spell}
use Rattle.sym_link.specs.Driving.{Fails}
use Rattle.sym_link.specs.Following.{meaning_of}
use Rattle.sym_link.proofs.Tally.{fails_untallied}
use Rattle.cpp_grammar.specs.Table.{abi, wide}
use Rattle.cpp_grammar.proofs.Growing.{abi_wide}
use Rattle.cpp_grammar.specs.Unfolding.{unfold_cpp}
use Rattle.cpp_grammar.specs.Rescoping.{unfold_wide}
use Rattle.cpp_term.proofs.Erasing.{reading_fails, wide_reading_fails}
use Rattle.cpp_link.specs.View.{cpp_view}
use Rattle.cpp_link.specs.NodeCount.{cpp_makes, cpp_counted}
use Rattle.cpp_link.specs.LinkRescoping.{wide_view, wide_makes, wide_counted}
use Rattle.cpp_link.proofs.LinkReading.{meaning_same, wide_meaning_same}

pub abi_grows : GrowsInto abi wide
abi_grows tree is = abi_wide (Kind 0) tree is

pub abi_fails : (shape : Tree) (refusal : Refusal) → IsTree abi (Kind 0) shape → Fails refusal (meaning_of (cpp_counted (spell shape)) shape) → Fails refusal (unfold_cpp shape)
abi_fails shape refusal is fails =
    let tree = abi_grows shape is in
    reading_fails shape refusal tree
    (subst (Fails refusal) (meaning_same (spell shape) shape tree refl) (fails_untallied (cpp_view (spell shape)) cpp_makes shape refusal fails))

pub wide_fails : (shape : Tree) (refusal : Refusal) → IsTree wide (Kind 0) shape → Fails refusal (meaning_of (wide_counted (spell shape)) shape) → Fails refusal (unfold_wide shape)
wide_fails shape refusal is fails =
    wide_reading_fails shape refusal is
    (subst (Fails refusal) (wide_meaning_same (spell shape) shape is refl) (fails_untallied (wide_view (spell shape)) wide_makes shape refusal fails))
