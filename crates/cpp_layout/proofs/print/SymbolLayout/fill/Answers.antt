use Rattle.std.proofs.Common.{reverse, ap, ◌∙◌}
use Rattle.cpp_layout.proofs.Printing.{prints, filled}
use Rattle.cpp_layout.proofs.print.SymbolLayout.fill.Goals as goal

pub returns-clause-parts : goal.returns-clause-parts
returns-clause-parts c = filled c.args.self.now _ _ _ _ (prints c.args.self.now c.args.item _ _ c.requires.may_come.0 c.fill_form.ensures.shows) c.requires.empty (c.reverse.ensures.after ∙ ap reverse c.as_mut_slice.ensures.value)
