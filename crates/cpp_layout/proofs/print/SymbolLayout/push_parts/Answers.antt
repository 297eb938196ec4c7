use Rattle.cpp_layout.proofs.Printing.{prints}
use Rattle.cpp_layout.proofs.print.SymbolLayout.push_parts.Goals as goal

pub returns-clause-parts : goal.returns-clause-parts
returns-clause-parts c = prints c.args.self.now c.args.item _ _ c.requires.may_come.0 c.fill_form.ensures.shows
