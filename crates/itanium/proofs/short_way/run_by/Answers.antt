use Rattle.std.proofs.Common.{sym, subst}
use Rattle.cpp_direct.specs.WriterInvariant.{IsShown}
use Rattle.cpp_direct.specs.Symbol.{symbol_as}
use Rattle.itanium.proofs.short_way.run_by.Goals as goal

pub returns-then-is_wide-clause-shown : goal.returns-then-is_wide-clause-shown
returns-then-is_wide-clause-shown c is =
    subst (λ b. IsShown (symbol_as b c.args.detail c.args.s.now) c.args.most c.run_as.new.writer.lists.text.list.items) (sym c.if-is_wide.true) (c.run_as.ensures.shown is)

pub returns-clause-shown : goal.returns-clause-shown
returns-clause-shown c is =
    subst (λ b. IsShown (symbol_as b c.args.detail c.args.s.now) c.args.most c.run_as-2.new.writer.lists.text.list.items) (sym c.if-is_wide.false)
    (c.run_as-2.ensures.shown is)
