use Rattle.std.proofs.Common.{Ok, arith, subst, sym}
use Rattle.sym_demangle.specs.Mangled.{IsAnswer}
use Rattle.cpp_direct.specs.Symbol.{mangled_by}
use Rattle.itanium.proofs.Written.{shown_answer}
use Rattle.itanium.proofs.short_way.write.Goals as goal

pub returns-then-run_by-clause-answer : goal.returns-then-run_by-clause-answer
returns-then-run_by-clause-answer c is =
    subst (λ t. IsAnswer (mangled_by c.args.is_wide) c.args.detail c.args.s.now c.args.limit (Ok t.list.items)) (sym c.forget.ensures.text)
    (shown_answer c.args.is_wide c.args.detail c.args.s.now c.run_by.new.writer.lists.text.list.items c.args.limit _ (c.run_by.ensures.shown c.if-run_by.true)
    (omega arith))
