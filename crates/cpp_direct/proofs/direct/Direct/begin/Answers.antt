use Rattle.cpp_direct.proofs.ForAnswers.{◌∷◌, [], arith, refl, sym, ◌∙◌, encoding-awaited, then-there, there}
use Rattle.cpp_direct.proofs.direct.Direct.begin.Goals as goal

pub begin_encoding-requires-clause-awaits : goal.begin_encoding-requires-clause-awaits
begin_encoding-requires-clause-awaits g c =
    let second = c.byte_at-else-byte_at-ne95 in
    encoding-awaited _ (record c.args.self.now { at = 2 }) c.requires.fresh.no_text c.requires.fresh.no_candidate
    (then-there c.args.s.now (95 ∷ []) 0 1 second.result 90 (there c.args.s.now 0 c.byte_at.result 95 c.if-byte_at-ne95.false (omega arith) c.byte_at.ensures)
    refl c.if-byte_at-ne90.false (omega arith) second.ensures) refl
    (sym c.is_local.ensures ∙ c.if-is_local.false) (sym c.is_guard.ensures ∙ c.if-is_guard.false)
