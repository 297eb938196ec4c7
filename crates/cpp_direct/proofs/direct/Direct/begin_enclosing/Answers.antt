use Rattle.cpp_direct.proofs.ForAnswers.{arith, refl, nest-within, source-within, there}
use Rattle.cpp_direct.proofs.direct.Direct.begin_enclosing.Goals as goal

pub enclosing_named-requires-clause-named : goal.enclosing_named-requires-clause-named
enclosing_named-requires-clause-named g c =
    let read = c.in_ok-name.ensures in
    source-within _ c.args.self.now (record c.args.self.now { at = c.in_ok-self.field-0 }) c.name.new.self read.0 c.end-from.result
    c.requires.awaits c.requires.letter refl refl refl refl c.in_ok-self.ensures.1 read.1 read.2 read.3 c.end-from.ensures

pub nest_at-requires-clause-awaits : goal.nest_at-requires-clause-awaits
nest_at-requires-clause-awaits g c =
    nest-within _ c.args.self.now c.in_ok-self.field-0 c.in_ok-checked_add.field-0 c.in_ok-place.place c.requires.awaits c.requires.letter
    c.in_ok-self.ensures.1 (there c.args.s.now c.in_ok-self.field-0 c.byte_at.result 78 c.if-byte_at-ne78.false (omega arith) c.byte_at.ensures)
    c.in_ok-checked_add.ensures.1 c.in_ok-place.ensures
