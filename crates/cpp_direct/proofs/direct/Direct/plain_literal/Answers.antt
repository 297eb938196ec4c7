use Rattle.cpp_direct.proofs.ForAnswers.{refl, reads-begun, boolean-literal-read, integer-literal-read}
use Rattle.cpp_direct.proofs.direct.Direct.plain_literal.Goals as goal

pub returns-then-byte_at-eq98 : goal.returns-then-byte_at-eq98
returns-then-byte_at-eq98 g c =
    boolean-literal-read _ c.args.self.now (record c.args.self.now { at = c.in_ok-self.field-0 }) c.boolean.new.self
    c.literal_ended.new.self c.requires.letter c.in_ok-self.ensures.1 (reads-begun c.args.self.now _ refl refl refl refl refl) c.in_ok-boolean.ensures
    c.in_ok-literal_ended.ensures

pub returns : goal.returns
returns g c =
    integer-literal-read _ c.args.self.now (record c.args.self.now { at = c.in_ok-self.field-0 }) c.integer.new.self
    c.literal_ended-2.new.self c.requires.letter c.in_ok-self.ensures.1 (reads-begun c.args.self.now _ refl refl refl refl refl) c.in_ok-integer.ensures
    c.in_ok-literal_ended-2.ensures
