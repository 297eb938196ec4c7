use Rattle.cpp_direct.proofs.ForAnswers.{arith, there, source-named}
use Rattle.cpp_direct.proofs.direct.Direct.named_type.Goals as goal

pub nested_type-requires-clause-letter : goal.nested_type-requires-clause-letter
nested_type-requires-clause-letter g c = there c.args.s.now c.args.self.now.at c.byte_at.result 78 c.in-78.is (omega arith) c.byte_at.ensures

pub type_named-requires : goal.type_named-requires
type_named-requires g c =
    let got = c.in_ok-name-in_default.ensures in
    source-named _ c.args.self.now c.name.new.self c.end-from.result got.0 c.requires.awaits got.1 got.2 got.3 c.end-from.ensures

pub begin_enclosing-requires-clause-letter : goal.begin_enclosing-requires-clause-letter
begin_enclosing-requires-clause-letter g c = there c.args.s.now c.args.self.now.at c.byte_at.result 90 c.in-90.is (omega arith) c.byte_at.ensures
