use Rattle.cpp_direct.proofs.ForAnswers.{true, false, arith, IsWriting, opened-so, no-reference, parameter-comes, reference-comes, there, Step}
use Rattle.cpp_direct.proofs.direct.Direct.parameter.Goals as goal

pub returns-then-byte-eq82 : goal.returns-then-byte-eq82
returns-then-byte-eq82 g c =
    opened-so c.open_type.result Step.Type _ (IsWriting _ c.open_type.new.self) c.open_type.ensures
    (reference-comes _ c.args.self.now c.open_type.new.self c.args._is_pointer true c.end-from.result c.requires c.end-from.ensures
    (there c.args.s.now c.args.self.now.at c.byte_at-byte.result 82 c.if-byte-eq82.true (omega arith) c.byte_at-byte.ensures))

pub returns-then-byte-eq79 : goal.returns-then-byte-eq79
returns-then-byte-eq79 g c =
    let opened = c.open_type-then-byte-eq79 in
    opened-so opened.result Step.Type _ (IsWriting _ opened.new.self) opened.ensures
    (reference-comes _ c.args.self.now opened.new.self c.args._is_pointer false c.end-from.result c.requires c.end-from.ensures
    (there c.args.s.now c.args.self.now.at c.byte_at-byte.result 79 c.if-byte-eq79.true (omega arith) c.byte_at-byte.ensures))

pub returns : goal.returns
returns g c =
    parameter-comes _ c.args.self.now c.args._is_pointer c.requires
    (no-reference c.args.s.now c.args.self.now.at c.byte_at-byte.result c.byte_at-byte.ensures c.if-byte-eq0.false c.if-byte-eq82.false c.if-byte-eq79.false)
