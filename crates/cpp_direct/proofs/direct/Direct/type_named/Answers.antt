use Rattle.cpp_direct.proofs.ForAnswers.{true, arith, IsWriting, opened-so, bare-done, argued-done, there, Step}
use Rattle.cpp_direct.proofs.direct.Direct.type_named.Goals as goal

pub returns-then-byte_at-ne73 : goal.returns-then-byte_at-ne73
returns-then-byte_at-ne73 g c = bare-done _ c.args.self.now c.add_unless.new.self c.args.from c.args.is_listed c.args.is_reference c.requires c.in_ok-add_unless.ensures

pub returns : goal.returns
returns g c =
    let mid = c.add_unless.new.self in
    opened-so c.open_arguments.result (Step.List true) _ (IsWriting _ c.open_arguments.new.self) c.open_arguments.ensures
    (argued-done _ c.args.self.now mid c.open_arguments.new.self c.args.from c.args.is_listed c.args.is_reference c.requires c.if-is_reference.false
    (there c.args.s.now mid.at c.byte_at.result 73 c.if-byte_at-ne73.false (omega arith) c.byte_at.ensures) c.in_ok-add_unless.ensures)
