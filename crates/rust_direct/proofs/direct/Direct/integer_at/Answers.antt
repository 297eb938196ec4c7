use Rattle.rust_direct.proofs.ConstantsRead.{integer-written}
use Rattle.rust_direct.proofs.direct.Direct.integer_at.Goals as goal

pub returns : goal.returns
returns c =
    integer-written c.args.s.now c.args.self.now c.push.new.self c.push_decimal.new.self c.args._at c.args.digits c.args.minus c.in_ok-value.value
    c.in_ok-value.end c.sign_of.result.now c.requires.begins c.in_ok-value.ensures c.sign_of.ensures c.in_ok-push.ensures c.in_ok-push_decimal.ensures
