use Rattle.rust_direct.proofs.SpecialsRead.{special-written}
use Rattle.rust_direct.proofs.direct.Direct.push_special.Goals as goal

pub returns : goal.returns
returns c =
    special-written c.args.self.now c.push.new.self c.push-2.new.self c.push_behind_colon.new.self c.push_byte.new.self c.push_decimal.new.self
    c.push_byte-2.new.self c.args.namespace.now c.args.name.now c.args.count c.in_ok-push.ensures c.in_ok-push-2.ensures
    c.in_ok-push_behind_colon.ensures c.in_ok-push_byte.ensures c.in_ok-push_decimal.ensures c.in_ok-push_byte-2.ensures
