use Rattle.cpp_direct.proofs.ForAnswers.{refl, address-nested}
use Rattle.cpp_direct.proofs.direct.Direct.begin_address.Goals as goal

pub nest_at-requires-clause-awaits : goal.nest_at-requires-clause-awaits
nest_at-requires-clause-awaits g c =
    address-nested _ c.args.self.now c.push_byte.new.self _ c.in_ok-encoding.encoding
    c.in_ok-checked_add.field-0 c.in_ok-place.place c.requires.awaits (c.is_address_at.ensures c.if-not-is_address_at.false) c.in_ok-encoding.ensures.1
    c.in_ok-push_byte.ensures c.in_ok-push.ensures.items refl refl refl refl c.in_ok-checked_add.ensures.1 c.in_ok-place.ensures
