use Rattle.cpp_direct.proofs.ForAnswers.{entity-ended}
use Rattle.cpp_direct.proofs.direct.Direct.entity_name.Goals as goal

pub finish-requires : goal.finish-requires
finish-requires g c =
    let read = c.in_ok-name.ensures in
    let told = c.in_ok-discriminator.ensures in
    entity-ended _ c.args.is_internal c.args.self.now c.push_pair.new.self c.name.new.self c.discriminator.new.self c.requires.awaits
    c.in_ok-push_pair.ensures read.0 read.1 read.2 read.3 told.0 told.1 told.2
