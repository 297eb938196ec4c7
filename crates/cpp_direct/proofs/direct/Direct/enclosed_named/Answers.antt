use Rattle.cpp_direct.proofs.ForAnswers.{type-within}
use Rattle.cpp_direct.proofs.direct.Direct.enclosed_named.Goals as goal

pub returns : goal.returns
returns g c =
    let read = c.in_ok-enclosed_piece.ensures in
    let told = c.in_ok-discriminator.ensures in
    let added = c.in_ok-add_candidate.ensures in
    type-within _ c.args.self.now c.push_pair.new.self c.enclosed_piece.new.self c.discriminator.new.self
    c.add_candidate.new.self c.args.from c.requires.awaits c.in_ok-push_pair.ensures read.0 read.1 read.2 read.3 read.4 told.0 told.1 told.2
    added.candidates added.text added.waiting added.scope added.at
