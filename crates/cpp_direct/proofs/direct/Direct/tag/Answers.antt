use Rattle.cpp_direct.proofs.ForAnswers.{tag-read}
use Rattle.cpp_direct.proofs.direct.Direct.tag.Goals as goal

pub returns : goal.returns
returns c =
    tag-read c.args.s.now c.args.self.now c.push.new.self c.push-2.new.self c.push_byte.new.self c.in_ok-place.place c.in_ok-self.field-0 c.requires.letter
    c.in_ok-self.ensures.1 c.in_ok-place.ensures c.in_ok-push.ensures c.in_ok-push-2.ensures c.in_ok-push_byte.ensures
