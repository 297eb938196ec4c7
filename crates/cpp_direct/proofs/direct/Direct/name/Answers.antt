use Rattle.cpp_direct.proofs.ForAnswers.{refl, some-by, name-read}
use Rattle.cpp_direct.proofs.direct.Direct.name.Goals as goal

pub returns : goal.returns
returns c =
    some-by c.push.result c.push.ensures
    (name-read c.args.s.now c.args.self.now _ c.push.new.self c.in_ok-place.place c.name_text.result.now c.in_ok-place.ensures c.name_text.ensures
    refl refl refl refl refl refl)
