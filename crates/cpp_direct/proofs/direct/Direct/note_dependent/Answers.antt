use Rattle.cpp_direct.proofs.ForAnswers.{refl, listed-noted}
use Rattle.cpp_direct.proofs.direct.Direct.note_dependent.Goals as goal

pub returns : goal.returns
returns g c =
    listed-noted _ c.args.self.now _ c.requires.writing.0
    c.pop.new.self.list.items c.in_ok-pop.field-0 c.in_ok-entry.entry c.requires.writing.1 c.in_ok-pop.ensures.items c.in_ok-entry.ensures
    c.in_ok-push.ensures.items refl refl refl refl
