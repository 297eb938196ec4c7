use Rattle.cpp_direct.proofs.ForAnswers.{refl, argument-awaits, popped}
use Rattle.cpp_direct.proofs.direct.Direct.note_argument.Goals as goal

pub returns : goal.returns
returns g c =
    let p = c.requires.read in
    let w = c.args.self.now in
    argument-awaits _ w _ c.args._is_pack c.args.from c.end-to.result c.args.number c.args.known c.with.result c.args.is_reference p
    (popped w.waiting.list.items c.pop-entry.new.self.list.items _ _ _ refl p.open_is c.pop-entry.ensures.rest)
    refl refl refl refl c.end-to.ensures c.with.ensures.more c.with.ensures.rest
