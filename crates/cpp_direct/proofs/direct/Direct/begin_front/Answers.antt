use Rattle.cpp_direct.proofs.ForAnswers.{refl, front-begins}
use Rattle.cpp_direct.proofs.direct.Direct.begin_front.Goals as goal

pub returns : goal.returns
returns g c =
    front-begins _ c.args.self.now _ c.args.mark c.args.argument c.args.from c.end-start.result c.requires.scoped
    (c.has_front.ensures c.if-not-has_front.false) c.end-start.ensures refl refl refl refl c.in_ok-push.ensures.items
