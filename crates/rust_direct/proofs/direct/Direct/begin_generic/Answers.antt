use Rattle.std.proofs.Common.{refl}
use Rattle.rust_direct.proofs.ArgumentsRead.{generic-begun}
use Rattle.rust_direct.proofs.direct.Direct.begin_generic.Goals as goal

pub returns-clause-awaits : goal.returns-clause-awaits
returns-clause-awaits g c =
    generic-begun g.S.Showing.IS_BRIEF c.args._s.now c.args.self.now _ c.args.is_value c.requires.awaits c.requires.letter c.in_ok-push.ensures.items c.push.ensures.room
    c.in_ok-self.ensures.1 refl refl refl refl refl
