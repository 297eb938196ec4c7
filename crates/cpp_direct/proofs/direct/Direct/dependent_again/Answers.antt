use Rattle.cpp_direct.proofs.ForAnswers.{again-inside, dependent-again}
use Rattle.cpp_direct.proofs.direct.Direct.dependent_again.Goals as goal

pub repeat-requires : goal.repeat-requires
repeat-requires g c =
    let is = again-inside _ c.args.self.now c.args.candidate c.requires.again in
    record { from = is.0; to = is.1 }

pub returns : goal.returns
returns g c =
    dependent-again _ c.args.self.now c.repeat.new.self c.args.candidate c.in_ok-named.named
    c.requires.again c.in_ok-named.ensures c.if-named-eq0.false c.in_ok-repeat.ensures
