use Rattle.cpp_direct.proofs.ForAnswers.{argument-inside, parameter-done}
use Rattle.cpp_direct.proofs.direct.Direct.template_parameter.Goals as goal

pub repeat-requires : goal.repeat-requires
repeat-requires g c =
    let is = argument-inside _ c.args.self.now c.in_ok-named.named c.in_ok-read.read.number c.in_ok-argument.argument c.requires.awaits
    c.in_ok-named.ensures c.in_ok-argument.ensures.is c.in_ok-argument.ensures.known in
    record { from = is.0; to = is.1 }

pub returns : goal.returns
returns g c =
    parameter-done _ c.args.self.now c.repeat.new.self c.add_argument.new.self c.in_ok-named.named c.in_ok-read.read.number c.in_ok-argument.argument c.in_ok-read.read.end
    c.requires.awaits c.in_ok-read.ensures.few c.requires.letter (rw c.in_ok-checked_add.ensures.1 at c.in_ok-read.ensures.stands)
    c.in_ok-named.ensures c.in_ok-argument.ensures.is c.in_ok-argument.ensures.known c.if-named-eq0.false
    c.in_ok-repeat.ensures (rw c.in_ok-checked_add.ensures.1 at c.in_ok-read.ensures.end)
    c.in_ok-add_argument.ensures.candidates c.add_argument.ensures.text c.add_argument.ensures.open c.add_argument.ensures.scope c.add_argument.ensures.at
