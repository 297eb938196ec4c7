use Rattle.cpp_direct.proofs.ForAnswers.{◌∷◌, [], arith, address-ended, then-there, there}
use Rattle.cpp_direct.proofs.direct.Direct.addressed.Goals as goal

pub returns : goal.returns
returns g c =
    let w = c.args.self.now in
    let ended = c.end_scope.ensures in
    let second = c.byte_at-else-byte_at-ne69 in
    address-ended _ w c.end_scope.new.self c.requires.read
    (then-there c.args.s.now (69 ∷ []) w.at c.in_ok-behind.behind second.result 69
    (there c.args.s.now w.at c.byte_at.result 69 c.if-byte_at-ne69.false (omega arith) c.byte_at.ensures)
    c.in_ok-behind.ensures.1 c.if-byte_at-ne69-2.false (omega arith) second.ensures)
    ended.text ended.candidates ended.«open» (omega (arith, ended.at, c.in_ok-self.ensures.1, c.in_ok-behind.ensures.1))
