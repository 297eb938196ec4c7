use Rattle.cpp_direct.proofs.ForAnswers.{false, ◌∷◌, [], arith, known-passes, pack-ends-empty, then-there}
use Rattle.cpp_direct.proofs.direct.Direct.last_pack_empty.Goals as goal

pub returns-then-byte_at-ne69 : goal.returns-then-byte_at-ne69
returns-then-byte_at-ne69 g c = known-passes _ c.args.self.now false c.args.last c.args.known c.requires.awaits

pub close_list-requires-clause-ended : goal.close_list-requires-clause-ended
close_list-requires-clause-ended g c =
    pack-ends-empty _ c.args.self.now c.in_ok-self.field-0 c.args.last c.in_ok-before.before c.args.known c.requires.awaits c.in_ok-before.ensures.1
    (then-there c.args.s.now (74 ∷ 69 ∷ []) c.args.self.now.at c.in_ok-end.end c.byte_at.result 69 c.requires.letters c.in_ok-end.ensures.1
    c.if-byte_at-ne69.false (omega arith) c.byte_at.ensures) (omega (arith, c.in_ok-end.ensures, c.in_ok-self.ensures))
