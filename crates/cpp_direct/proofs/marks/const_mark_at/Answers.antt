use Rattle.cpp_direct.proofs.ForAnswers.{◌∷◌, [], arith, then-there}
use Rattle.cpp_direct.proofs.marks.const_mark_at.Goals as goal

pub returns-in_ok-checked_add-in-82 : goal.returns-in_ok-checked_add-in-82
returns-in_ok-checked_add-in-82 c = record {
  stands = then-there c.args.s.now (75 ∷ []) c.args._at c.args.behind c.byte_at.result 82 c.requires.letter c.requires.behind c.in-82.is (omega arith) c.byte_at.ensures;
  ends = omega (arith, c.requires.behind, c.in_ok-checked_add-in-82.ensures.1);
}

pub returns-in_ok-checked_add-in-79 : goal.returns-in_ok-checked_add-in-79
returns-in_ok-checked_add-in-79 c = record {
  stands = then-there c.args.s.now (75 ∷ []) c.args._at c.args.behind c.byte_at.result 79 c.requires.letter c.requires.behind c.in-79.is (omega arith) c.byte_at.ensures;
  ends = omega (arith, c.requires.behind, c.in_ok-checked_add-in-79.ensures.1);
}
