use Rattle.cpp_link.proofs.Basics.{◌∙◌, sym, subst, arith, length, IsCount, productions, parts_of, wide}
use Rattle.cpp_link.proofs.Ahead.{count_right}
use Rattle.cpp_link.proofs.Reading.{count_got}
use Rattle.cpp_link.proofs.dispatch.part_count.Goals as goal

pub returns-in-Some : goal.returns-in-Some
unfolding productions parts_of
returns-in-Some c =
    subst (λ n. IsCount wide c.args.number n) (sym (c.in-Some.ensures.lookup.3.1 0 ∙ count_got (λ p. length (parts_of p)) c.args.number)) (count_right c.args.number)

pub returns-in-None : goal.returns-in-None
unfolding productions parts_of
returns-in-None c =
    subst (λ n. IsCount wide c.args.number n) (sym (c.in-None.ensures.lookup.4 (omega arith) 0 ∙ count_got (λ p. length (parts_of p)) c.args.number)) (count_right c.args.number)
