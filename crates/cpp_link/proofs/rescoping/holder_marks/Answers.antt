use Rattle.cpp_link.proofs.Basics.{refl, true, false, counted_of, Naming, prefix_in, prefix_of, around_of, prefix_listed}
use Rattle.cpp_link.proofs.Held.{twice_noted, is_listed_prefix}
use Rattle.cpp_link.proofs.rescoping.holder_marks.Goals as goal

pub returns-in-Outermost-clause-is : goal.returns-in-Outermost-clause-is
unfolding counted_of prefix_in prefix_of prefix_listed
returns-in-Outermost-clause-is c ts state = twice_noted true (around_of ts c.args.kept) ts c.args.name state _ (is_listed_prefix ts c.args.kept Naming.Outermost true c.in-Outermost.is refl) refl refl refl refl

pub returns-in-Unlisted-clause-is : goal.returns-in-Unlisted-clause-is
unfolding counted_of prefix_in prefix_of prefix_listed
returns-in-Unlisted-clause-is c ts state = twice_noted false (around_of ts c.args.kept) ts c.args.name state _ (is_listed_prefix ts c.args.kept Naming.Unlisted false c.in-Unlisted.is refl) refl refl refl refl

pub returns-in-Listed-clause-is : goal.returns-in-Listed-clause-is
unfolding counted_of prefix_in prefix_of prefix_listed
returns-in-Listed-clause-is c ts state = twice_noted true (around_of ts c.args.kept) ts c.args.name state _ (is_listed_prefix ts c.args.kept Naming.Listed true c.in-Listed.is refl) refl refl refl refl
