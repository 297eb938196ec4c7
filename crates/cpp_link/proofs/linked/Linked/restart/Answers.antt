use Rattle.cpp_link.proofs.Basics.{refl, sym, ap, subst, length, first_state, trees_in, candidates_of, AreNodesThere}
use Rattle.cpp_link.specs.Counting.{lists_of, expected_of}
use Rattle.cpp_link.proofs.linked.Linked.restart.Goals as goal

pub returns-clause-holds : goal.returns-clause-holds
unfolding first_state lists_of expected_of
returns-clause-holds c s = record {
  table = c.in_ok-begin.ensures.table s;
  there = (subst (λ cs. AreNodesThere (length c.begin.new.self.nodes) cs) (sym c.clear.ensures.items) tt, c.clear.ensures.counted);
  candidates = ap (λ cs. candidates_of (trees_in s c.begin.new.self) cs) c.clear.ensures.items;
  packs = refl;
  counting = refl;
}
