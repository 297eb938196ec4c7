use Rattle.cpp_link.proofs.Basics.{refl, is_by_all, is_by_newer, counted_of}
use Rattle.cpp_link.proofs.candidates.Candidates.number_apart.Goals as goal

pub number_in_longer-requires-clause-some : goal.number_in_longer-requires-clause-some
unfolding is_by_all counted_of
number_in_longer-requires-clause-some c = refl

pub number_in_longer-requires-clause-other : goal.number_in_longer-requires-clause-other
unfolding is_by_newer counted_of
number_in_longer-requires-clause-other c = refl

pub number_in_longer-requires-in-ByClang-clause-some : goal.number_in_longer-requires-in-ByClang-clause-some
unfolding is_by_all counted_of
number_in_longer-requires-in-ByClang-clause-some c = refl

pub number_in_longer-requires-in-ByClang-clause-other : goal.number_in_longer-requires-in-ByClang-clause-other
unfolding is_by_newer counted_of
number_in_longer-requires-in-ByClang-clause-other c = refl

pub number_in_longer-requires-in-BySome-clause-some : goal.number_in_longer-requires-in-BySome-clause-some
unfolding is_by_all counted_of
number_in_longer-requires-in-BySome-clause-some c = refl

pub number_in_longer-requires-in-BySome-clause-other : goal.number_in_longer-requires-in-BySome-clause-other
unfolding is_by_newer counted_of
number_in_longer-requires-in-BySome-clause-other c = refl
