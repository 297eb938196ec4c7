use Rattle.cpp_link.proofs.CandidatesTrees.{candidates-few}
use Rattle.cpp_link.proofs.candidates_are_few.Goals as goal

pub returns : goal.returns
returns c = candidates-few
