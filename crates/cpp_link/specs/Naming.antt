-- What an `S` names, as the linker answers it.
use Rattle.std.specs.Prelude.{◌≡◌, ℕ, ◌<◌, List, length, Option, IfSome}
use Rattle.cpp_references.specs.declared.candidates.Candidate.{Candidate}
use Rattle.cpp_link.specs.declared.counting.Lists.{Lists}
use Rattle.cpp_link.specs.declared.linked.Linked.{Linked}
use Rattle.cpp_link.specs.Counting.{lists_of}
use Rattle.cpp_link.specs.LinkRescoping.{named_after, lists_after}
use Rattle.cpp_link.specs.Making.{state_of}
use Rattle.cpp_link.specs.Parts.{trees_in}
use Rattle.cpp_link.specs.Reads.{maybe_candidate}

-- the candidate that this number names at this place, and, if there is one, the lists that remain
pub record IsNamed (s : List ℕ) (l : Linked) (place number : ℕ) (candidate : Option Candidate) (remaining : Lists) : Type 0 where
  pub is : maybe_candidate (trees_in s l.nodes) candidate ≡ named_after place number (state_of s l)
  pub lists : IfSome candidate (λ c. lists_of remaining ≡ lists_after place number (state_of s l))
  pub there : IfSome candidate (λ c. c.node < length l.nodes.nodes)
