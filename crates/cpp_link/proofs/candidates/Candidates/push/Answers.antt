use Rattle.std.proofs.Common.{sym, subst}
use Rattle.cpp_references.specs.Around.{AreNodesThere}
use Rattle.cpp_link.proofs.Appending.{nodes_push}
use Rattle.cpp_link.proofs.candidates.Candidates.push.Goals as goal

pub returns-clause-there : goal.returns-clause-there
returns-clause-there c n there below = c.number.ensures.there n (subst (λ xs. AreNodesThere n xs) (sym c.in_ok-push_part.ensures.items) (nodes_push n c.args.self.now.list.items _ there below))
