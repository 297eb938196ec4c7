use Rattle.cpp_link.proofs.Basics.{sym, ◌∙◌, by_all, both, counting_of, state_of, trees_in, around_of, candidates_of, with_candidate, candidates_more}
use Rattle.cpp_link.proofs.Stepping.{noted_is}
use Rattle.cpp_link.proofs.linked.Linked.add_noted.Goals as goal

pub note-requires-clause-there : goal.note-requires-clause-there
note-requires-clause-there c = rw c.add.ensures.adds.candidates (candidates_more _ _ c.args.self.now.candidates c.add.ensures.adds.grows.least c.requires.there)

pub returns-clause-is : goal.returns-clause-is
returns-clause-is c =
    let ts = trees_in c.args.symbol.now c.add.new.self.nodes in
    noted_is c.args.symbol.now c.args.self.now.nodes c.add.new.self.nodes c.args.kept c.args.self.now.candidates c.in_ok-number.number _ c.args.is_candidate c.candidate_if.result (record (state_of c.args.symbol.now c.args.self.now) { packs = c.args.packs })
    (state_of c.args.symbol.now c.note.new.self) c.add.ensures.adds.grows.stays c.requires.kept c.requires.there c.in_ok-number.ensures.tree c.candidate_if.ensures
    (both (λ v w. with_candidate by_all (around_of ts c.args.kept) ts c.candidate_if.result (record { candidates = candidates_of ts v.list.items; packs = c.args.packs; counting = counting_of w })) (sym c.add.ensures.adds.candidates) (sym c.add.ensures.adds.counting) ∙ c.in_ok-note.ensures.is)
