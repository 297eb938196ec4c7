use Rattle.cpp_link.proofs.Basics.{place_of, true, arith}
use Rattle.cpp_link.proofs.Listed.{number_there, number_past}
use Rattle.cpp_link.proofs.candidates.Candidates.shorter_place.Goals as goal

pub returns-then-number-count : goal.returns-then-number-count
unfolding place_of
returns-then-number-count c =
    number_there true c.args.self.now.not_shorter c.args.self.now.list.items c.args.number c.index.result.now c.requires.counted.shorter (omega (arith, c.if-number-count.true, c.len.ensures, c.args.self.now.list.ok.0)) c.index.ensures

pub returns : goal.returns
returns c =
    number_past true c.args.self.now.not_shorter c.args.self.now.list.items c.args.number c.requires.counted.shorter (omega (arith, c.if-number-count.false, c.len.ensures, c.args.self.now.list.ok.0))
