use Rattle.cpp_direct.proofs.ForAnswers.{none-expanded}
use Rattle.cpp_direct.proofs.direct.Direct.expand_all.Goals as goal

pub elements-init : goal.elements-init
elements-init c = λ detail ts pack. none-expanded c.args.pattern c.args.self.now ts

pub expand-requires : goal.expand-requires
expand-requires c =
    let q = c.requires.pack in
    record { before = (q.0, c.args.self.now, q.1, q.2, c.elements.invariant q.0 q.1 q.2) }
