use Rattle.cpp_direct.proofs.ForAnswers.{expanded-inside, expanded-more, some-by}
use Rattle.cpp_direct.proofs.direct.Direct.expand.Goals as goal

pub repeat-requires : goal.repeat-requires
repeat-requires c =
    let q = c.requires.before in
    let is = expanded-inside c.args.pattern q.1 c.args.self.now c.comma.new.self q.2 c.args.argument c.args.number c.in_ok-place.place q.3 q.4
    (rw c.in_ok-checked_add.ensures.1 at c.in_ok-place.ensures.is) (rw c.in_ok-checked_add.ensures.1 at c.in_ok-place.ensures.known) c.in_ok-comma.ensures in
    record { from = is.0; to = is.1 }

pub returns : goal.returns
returns c =
    some-by c.push.result c.push.ensures (λ w. λ detail before ts pack fw.
    expanded-more c.args.pattern before c.args.self.now c.comma.new.self c.repeat.new.self c.push.new.self ts c.args.argument c.args.number c.in_ok-place.place
    c.in_ok-marks.marks.now pack fw (rw c.in_ok-checked_add.ensures.1 at c.in_ok-place.ensures.is)
    (rw c.in_ok-checked_add.ensures.1 at c.in_ok-place.ensures.known) c.in_ok-comma.ensures c.in_ok-repeat.ensures c.in_ok-marks.ensures w)
