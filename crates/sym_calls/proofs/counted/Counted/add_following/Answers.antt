use Rattle.sym_calls.proofs.Basics.{◌++◌, replicate, following}
use Rattle.sym_calls.proofs.Kept.{Adds-as, Adds-join, following-dots, following-bytes}
use Rattle.sym_calls.proofs.counted.Counted.add_following.Goals as goal

pub returns-then-not-taken : goal.returns-then-not-taken
returns-then-not-taken c = Adds-as c.args.self.now c.add_dots.new.self (replicate c.args.taken.dots 46) (following c.args.taken c.args.bytes.now) (following-dots c.args.taken c.args.bytes.now c.if-not-taken.true) c.in_ok-add_dots.ensures

pub returns : goal.returns
returns c =
    let dots = replicate c.args.taken.dots 46 in
    let bytes = c.args.bytes.now in
    Adds-as c.args.self.now c.add.new.self (dots ++ bytes) (following c.args.taken bytes) (following-bytes c.args.taken bytes c.if-not-taken.false) (Adds-join c.args.self.now c.add_dots.new.self c.add.new.self dots bytes c.in_ok-add_dots.ensures c.in_ok-add.ensures)
