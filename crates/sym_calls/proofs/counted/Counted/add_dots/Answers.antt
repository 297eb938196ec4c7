use Rattle.std.proofs.Common.{◌≡◌, ℕ, replicate, ap, arith}
use Rattle.sym_calls.proofs.Kept.{Adds-as, Adds-dot, Adds-none}
use Rattle.sym_calls.proofs.counted.Counted.add_dots.Goals as goal

pub loop-init : goal.loop-init
loop-init c = Adds-none c.args.self.now

pub loop-preserved : goal.loop-preserved
loop-preserved c = Adds-dot c.args.self.now c.loop.self c.add.new.self c.loop.counter c.loop.invariant c.in_ok-add.ensures

pub returns : goal.returns
returns c =
    let last : c.loop.counter ≡ c.args.dots = omega (arith, c.loop-test.false) in
    Adds-as c.args.self.now c.loop.self (replicate c.loop.counter 46) (replicate c.args.dots 46) (ap (λ (n : ℕ). replicate n 46) last) c.loop.invariant
