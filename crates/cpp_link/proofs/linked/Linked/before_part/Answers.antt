use Rattle.std.proofs.Common.{refl, arith, subst, ◌∙◌, ap, ◌-◌, ◌<◌}
use Rattle.cpp_link.proofs.NodeCount.{quiet_made}
use Rattle.cpp_link.proofs.GoingOn.{quiet_right, quiet_adds, quiet_few}
use Rattle.cpp_link.proofs.Rooms.{same_room, roomy_ok}
use Rattle.cpp_link.proofs.linked.Linked.before_part.Goals as goal

pub returns-then-len-frame-clause-goes : goal.returns-then-len-frame-clause-goes
returns-then-len-frame-clause-goes c =
    quiet_right c.args.symbol.now c.args.self.now c.args.frame.now c.args.parts.now.items (c.len.result - c.args.frame.now.base)
    (ap (λ n. n - c.args.frame.now.base) (c.len.ensures ∙ c.args.parts.now.ok.0))
    (subst (λ m. c.len.result - c.args.frame.now.base < m) c.quiet_parts.ensures c.if-len-frame.true)

pub returns-then-len-frame-clause-adds : goal.returns-then-len-frame-clause-adds
returns-then-len-frame-clause-adds c = quiet_adds c.args.symbol.now c.args.self.now c.args.frame.now c.args.parts.now.items

pub returns-then-len-frame-clause-few : goal.returns-then-len-frame-clause-few
returns-then-len-frame-clause-few c = quiet_few c.args.symbol.now c.args.self.now c.args.frame.now c.args.parts.now.items

pub returns-then-len-frame-clause-makes : goal.returns-then-len-frame-clause-makes
returns-then-len-frame-clause-makes c =
    quiet_made c.args.symbol.now c.args.self.now c.args.frame.now c.args.parts.now.items (c.len.result - c.args.frame.now.base)
    (ap (λ n. n - c.args.frame.now.base) (c.len.ensures ∙ c.args.parts.now.ok.0))
    (subst (λ m. c.len.result - c.args.frame.now.base < m) c.quiet_parts.ensures c.if-len-frame.true)

pub returns-then-len-frame-clause-roomy : goal.returns-then-len-frame-clause-roomy
returns-then-len-frame-clause-roomy c = roomy_ok _ _ _ _ _ _ refl (same_room c.args.self.now c.args.self.now refl refl) (omega arith)
