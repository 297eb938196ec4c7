use Rattle.cpp_link.proofs.Basics.{◌∙◌, ap, subst, ℕ, ◌≡◌, ◌-◌, ◌<◌, length, Ok, quiet_parts, is_lambda, production_at}
use Rattle.cpp_link.proofs.GoingOn.{quiet_right, quiet_adds, quiet_few}
use Rattle.cpp_link.proofs.NodeCount.{quiet_made}
use Rattle.cpp_link.proofs.Quiet.{quiet_apart}
use Rattle.cpp_link.proofs.Rescoped.{apart_goes, goes_counted}
use Rattle.cpp_link.proofs.Rooms.{stays_roomy, roomy_keeps, roomy_full}
use Rattle.cpp_link.proofs.wide_language.RescopingThreading.between.Goals as goal

pub returns-then-len-frame-clause-goes : goal.returns-then-len-frame-clause-goes
returns-then-len-frame-clause-goes c =
    let s = c.args.symbol.now in
    let old = c.args.self.now in
    let frame = c.args.frame.now in
    let parts = c.args.parts.now.items in
    let held : ℕ = c.len.result - frame.base in
    let counted : held ≡ length parts - frame.base = ap (λ n. n - frame.base) (c.len.ensures ∙ c.args.parts.now.ok.0) in
    let before : held < quiet_parts (production_at frame.rule) = subst (λ n. held < n) c.quiet_parts.ensures c.if-len-frame.true in
    goes_counted s old old.linked frame parts parts (Ok frame.kept) c.requires.room.paid.begun (quiet_made s old.linked frame parts held counted before)
    (apart_goes s old.linked old.linked frame parts parts held (Ok frame.kept) counted
    (quiet_apart (production_at frame.rule) (is_lambda frame.kept.scope) held before) (quiet_right s old.linked frame parts held counted before))

pub returns-then-len-frame-clause-adds : goal.returns-then-len-frame-clause-adds
returns-then-len-frame-clause-adds c = quiet_adds c.args.symbol.now c.args.self.now.linked c.args.frame.now c.args.parts.now.items

pub returns-then-len-frame-clause-few : goal.returns-then-len-frame-clause-few
returns-then-len-frame-clause-few c = quiet_few c.args.symbol.now c.args.self.now.linked c.args.frame.now c.args.parts.now.items

pub returns-then-len-frame-clause-keeps : goal.returns-then-len-frame-clause-keeps
returns-then-len-frame-clause-keeps c = roomy_keeps _ _ _ _ _ (stays_roomy c.args.self.now.linked c.args.parts.now c.args.frame.now.kept)

pub returns-then-len-frame-clause-full : goal.returns-then-len-frame-clause-full
returns-then-len-frame-clause-full c = roomy_full _ _ _ _ _ (stays_roomy c.args.self.now.linked c.args.parts.now c.args.frame.now.kept)
