use Rattle.rust_direct.proofs.SymbolsRead.{ends-suffixed}
use Rattle.rust_direct.proofs.direct.Direct.push_suffix.Goals as goal

pub returns : goal.returns
returns g c =
    ends-suffixed g.S.Showing.IS_BRIEF c.args.s.now c.in_ok-suffix.suffix.now c.args.self.now c.push.new.self c.push-2.new.self c.push-3.new.self c.requires
    c.in_ok-suffix.ensures.lookup.0.0 c.in_ok-suffix.ensures.lookup.0.2 (c.is_suffix.ensures c.if-not-is_suffix.false)
    c.in_ok-push.ensures c.in_ok-push-2.ensures c.in_ok-push-3.ensures
