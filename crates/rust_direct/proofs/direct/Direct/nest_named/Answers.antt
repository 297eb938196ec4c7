use Rattle.std.proofs.Common.{arith, ◌-◌, take, drop}
use Rattle.rust_direct.proofs.FoundTokens.{piece-filled}
use Rattle.rust_direct.proofs.PathsRead.{nest-named}
use Rattle.rust_direct.proofs.direct.Direct.nest_named.Goals as goal

pub named_ended-requires-clause-ended : goal.named_ended-requires-clause-ended
named_ended-requires-clause-ended g c =
    let s = c.args.s.now in
    let name = c.args.name in
    let is = c.requires.named in
    nest-named g.S.Showing.IS_BRIEF s c.args.self.now c.push_name.new.self c.args._letter c.args.place c.args.from c.args.forms c.requires.counted.0
    c.args._behind (take (name.to - name.from) (drop name.from s)) name.end c.requires.arrives c.requires.path c.requires.lower c.requires.counted.1 is.2
    (piece-filled s name.from name.to (omega (arith, c.if-name.false)) is.1) c.in_ok-push_name.ensures
