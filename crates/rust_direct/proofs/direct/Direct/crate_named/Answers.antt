use Rattle.std.proofs.Common.{arith, ◌-◌, take, drop, refl}
use Rattle.rust_direct.proofs.FoundTokens.{piece-filled}
use Rattle.rust_direct.proofs.PathsRead.{crate-ended}
use Rattle.rust_direct.proofs.direct.Direct.crate_named.Goals as goal

pub returns : goal.returns
returns g c =
    let s = c.args.s.now in
    let name = c.args.name in
    let is = c.requires.named in
    crate-ended g.S.Showing.IS_BRIEF s c.args.self.now c.push_part.new.self _ c.requires.counted.0 c.args._behind
    (take (name.to - name.from) (drop name.from s)) name.end c.requires.awaits c.requires.letter c.requires.counted.1
    is.2 (piece-filled s name.from name.to (omega (arith, c.if-name.false)) is.1) refl c.in_ok-push_part.ensures
