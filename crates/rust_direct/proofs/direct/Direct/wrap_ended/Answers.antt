use Rattle.rust_direct.proofs.Basics.{subst, Receives}
use Rattle.rust_direct.specs.declared.open.Open.TheVariants as opens
use Rattle.rust_direct.proofs.direct.Direct.wrap_ended.Goals as goal

pub bare_ended-requires : goal.bare_ended-requires
bare_ended-requires g c =
    subst (λ k. Receives g.S.Showing.IS_BRIEF c.args.s.now c.args.self.now (opens.Wrap c.args.place c.args.from k) c.args.here c.args.forms) c.in-Nothing.is c.requires

pub bracket_ended-requires : goal.bracket_ended-requires
bracket_ended-requires g c =
    subst (λ k. Receives g.S.Showing.IS_BRIEF c.args.s.now c.args.self.now (opens.Wrap c.args.place c.args.from k) c.args.here c.args.forms) c.in-Bracket.is c.requires

pub angle_ended-requires : goal.angle_ended-requires
angle_ended-requires g c =
    subst (λ k. Receives g.S.Showing.IS_BRIEF c.args.s.now c.args.self.now (opens.Wrap c.args.place c.args.from k) c.args.here c.args.forms) c.in-Angle.is c.requires
