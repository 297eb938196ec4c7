use Rattle.std.proofs.Common.{false}
use Rattle.rust_direct.proofs.PathsRead.{plain-awaited}
use Rattle.rust_direct.proofs.direct.Direct.path_at.Goals as goal

pub begin_outer-requires : goal.begin_outer-requires
begin_outer-requires g c = plain-awaited g.S.Showing.IS_BRIEF c.args.s.now c.args.self.now c.args.is_value c.requires.writing

pub path_again-requires-clause-awaits : goal.path_again-requires-clause-awaits
path_again-requires-clause-awaits g c = c.in_ok-begin_outer.ensures

pub crate_root-requires-clause-awaits : goal.crate_root-requires-clause-awaits
crate_root-requires-clause-awaits g c = (false, c.in_ok-begin_outer.ensures)

pub begin_impl-requires-clause-awaits : goal.begin_impl-requires-clause-awaits
begin_impl-requires-clause-awaits g c = (false, c.in_ok-begin_outer.ensures)

pub begin_trait_impl-requires-clause-awaits : goal.begin_trait_impl-requires-clause-awaits
begin_trait_impl-requires-clause-awaits g c = (false, c.in_ok-begin_outer.ensures)

pub begin_trait-requires-clause-awaits : goal.begin_trait-requires-clause-awaits
begin_trait-requires-clause-awaits g c = (false, c.in_ok-begin_outer.ensures)
