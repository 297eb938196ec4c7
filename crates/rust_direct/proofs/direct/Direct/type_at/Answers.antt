use Rattle.rust_direct.proofs.PathsRead.{type-awaited, type-path-awaited}
use Rattle.rust_direct.proofs.direct.Direct.type_at.Goals as goal

pub begin_nest-requires-clause-awaits : goal.begin_nest-requires-clause-awaits
begin_nest-requires-clause-awaits g c = type-path-awaited g.S.Showing.IS_BRIEF c.args.s.now c.args.self.now c.requires.writing

pub begin_generic-requires-clause-awaits : goal.begin_generic-requires-clause-awaits
begin_generic-requires-clause-awaits g c = type-path-awaited g.S.Showing.IS_BRIEF c.args.s.now c.args.self.now c.requires.writing

pub basic-requires-clause-awaits : goal.basic-requires-clause-awaits
basic-requires-clause-awaits g c = type-awaited g.S.Showing.IS_BRIEF c.args.s.now c.args.self.now c.requires.writing

pub type_again-requires-clause-awaits : goal.type_again-requires-clause-awaits
type_again-requires-clause-awaits g c = type-awaited g.S.Showing.IS_BRIEF c.args.s.now c.args.self.now c.requires.writing

pub begin_array-requires-clause-awaits : goal.begin_array-requires-clause-awaits
begin_array-requires-clause-awaits g c = type-awaited g.S.Showing.IS_BRIEF c.args.s.now c.args.self.now c.requires.writing

pub begin_shared-requires-clause-awaits : goal.begin_shared-requires-clause-awaits
begin_shared-requires-clause-awaits g c = type-awaited g.S.Showing.IS_BRIEF c.args.s.now c.args.self.now c.requires.writing

pub begin_mutable-requires-clause-awaits : goal.begin_mutable-requires-clause-awaits
begin_mutable-requires-clause-awaits g c = type-awaited g.S.Showing.IS_BRIEF c.args.s.now c.args.self.now c.requires.writing

pub begin_const-requires-clause-awaits : goal.begin_const-requires-clause-awaits
begin_const-requires-clause-awaits g c = type-awaited g.S.Showing.IS_BRIEF c.args.s.now c.args.self.now c.requires.writing

pub begin_mut-requires-clause-awaits : goal.begin_mut-requires-clause-awaits
begin_mut-requires-clause-awaits g c = type-awaited g.S.Showing.IS_BRIEF c.args.s.now c.args.self.now c.requires.writing

pub begin_slice-requires-clause-awaits : goal.begin_slice-requires-clause-awaits
begin_slice-requires-clause-awaits g c = type-awaited g.S.Showing.IS_BRIEF c.args.s.now c.args.self.now c.requires.writing

pub begin_tuple-requires-clause-awaits : goal.begin_tuple-requires-clause-awaits
begin_tuple-requires-clause-awaits g c = type-awaited g.S.Showing.IS_BRIEF c.args.s.now c.args.self.now c.requires.writing

pub begin_dyn-requires-clause-awaits : goal.begin_dyn-requires-clause-awaits
begin_dyn-requires-clause-awaits g c = type-awaited g.S.Showing.IS_BRIEF c.args.s.now c.args.self.now c.requires.writing
