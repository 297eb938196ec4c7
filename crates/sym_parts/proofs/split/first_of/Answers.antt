use Rattle.sym_parts.proofs.Splitting.{split-item, split-text}
use Rattle.sym_parts.proofs.split.first_of.Goals as goal

pub returns-in-Sub : goal.returns-in-Sub
returns-in-Sub g c =
    split-item (g.Y.Layout.unshared c.args._y.now) (g.Y.Layout.bytes_of c.args._y.now) (g.Y.Layout.may_come c.args._y.now) c.args._most c.args.parts.now c.in-Some.rest.now c.in-Some.first.now c.in-Sub.item c.in-Some.ensures.cases.0 c.in-Sub.is c.requires

pub returns-in_default : goal.returns-in_default
returns-in_default g c =
    split-text (g.Y.Layout.unshared c.args._y.now) (g.Y.Layout.bytes_of c.args._y.now) (g.Y.Layout.may_come c.args._y.now) c.args._most c.args.parts.now c.in-Some.rest.now c.in-Some.first.now c.in-Some.ensures.cases.0 c.in_default.not-Sub c.requires
