use Rattle.cpp_parts.proofs.Splitting.{split-item, split-text}
use Rattle.cpp_parts.proofs.split.first_of.Goals as goal

pub returns-in-Sub : goal.returns-in-Sub
returns-in-Sub c =
    split-item c.args._y.now c.args._most c.args.parts.now c.in-Some.rest.now c.in-Some.first.now c.in-Sub.item c.in-Some.ensures.cases.0 c.in-Sub.is c.requires

pub returns-in_default : goal.returns-in_default
returns-in_default c =
    split-text c.args._y.now c.args._most c.args.parts.now c.in-Some.rest.now c.in-Some.first.now c.in-Some.ensures.cases.0 c.in_default.not-Sub c.requires
