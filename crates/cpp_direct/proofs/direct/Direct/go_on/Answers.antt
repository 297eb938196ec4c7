use Rattle.cpp_direct.proofs.ForAnswers.{Kind, component-next}
use Rattle.cpp_direct.proofs.direct.Direct.go_on.Goals as goal

pub returns : goal.returns
returns g c =
    let writing = c.requires in
    component-next _ Kind.NestTail c.args.self.now c.add_unless.new.self writing.kept writing.is_before.0 tt writing.is_before.1 c.in_ok-add_unless.ensures
