use Rattle.cpp_direct.proofs.ForAnswers.{◌++◌, ◌∙◌, ap, refl, front-cut, name-inside}
use Rattle.cpp_direct.proofs.direct.Direct.addressed_front.Goals as goal

pub leave_out-requires : goal.leave_out-requires
leave_out-requires g c =
    let p = c.requires.read in
    record { within = name-inside c.args.self.now.text.list.items p.lead p.name p.bytes c.args.to (p.reads ∙ ap (λ l. l ++ p.bytes) p.written) p.leads.to_is }

pub addressed_parameters-requires-clause-awaits : goal.addressed_parameters-requires-clause-awaits
addressed_parameters-requires-clause-awaits g c =
    let p = c.requires.read in
    let left = c.in_ok-leave_out.ensures in
    front-cut c.args.self.now (record c.args.self.now { waiting = c.pop-open.new.self }) c.leave_out.new.self c.args.to p p.leads
    refl refl refl refl c.pop-open.ensures.rest left.text left.candidates left.«open» left.scope left.at
