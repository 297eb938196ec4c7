use Rattle.std.proofs.lemmas.Result.{IfOk-weaker}
use Rattle.demangle_command.proofs.complaints.complaint.Goals as goal

pub returns : goal.returns
returns c = IfOk-weaker c.line_of.result _ _ (λ line is. (c.deref.result.now, is)) c.line_of.ensures
