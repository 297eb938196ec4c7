use Rattle.cpp_direct.proofs.ForAnswers.{marks-shown, member-ends}
use Rattle.cpp_direct.proofs.direct.Direct.member_ended.Goals as goal

pub finish-requires : goal.finish-requires
finish-requires g c = member-ends _ c.push_mark.new.self (marks-shown c.args.self.now c.push_mark.new.self c.args.mark c.requires c.in_ok-push_mark.ensures)
