use Rattle.cpp_direct.proofs.ForAnswers.{sym, ◌∙◌, left-shown, whole-shown}
use Rattle.cpp_direct.proofs.direct.Direct.show.Goals as goal

pub returns-then-IS_BRIEF-clause-shown : goal.returns-then-IS_BRIEF-clause-shown
returns-then-IS_BRIEF-clause-shown g c =
    left-shown c.leave_out_marked.result _ (sym c.IS_BRIEF.ensures ∙ c.if-IS_BRIEF.true) c.args.self.now.text.list.items
    c.leave_out_marked.new.self.list.items c.requires c.leave_out_marked.ensures.items c.leave_out_marked.ensures.plain

pub returns-clause-shown : goal.returns-clause-shown
returns-clause-shown g c = whole-shown _ (sym c.IS_BRIEF.ensures ∙ c.if-IS_BRIEF.false) c.args.self.now.text.list.items c.requires
