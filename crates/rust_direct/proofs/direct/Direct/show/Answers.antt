use Rattle.std.proofs.Common.{sym, ◌∙◌}
use Rattle.rust_direct.proofs.SymbolsRead.{left-shown, whole-shown}
use Rattle.rust_direct.proofs.direct.Direct.show.Goals as goal

pub returns-then-IS_BRIEF-clause-shown : goal.returns-then-IS_BRIEF-clause-shown
returns-then-IS_BRIEF-clause-shown g c =
    left-shown c.leave_out_marked.result g.S.Showing.IS_BRIEF c.args._s.now c.args.self.now.text.list.items c.leave_out_marked.new.self.list.items
    (sym c.IS_BRIEF.ensures ∙ c.if-IS_BRIEF.true) c.requires c.leave_out_marked.ensures.items

pub returns-clause-shown : goal.returns-clause-shown
returns-clause-shown g c =
    whole-shown g.S.Showing.IS_BRIEF c.args._s.now c.args.self.now.text.list.items (sym c.IS_BRIEF.ensures ∙ c.if-IS_BRIEF.false) c.requires
