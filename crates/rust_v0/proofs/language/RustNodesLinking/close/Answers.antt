use Rattle.rust_v0.proofs.Basics.{v0_view, made_by, closing_makes, room_untallied, close_tallied}
use Rattle.rust_v0.proofs.NodeCount.{size_added}
use Rattle.rust_v0.proofs.language.RustNodesLinking.close.Goals as goal

pub close_rule-requires-clause-room : goal.close_rule-requires-clause-room
close_rule-requires-clause-room c = room_untallied (v0_view c.args.symbol.now) (closing_makes made_by) c.args.symbol.now c.args.self.now _ c.requires.room

pub returns-clause-closes : goal.returns-clause-closes
returns-clause-closes c =
    close_tallied (v0_view c.args.symbol.now) made_by c.args.symbol.now c.args.self.now c.close_rule.new.self c.args.frame.now c.args.parts.now.items c.close_rule.new.parts.items c.close_rule.result
    (size_added c.args.self.now c.close_rule.new.self c.close_rule.result _ c.requires.room.paid.begun c.close_rule.ensures.made) c.close_rule.ensures.closes
