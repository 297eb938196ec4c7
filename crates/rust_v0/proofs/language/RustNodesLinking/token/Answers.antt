use Rattle.rust_v0.proofs.Basics.{v0_view, made_by, closing_makes, room_untallied, token_tallied}
use Rattle.rust_v0.proofs.NodeCount.{size_same}
use Rattle.rust_v0.proofs.language.RustNodesLinking.token.Goals as goal

pub take_token-requires-clause-room : goal.take_token-requires-clause-room
take_token-requires-clause-room c = room_untallied (v0_view c.args.symbol.now) (closing_makes made_by) c.args.symbol.now c.args.self.now _ c.requires.room

pub returns-clause-takes : goal.returns-clause-takes
returns-clause-takes c =
    token_tallied (v0_view c.args.symbol.now) made_by c.args.symbol.now c.args.self.now c.take_token.new.self c.args.frame.now c.args.parts.now.items c.take_token.new.parts.items c.args.row c.take_token.result
    (size_same c.args.self.now c.take_token.new.self c.take_token.result c.take_token.ensures.none) c.take_token.ensures.takes
