use Rattle.cpp_link.proofs.Basics.{sym, ◌∙◌, arith, length, Production, is_unseen, behind, link_close_wide, linked_wide, wide_at_end, wide_ends, trees_in, around_of}
use Rattle.cpp_link.proofs.Finishing.{lacking_finishes, put_finishes}
use Rattle.cpp_link.proofs.PassedOver.{unseen_is, named_closes, alias_more}
use Rattle.cpp_link.proofs.Rescoped.{wide_closing, wide_byte_serves}
use Rattle.cpp_link.proofs.linked.Linked.finish_unseen.Goals as goal

pub returns-in_err-made : goal.returns-in_err-made
unfolding wide_at_end
returns-in_err-made c =
    let s = c.args.symbol.now in
    let old = c.args.self.now in
    lacking_finishes (linked_wide s) (wide_closing s) s (wide_byte_serves s) (wide_ends s old c.args.frame.now.place c.args.frame.now.kept) old c.make_rare.new.self c.args.frame.now c.args.parts.now c.args.parts.now c.deref.result.now Production.EncodingLiteral c.deref.ensures.value (sym c.requires.literal) c.requires.room.paid.begun (omega arith)
    _ c.in_err-made.ensures.made c.in_err-made.ensures.memory c.from_residual.result c.from_residual.ensures.1

pub returns : goal.returns
unfolding link_close_wide wide_at_end behind
returns c =
    let s = c.args.symbol.now in
    let old = c.args.self.now in
    let new = c.make_rare.new.self in
    let frame = c.args.frame.now in
    let ts = trees_in s old.nodes in
    let grows = c.in_ok-made.ensures.made.grows in
    put_finishes (linked_wide s) (wide_closing s) s (wide_byte_serves s) (wide_ends s old frame.place frame.kept) old new frame c.args.parts.now c.put.new.parts c.deref.result.now Production.EncodingLiteral c.deref.ensures.value (sym c.requires.literal) c.requires.room.paid.begun c.put.ensures.keeps
    _ c.in_ok-made.ensures.made c.name_or.result
    (c.name_or.ensures.there s (length new.nodes.nodes) (alias_more (length old.nodes.nodes) (length new.nodes.nodes) c.open_name-name.result grows.least c.open_name-name.ensures.there) c.in_ok-made.ensures.made.there)
    (λ began same.
    named_closes ts (trees_in s new.nodes) (is_unseen (around_of ts frame.kept)) _ _ _ _ c.open_name-name.result (length old.nodes.nodes) _ _ (unseen_is ts frame.kept ∙ c.requires.unseen)
    c.open_name-name.ensures.is c.open_name-name.ensures.there grows.stays c.in_ok-made.ensures.value (c.in_ok-made.ensures.state began same) (c.name_or.ensures.is s (trees_in s new.nodes)))
    c.put.result c.put.ensures.items c.put.ensures.memory c.put.ensures.rest c.put.ensures.full
