use Rattle.cpp_link.proofs.Basics.{sym, ◌∙◌, arith, length, Production, is_passed_over, behind, link_close, link_close_wide, linked_wide, wide_at_end, wide_ends, state_of, trees_in, around_of}
use Rattle.cpp_link.proofs.Finishing.{lacking_finishes, put_finishes}
use Rattle.cpp_link.proofs.PassedOver.{passed_is, named_closes, found_same, ok_refused, alias_more}
use Rattle.cpp_link.proofs.Rescoped.{wide_closing, wide_byte_serves}
use Rattle.cpp_link.proofs.linked.Linked.finish_passed_over.Goals as goal

pub returns-in_err-made : goal.returns-in_err-made
unfolding wide_at_end link_close
returns-in_err-made c =
    let s = c.args.symbol.now in
    let old = c.args.self.now in
    lacking_finishes (linked_wide s) (wide_closing s) s (wide_byte_serves s) (wide_ends s old c.args.frame.now.place c.args.frame.now.kept) old c.close_production.new.self c.args.frame.now c.args.parts.now c.args.parts.now c.deref.result.now Production.Encoding c.deref.ensures.value (sym c.requires.encoding) c.requires.room.paid.begun (omega arith)
    _ c.in_err-made.ensures.made (ok_refused _ _ (c.in_err-made.ensures.refused (state_of s old))) c.from_residual.result c.from_residual.ensures.1

pub returns : goal.returns
unfolding link_close_wide link_close wide_at_end behind
returns c =
    let s = c.args.symbol.now in
    let old = c.args.self.now in
    let new = c.close_production.new.self in
    let frame = c.args.frame.now in
    let ts = trees_in s old.nodes in
    let grows = c.in_ok-made.ensures.made.grows in
    put_finishes (linked_wide s) (wide_closing s) s (wide_byte_serves s) (wide_ends s old frame.place frame.kept) old new frame c.args.parts.now c.put.new.parts c.deref.result.now Production.Encoding c.deref.ensures.value (sym c.requires.encoding) c.requires.room.paid.begun c.put.ensures.keeps
    _ c.in_ok-made.ensures.made c.name_or.result
    (c.name_or.ensures.there s (length new.nodes.nodes) (alias_more (length old.nodes.nodes) (length new.nodes.nodes) c.open_name-name.result grows.least c.open_name-name.ensures.there) c.in_ok-made.ensures.made.there)
    (λ began same. let closes = found_same _ _ _ _ (c.in_ok-made.ensures.is began same) in
    named_closes ts (trees_in s new.nodes) (is_passed_over (around_of ts frame.kept)) _ _ _ _ c.open_name-name.result (length old.nodes.nodes) _ _ (passed_is ts frame.kept ∙ c.requires.passed)
    c.open_name-name.ensures.is c.open_name-name.ensures.there grows.stays (sym closes.0) closes.1 (c.name_or.ensures.is s (trees_in s new.nodes)))
    c.put.result c.put.ensures.items c.put.ensures.memory c.put.ensures.rest c.put.ensures.full
