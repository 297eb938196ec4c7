use Rattle.cpp_link.proofs.Basics.{sym, arith, Ok, found, Production, meaning, both, link_meaning, link_close_wide, linked_wide, wide_at_end, wide_ends}
use Rattle.cpp_link.proofs.Finishing.{lacking_finishes, put_finishes}
use Rattle.cpp_link.proofs.Rescoped.{wide_closing, wide_byte_serves}
use Rattle.cpp_link.proofs.linked.Linked.finish_holder.Goals as goal

pub returns-in_err-made : goal.returns-in_err-made
unfolding wide_at_end
returns-in_err-made c =
    let s = c.args.symbol.now in
    let old = c.args.self.now in
    lacking_finishes (linked_wide s) (wide_closing s) s (wide_byte_serves s) (wide_ends s old c.args.frame.now.place c.args.frame.now.kept) old c.close_holder.new.self c.args.frame.now c.args.parts.now c.args.parts.now c.deref.result.now Production.Holder c.deref.ensures.value (sym c.requires.holder) c.requires.room.paid.begun (omega arith)
    _ c.in_err-made.ensures.made c.in_err-made.ensures.memory c.from_residual.result c.from_residual.ensures.1

pub returns : goal.returns
unfolding link_close_wide wide_at_end link_meaning meaning
returns c =
    let s = c.args.symbol.now in
    let old = c.args.self.now in
    let frame = c.args.frame.now in
    put_finishes (linked_wide s) (wide_closing s) s (wide_byte_serves s) (wide_ends s old frame.place frame.kept) old c.close_holder.new.self frame c.args.parts.now c.put.new.parts c.deref.result.now Production.Holder c.deref.ensures.value (sym c.requires.holder) c.requires.room.paid.begun c.put.ensures.keeps
    _ c.in_ok-made.ensures.made c.in_ok-made.made c.in_ok-made.ensures.made.there
    (λ began same. both (λ v x. Ok (found v x)) (sym c.in_ok-made.ensures.value) c.in_ok-made.ensures.state)
    c.put.result c.put.ensures.items c.put.ensures.memory c.put.ensures.rest c.put.ensures.full
