use Rattle.cpp_link.proofs.Basics.{sym, ◌∙◌, ap, arith, Ok, found, Production, as_generic_lambda, behind, both, link_meaning, link_close_wide, linked_wide, wide_at_end, wide_ends}
use Rattle.cpp_link.proofs.Finishing.{lacking_finishes, put_finishes}
use Rattle.cpp_link.proofs.Rescoped.{wide_closing, wide_byte_serves}
use Rattle.cpp_link.proofs.linked.Linked.finish_lambda.Goals as goal

pub returns-in_err-made : goal.returns-in_err-made
unfolding wide_at_end
returns-in_err-made c =
    let s = c.args.symbol.now in
    let old = c.args.self.now in
    lacking_finishes (linked_wide s) (wide_closing s) s (wide_byte_serves s) (wide_ends s old c.args.frame.now.place c.args.frame.now.kept) old c.make_rare.new.self c.args.frame.now c.args.parts.now c.args.parts.now c.deref.result.now Production.Lambda c.deref.ensures.value (sym c.requires.lambda) c.requires.room.paid.begun (omega arith)
    _ c.in_err-made.ensures.made c.in_err-made.ensures.memory c.from_residual.result c.from_residual.ensures.1

pub returns : goal.returns
unfolding link_close_wide wide_at_end link_meaning behind
returns c =
    let s = c.args.symbol.now in
    let old = c.args.self.now in
    let frame = c.args.frame.now in
    put_finishes (linked_wide s) (wide_closing s) s (wide_byte_serves s) (wide_ends s old frame.place frame.kept) old c.make_rare.new.self frame c.args.parts.now c.put.new.parts c.deref.result.now Production.Lambda c.deref.ensures.value (sym c.requires.lambda) c.requires.room.paid.begun c.put.ensures.keeps
    _ c.in_ok-made.ensures.made c.as_generic_lambda.result c.as_generic_lambda.ensures.there
    (λ began same. both (λ v x. Ok (found v x)) (ap as_generic_lambda (sym c.in_ok-made.ensures.value) ∙ sym c.as_generic_lambda.ensures.value) (c.in_ok-made.ensures.state began same))
    c.put.result c.put.ensures.items c.put.ensures.memory c.put.ensures.rest c.put.ensures.full
