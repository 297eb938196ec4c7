use Rattle.cpp_link.proofs.Basics.{sym, arith, Production, close_wide, ends_of, link_close_wide, linked_wide, wide_at_end, wide_ends, made_at_end}
use Rattle.cpp_link.proofs.Finishing.{refused_finishes, put_finishes}
use Rattle.cpp_link.proofs.Rescoped.{wide_closing, wide_byte_serves}
use Rattle.cpp_link.proofs.Viewing.{kept_closed}
use Rattle.cpp_link.proofs.linked.Linked.finish_substitution.Goals as goal

pub substitute_rescoped-requires-clause-closed : goal.substitute_rescoped-requires-clause-closed
substitute_rescoped-requires-clause-closed c = kept_closed c.args.symbol.now c.args.self.now c.args.frame.now.kept _ c.requires.open.at.kept.surrounds

pub returns-in_err-made : goal.returns-in_err-made
unfolding ends_of made_at_end link_close_wide close_wide wide_at_end
returns-in_err-made c =
    let s = c.args.symbol.now in
    let old = c.args.self.now in
    refused_finishes (linked_wide s) (wide_closing s) s (wide_byte_serves s) (wide_ends s old c.args.frame.now.place c.args.frame.now.kept) old c.substitute_rescoped.new.self c.args.frame.now c.args.parts.now c.args.parts.now c.deref.result.now Production.Substitution c.deref.ensures.value (sym c.requires.substitution) c.requires.room.paid.begun (omega arith)
    _ c.in_err-made.ensures.made c.from_residual.result c.from_residual.ensures.1 (λ began. c.in_err-made.ensures.refused)

pub returns : goal.returns
unfolding ends_of made_at_end link_close_wide close_wide wide_at_end
returns c =
    let s = c.args.symbol.now in
    let old = c.args.self.now in
    let frame = c.args.frame.now in
    put_finishes (linked_wide s) (wide_closing s) s (wide_byte_serves s) (wide_ends s old frame.place frame.kept) old c.substitute_rescoped.new.self frame c.args.parts.now c.put.new.parts c.deref.result.now Production.Substitution c.deref.ensures.value (sym c.requires.substitution) c.requires.room.paid.begun c.put.ensures.keeps
    _ c.in_ok-made.ensures.made c.in_ok-made.made c.in_ok-made.ensures.made.there
    (λ began same. c.in_ok-made.ensures.is)
    c.put.result c.put.ensures.items c.put.ensures.memory c.put.ensures.rest c.put.ensures.full
