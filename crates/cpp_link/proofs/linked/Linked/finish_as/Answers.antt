use Rattle.cpp_link.proofs.Basics.{arith, linked, makes_at_end}
use Rattle.cpp_link.proofs.Bytes.{byte_serves}
use Rattle.cpp_link.proofs.Finishing.{plain_closing, refused_finishes, put_finishes}
use Rattle.cpp_link.proofs.linked.Linked.finish_as.Goals as goal

pub returns-in_err-made : goal.returns-in_err-made
returns-in_err-made c =
    let s = c.args.symbol.now in
    let old = c.args.self.now in
    refused_finishes (linked s) (plain_closing s) s (byte_serves s) makes_at_end old c.close_production.new.self c.args.frame.now c.args.parts.now c.args.parts.now c.deref.result.now c.args.production c.deref.ensures.value c.requires.numbered c.requires.room.paid.begun (omega arith)
    _ c.in_err-made.ensures.made c.from_residual.result c.from_residual.ensures.1 c.in_err-made.ensures.refused

pub returns : goal.returns
returns c =
    let s = c.args.symbol.now in
    let old = c.args.self.now in
    let frame = c.args.frame.now in
    put_finishes (linked s) (plain_closing s) s (byte_serves s) makes_at_end old c.close_production.new.self frame c.args.parts.now c.put.new.parts c.deref.result.now c.args.production c.deref.ensures.value c.requires.numbered c.requires.room.paid.begun c.put.ensures.keeps
    _ c.in_ok-made.ensures.made c.in_ok-made.made c.in_ok-made.ensures.made.there
    c.in_ok-made.ensures.is
    c.put.result c.put.ensures.items c.put.ensures.memory c.put.ensures.rest c.put.ensures.full
