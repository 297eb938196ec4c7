use Rattle.cpp_link.proofs.Basics.{subst, arith, slice_index, linked, IsRare, state_of, makes_at_end, trees_in, value_in, packs_of, around_of}
use Rattle.cpp_link.proofs.Making.{stands_closes}
use Rattle.cpp_link.proofs.Bytes.{byte_serves}
use Rattle.cpp_link.proofs.Finishing.{plain_closing, lacking_finishes, put_finishes}
use Rattle.cpp_link.proofs.linked.Linked.finish_rare.Goals as goal

pub returns-in_err-made : goal.returns-in_err-made
returns-in_err-made c =
    let s = c.args.symbol.now in
    let old = c.args.self.now in
    lacking_finishes (linked s) (plain_closing s) s (byte_serves s) makes_at_end old c.make_rare.new.self c.args.frame.now c.args.parts.now c.args.parts.now c.deref.result.now c.args.production c.deref.ensures.value c.requires.numbered c.requires.room.paid.begun (omega arith)
    _ c.in_err-made.ensures.made c.in_err-made.ensures.memory c.from_residual.result c.from_residual.ensures.1

pub returns : goal.returns
returns c =
    let s = c.args.symbol.now in
    let old = c.args.self.now in
    let new = c.make_rare.new.self in
    let frame = c.args.frame.now in
    put_finishes (linked s) (plain_closing s) s (byte_serves s) makes_at_end old new frame c.args.parts.now c.put.new.parts c.deref.result.now c.args.production c.deref.ensures.value c.requires.numbered c.requires.room.paid.begun c.put.ensures.keeps
    _ c.in_ok-made.ensures.made c.in_ok-made.made c.in_ok-made.ensures.made.there
    (stands_closes s c.args.production (slice_index s frame.place) (around_of (trees_in s old.nodes) frame.kept) frame.place _ (state_of s old) (state_of s new) (packs_of frame.kept) (value_in s new.nodes c.in_ok-made.made)
    (λ is. subst (λ p. IsRare p) is c.requires.rare) c.requires.read c.in_ok-made.ensures.value c.in_ok-made.ensures.state)
    c.put.result c.put.ensures.items c.put.ensures.memory c.put.ensures.rest c.put.ensures.full
