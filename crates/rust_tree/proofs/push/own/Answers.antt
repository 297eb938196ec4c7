use Rattle.std.proofs.Common.{◌++◌, length-append, append_assoc, ap, ◌∙◌, arith}
use Rattle.rust_tree.proofs.push.own.Goals as goal

pub returns : goal.returns
returns c =
    let front = c.args.front.now in
    let text = c.args.text.now in
    let back = c.args.back.now in (
      c.put-end-3.ensures.bytes ∙ ap (λ xs. xs ++ back) (c.put-end-2.ensures.bytes ∙ ap (λ xs. xs ++ text) c.put-end.ensures.bytes) ∙ append_assoc front text back,
      omega (arith, c.put-end-3.ensures.place, c.put-end-2.ensures.place, c.put-end.ensures.place, length-append front (text ++ back), length-append text back),
      c.put-end-3.array_long,
    )
