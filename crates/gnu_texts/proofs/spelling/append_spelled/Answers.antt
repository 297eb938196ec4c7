use Rattle.gnu_texts.proofs.Basics.{◌++◌, ◌∙◌, ap, ap₂, arith, length, length-drop, bytes_of, last_of, piece_at, size_of}
use Rattle.gnu_texts.proofs.FrontLemmas.{rest-all}
use Rattle.gnu_texts.proofs.SpelledLemmas.{piece-more, spelled-end}
use Rattle.gnu_texts.proofs.spelling.append_spelled.Goals as goal

pub pieces-preserved : goal.pieces-preserved
pieces-preserved c =
    let text = c.args.text.now in
    let at = c.pieces.at in
    let last = c.pieces.last in
    let rest = rest-all text at in
    let piece = c.piece_at-piece.ensures.piece ∙ ap (piece_at last) rest in
    record {
      within = omega (arith, c.size-at.ensures.within, ap length rest, length-drop at text, c.pieces-test.true);
      so_far = piece-more text at last _ c.pieces.out.items _ c.size-at.result c.last-last.result c.pieces-test.true c.pieces.invariant.so_far c.size-at.ensures.some
          (c.size-at.ensures.size ∙ ap₂ (λ p t. size_of p t) piece rest)
          (c.last-last.ensures ∙ ap₂ (λ p t. last_of p t) piece rest)
          (c.in_ok-append.ensures ∙ ap₂ (λ p t. c.pieces.out.items ++ bytes_of p t) piece rest);
    }

pub returns : goal.returns
returns c = spelled-end c.args.text.now c.pieces.at c.pieces.last c.pieces.out.items _ c.pieces-test.false c.pieces.invariant.so_far
