use Rattle.gnu_texts.proofs.Basics.{◌++◌, ◌∷◌, [], ◌∙◌, ap, codes, drop, append_assoc, letter_bytes, parted}
use Rattle.gnu_texts.proofs.ClonesLemmas.{letter-more, letters-end}
use Rattle.gnu_texts.proofs.FrontLemmas.{rest-all}
use Rattle.gnu_texts.proofs.clones.append_clones.Goals as goal

pub bytes-preserved : goal.bytes-preserved
bytes-preserved c = record {
  so_far = letter-more c.args.suffix.now c.bytes.at _ c.bytes.out.items _ c.bytes-test.true c.bytes.invariant.so_far
      (c.in_ok-append_letter.ensures ∙ ap (λ t. c.bytes.out.items ++ letter_bytes t) (rest-all c.args.suffix.now c.bytes.at));
}

pub returns : goal.returns
returns c =
    let rest = parted (drop 1 c.args.suffix.now) in
    c.in_ok-push.ensures.items
    ∙ ap (λ t. t ++ 93 ∷ []) (letters-end c.args.suffix.now c.bytes.at c.bytes.out.items _ c.bytes-test.false c.bytes.invariant.so_far)
    ∙ append_assoc c.extend_from_slice.new.self.items rest (93 ∷ [])
    ∙ ap (λ t. t ++ (rest ++ 93 ∷ [])) c.in_ok-extend_from_slice.ensures.items
    ∙ append_assoc c.args.out.now.items (codes " [clone .") (rest ++ 93 ∷ [])
