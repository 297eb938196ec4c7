use Rattle.rust_legacy.proofs.Basics.{◌≡◌, ◌+◌, ◌&&◌, false, true, drop, refl, ap, sym, ◌∙◌, codes, drop-drop, begins_with, is_suffix}
use Rattle.rust_legacy.proofs.Digits.{rest_whole}
use Rattle.rust_legacy.proofs.Reading.{both}
use Rattle.rust_legacy.proofs.path.ended.Goals as goal

pub returns-then-not-is_suffix : goal.returns-then-not-is_suffix
returns-then-not-is_suffix c =
    let s = c.args.s.now in
    let at = c.args.at in
    let none : is_suffix (drop 1 (drop at s)) ≡ false = ap is_suffix (drop-drop 1 at s ∙ sym (rest_whole s (at + 1))) ∙ sym c.is_suffix.ensures ∙ c.if-not-is_suffix.true in
    λ is. absurd (cc ((both (begins_with (codes "E") (drop at s)) (is_suffix (drop 1 (drop at s))) is).1, none))

pub returns : goal.returns
returns c =
    let s = c.args.s.now in
    let at = c.args.at in
    let ends : begins_with (codes "E") (drop at s) ≡ true = sym c.has_byte.ensures ∙ c.if-not-has_byte.false in
    let suffix : is_suffix (drop 1 (drop at s)) ≡ true = ap is_suffix (drop-drop 1 at s ∙ sym (rest_whole s (at + 1))) ∙ sym c.is_suffix.ensures ∙ c.if-not-is_suffix.false in
    (refl, c.if-hash-eq3.false, ap (λ b. b && is_suffix (drop 1 (drop at s))) ends ∙ suffix)
