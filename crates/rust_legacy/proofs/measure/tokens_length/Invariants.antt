-- The length counted so far and that of the text that is left add up to the length of the whole text.
use Rattle.rust_legacy.proofs.Basics.{◌≡◌, ◌≤◌, ◌-◌, ◌+◌, length, drop, texts_of}
use Rattle.rust_legacy.proofs.Texts.{whole_text}
use Rattle.rust_legacy.proofs.measure.tokens_length.Given as goal

abbrev pub invariant-tokens : goal.invariant-tokens
invariant-tokens l =
    (l.at ≤ length l.bytes) × (l.length + length (whole_text (texts_of (drop l.at l.bytes))) ≡ length (whole_text (texts_of l.bytes)))

abbrev pub decreases-tokens : goal.decreases-tokens
decreases-tokens l = length l.bytes - l.at
