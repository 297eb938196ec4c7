-- The bytes written and the text that is left are the whole text; likewise for what was spent and what is left to spend.
use Rattle.rust_legacy.proofs.Basics.{◌≡◌, ◌≤◌, ◌-◌, ◌+◌, ◌++◌, length, drop, texts_of, Keeps}
use Rattle.rust_legacy.proofs.Texts.{whole_cost, whole_text}
use Rattle.rust_legacy.proofs.text.write_tokens.Given as goal

abbrev pub invariant-loop-at : goal.invariant-loop-at
invariant-loop-at l =
    record {
      high : l.at ≤ length l.bytes;
      text : l.out.items ++ whole_text (texts_of (drop l.at l.bytes)) ≡ l.fn.out.items ++ whole_text (texts_of l.bytes);
      cost : l.left + whole_cost (texts_of l.bytes) ≡ l.limit + whole_cost (texts_of (drop l.at l.bytes));
      keeps : Keeps l.fn.out l.out;
    }

abbrev pub decreases-loop-at : goal.decreases-loop-at
decreases-loop-at l = length l.bytes - l.at
