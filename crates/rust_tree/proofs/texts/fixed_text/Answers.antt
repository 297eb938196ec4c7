use Rattle.rust_tree.proofs.Basics.{◌≡◌, ℕ, ◌≤◌, arith, ◌∙◌, refl, slice_get_past, fixed_text, texts, basic_text}
use Rattle.rust_tree.proofs.texts.fixed_text.Goals as goal

past : (n : ℕ) → 40 ≤ n → basic_text n ≡ fixed_text n
past n h = rw (slice_get_past texts n h) refl

pub returns-in_default : goal.returns-in_default
returns-in_default c = c.basic_text.ensures ∙ past c.args.number (omega (arith, c.in_default))
