-- The laws of pressing.
use Rattle.rust_press.proofs.Basics.{◌≡◌, Ok, Result, refl, ap, sym, ◌∙◌, subst, Refusal, Rust, lawful_sheet, v0_table, kinds, no_kind, unfolded, pressed, IsSpellableSymbol, PressedIsRead, PressedOnce}
use Rattle.sym_shape.proofs.Uniqueness.{one_tree}
use Rattle.rust_tree.specs.Symbol as tree
use Rattle.rust_press.proofs.PressSymbol.{symbol-kept}
use Rattle.rust_press.proofs.PressRead.{Holds}
use Rattle.rust_press.proofs.PressReadTrees.{read-spellable}

pub pressed-is-read : PressedIsRead
pressed-is-read shape symbol (is, reads) fits =
    let good : IsSpellableSymbol symbol = subst (λ r. Holds IsSpellableSymbol r) reads (read-spellable shape is) in
    let kept = symbol-kept symbol good fits in (
      kept,
      λ other other-is spelled.
          let same : other ≡ kept.shape = one_tree v0_table (lawful_sheet no_kind kinds Rust refl) other kept.shape other-is kept.shaped (spelled ∙ sym kept.spelled) in
          ap unfolded same ∙ kept.unfolds,
    )

one-symbol : (a b : tree.Symbol) → ◌≡◌ {A = Result tree.Symbol Refusal} (Ok a) (Ok b) → a ≡ b
one-symbol a b h = cc

pub pressed-once : PressedOnce
pressed-once shape symbol from fits other again (other-is, reads) spelled =
    let read : unfolded other ≡ Ok symbol = (pressed-is-read shape symbol from fits).1 other other-is spelled in
    ap pressed (one-symbol again symbol (sym reads ∙ read))
