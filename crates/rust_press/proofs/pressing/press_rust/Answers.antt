use Rattle.rust_press.proofs.Basics.{◌≡◌, ◌++◌, length, Some, slice_get, rules, ap, sym, subst, ◌∙◌, of_symbol, trees_of, fields_at, IsView, whole_of, pressed_symbol, IsShort}
use Rattle.rust_press.proofs.ShortSymbol.{pressed-is-short}
use Rattle.rust_press.proofs.WriterSteps.{symbol-bytes}
use Rattle.rust_press.proofs.pressing.press_rust.Goals as goal

pub returns-clause-pressed : goal.returns-clause-pressed
returns-clause-pressed c =
    let y = c.args.symbol.now in
    let view = c.node-view.result in
    let root = c.root_node.ensures.root in
    let whole = c.root_node.ensures.root_is.0 in
    let long : length view.texts ≡ 2 = search rules in
    symbol-bytes y whole view c.bytes_of.result.now c.extend_from_slice.new.self.items
    (subst (λ m. slice_get (trees_of y) m ≡ Some (of_symbol whole)) root c.root_node.ensures.root_is.1) long
    (subst (λ m. IsView y.bytes view (fields_at y m)) root c.node-view.ensures.fields) c.bytes_of.ensures
    (c.in_ok-extend_from_slice.ensures.items ∙ ap (λ l. l ++ c.bytes_of.result.now) c.in_ok-out.ensures.pressed)

pub returns-clause-short : goal.returns-clause-short
unfolding pressed_symbol
returns-clause-short c =
    let y = c.args.symbol.now in
    subst (λ bytes. IsShort (whole_of y) bytes) (sym (returns-clause-pressed c)) (pressed-is-short (whole_of y))
