use Rattle.rust_press.specs.OfRead.{pressed_symbol}
use Rattle.sym_languages.proofs.pressing.V0Pressable.press.Goals as goal

pub returns-clause-pressed : goal.returns-clause-pressed
unfolding pressed_symbol
returns-clause-pressed c = c.press_rust.ensures.pressed
