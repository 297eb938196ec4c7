use Rattle.rust_press.proofs.ShortSymbol.{pressed-is-short}
use Rattle.rust_press.proofs.laws.pressed_is_short.Goals as goal

pub returns : goal.returns
returns c = pressed-is-short
