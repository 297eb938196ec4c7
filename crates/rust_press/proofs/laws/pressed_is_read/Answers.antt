use Rattle.rust_press.proofs.PressLaw.{pressed-is-read}
use Rattle.rust_press.proofs.laws.pressed_is_read.Goals as goal

pub returns : goal.returns
returns c = pressed-is-read
