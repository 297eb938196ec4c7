use Rattle.rust_press.proofs.PressLaw.{pressed-once}
use Rattle.rust_press.proofs.laws.pressed_once.Goals as goal

pub returns : goal.returns
returns c = pressed-once
