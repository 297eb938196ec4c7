use Rattle.cpp_press_laws.proofs.PressLaw.{once-if-read}
use Rattle.cpp_press_laws.proofs.ReadLaw.{pressed-is-read}
use Rattle.cpp_press_laws.proofs.laws.pressed_once.Goals as goal

pub returns : goal.returns
returns c = once-if-read pressed-is-read
