use Rattle.cpp_press_laws.proofs.PressLaw.{apart-if-read}
use Rattle.cpp_press_laws.proofs.ReadLaw.{pressed-is-read}
use Rattle.cpp_press_laws.proofs.laws.pressed_tells_apart.Goals as goal

pub returns : goal.returns
returns c = apart-if-read pressed-is-read
