use Rattle.cpp_press_laws.proofs.ReadLaw.{pressed-is-read}
use Rattle.cpp_press_laws.proofs.laws.pressed_is_read.Goals as goal

pub returns : goal.returns
returns c = pressed-is-read
