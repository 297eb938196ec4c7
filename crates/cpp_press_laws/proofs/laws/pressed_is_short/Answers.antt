use Rattle.cpp_press_laws.proofs.Short.Law.{pressed-short}
use Rattle.cpp_press_laws.proofs.laws.pressed_is_short.Goals as goal

pub returns : goal.returns
returns c = pressed-short
