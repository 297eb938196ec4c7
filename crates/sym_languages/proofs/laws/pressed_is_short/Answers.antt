use Rattle.sym_languages.proofs.Basics.{cpp_mangled, v0_mangled}
use Rattle.cpp_press_laws.proofs.Short.Law.{pressed-short}
use Rattle.cpp_press_laws.specs.Pressing as cpp_spelling
use Rattle.cpp_press_laws.specs.Short as cpp_short
use Rattle.rust_press.proofs.ShortSymbol.{pressed-is-short}
use Rattle.rust_press.specs.Pressing as rust_spelling
use Rattle.rust_press.specs.Short as rust_short
use Rattle.sym_languages.proofs.ShortAnswers.{answers-short}
use Rattle.sym_languages.proofs.laws.pressed_is_short.Goals as goal

pub returns-clause-cpp : goal.returns-clause-cpp
returns-clause-cpp c = answers-short cpp_mangled cpp_spelling.pressed cpp_short.pressed_a_byte pressed-short

pub returns-clause-rust : goal.returns-clause-rust
returns-clause-rust c = answers-short v0_mangled rust_spelling.pressed rust_short.pressed_a_byte pressed-is-short
