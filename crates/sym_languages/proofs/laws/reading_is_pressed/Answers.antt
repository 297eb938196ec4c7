use Rattle.sym_languages.proofs.Basics.{cpp_mangled, v0_mangled, reading_pressed}
use Rattle.cpp_press_laws.specs.Pressing as cpp_spelling
use Rattle.rust_press.specs.Pressing as rust_spelling
use Rattle.sym_languages.proofs.laws.reading_is_pressed.Goals as goal

pub returns-clause-cpp : goal.returns-clause-cpp
returns-clause-cpp c = reading_pressed cpp_mangled cpp_spelling.pressed

pub returns-clause-rust : goal.returns-clause-rust
returns-clause-rust c = reading_pressed v0_mangled rust_spelling.pressed
