use Rattle.std.proofs.Common.{false, true}
use Rattle.sym_demangle.specs.Mangled.{well_shaped}
use Rattle.cpp_direct.specs.Symbol.{symbol_by}
use Rattle.legacy_laws.proofs.Reading.{legacy_read}
use Rattle.legacy_laws.proofs.laws.legacy_names_are_read.Goals as goal

pub returns-clause-abi : goal.returns-clause-abi
returns-clause-abi c = λ s path is. (let read = legacy_read (symbol_by false false false s) path is in (read.0, well_shaped read.1))

pub returns-clause-wide : goal.returns-clause-wide
returns-clause-wide c = λ s path is. (let read = legacy_read (symbol_by true false false s) path is in (read.0, well_shaped read.1))
