-- The types of a writer and of what it keeps, as its code declares them, and the symbol that it reads.
pub use Rattle.cpp_direct.specs.Symbol.{Symbol, detail_of}
pub use Rattle.cpp_direct.specs.declared.direct.Direct.{Direct}
pub use Rattle.cpp_direct.specs.declared.marks.MarkPlace.{MarkPlace}
pub use Rattle.cpp_direct.specs.declared.open.Access.{Access}
pub use Rattle.cpp_direct.specs.declared.open.Argument.{Argument}
pub use Rattle.cpp_direct.specs.declared.open.Arguments.{Arguments}
pub use Rattle.cpp_direct.specs.declared.open.Candidate.{Candidate}
pub use Rattle.cpp_direct.specs.declared.open.Hiding.{Hiding}
pub use Rattle.cpp_direct.specs.declared.open.Holder.{Holder}
pub use Rattle.cpp_direct.specs.declared.open.Mark.{Mark}
pub use Rattle.cpp_direct.specs.declared.open.Nest.{Nest}
pub use Rattle.cpp_direct.specs.declared.open.Open.{Open}
pub use Rattle.cpp_direct.specs.declared.open.Pattern.{Pattern}
pub use Rattle.cpp_direct.specs.declared.open.Purpose.{Purpose}
pub use Rattle.cpp_direct.specs.declared.open.Step.{Step}
