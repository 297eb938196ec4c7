-- Where a writer is between two of its functions within a step: addresses of functions, as arguments of a name.
use Rattle.std.specs.Prelude.{◌≡◌, ℕ, List, ◌&&◌, reverse, true, false}
use Rattle.cpp_grammar.specs.declared.kind.Kind.{Kind}
use Rattle.cpp_grammar.specs.Scope.{has_return_type}
use Rattle.cpp_direct.specs.Bytes.{is_object}
use Rattle.cpp_direct.specs.Symbol.{detail_of, Symbol}
use Rattle.cpp_direct.specs.declared.open.Arguments.{Arguments}
use Rattle.cpp_direct.specs.declared.open.Mark.{Mark}
use Rattle.cpp_direct.specs.declared.open.Open.TheVariants as opens
use Rattle.cpp_direct.specs.declared.direct.Direct.{Direct}
use Rattle.cpp_direct.specs.Holes.{Comes, Expects, Opened}
use Rattle.cpp_direct.specs.MidStepOfLocals.{AwaitsLedParameters, IsInnerFrontRead, IsLedFunctionRead, IsLedParameterRead}
use Rattle.cpp_direct.specs.WriterInvariant.{AddressWithin, AwaitsTypeIn, HasArguments, HasNameSo, IsAddressed, Kept, Stands, below, no_scope}

-- Expects an argument of a name, with an open entry that accepts a type.
pub record AwaitsArgumentOfName (s : Symbol) (w : Direct) : Type 0 where
  pub kept : Kept s w
  pub open kept use *
  pub awaited : AwaitsTypeIn s scope w
  pub open awaited use *
  pub awaits : Expects s Kind.Argument around os w.at state

-- The name of a function whose address is an argument was read and written after a text. The open entry accepts the name. The
-- known arguments that the name ends in are at their places.
pub record IsAddressNamed (s : Symbol) (w : Direct) (mark : Mark) : Type 0 where
  pub kept : Kept s w
  pub open kept use *
  pub has : HasNameSo s w.text.list.items mark w.nest.from
  pub open has use *
  pub no_return : w.nest.is_instance && w.nest.has_class ≡ false → has_return_type own ≡ false
  pub returns : w.nest.is_instance && w.nest.has_class ≡ true → has_return_type own ≡ true
  pub names : w.nest.is_instance ≡ true → HasArguments (detail_of s) w.text.list.items w.argument own
  pub os : List Opened
  pub comes : Comes s os v w.at state
  pub stands : Stands s scope (reverse w.waiting.list.items) os lead

-- The return type of a function whose address is an argument was read, and written after the function's name.
abbrev pub IsAddressedFrontRead : (s : Symbol) → (w : Direct) → Mark → (to : ℕ) → Arguments → Type 0
IsAddressedFrontRead s w mark to argument =
    IsInnerFrontRead s w mark argument (opens.AddressedFront mark to argument) (λ scope. IsAddressed s scope to argument)
    (λ scope waits. AddressWithin s (below s no_scope waits))

-- The name of a function whose address is an argument is written, and the function's return type was read if there is
-- one. Expects the function's parameters.
abbrev pub AwaitsAddressedParameters : (s : Symbol) → (w : Direct) → Mark → (to : ℕ) → Arguments → Type 0
AwaitsAddressedParameters s w mark to argument =
    AwaitsLedParameters s w 3 mark argument (λ scope. IsAddressed s scope to argument) (λ scope waits. AddressWithin s (below s no_scope waits))

-- A parameter of a function whose address is an argument was read.
abbrev pub IsAddressedParameterRead : (s : Symbol) → (w : Direct) → Mark → (to : ℕ) → Type 0
IsAddressedParameterRead s w mark to =
    (argument : Arguments) × IsLedParameterRead s w 3 mark argument (opens.Addressed mark to argument) (λ scope. IsAddressed s scope to argument)
    (λ scope waits. AddressWithin s (below s no_scope waits))

-- A function whose address is an argument was read and written, except for its qualifier. The function is in no object's name.
abbrev pub IsAddressedRead : (s : Symbol) → (w : Direct) → Mark → Type 0
IsAddressedRead s w mark = IsLedFunctionRead s w mark (λ own front. is_object s.bytes ≡ false) (λ scope waits. AddressWithin s (below s no_scope waits))
