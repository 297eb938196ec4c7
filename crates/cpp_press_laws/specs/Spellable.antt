-- What holds of the parts of each tree that some symbol is read as: the grammar can spell its names, numbers, letters and
-- bytes.
use Rattle.std.specs.Prelude.{◌≡◌, ℕ, ◌<◌, ◌≤◌, List, [], ◌∷◌, length, true, false, slice_get, Some, Ok}
use Rattle.sym_core.specs.declared.NumberKind.{NumberKind}
use Rattle.sym_core.specs.declared.NumberKind.TheVariants.{Digits}
use Rattle.sym_core.specs.declared.NameClass.TheVariants.{Cpp}
use Rattle.sym_core.specs.Number.{AreDigitsOf}
use Rattle.sym_core.specs.Token.{IsSeparator, AreNameBytes}
use Rattle.sym_shape.specs.declared.rule.Sym.TheVariants.{Kind as OfKind}
use Rattle.sym_shape.specs.Tree.{Forest}
use Rattle.sym_link.specs.Unfold.{found}
use Rattle.cpp_grammar.specs.declared.kind.Kind.{Kind}
use Rattle.cpp_grammar.specs.declared.production.Production.{Production}
use Rattle.cpp_grammar.specs.Grammar.{kinds, choose, parts_of, is_chain}
use Rattle.cpp_grammar.specs.Term.{Signed, operator}
use Rattle.cpp_grammar.specs.Values.{Around, State, letter, piece, normal, is_zero}
use Rattle.cpp_grammar.specs.Between.{Continuation, between}
use Rattle.cpp_grammar.specs.Unfolding.{opening, close}

-- a name that can be spelled: its bytes are bytes of names, its length has at most nine digits, and its first byte isn't a
-- digit
pub record IsSpellableName (name : List ℕ) : Type 0 where
  pub each : AreNameBytes Cpp name
  pub short : length name ≤ 999999999
  pub first : IsSeparator Cpp [] name

-- digits that can be spelled: those of the number's kind, without zeros in front
pub record AreSpellableDigits (kind : NumberKind) (digits : List ℕ) : Type 0 where
  pub are : AreDigitsOf kind digits
  pub normal_are : normal digits ≡ digits

-- a number that can be spelled: digits without zeros in front, and no minus before zero
pub record IsSpellableNumber (n : Signed) : Type 0 where
  pub digits : AreSpellableDigits Digits n.digits
  pub minus : n.negative ≡ true → is_zero n.digits ≡ false

-- an operator of two letters: the first chooses a production, and the second is the production's one part
pub record IsOperator (first second : ℕ) : Type 0 where
  pub production : Production
  pub kind : Kind
  pub number : ℕ
  pub at : slice_get kinds number ≡ Some kind
  pub chosen : choose Kind.Operator first ≡ Some production
  pub parts : parts_of production ≡ OfKind number ∷ []
  pub marked : choose kind second ≡ Some Production.Mark
  pub own : is_chain production ≡ false
  pub goes : (around : Around) (place : ℕ) (s : State) → ◌≡◌ {A = Continuation} (between production around place [] s)
      (Ok (record { context = around; values = []; state = s }))
  pub opens : (place : ℕ) (f : Forest) (s : State) → opening production f place s ≡ Ok s
  pub means : (around : Around) (place : ℕ) (began s : State)
      → close production first around place began (letter second ∷ []) s ≡ Ok (found (piece (operator first second)) s)

-- the bytes after the first byte of a suffix: each is a byte that suffixes may have
abbrev pub AreSuffixBytes : List ℕ → Type 0
AreSuffixBytes [] = Unit {0}
AreSuffixBytes (b ∷ bs) = (b < 256) × (choose Kind.SuffixMore b ≡ Some Production.SuffixByte) × AreSuffixBytes bs
