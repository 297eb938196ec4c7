-- Pieces of names are read wherever names are: as a name with arguments or without, after St, and as the first piece of a name between N
-- and E.
use Rattle.cpp_press_laws.proofs.Basics.{◌≡◌, ℕ, ◌+◌, ◌-◌, ◌<◌, length, List, [], ◌∷◌, ◌++◌, Option, Some, Bool, true, false, ◌⊎◌, inl, inr, refl, ap, arith, sym, subst, ◌∙◌, append_assoc, ltb-true, cond, codes, nat_lt, ◌^◌, TakesRule, Kind, Production, COMPLETE_NAME, UNQUALIFIED, COMPONENT, ENTITY, TYPE_ENTITY, ANONYMOUS, ITEM, SOLID, SOURCE_OR_LOCAL, ITEMS, LITERAL_TYPE, OPERATOR, OTHER_OPERATOR, choose, kinds, abi, rule_of, Term, source, operator, literal_operator, constructor, destructor, lambda, unnamed, list, Around, Value, tree, piece, in_signature, extended, no_items, parameters, Component, counted, ordinal, IsSpellableName, IsOperator, greatest, Written, written, ReadsAt, Is, begins_name, names_type, names_function, names_member, IsLocalNumber}
use Rattle.sym_shape.specs.declared.rule.Sym.TheVariants.{Kind as OfKind}
use Rattle.cpp_press_laws.proofs.ReadBack.Reading.{takes-none, takes-byte, elsewhere, grammar, same-written}
use Rattle.cpp_press_laws.proofs.ReadBack.Functions.{mark-reads}
use Rattle.cpp_press_laws.proofs.ReadBack.Names.{SoFar, source-name, internal-name, operator-name, other-operator-name, operator-name-with-c, local-type-name, constructor-name, destructor-name, NamesAt}
use Rattle.cpp_press_laws.proofs.ReadBack.Nests.{nest-source, nest-internal, nest-local-type}
use Rattle.cpp_press_laws.proofs.ReadBack.Pieces.{source-piece, internal-piece, local-type-piece, operator-piece, operator-reads, literal-operator-reads, operator-stands}
use Rattle.cpp_press_laws.proofs.ReadBack.Locals.{lambda-reads, unnamed-reads}

-- ## What a kind takes

-- a kind that reads the names of operators; a component has other productions for them
abbrev pub OperatorRule : ℕ → Type 0
OperatorRule k = TakesRule abi k (rule_of Production.OperatorName) [] ⊎ (k ≡ 19)

-- a kind whose productions read a piece, with or without arguments
abbrev pub NameRule : ℕ → Term → Type 0
NameRule k (source true name) = TakesRule abi k (rule_of Production.InternalName) (76 ∷ [])
NameRule k (source false name) = TakesRule abi k (rule_of Production.SourceName) []
NameRule k (operator a b) = OperatorRule k
NameRule k (literal_operator name) = OperatorRule k
NameRule k (constructor digit) = k ≡ 19
NameRule k (destructor digit) = k ≡ 19
NameRule k (lambda parameters j) = TakesRule abi k (rule_of Production.LocalTypeName) (85 ∷ [])
NameRule k (unnamed j) = TakesRule abi k (rule_of Production.LocalTypeName) (85 ∷ [])
NameRule k _ = ⊥

-- a kind that reads a piece after St
abbrev pub PieceRule : ℕ → Term → Type 0
PieceRule k (source true name) = TakesRule abi k (rule_of Production.InternalPiece) (76 ∷ [])
PieceRule k (source false name) = TakesRule abi k (rule_of Production.SourcePiece) []
PieceRule k (operator a b) = k ≡ 14
PieceRule k (literal_operator name) = k ≡ 14
PieceRule k (lambda parameters j) = TakesRule abi k (rule_of Production.LocalTypePiece) (85 ∷ [])
PieceRule k (unnamed j) = TakesRule abi k (rule_of Production.LocalTypePiece) (85 ∷ [])
PieceRule k _ = ⊥

-- the rule by which a piece is read as a type: a solid type, or the type of a literal
pub type-rule : (p : Term) → names_type p ≡ true → NameRule SOLID p
unfolding names_type begins_name grammar
type-rule (source false name) h = takes-none SOLID Kind.Solid Production.SourceName 48 refl refl (omega arith) refl
type-rule (lambda parameters j) h = takes-byte SOLID Kind.Solid Production.LocalTypeName 85 refl refl (omega arith) refl
type-rule (unnamed j) h = takes-byte SOLID Kind.Solid Production.LocalTypeName 85 refl refl (omega arith) refl
type-rule (source true name) h = absurd (let e : false ≡ true = h in cc)
type-rule _ h = absurd (let e : false ≡ true = h in cc)

pub literal-type-rule : (p : Term) → names_type p ≡ true → NameRule LITERAL_TYPE p
unfolding names_type begins_name grammar
literal-type-rule (source false name) h = takes-none LITERAL_TYPE Kind.LiteralType Production.SourceName 48 refl refl (omega arith) refl
literal-type-rule (lambda parameters j) h = takes-byte LITERAL_TYPE Kind.LiteralType Production.LocalTypeName 85 refl refl (omega arith) refl
literal-type-rule (unnamed j) h = takes-byte LITERAL_TYPE Kind.LiteralType Production.LocalTypeName 85 refl refl (omega arith) refl
literal-type-rule (source true name) h = absurd (let e : false ≡ true = h in cc)
literal-type-rule _ h = absurd (let e : false ≡ true = h in cc)

-- the rule of a piece as an encoding's own name
pub own-rule : (p : Term) → names_function p ≡ true → NameRule COMPLETE_NAME p
unfolding names_function begins_name grammar
own-rule (source true name) h = takes-byte COMPLETE_NAME Kind.CompleteName Production.InternalName 76 refl refl (omega arith) refl
own-rule (source false name) h = takes-none COMPLETE_NAME Kind.CompleteName Production.SourceName 48 refl refl (omega arith) refl
own-rule (operator a b) h = inl (takes-none COMPLETE_NAME Kind.CompleteName Production.OperatorName 110 refl refl (omega arith) refl)
own-rule (literal_operator name) h = inl (takes-none COMPLETE_NAME Kind.CompleteName Production.OperatorName 110 refl refl (omega arith) refl)
own-rule (lambda parameters j) h = takes-byte COMPLETE_NAME Kind.CompleteName Production.LocalTypeName 85 refl refl (omega arith) refl
own-rule (unnamed j) h = takes-byte COMPLETE_NAME Kind.CompleteName Production.LocalTypeName 85 refl refl (omega arith) refl
own-rule _ h = absurd (let e : false ≡ true = h in cc)

-- the rule of a piece after a prefix
pub member-rule : (p : Term) → names_member p ≡ true → NameRule COMPONENT p
unfolding names_member names_function begins_name grammar
member-rule (source true name) h = takes-byte COMPONENT Kind.Component Production.InternalName 76 refl refl (omega arith) refl
member-rule (source false name) h = takes-none COMPONENT Kind.Component Production.SourceName 48 refl refl (omega arith) refl
member-rule (operator a b) h = inr refl
member-rule (literal_operator name) h = inr refl
member-rule (constructor digit) h = refl
member-rule (destructor digit) h = refl
member-rule (lambda parameters j) h = takes-byte COMPONENT Kind.Component Production.LocalTypeName 85 refl refl (omega arith) refl
member-rule (unnamed j) h = takes-byte COMPONENT Kind.Component Production.LocalTypeName 85 refl refl (omega arith) refl
member-rule _ h = absurd (let e : false ≡ true = h in cc)

-- the rule of a piece as a local entity, in a name and in a type
pub entity-rule : (p : Term) → begins_name p ≡ true → NameRule ENTITY p
unfolding begins_name grammar
entity-rule (source true name) h = takes-byte ENTITY Kind.Entity Production.InternalName 76 refl refl (omega arith) refl
entity-rule (source false name) h = takes-none ENTITY Kind.Entity Production.SourceName 48 refl refl (omega arith) refl
entity-rule (lambda parameters j) h = takes-byte ENTITY Kind.Entity Production.LocalTypeName 85 refl refl (omega arith) refl
entity-rule (unnamed j) h = takes-byte ENTITY Kind.Entity Production.LocalTypeName 85 refl refl (omega arith) refl
entity-rule _ h = absurd (let e : false ≡ true = h in cc)

pub type-entity-rule : (p : Term) → begins_name p ≡ true → NameRule TYPE_ENTITY p
unfolding begins_name grammar
type-entity-rule (source true name) h = takes-byte TYPE_ENTITY Kind.TypeEntity Production.InternalName 76 refl refl (omega arith) refl
type-entity-rule (source false name) h = takes-none TYPE_ENTITY Kind.TypeEntity Production.SourceName 48 refl refl (omega arith) refl
type-entity-rule (lambda parameters j) h = takes-byte TYPE_ENTITY Kind.TypeEntity Production.LocalTypeName 85 refl refl (omega arith) refl
type-entity-rule (unnamed j) h = takes-byte TYPE_ENTITY Kind.TypeEntity Production.LocalTypeName 85 refl refl (omega arith) refl
type-entity-rule _ h = absurd (let e : false ≡ true = h in cc)

-- the rule of a piece after St, in a name and in a type
pub std-rule : (p : Term) → names_function p ≡ true → PieceRule UNQUALIFIED p
unfolding names_function begins_name grammar
std-rule (source true name) h = takes-byte UNQUALIFIED Kind.Unqualified Production.InternalPiece 76 refl refl (omega arith) refl
std-rule (source false name) h = takes-none UNQUALIFIED Kind.Unqualified Production.SourcePiece 48 refl refl (omega arith) refl
std-rule (operator a b) h = refl
std-rule (literal_operator name) h = refl
std-rule (lambda parameters j) h = takes-byte UNQUALIFIED Kind.Unqualified Production.LocalTypePiece 85 refl refl (omega arith) refl
std-rule (unnamed j) h = takes-byte UNQUALIFIED Kind.Unqualified Production.LocalTypePiece 85 refl refl (omega arith) refl
std-rule _ h = absurd (let e : false ≡ true = h in cc)

pub std-type-rule : (p : Term) → begins_name p ≡ true → PieceRule SOURCE_OR_LOCAL p
unfolding begins_name grammar
std-type-rule (source true name) h = takes-byte SOURCE_OR_LOCAL Kind.SourceOrLocal Production.InternalPiece 76 refl refl (omega arith) refl
std-type-rule (source false name) h = takes-none SOURCE_OR_LOCAL Kind.SourceOrLocal Production.SourcePiece 48 refl refl (omega arith) refl
std-type-rule (lambda parameters j) h = takes-byte SOURCE_OR_LOCAL Kind.SourceOrLocal Production.LocalTypePiece 85 refl refl (omega arith) refl
std-type-rule (unnamed j) h = takes-byte SOURCE_OR_LOCAL Kind.SourceOrLocal Production.LocalTypePiece 85 refl refl (omega arith) refl
std-type-rule _ h = absurd (let e : false ≡ true = h in cc)

-- ## What a piece is read as

pub record PieceReads (around : Around) (allowed : Option ℕ) (p : Term) (place : ℕ) (cs : List Component) (w : Written) : Type 0 where
  pub names : (k : ℕ) → NameRule k p → NamesAt around allowed k p place cs w
  pub pieces : (k : ℕ) → PieceRule k p → ReadsAt around allowed (OfKind k) (Is (piece p)) place cs w
  pub begins : begins_name p ≡ true → SoFar around allowed (extended around.prefix p) false 17 place cs w

pub source-reads : (around : Around) (allowed : Option ℕ) (internal : Bool) (name : List ℕ) (place : ℕ) (cs : List Component)
    → IsSpellableName name
    → PieceReads around allowed (source internal name) place cs (written (cond internal (codes "L") [] ++ counted name) cs)
source-reads around allowed true name place cs good = record {
  names = λ k takes. internal-name k around allowed name place cs takes good;
  pieces = λ k takes. internal-piece k around allowed name place cs takes good;
  begins = λ h. nest-internal around allowed name place cs good;
}
source-reads around allowed false name place cs good = record {
  names = λ k takes. source-name k around allowed name place cs takes good;
  pieces = λ k takes. source-piece k around allowed name place cs takes good;
  begins = λ h. nest-source around allowed name place cs good;
}

-- an operator is read by each kind that reads operators, from its reading as an operator
operators-read : (around : Around) (allowed : Option ℕ) (p : Term) (place : ℕ) (cs : List Component) (w : Written)
    → ((k : ℕ) → NameRule k p → OperatorRule k) → ((k : ℕ) → PieceRule k p → k ≡ 14)
    → begins_name p ≡ false → NamesAt around allowed COMPONENT p place cs w
    → ReadsAt around allowed (OfKind OPERATOR) (Is (piece p)) (place + 0) cs w → PieceReads around allowed p place cs w
operators-read around allowed p place cs w rule fourteen none component one = record {
  names = λ k takes. elim (rule k takes) [
    | inl own ↦ operator-name k around allowed p place cs w own one
    | inr is ↦ subst (λ j. NamesAt around allowed j p place cs w) (sym is) component
  ];
  pieces = λ k is. subst (λ j. ReadsAt around allowed (OfKind j) (Is (piece p)) place cs w) (sym (fourteen k is))
      (operator-piece around allowed p place cs w one);
  begins = λ h. absurd (let e : false ≡ true = sym none ∙ h in cc);
}

-- an operator within a nested name
operator-component : (around : Around) (allowed : Option ℕ) (a b place : ℕ) (cs : List Component) → a < 256 → b < 256 → IsOperator a b
    → NamesAt around allowed COMPONENT (operator a b) place cs (written (a ∷ b ∷ []) cs)
unfolding kinds
operator-component around allowed a b place cs small also is = elim (operator-stands a b small is) [
  | inl c ↦ subst (λ f. NamesAt around allowed COMPONENT (operator f b) place cs (written (f ∷ b ∷ []) cs)) (sym c.0)
      (operator-name-with-c around allowed b place cs (mark-reads Kind.OperatorAfterC refl c.1 also))
  | inr chosen ↦ other-operator-name around allowed (operator a b) place cs (written (a ∷ b ∷ []) cs)
      (operator-reads OTHER_OPERATOR around allowed a b (place + 0) cs also is
      (takes-byte OTHER_OPERATOR Kind.OtherOperator is.production a refl chosen small is.own))
]

pub operator-piece-reads : (around : Around) (allowed : Option ℕ) (a b place : ℕ) (cs : List Component) → a < 256 → b < 256 → IsOperator a b
    → PieceReads around allowed (operator a b) place cs (written (a ∷ b ∷ []) cs)
unfolding begins_name kinds
operator-piece-reads around allowed a b place cs small also is =
    operators-read around allowed (operator a b) place cs (written (a ∷ b ∷ []) cs) (λ k takes. takes) (λ k h. h) refl
    (operator-component around allowed a b place cs small also is)
    (operator-reads OPERATOR around allowed a b (place + 0) cs also is (takes-byte OPERATOR Kind.Operator is.production a refl is.chosen small is.own))

pub literal-operator-piece-reads : (around : Around) (allowed : Option ℕ) (name : List ℕ) (place : ℕ) (cs : List Component)
    → IsSpellableName name → PieceReads around allowed (literal_operator name) place cs (written (codes "li" ++ counted name) cs)
unfolding begins_name grammar
literal-operator-piece-reads around allowed name place cs good =
    operators-read around allowed (literal_operator name) place cs (written (108 ∷ 105 ∷ counted name) cs) (λ k takes. takes) (λ k h. h) refl
    (other-operator-name around allowed (literal_operator name) place cs (written (108 ∷ 105 ∷ counted name) cs)
    (literal-operator-reads OTHER_OPERATOR around allowed name (place + 0) cs good
    (takes-byte OTHER_OPERATOR Kind.OtherOperator Production.OperatorL 108 refl refl (omega arith) refl)))
    (literal-operator-reads OPERATOR around allowed name (place + 0) cs good
    (takes-byte OPERATOR Kind.Operator Production.OperatorL 108 refl refl (omega arith) refl))

pub constructor-piece-reads : (around : Around) (allowed : Option ℕ) (digit place : ℕ) (cs : List Component) → digit < 256
    → choose Kind.ConstructorDigit digit ≡ Some Production.Mark
    → PieceReads around allowed (constructor digit) place cs (written (codes "C" ++ digit ∷ []) cs)
unfolding begins_name kinds
constructor-piece-reads around allowed digit place cs small chosen = record {
  names = λ k is. subst (λ j. NamesAt around allowed j (constructor digit) place cs (written (67 ∷ digit ∷ []) cs)) (sym is)
      (constructor-name around allowed digit place cs (mark-reads Kind.ConstructorDigit refl chosen small));
  pieces = λ k is. absurd is;
  begins = λ h. absurd (let e : false ≡ true = h in cc);
}

pub destructor-piece-reads : (around : Around) (allowed : Option ℕ) (digit place : ℕ) (cs : List Component) → digit < 256
    → choose Kind.ComponentAfterD digit ≡ Some Production.Mark
    → PieceReads around allowed (destructor digit) place cs (written (codes "D" ++ digit ∷ []) cs)
unfolding begins_name kinds
destructor-piece-reads around allowed digit place cs small chosen = record {
  names = λ k is. subst (λ j. NamesAt around allowed j (destructor digit) place cs (written (68 ∷ digit ∷ []) cs)) (sym is)
      (destructor-name around allowed digit place cs (mark-reads Kind.ComponentAfterD refl chosen small));
  pieces = λ k is. absurd is;
  begins = λ h. absurd (let e : false ≡ true = h in cc);
}

-- ## Lambdas and unnamed types

-- a local type's name, from its reading after the U
local-type-reads : (around : Around) (allowed : Option ℕ) (p : Term) (place : ℕ) (cs : List Component) (w : Written)
    → ((k : ℕ) → NameRule k p → TakesRule abi k (rule_of Production.LocalTypeName) (85 ∷ []))
    → ((k : ℕ) → PieceRule k p → TakesRule abi k (rule_of Production.LocalTypePiece) (85 ∷ []))
    → ReadsAt around allowed (OfKind ANONYMOUS) (Is (piece p)) (place + 1) cs w
    → PieceReads around allowed p place cs (written (85 ∷ w.bytes) w.components)
local-type-reads around allowed p place cs w rule also one = record {
  names = λ k takes. local-type-name k around allowed p place cs w (rule k takes) one;
  pieces = λ k takes. local-type-piece k around allowed p place cs w (also k takes) one;
  begins = λ h. nest-local-type around allowed p place cs w one;
}

number-back : (k : ℕ) → 0 < k → k - 1 + 1 ≡ k
number-back k positive = omega (arith, positive)

number-small : (k : ℕ) → IsLocalNumber k → k - 1 < greatest
number-small k is = omega (arith, is.0, ltb-true k (2 ^ 64) is.1)

number-tested : (k : ℕ) → IsLocalNumber k → nat_lt (k - 1 + 1) (2 ^ 64) ≡ true
number-tested k is = subst (λ n. nat_lt n (2 ^ 64) ≡ true) (sym (number-back k is.0)) is.1

pub unnamed-piece-reads : (around : Around) (allowed : Option ℕ) (k place : ℕ) (cs : List Component) → IsLocalNumber k
    → PieceReads around allowed (unnamed k) place cs (written (codes "Ut" ++ ordinal (k - 1)) cs)
unnamed-piece-reads around allowed k place cs is =
    local-type-reads around allowed (unnamed k) place cs (written (116 ∷ ordinal (k - 1)) cs) (λ j takes. takes) (λ j takes. takes)
    (subst (λ n. ReadsAt around allowed (OfKind ANONYMOUS) (Is (piece (unnamed n))) (place + 1) cs (written (116 ∷ ordinal (k - 1)) cs))
    (number-back k is.0)
    (unnamed-reads around allowed (k - 1) (place + 1) cs (number-small k is) (number-tested k is)))

-- items of an encoding or of a lambda that denote its parameters
pub record ItemsRead (around : Around) (allowed : Option ℕ) (t : Term) (place : ℕ) (cs : List Component) (w : Written) : Type 0 where
  pub first : Term
  pub items : Term
  pub last : Value
  pub one : Written
  pub rest : Written
  pub are : no_items last ≡ items
  pub means : parameters (list first items) ≡ t
  pub split : one.bytes ++ rest.bytes ≡ w.bytes
  pub components : rest.components ≡ w.components
  pub reads_one : ReadsAt around allowed (OfKind ITEM) (Is (tree first true)) place cs one
  pub reads_rest : ReadsAt around allowed (OfKind ITEMS) (Is last) (place + length one.bytes) one.components rest

pub lambda-piece-reads : (around : Around) (allowed : Option ℕ) (ps : Term) (k place : ℕ) (cs : List Component) (w : Written)
    → IsLocalNumber k
    → ItemsRead (in_signature around) allowed ps (place + 2) cs w
    → PieceReads around allowed (lambda ps k) place cs (written (codes "Ul" ++ (w.bytes ++ (codes "E" ++ ordinal (k - 1)))) w.components)
lambda-piece-reads around allowed ps k place cs w is i =
    let wanted : Written = written (108 ∷ (w.bytes ++ (69 ∷ ordinal (k - 1)))) w.components in
    local-type-reads around allowed (lambda ps k) place cs wanted (λ j takes. takes) (λ j takes. takes)
    (subst (λ n. ReadsAt around allowed (OfKind ANONYMOUS) (Is (piece (lambda ps n))) (place + 1) cs wanted) (number-back k is.0)
    (subst (λ t. ReadsAt around allowed (OfKind ANONYMOUS) (Is (piece (lambda t (k - 1 + 1)))) (place + 1) cs wanted) i.means
    (subst (λ ds. ReadsAt around allowed (OfKind ANONYMOUS) (Is (piece (lambda (parameters (list i.first i.items)) (k - 1 + 1)))) (place + 1) cs
    (written (108 ∷ (w.bytes ++ (69 ∷ ordinal (k - 1)))) ds)) i.components
    (same-written (ap (λ l. 108 ∷ l) (sym (append_assoc i.one.bytes i.rest.bytes (69 ∷ ordinal (k - 1)))
    ∙ ap (λ l. l ++ (69 ∷ ordinal (k - 1))) i.split))
    (lambda-reads around allowed i.first i.items i.last (k - 1) (place + 1) cs i.one i.rest i.are (number-small k is) (number-tested k is)
    (elsewhere (omega arith) i.reads_one) (elsewhere (omega arith) i.reads_rest))))))
