-- Pieces of names are read as what was pressed.
use Rattle.cpp_press_laws.proofs.Basics.{◌≡◌, ℕ, ◌+◌, ◌<◌, ◌⊎◌, inl, inr, List, [], ◌∷◌, ◌++◌, Bool, Option, Some, true, false, ◌||◌, nat_eq, slice_get, refl, ap, sym, ◌∙◌, arith, subst, eqb-true, TakesRule, Kind, Production, UNQUALIFIED, ANONYMOUS, OPERATOR, OPERATOR_AFTER_C, OPERATOR_AFTER_L, in_ranges, among, is_in, pick, number_of_kind, alternatives, choose, kinds, number_of, parts_of, abi, rule_of, Term, source, operator, literal_operator, Around, letter, piece, operator_or_literal, byte_of, Component, counted, same_choice, each_below, below, kept, IsSpellableName, IsOperator, Written, written, ReadsAt, Is, Reads}
use Rattle.sym_shape.specs.declared.rule.Sym.TheVariants.{Kind as OfKind}
use Rattle.cpp_grammar.specs.Values as value
use Rattle.cpp_press_laws.proofs.ReadBack.Reading.{takes-byte, takes-none, name-reads, closes-same, grammar, production-opened, read-by-parts, row-of, ◌before◌}
use Rattle.cpp_press_laws.proofs.ReadBack.Functions.{mark-reads}
use Rattle.cpp_press_laws.proofs.ByKind.Rules.{OnGoing}

-- ## Names

pub source-piece : (k : ℕ) (around : Around) (allowed : Option ℕ) (name : List ℕ) (place : ℕ) (cs : List Component)
    → TakesRule abi k (rule_of Production.SourcePiece) [] → IsSpellableName name
    → ReadsAt around allowed (OfKind k) (Is (piece (source false name))) place cs (written (counted name) cs)
unfolding grammar
source-piece k around allowed name place cs takes good =
    read-by-parts Production.SourcePiece k [] (value.text name ∷ []) (written (counted name) cs ∷ []) takes tt refl
    (λ s c q. name-reads name good s c q before λ began s. refl)

pub internal-piece : (k : ℕ) (around : Around) (allowed : Option ℕ) (name : List ℕ) (place : ℕ) (cs : List Component)
    → TakesRule abi k (rule_of Production.InternalPiece) (76 ∷ []) → IsSpellableName name
    → ReadsAt around allowed (OfKind k) (Is (piece (source true name))) place cs (written (76 ∷ counted name) cs)
unfolding grammar
internal-piece k around allowed name place cs takes good =
    read-by-parts Production.InternalPiece k (76 ∷ []) (value.text name ∷ []) (written (counted name) cs ∷ []) takes tt refl
    (λ s c q. name-reads name good s c q before λ began s. refl)

pub local-type-piece : (k : ℕ) (around : Around) (allowed : Option ℕ) (p : Term) (place : ℕ) (cs : List Component) (w : Written)
    → TakesRule abi k (rule_of Production.LocalTypePiece) (85 ∷ [])
    → ReadsAt around allowed (OfKind ANONYMOUS) (Is (piece p)) (place + 1) cs w
    → ReadsAt around allowed (OfKind k) (Is (piece p)) place cs (written (85 ∷ w.bytes) w.components)
unfolding grammar
local-type-piece k around allowed p place cs w takes one =
    read-by-parts Production.LocalTypePiece k (85 ∷ []) (piece p ∷ []) (w ∷ []) takes tt refl
    (λ s c q. one s c q before λ began s. refl)

pub operator-piece : (around : Around) (allowed : Option ℕ) (p : Term) (place : ℕ) (cs : List Component) (w : Written)
    → ReadsAt around allowed (OfKind OPERATOR) (Is (piece p)) (place + 0) cs w → ReadsAt around allowed (OfKind UNQUALIFIED) (Is (piece p)) place cs w
unfolding grammar
operator-piece around allowed p place cs w one =
    read-by-parts Production.OperatorPiece UNQUALIFIED [] (piece p ∷ []) (w ∷ [])
    (takes-none UNQUALIFIED Kind.Unqualified Production.OperatorPiece 110 refl refl (omega arith) refl) tt refl
    (λ s c q. one s c q before λ began s. refl)

-- ## Operators

-- an operator of two letters, for a kind that takes the first letter's production
pub operator-reads : (k : ℕ) (around : Around) (allowed : Option ℕ) (first second place : ℕ) (cs : List Component) → second < 256
    → (is : IsOperator first second) → TakesRule abi k (rule_of is.production) (first ∷ [])
    → ReadsAt around allowed (OfKind k) (Is (piece (operator first second))) place cs (written (first ∷ second ∷ []) cs)
unfolding byte_of
operator-reads k around allowed first second place cs small is takes =
    production-opened is.production k (first ∷ []) around allowed allowed place (λ values. values ≡ letter second ∷ [])
    (Is (piece (operator first second))) cs cs (OfKind is.number ∷ []) (written (second ∷ []) cs) takes is.parts
    (row-of is.production (first ∷ []) around allowed place _ (OfKind is.number ∷ []) (letter second ∷ []) (written (second ∷ []) cs ∷ []) [] (place + 1) cs
    (λ s c q. subst (λ m. OnGoing m (λ next. Reads next.context allowed (OfKind is.number) (Is (letter second)) (place + 1) next.state
    (written (second ∷ []) cs) × (next.values ++ letter second ∷ [] ≡ letter second ∷ []))) (sym (is.goes around place s))
    (mark-reads is.kind is.at is.marked small s c q, refl)))
    (λ s same packs. is.opens place _ s)
    (closes-same is.production first around allowed place _ cs (piece (operator first second))
    (λ values good began s. rw good (is.means around place began s)))

-- a literal operator, for a kind that takes its l
pub literal-operator-reads : (k : ℕ) (around : Around) (allowed : Option ℕ) (name : List ℕ) (place : ℕ) (cs : List Component) → IsSpellableName name
    → TakesRule abi k (rule_of Production.OperatorL) (108 ∷ [])
    → ReadsAt around allowed (OfKind k) (Is (piece (literal_operator name))) place cs (written (108 ∷ 105 ∷ counted name) cs)
unfolding grammar operator_or_literal
literal-operator-reads k around allowed name place cs good takes =
    read-by-parts Production.OperatorL k (108 ∷ []) (piece (literal_operator name) ∷ []) (written (105 ∷ counted name) cs ∷ []) takes tt refl
    (λ s c q. read-by-parts Production.LiteralOperator OPERATOR_AFTER_L (105 ∷ []) (value.text name ∷ [])
    (written (counted name) cs ∷ []) (takes-byte OPERATOR_AFTER_L Kind.OperatorAfterL Production.LiteralOperator 105
    refl refl (omega arith) refl) tt refl (λ s c q. name-reads name good s c q before λ began s. refl) s c q
    before λ began s. refl)

-- ## Operators within a nested name

operators-other : each_below 256 (λ b. nat_eq b 99 || same_choice (choose Kind.Operator b) (choose Kind.OtherOperator b)) ≡ true
unfolding choose alternatives pick is_in in_ranges among same_choice each_below number_of
operators-other = refl

-- the second letter of an operator that begins with a c
behind-c : (p : Production) (number : ℕ) (kind : Kind) (b : ℕ) → choose Kind.Operator 99 ≡ Some p → parts_of p ≡ OfKind number ∷ [] → slice_get kinds number ≡ Some kind
    → choose kind b ≡ Some Production.Mark → choose Kind.OperatorAfterC b ≡ Some Production.Mark
unfolding choose alternatives pick is_in in_ranges among kinds parts_of number_of_kind
behind-c p number kind b chosen parts at marked =
    let own : Production.OperatorC ≡ p = cc chosen in
    let second : OfKind OPERATOR_AFTER_C ∷ [] ≡ OfKind number ∷ [] = ap parts_of own ∙ parts in
    let same : OPERATOR_AFTER_C ≡ number = cc second in
    let kinds_are : Some Kind.OperatorAfterC ≡ Some kind = ap (slice_get kinds) same ∙ at in
    let is : Kind.OperatorAfterC ≡ kind = cc kinds_are in
    ap (λ k. choose k b) is ∙ marked

-- an operator begins with a c, or is read by the kind of the operators that begin with no c
pub operator-stands : (a b : ℕ) → a < 256 → (is : IsOperator a b)
    → ((a ≡ 99) × (choose Kind.OperatorAfterC b ≡ Some Production.Mark)) ⊎ (choose Kind.OtherOperator a ≡ Some is.production)
operator-stands a b small is = go (nat_eq a 99) (same_choice (choose Kind.Operator a) (choose Kind.OtherOperator a)) refl refl
    (below 256 (λ c. nat_eq c 99 || same_choice (choose Kind.Operator c) (choose Kind.OtherOperator c)) a operators-other small)
  where
    go : (c same : Bool) → nat_eq a 99 ≡ c → same_choice (choose Kind.Operator a) (choose Kind.OtherOperator a) ≡ same → (nat_eq a 99 || same_choice (choose Kind.Operator a) (choose Kind.OtherOperator a)) ≡ true
        → ((a ≡ 99) × (choose Kind.OperatorAfterC b ≡ Some Production.Mark)) ⊎ (choose Kind.OtherOperator a ≡ Some is.production)
    go true same c e h =
        let first : a ≡ 99 = eqb-true a 99 c in
        inl (first, behind-c is.production is.number is.kind b (ap (choose Kind.Operator) (sym first) ∙ is.chosen) is.parts is.at is.marked)
    go false same c e h = inr (kept (choose Kind.Operator a) (choose Kind.OtherOperator a) is.production
        (sym (ap (λ x. x || same_choice (choose Kind.Operator a) (choose Kind.OtherOperator a)) c) ∙ h) is.chosen)
