-- Names are read from their pieces: alone and after St, as prefixes and between N and E, with arguments and without.
use Rattle.cpp_press_laws.proofs.Basics.{◌≡◌, ℕ, ◌+◌, length, List, [], ◌∷◌, ◌++◌, Option, true, false, ap, arith, sym, subst, append-nil, append_assoc, length-append, refl, Bool, TakesRule, Production, COMPLETE_NAME, UNQUALIFIED, NEST_REST, NEST_TAIL, ABBREVIATION, TYPE_AFTER_S, SOURCE_OR_LOCAL, ARGUMENT_LIST, MAYBE_ARGUMENTS, abi, rule_of, Term, in_std, within, instance, parameter, Around, Value, nothing_there, tree, piece, tree_of, is_there, after, inside, extended, applied, no_items, Component, ordinal, Written, written, ReadsAt, Is, Kind}
use Rattle.sym_shape.specs.declared.rule.Sym.TheVariants.{Kind as OfKind}
use Rattle.cpp_press_laws.proofs.ReadBack.Types.{solid-with-s}
use Rattle.cpp_press_laws.proofs.ReadBack.Functions.{IsInScope}
use Rattle.cpp_press_laws.proofs.ReadBack.Names.{SoFar, Extends, no-arguments, so-far-within, nest-whole, extends}
use Rattle.cpp_press_laws.proofs.ReadBack.Nests.{nest-parameter, nest-behind-s, nest-std, nest-arguments}
use Rattle.cpp_press_laws.proofs.ReadBack.Encodings.{std-name, nested-type, std-type, type-with-arguments}
use Rattle.cpp_press_laws.proofs.ReadBack.Named.{NameRule, PieceReads}
use Rattle.cpp_press_laws.proofs.ReadBack.Arguments.{arguments-read, takes-maybe-arguments}
use Rattle.cpp_press_laws.proofs.ReadBack.Reading.{elsewhere, same-written, more, grammar, takes-none}

-- ## Arguments

-- the bytes of arguments: an I, the bytes of the elements, and an E
abbrev pub in_I_and_E : List ℕ → List ℕ
in_I_and_E bytes = 73 ∷ (bytes ++ (69 ∷ []))

-- elements after a template name that has become a component
abbrev pub ElementsRead : Around → Option ℕ → (last : Value) → (place : ℕ) → List Component → Written → Type 0
ElementsRead around allowed last place cs args = ReadsAt (inside around) allowed (OfKind ARGUMENT_LIST) (Is last) (place + 1) cs args

-- ## Names with arguments and without

pub record Named (around : Around) (allowed : Option ℕ) (k : ℕ) (t : Term) (place : ℕ) (cs : List Component) (w : Written) : Type 0 where
  pub bare : ReadsAt around allowed (OfKind k) (Is (tree t false)) place cs w
  pub instanced : (items : Term) (last : Value) (args : Written) → no_items last ≡ items
      → ElementsRead around allowed last (place + length w.bytes) (more around w.components t) args
      → ReadsAt around allowed (OfKind k) (Is (tree (instance t items) false)) place cs (written
      (w.bytes ++ in_I_and_E args.bytes) args.components)

pub named-piece : (around : Around) (allowed : Option ℕ) (k : ℕ) (p t : Term) (place : ℕ) (cs : List Component) (w : Written)
    → PieceReads around allowed p place cs w → NameRule k p → extended around.prefix p ≡ t → Named around allowed k t place cs w
unfolding applied is_there tree_of
named-piece around allowed k p t place cs w one rule is = record {
  bare = subst (λ x. ReadsAt around allowed (OfKind k) (Is (tree x false)) place cs w) is
      (same-written (append-nil w.bytes)
      (one.names k rule nothing_there (written [] w.components)
      (no-arguments (after (extended around.prefix p) false around) allowed (place + length w.bytes) w.components)));
  instanced = λ items last args are two.
      subst (λ x. ReadsAt around allowed (OfKind k) (Is (tree (instance x items) false)) place cs
      (written (w.bytes ++ in_I_and_E args.bytes) args.components)) is
      (one.names k rule (tree items true) (written (in_I_and_E args.bytes) args.components)
      (arguments-read false around allowed MAYBE_ARGUMENTS (extended around.prefix p) items last (place + length w.bytes) w.components args takes-maybe-arguments are
      (subst (λ x. ElementsRead around allowed last (place + length w.bytes) (more around w.components x) args) (sym is) two)));
}

-- a piece after St, as an encoding's own name
pub named-std : (around : Around) (allowed : Option ℕ) (p : Term) (place : ℕ) (cs : List Component) (w : Written)
    → ReadsAt around allowed (OfKind UNQUALIFIED) (Is (piece p)) (place + 2) cs w
    → Named around allowed COMPLETE_NAME (in_std p) place cs (written (83 ∷ 116 ∷ w.bytes) w.components)
unfolding applied is_there tree_of
named-std around allowed p place cs w one =
    let first : ReadsAt around allowed (OfKind UNQUALIFIED) (Is (piece p)) (place + 1 + 1) cs w = elsewhere (omega arith) one in
    record {
      bare = same-written (ap (λ l. 83 ∷ 116 ∷ l) (append-nil w.bytes))
          (std-name around allowed p nothing_there place cs w (written [] w.components) first
          (no-arguments (after (in_std p) false around) allowed (place + 1 + 1 + length w.bytes) w.components));
      instanced = λ items last args are two.
          std-name around allowed p (tree items true) place cs w (written (in_I_and_E args.bytes) args.components) first
          (arguments-read false around allowed MAYBE_ARGUMENTS (in_std p) items last (place + 1 + 1 + length w.bytes) w.components args takes-maybe-arguments are
          (elsewhere (omega arith) two));
    }

-- a piece after St as a type
pub named-std-type : (k : ℕ) (around : Around) (allowed : Option ℕ) (p : Term) (place : ℕ) (cs : List Component) (w : Written)
    → TakesRule abi k (rule_of Production.TypeWithS) (83 ∷ [])
    → ReadsAt around allowed (OfKind SOURCE_OR_LOCAL) (Is (piece p)) (place + 2) cs w
    → Named around allowed k (in_std p) place cs (written (83 ∷ 116 ∷ w.bytes) w.components)
named-std-type k around allowed p place cs w takes one =
    let first : ReadsAt around allowed (OfKind TYPE_AFTER_S) (Is (tree (in_std p) false)) (place + 1) cs (written (116 ∷ w.bytes) w.components) =
    std-type around allowed p (place + 1) cs w
    (elsewhere (omega arith) one) in
    record {
      bare = solid-with-s k around allowed place (in_std p) false cs (written (116 ∷ w.bytes) w.components) takes first;
      instanced = λ items last args are two.
          type-with-arguments k around allowed (in_std p) items false place cs (written (116 ∷ w.bytes) w.components)
          (written (in_I_and_E args.bytes) args.components) takes first
          (arguments-read false around allowed MAYBE_ARGUMENTS (in_std p) items last (place + 1 + length (116 ∷ w.bytes)) w.components args takes-maybe-arguments are
          (elsewhere (omega arith) two));
    }

-- ## Between N and E

-- a name so far and its arguments; the name becomes a component before them
abbrev pub SoFarWith : Around → Option ℕ → (t : Term) → (place : ℕ) → List Component → Written → Type 0
SoFarWith around allowed t place cs w =
    (items : Term) (last : Value) (args : Written) → no_items last ≡ items
    → ElementsRead around allowed last (place + length w.bytes) (more around w.components t) args
    → SoFar around allowed (instance t items) false 18 place cs (written (w.bytes ++ in_I_and_E args.bytes) args.components)

pub record Nested (around : Around) (allowed : Option ℕ) (t : Term) (place : ℕ) (cs : List Component) (w : Written) : Type 0 where
  pub bare : SoFar around allowed t false 18 place cs w
  pub instanced : SoFarWith around allowed t place cs w

-- a piece after St
pub nested-std : (around : Around) (allowed : Option ℕ) (p : Term) (place : ℕ) (cs : List Component) (w : Written)
    → ReadsAt around allowed (OfKind UNQUALIFIED) (Is (piece p)) (place + 2) cs w
    → Nested around allowed (in_std p) place cs (written (83 ∷ 116 ∷ w.bytes) w.components)
unfolding applied is_there tree_of
nested-std around allowed p place cs w one =
    let first : ReadsAt around allowed (OfKind UNQUALIFIED) (Is (piece p)) (place + 1 + 1) cs w = elsewhere (omega arith) one in
    record {
      bare = subst (λ l. SoFar around allowed (in_std p) false 18 place cs (written (83 ∷ 116 ∷ l) w.components)) (append-nil w.bytes)
          (nest-std around allowed p nothing_there place cs w (written [] w.components) first
          (no-arguments (after (in_std p) false around) allowed (place + 1 + 1 + length w.bytes) w.components));
      instanced = λ items last args are two.
          nest-std around allowed p (tree items true) place cs w (written (in_I_and_E args.bytes) args.components) first
          (arguments-read false around allowed MAYBE_ARGUMENTS (in_std p) items last (place + 1 + 1 + length w.bytes) w.components args takes-maybe-arguments are
          (elsewhere (omega arith) two));
    }

-- a piece after a prefix
pub nested-within : (around : Around) (allowed : Option ℕ) (x p : Term) (place : ℕ) (cs : List Component) (w one : Written)
    → Extends around allowed x place cs w
    → ((listed : Bool) → Named (after x listed around) allowed 19 (within x p) (place + length w.bytes) w.components one)
    → Nested around allowed (within x p) place cs (written (w.bytes ++ one.bytes) one.components)
unfolding after inside
nested-within around allowed x p place cs w one prefix name = record {
  bare = so-far-within around allowed x (within x p) place cs w one prefix (λ listed. (name listed).bare);
  instanced = λ items last args are two.
      subst (λ l. SoFar around allowed (instance (within x p) items) false 18 place cs (written l args.components))
      (sym (append_assoc w.bytes one.bytes (in_I_and_E args.bytes)))
      (so-far-within around allowed x (instance (within x p) items) place cs w (written (one.bytes ++ in_I_and_E args.bytes) args.components)
      prefix
      (λ listed. (name listed).instanced items last args are
      (elsewhere (omega (arith, length-append w.bytes one.bytes)) two)));
}

-- a whole name between N and E
pub whole-nested : (k : ℕ) (around : Around) (allowed : Option ℕ) (t : Term) (place : ℕ) (cs : List Component) (w : Written)
    → TakesRule abi k (rule_of Production.NestedType) (78 ∷ []) → SoFar around allowed t false 18 (place + 1) cs w
    → ReadsAt around allowed (OfKind k) (Is (tree t false)) place cs (written (78 ∷ (w.bytes ++ (69 ∷ []))) w.components)
whole-nested k around allowed t place cs w takes so_far =
    nested-type k around allowed t false place cs (written (w.bytes ++ (69 ∷ [])) w.components) takes
    (nest-whole around allowed t (place + 1) cs w so_far)

-- ## Prefixes

-- one more piece may follow the first part of a name, or a piece after it
next-17 : TakesRule abi 17 (rule_of Production.NestNext) []
unfolding grammar
next-17 = takes-none NEST_REST Kind.NestRest Production.NestNext 48 refl refl (omega arith) refl

next-18 : TakesRule abi 18 (rule_of Production.NestNext) []
unfolding grammar
next-18 = takes-none NEST_TAIL Kind.NestTail Production.NestNext 48 refl refl (omega arith) refl

-- an abbreviation or a reference as a prefix
extends-behind-s : (around : Around) (allowed : Option ℕ) (t : Term) (place : ℕ) (cs : List Component) (first : Written)
    → ReadsAt around allowed (OfKind ABBREVIATION) (Is (tree t true)) (place + 1 + 0) cs first
    → Extends around allowed t place cs (written (83 ∷ first.bytes) first.components)
extends-behind-s around allowed t place cs first one =
    extends true NEST_REST around allowed t place cs (written (83 ∷ first.bytes) first.components) next-17
    (nest-behind-s around allowed t place cs first one)

-- a prefix with arguments, which become part of it
abbrev pub ExtendsWith : Around → Option ℕ → (t : Term) → (place : ℕ) → List Component → Written → Type 0
ExtendsWith around allowed t place cs w =
    (items : Term) (last : Value) (args : Written) → no_items last ≡ items
    → ElementsRead around allowed last (place + length w.bytes) w.components args
    → Extends around allowed (instance t items) place cs
    (written (w.bytes ++ in_I_and_E args.bytes) (more around args.components (instance t items)))

-- an abbreviation or a reference after an S as a prefix, with arguments
pub extends-with-behind-s : (around : Around) (allowed : Option ℕ) (t : Term) (place : ℕ) (cs : List Component) (w : Written)
    → ReadsAt around allowed (OfKind ABBREVIATION) (Is (tree t true)) (place + 1) cs w
    → ExtendsWith around allowed t place cs (written (83 ∷ w.bytes) w.components)
extends-with-behind-s around allowed t place cs w one items last args are two =
    nest-arguments around allowed t items true last place cs (written (83 ∷ w.bytes) w.components) args are
    (nest-behind-s around allowed t place cs w
    (elsewhere (omega arith) one)) two

pub prefix-behind-s : (around : Around) (allowed : Option ℕ) (t : Term) (place : ℕ) (cs : List Component) (w : Written)
    → ReadsAt around allowed (OfKind ABBREVIATION) (Is (tree t true)) (place + 1) cs w
    → Extends around allowed t place cs (written (83 ∷ w.bytes) w.components)
prefix-behind-s around allowed t place cs w one =
    extends-behind-s around allowed t place cs w (elsewhere (omega arith) one)

-- a parameter as a prefix
pub prefix-parameter : (around : Around) (allowed : Option ℕ) (k place : ℕ) (cs : List Component) → IsInScope around allowed k
    → Extends around allowed (parameter k) place cs (written (84 ∷ ordinal k) (more around cs (parameter k)))
prefix-parameter around allowed k place cs scoped =
    extends true NEST_REST around allowed (parameter k) place cs (written (84 ∷ ordinal k) (more around cs (parameter k))) next-17
    (nest-parameter around allowed k place cs scoped)

pub prefix-with-parameter : (around : Around) (allowed : Option ℕ) (k place : ℕ) (cs : List Component) → IsInScope around allowed k
    → ExtendsWith around allowed (parameter k) place cs (written (84 ∷ ordinal k) (more around cs (parameter k)))
prefix-with-parameter around allowed k place cs scoped items last args are two =
    nest-arguments around allowed (parameter k) items true last place cs (written (84 ∷ ordinal k) (more around cs (parameter k))) args are
    (nest-parameter around allowed k place cs scoped) two

-- a first piece, which becomes a component
pub prefix-piece : (around : Around) (allowed : Option ℕ) (p t : Term) (place : ℕ) (cs : List Component) (w : Written)
    → SoFar around allowed (extended around.prefix p) false 17 place cs w → extended around.prefix p ≡ t
    → Extends around allowed t place cs (written w.bytes (more around w.components t))
prefix-piece around allowed p t place cs w so_far is =
    subst (λ x. Extends around allowed x place cs (written w.bytes (more around w.components x))) is
    (extends false NEST_REST around allowed (extended around.prefix p) place cs w next-17 so_far)

pub prefix-with-piece : (around : Around) (allowed : Option ℕ) (p t : Term) (place : ℕ) (cs : List Component) (w : Written)
    → SoFar around allowed (extended around.prefix p) false 17 place cs w → extended around.prefix p ≡ t
    → ExtendsWith around allowed t place cs (written w.bytes (more around w.components t))
prefix-with-piece around allowed p t place cs w so_far is =
    subst (λ x. ExtendsWith around allowed x place cs (written w.bytes (more around w.components x))) is
    (λ items last args are two. nest-arguments around allowed (extended around.prefix p) items false last place cs w args are so_far two)

-- what is between N and E becomes a component
pub prefix-nested : (around : Around) (allowed : Option ℕ) (t : Term) (place : ℕ) (cs : List Component) (w : Written)
    → SoFar around allowed t false 18 place cs w → Extends around allowed t place cs (written w.bytes (more around w.components t))
prefix-nested around allowed t place cs w so_far = extends false NEST_TAIL around allowed t place cs w next-18 so_far

pub prefix-with-nested : (around : Around) (allowed : Option ℕ) (t : Term) (place : ℕ) (cs : List Component) (w : Written)
    → SoFarWith around allowed t place cs w → ExtendsWith around allowed t place cs (written w.bytes (more around w.components t))
prefix-with-nested around allowed t place cs w so_far items last args are two =
    extends false NEST_TAIL around allowed (instance t items) place cs (written (w.bytes ++ in_I_and_E args.bytes) args.components) next-18
    (so_far items last args are two)
