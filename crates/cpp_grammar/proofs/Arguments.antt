-- A type can also be an argument or the first type of a lambda. The tree that its bytes have as such denotes the same.
use Rattle.cpp_grammar.proofs.Basics.{◌≡◌, ℕ, ◌+◌, ◌-◌, List, [], ◌∷◌, ◌++◌, length, slice_get, Bool, true, false, cond, ◌||◌, ◌&&◌, nat_eq, Option, Some, None, Result, Ok, Err, refl, ap, sym, ◌∙◌, subst, lit≤, arith, append-nil, true≢false, eqb-true, and_parts, Refusal, Token, Rule, Kind as OfKind, Table, symbols_of, Tree, Forest, branch, empty, token, fixed, nothing, grown, spell, TakesRule, IsTree, AreTrees, Found, Next, ◌>>=◌, alone, found, standing, unfold_tree, unfold_forest, Production, ITEM, SOLID, SOLID_BUT_T, ARGUMENT, ARGUMENT_AFTER_T, FIRST_OF_LAMBDA, FIRST_AFTER_T, LEVELED_PARAMETER, Alternative, in_ranges, among, is_in, pick, alternatives, kinds, productions, number_of, number_of_kind, parts_of, is_chain, may_be_empty, wide_alternatives, rule_of, rule_taken, padded, sheet, abi, wide_sheet, wide, sheet_with, State, Around, Value, nothing_there, text, part, parameter_named, parameter_so_far, index_of, between, listed_so_far, meaning, opening, close, production_at, byte_of, cpp}
use Rattle.cpp_grammar.specs.declared.kind.Kind.{Kind}
use Rattle.cpp_grammar.specs.Unfolding as unfolding_
use Rattle.cpp_grammar.proofs.Choosing.{sheet_at}
use Rattle.cpp_grammar.proofs.Growing.{same_choice, each_below, below, same_production, kept, table_with, rule_with}

-- ## A tree has one value

abbrev pub Read : Type 0
Read = Found (List Value) State

pub data One : Result Read Refusal → Type 0 where
  refused : (e : Refusal) → One (Err e)
  one : (v : Value) (s : State) → One (Ok (found (v ∷ []) s))

one_alone : (m : Result (Found Value State) Refusal) → One (m >>= alone)
one_alone (Ok x) = one x.value x.state
one_alone (Err e) = refused e

one_bind : {A : Type 0} (m : Result A Refusal) (f : A → Result Read Refusal) → ((x : A) → One (f x)) → One (m >>= f)
one_bind (Ok x) f each = each x
one_bind (Err e) f each = refused e

pub tree_one : (t : Tree) (around : Around) (place : ℕ) (state : State) → One (unfold_tree cpp around place t state)
unfolding cpp
tree_one (branch rule taken parts) around place state =
    let whole = standing rule taken place around state in
    let p = production_at rule.number in
    one_bind (opening p parts place state) (λ begun. unfold_forest cpp whole [] (place + length taken) parts begun >>= λ inner. close p (byte_of taken) around place state inner.value inner.state >>= alone)
    (λ begun. one_bind (unfold_forest cpp whole [] (place + length taken) parts begun) (λ inner. close p (byte_of taken) around place state inner.value inner.state >>= alone)
    (λ inner. one_alone (close p (byte_of taken) around place state inner.value inner.state)))
tree_one empty around place state = one nothing_there state
tree_one (token t) around place state = one (text t.own) state
tree_one (fixed byte) around place state = one nothing_there state

-- if a part is refused or has one value, two continuations of the part agree if they agree on each single value
pub first_same : (m : Result Read Refusal) → One m → (f h g k : Read → Result Read Refusal) → ((v : Value) (s : State) → (f (found (v ∷ []) s) >>= g) ≡ (h (found (v ∷ []) s) >>= k)) → ((m >>= f) >>= g) ≡ ((m >>= h) >>= k)
first_same _ (refused e) f h g k same = refl
first_same _ (one v s) f h g k same = same v s

-- likewise for a part of a part
second_same : (m : Result Read Refusal) → One m → (f g h k l n : Read → Result Read Refusal)
    → ((v : Value) (s : State) → (((f (found (v ∷ []) s) >>= g) >>= h) >>= k) ≡ (l (found (v ∷ []) s) >>= n)) → ((((m >>= f) >>= g) >>= h) >>= k) ≡ ((m >>= l) >>= n)
second_same _ (refused e) f g h k l n same = refl
second_same _ (one v s) f g h k l n same = same v s

-- two continuations of one part agree on the part if they agree on each of its values
then_same : {A : Type 0} (m : Result A Refusal) (f : A → Result Read Refusal) (a b c d e g : Read → Result Read Refusal)
    → ((r : Read) → ((a r >>= b) >>= c) ≡ ((d r >>= e) >>= g)) → ((((m >>= f) >>= a) >>= b) >>= c) ≡ ((((m >>= f) >>= d) >>= e) >>= g)
then_same (Err x) f a b c d e g same = refl
then_same (Ok n) f a b c d e g same = go (f n)
  where
    go : (r : Result Read Refusal) → (((r >>= a) >>= b) >>= c) ≡ (((r >>= d) >>= e) >>= g)
    go (Err x) = refl
    go (Ok r) = same r

-- ## What it denotes

-- a parameter as a type, and as an argument
abbrev as_type : (digits : Token) (arguments : Tree) → Tree
as_type digits arguments = branch (rule_of Production.PlainType) [] (grown (branch (rule_of Production.Parameter) (84 ∷ []) (grown (token digits) (grown arguments nothing))) nothing)

abbrev with_t : Forest → Tree
with_t parts = branch (rule_of Production.ArgumentWithT) (84 ∷ []) (grown (branch (rule_of Production.ParameterArgument) [] parts) nothing)

-- a parameter is named at the place of its `T`, whether it is read as a type or as an argument
named_same : (digits : Token) (arguments : Tree) (around : Around) (place : ℕ) (state : State) →
    unfold_tree cpp around place (with_t (grown (token digits) (grown arguments nothing))) state ≡ unfold_tree cpp around place (as_type digits arguments) state
unfolding cpp opening production_at productions rule_of number_of between close unfolding_.behind meaning part byte_of parameter_named parameter_so_far listed_so_far index_of
named_same digits arguments around place state =
    let at = place + 1 in
    let new = standing (rule_of Production.ArgumentWithT) (84 ∷ []) place around state in
    let new_inner = standing (rule_of Production.ParameterArgument) [] at around state in
    let old = standing (rule_of Production.PlainType) [] place around state in
    let old_inner = standing (rule_of Production.Parameter) (84 ∷ []) (place + 0) around state in
    let new_end : Read → Result Read Refusal = λ i. close Production.ArgumentWithT (byte_of (84 ∷ [])) around place state i.value i.state >>= alone in
    let new_inner_end : Read → Result Read Refusal = λ i. close Production.ParameterArgument (byte_of []) around at state i.value i.state >>= alone in
    let old_end : Read → Result Read Refusal = λ i. close Production.PlainType (byte_of []) around place state i.value i.state >>= alone in
    let old_inner_end : Read → Result Read Refusal = λ i. close Production.Parameter (byte_of (84 ∷ [])) around (place + 0) state i.value i.state >>= alone in
    let inner_new : Tree = branch (rule_of Production.ParameterArgument) [] (grown (token digits) (grown arguments nothing)) in
    let inner_old : Tree = branch (rule_of Production.Parameter) (84 ∷ []) (grown (token digits) (grown arguments nothing)) in
    let onward_new : Read → Result Read Refusal = λ p. unfold_forest cpp new ([] ++ p.value) (at + length (spell inner_new)) nothing p.state in
    let onward_old : Read → Result Read Refusal = λ p. unfold_forest cpp old ([] ++ p.value) (place + 0 + length (spell inner_old)) nothing p.state in
    let k = index_of (text digits.own) in
    let first : ℕ → Next Value State Around → Result Read Refusal = λ n next.
    unfold_tree cpp next.context n arguments next.state >>= λ p. unfold_forest cpp old_inner (next.values ++ p.value) (n + length (spell arguments)) nothing p.state in
    let named : at - 1 ≡ place + 0 = omega arith in
    let there : at + 0 + length (spell (token digits)) ≡ place + 0 + 1 + length (spell (token digits)) = omega arith in
    subst (λ n. unfold_tree cpp around place (with_t (grown (token digits) (grown arguments nothing))) state
    ≡ ((((parameter_so_far around n k [] state >>= first (place + 0 + 1 + length (spell (token digits)))) >>= old_inner_end) >>= onward_old) >>= old_end)) named
    (subst (λ n. unfold_tree cpp around place (with_t (grown (token digits) (grown arguments nothing))) state
    ≡ ((((parameter_so_far around (at - 1) k [] state >>= first n) >>= old_inner_end) >>= onward_old) >>= old_end)) there
    (then_same (parameter_so_far around (at - 1) k [] state) (first (at + 0 + length (spell (token digits)))) new_inner_end onward_new new_end old_inner_end onward_old old_end (λ r. refl)))

abbrev as_first : Tree → Tree
as_first t = branch (rule_of Production.FirstWithT) (84 ∷ []) (grown (branch (rule_of Production.FirstParameter) [] (grown t nothing)) nothing)

-- a parameter as the first type of a lambda denotes what it denotes as an argument
first_same_as : (t : Tree) (around : Around) (place : ℕ) (state : State) →
    unfold_tree cpp around place (as_first t) state ≡ unfold_tree cpp around place (branch (rule_of Production.ArgumentWithT) (84 ∷ []) (grown t nothing)) state
unfolding cpp opening production_at productions rule_of number_of between close unfolding_.behind meaning part byte_of
first_same_as t around place state =
    let at = place + 1 in
    let outer = standing (rule_of Production.FirstWithT) (84 ∷ []) place around state in
    let inner = standing (rule_of Production.FirstParameter) [] at around state in
    let argument = standing (rule_of Production.ArgumentWithT) (84 ∷ []) place around state in
    let same : at + 0 ≡ at = omega arith in
    subst (λ n. unfold_tree cpp around place (as_first t) state
    ≡ ((unfold_tree cpp around n t state >>= λ p. unfold_forest cpp argument ([] ++ p.value) (at + length (spell t)) nothing p.state)
    >>= λ i. close Production.ArgumentWithT (byte_of (84 ∷ [])) around place state i.value i.state >>= alone)) same
    (second_same (unfold_tree cpp around (at + 0) t state) (tree_one t around (at + 0) state)
    (λ p. unfold_forest cpp inner ([] ++ p.value) (at + 0 + length (spell t)) nothing p.state)
    (λ i. close Production.FirstParameter (byte_of []) around at state i.value i.state >>= alone)
    (λ p. unfold_forest cpp outer ([] ++ p.value) (at + length (spell (branch (rule_of Production.FirstParameter) [] (grown t nothing)))) nothing p.state)
    (λ i. close Production.FirstWithT (byte_of (84 ∷ [])) around place state i.value i.state >>= alone)
    (λ p. unfold_forest cpp argument ([] ++ p.value) (at + length (spell t)) nothing p.state)
    (λ i. close Production.ArgumentWithT (byte_of (84 ∷ [])) around place state i.value i.state >>= alone) (λ v s. refl))

-- any other type with code of its own denotes the same as an argument and as a type
plain_same : (t : Tree) (around : Around) (place : ℕ) (state : State) →
    unfold_tree cpp around place (branch (rule_of Production.PlainArgument) [] (grown t nothing)) state ≡ unfold_tree cpp around place (branch (rule_of Production.PlainType) [] (grown t nothing)) state
unfolding cpp opening production_at productions rule_of number_of between close unfolding_.behind meaning part byte_of
plain_same t around place state =
    let at = place + 0 in
    first_same (unfold_tree cpp around at t state) (tree_one t around at state)
    (λ p. unfold_forest cpp (standing (rule_of Production.PlainArgument) [] place around state) ([] ++ p.value) (at + length (spell t)) nothing p.state)
    (λ p. unfold_forest cpp (standing (rule_of Production.PlainType) [] place around state) ([] ++ p.value) (at + length (spell t)) nothing p.state)
    (λ i. close Production.PlainArgument (byte_of []) around place state i.value i.state >>= alone)
    (λ i. close Production.PlainType (byte_of []) around place state i.value i.state >>= alone) (λ v s. refl)

-- ## What is chosen

-- an argument or a first type begins as a type does, except for a type with code of its own
unfoldable pub item_stays : (chosen argument : Option Production) → Bool
item_stays None argument = true
item_stays (Some p) argument = nat_eq (number_of p) (number_of Production.PlainType) || same_choice (Some p) argument

-- a type with code of its own begins as it does elsewhere; but a parameter continues after its T with a production of its own
unfoldable pub solid_stays : (behind_t : Production) → (byte : ℕ) → (chosen other argument : Option Production) → Bool
solid_stays behind_t byte None other argument = true
solid_stays behind_t byte (Some p) other argument = elim (nat_eq (number_of p) (number_of Production.Parameter)) [
  | true ↦ nat_eq byte 84 && same_choice (Some behind_t) argument
  | false ↦ same_choice (Some p) other && same_choice (Some Production.PlainArgument) argument
]

-- `item_stays` and `solid_stays` hold in this table, where this kind is an argument or a first type
pub record Begins (begins : Kind → List Alternative) (kind : Kind) (behind_t : Production) : Type 0 where
  pub items : each_below 256 (λ b. item_stays (pick (begins Kind.Item) b) (pick (begins kind) b)) ≡ true
  pub solids : each_below 256 (λ b. solid_stays behind_t b (pick (begins Kind.Solid) b) (pick (begins Kind.SolidButT) b) (pick (begins kind) b)) ≡ true

pub abi_begins : Begins alternatives Kind.Argument Production.ArgumentWithT
unfolding in_ranges among is_in pick number_of alternatives same_choice each_below item_stays solid_stays
abi_begins = record { items = refl; solids = refl }

wide_begins : Begins wide_alternatives Kind.Argument Production.ArgumentWithT
unfolding in_ranges among is_in pick number_of wide_alternatives same_choice each_below item_stays solid_stays
wide_begins = record { items = refl; solids = refl }

abi_first_begins : Begins alternatives Kind.FirstOfLambda Production.FirstWithT
unfolding in_ranges among is_in pick number_of alternatives same_choice each_below item_stays solid_stays
abi_first_begins = record { items = refl; solids = refl }

wide_first_begins : Begins wide_alternatives Kind.FirstOfLambda Production.FirstWithT
unfolding in_ranges among is_in pick number_of wide_alternatives same_choice each_below item_stays solid_stays
wide_first_begins = record { items = refl; solids = refl }

-- ## Its tree

-- a tree of another kind, in place of a tree of this kind
pub record Replaces (g : Table) (kind : ℕ) (t : Tree) : Type 0 where
  pub tree : Tree
  pub is : IsTree g (OfKind kind) tree
  pub spells : spell tree ≡ spell t
  pub says : (around : Around) (place : ℕ) (state : State) → unfold_tree cpp around place tree state ≡ unfold_tree cpp around place t state

pub takes_its : (rule own : Rule) (taken : List ℕ) (byte : ℕ) (eats : Bool) → rule ≡ own → own.eats ≡ eats → taken ≡ cond rule.eats (byte ∷ []) [] → taken ≡ cond eats (byte ∷ []) []
takes_its rule own taken byte eats is same takes = takes ∙ ap (λ r. cond r.eats (byte ∷ []) []) is ∙ ap (λ e. cond e (byte ∷ []) []) same

module _ (begins : Kind → List Alternative) where
  -- the production that is taken at a byte
  pub record Picked (kind : Kind) (byte : ℕ) (rule : Rule) : Type 0 where
    pub production : Production
    pub picked : pick (begins kind) byte ≡ Some production
    pub is : rule ≡ rule_of production

  pub picked_at : (k : ℕ) (kind : Kind) (byte : ℕ) (rule : Rule) → slice_get kinds k ≡ Some kind → (table_with begins).rule k byte ≡ Some rule → Picked kind byte rule
  unfolding rule_taken
  picked_at k kind byte rule at chosen = go (pick (begins kind) byte) refl (sym (rule_with begins k kind byte at) ∙ chosen)
    where
      go : (o : Option Production) → pick (begins kind) byte ≡ o → rule_taken o ≡ Some rule → Picked kind byte rule
      go None is taken = cc
      go (Some p) is taken = let same : rule_of p ≡ rule = cc in record { production = p; picked = is; is = sym same }

  pub same_at : (k : ℕ) (kind : Kind) (byte : ℕ) (p : Production) → slice_get kinds k ≡ Some kind → same_choice (Some p) (pick (begins kind) byte) ≡ true → (table_with begins).rule k byte ≡ Some (rule_of p)
  unfolding rule_taken
  same_at k kind byte p at h = rule_with begins k kind byte at ∙ ap rule_taken (kept (Some p) (pick (begins kind) byte) p h refl)

  pub none_empty : (k : ℕ) (kind : Kind) → slice_get kinds k ≡ Some kind → may_be_empty kind ≡ false → (table_with begins).may_be_empty k ≡ true → ⊥
  unfolding sheet_with
  none_empty k kind at full is = true≢false (sym is ∙ ap (λ s. s.may_be_empty) (sheet_at begins k kind at) ∙ full)

  -- a kind takes a production that takes no byte
  chained : (k : ℕ) (kind : Kind) (p : Production) → slice_get kinds k ≡ Some kind → pick (begins kind) 95 ≡ Some p → (rule_of p).eats ≡ false
      → TakesRule (table_with begins) k (rule_of p) []
  unfolding rule_taken
  chained k kind p at picked eats = record { byte = 95; is_byte = lit≤ tt; found = rule_with begins k kind 95 at ∙ ap rule_taken picked; takes = ap (λ e. cond e (95 ∷ []) []) (sym eats) }

  -- a parameter of this kind, in place of a type that is a parameter
  abbrev pub AsParameter : (kind : ℕ) → (behind_t : Production) → Type 0
  AsParameter kind behind_t = (parts : Forest) → AreTrees (table_with begins) (symbols_of (rule_of Production.Parameter)) parts
      → TakesRule (table_with begins) kind (rule_of behind_t) (84 ∷ [])
      → Replaces (table_with begins) kind (branch (rule_of Production.PlainType) [] (grown (branch (rule_of Production.Parameter) (84 ∷ []) parts) nothing))

  parameter_argument : pick (begins Kind.ArgumentAfterT) 95 ≡ Some Production.ParameterArgument → AsParameter ARGUMENT Production.ArgumentWithT
  unfolding rule_of parts_of padded number_of_kind is_chain kinds
  parameter_argument picked (grown (token digits) (grown arguments nothing)) trees takes = record {
    tree = with_t (grown (token digits) (grown arguments nothing));
    is = (takes, ((chained ARGUMENT_AFTER_T Kind.ArgumentAfterT Production.ParameterArgument refl picked refl, trees), tt));
    spells = refl;
    says = named_same digits arguments;
  }
  parameter_argument picked nothing trees takes = absurd trees
  parameter_argument picked (grown (branch r t f) g) trees takes = absurd trees.0
  parameter_argument picked (grown empty g) trees takes = absurd trees.0
  parameter_argument picked (grown (fixed b) g) trees takes = absurd trees.0
  parameter_argument picked (grown (token digits) nothing) trees takes = absurd trees.1
  parameter_argument picked (grown (token digits) (grown arguments (grown u f))) trees takes = absurd trees.1.1

  parameter_first : pick (begins Kind.FirstAfterT) 95 ≡ Some Production.FirstParameter → pick (begins Kind.LeveledParameter) 95 ≡ Some Production.ParameterArgument
      → AsParameter FIRST_OF_LAMBDA Production.FirstWithT
  unfolding rule_of parts_of padded number_of_kind is_chain kinds
  parameter_first first picked (grown (token digits) (grown arguments nothing)) trees takes =
      let t : Tree = branch (rule_of Production.ParameterArgument) [] (grown (token digits) (grown arguments nothing)) in
      record {
        tree = as_first t;
        is = (
          takes,
          (
            (
              chained FIRST_AFTER_T Kind.FirstAfterT Production.FirstParameter refl first refl,
              ((chained LEVELED_PARAMETER Kind.LeveledParameter Production.ParameterArgument refl picked refl, trees), tt),
            ),
            tt,
          ),
        );
        spells = ap (λ l. 84 ∷ l) (append-nil (spell t ++ []));
        says = λ around place state. first_same_as t around place state ∙ named_same digits arguments around place state;
      }
  parameter_first first picked nothing trees takes = absurd trees
  parameter_first first picked (grown (branch r t f) g) trees takes = absurd trees.0
  parameter_first first picked (grown empty g) trees takes = absurd trees.0
  parameter_first first picked (grown (fixed b) g) trees takes = absurd trees.0
  parameter_first first picked (grown (token digits) nothing) trees takes = absurd trees.1
  parameter_first first picked (grown (token digits) (grown arguments (grown u f))) trees takes = absurd trees.1.1

  module _ (kind : Kind) (behind_t : Production) (at_kind : slice_get kinds (number_of_kind kind) ≡ Some kind) (eats : (rule_of behind_t).eats ≡ true)
      (fit : Begins begins kind behind_t) (as_parameter : AsParameter (number_of_kind kind) behind_t) where
    -- a type with code of its own
    solid_argument : (t : Tree) → IsTree (table_with begins) (OfKind SOLID) t → Replaces (table_with begins) (number_of_kind kind) (branch (rule_of Production.PlainType) [] (grown t nothing))
    unfolding rule_of parts_of padded is_chain number_of_kind kinds may_be_empty solid_stays
    solid_argument (branch rule taken parts) is =
        let byte = is.0.byte in
        let p = picked_at SOLID Kind.Solid byte rule refl is.0.found in
        go p.production p.is (nat_eq (number_of p.production) (number_of Production.Parameter)) refl
        (subst (λ o. solid_stays behind_t byte o (pick (begins Kind.SolidButT) byte) (pick (begins kind) byte) ≡ true) p.picked
        (below 256 (λ b. solid_stays behind_t b (pick (begins Kind.Solid) b) (pick (begins Kind.SolidButT) b) (pick (begins kind) b)) byte fit.solids is.0.is_byte))
      where
        go : (p : Production) → rule ≡ rule_of p → (b : Bool) → nat_eq (number_of p) (number_of Production.Parameter) ≡ b
            → elim b as (λ _. Bool) [
              | true ↦ nat_eq is.0.byte 84 && same_choice (Some behind_t) (pick (begins kind) is.0.byte)
              | false ↦ same_choice (Some p) (pick (begins Kind.SolidButT) is.0.byte) && same_choice (Some Production.PlainArgument) (pick (begins kind) is.0.byte)
            ] ≡ true
            → Replaces (table_with begins) (number_of_kind kind) (branch (rule_of Production.PlainType) [] (grown (branch rule taken parts) nothing))
        go p same true e h =
            let both = and_parts (nat_eq is.0.byte 84) (same_choice (Some behind_t) (pick (begins kind) is.0.byte)) h in
            let own : rule ≡ rule_of Production.Parameter = same ∙ ap rule_of (same_production p Production.Parameter e) in
            let at : is.0.byte ≡ 84 = eqb-true is.0.byte 84 both.0 in
            let one : taken ≡ 84 ∷ [] = takes_its rule (rule_of Production.Parameter) taken is.0.byte true own refl is.0.takes ∙ ap (λ b. b ∷ []) at in
            subst (λ r. Replaces (table_with begins) (number_of_kind kind) (branch (rule_of Production.PlainType) [] (grown (branch r taken parts) nothing))) (sym own)
            (subst (λ l. Replaces (table_with begins) (number_of_kind kind) (branch (rule_of Production.PlainType) [] (grown (branch (rule_of Production.Parameter) l parts) nothing))) (sym one)
            (as_parameter parts (subst (λ r. AreTrees (table_with begins) (symbols_of r) parts) own is.1)
            (record { byte = is.0.byte; is_byte = is.0.is_byte; found = same_at (number_of_kind kind) kind is.0.byte behind_t at_kind both.1; takes = ap (λ b. b ∷ []) (sym at) ∙ ap (λ e. cond e (is.0.byte ∷ []) []) (sym eats) })))
        go p same false e h =
            let both = and_parts (same_choice (Some p) (pick (begins Kind.SolidButT) is.0.byte)) (same_choice (Some Production.PlainArgument) (pick (begins kind) is.0.byte)) h in
            record {
              tree = branch (rule_of Production.PlainArgument) [] (grown (branch rule taken parts) nothing);
              is = (
                record { byte = is.0.byte; is_byte = is.0.is_byte; found = same_at (number_of_kind kind) kind is.0.byte Production.PlainArgument at_kind both.1; takes = refl },
                ((record { byte = is.0.byte; is_byte = is.0.is_byte; found = same_at SOLID_BUT_T Kind.SolidButT is.0.byte p refl both.0 ∙ ap Some (sym same); takes = is.0.takes }, is.1), tt),
              );
              spells = refl;
              says = plain_same (branch rule taken parts);
            }
    solid_argument empty is = absurd (none_empty SOLID Kind.Solid refl refl is)
    solid_argument (token t) is = absurd is
    solid_argument (fixed b) is = absurd is

    plain_argument : (parts : Forest) → AreTrees (table_with begins) (symbols_of (rule_of Production.PlainType)) parts → Replaces (table_with begins) (number_of_kind kind) (branch (rule_of Production.PlainType) [] parts)
    unfolding rule_of parts_of padded number_of_kind
    plain_argument (grown t nothing) trees = solid_argument t trees.0
    plain_argument nothing trees = absurd trees
    plain_argument (grown t (grown u f)) trees = absurd trees.1

    item_argument : (t : Tree) → IsTree (table_with begins) (OfKind ITEM) t → Replaces (table_with begins) (number_of_kind kind) t
    unfolding kinds may_be_empty item_stays is_chain rule_of
    item_argument (branch rule taken parts) is =
        let byte = is.0.byte in
        let p = picked_at ITEM Kind.Item byte rule refl is.0.found in
        go p.production p.is (nat_eq (number_of p.production) (number_of Production.PlainType)) refl
        (subst (λ o. item_stays o (pick (begins kind) byte) ≡ true) p.picked
        (below 256 (λ b. item_stays (pick (begins Kind.Item) b) (pick (begins kind) b)) byte fit.items is.0.is_byte))
      where
        go : (p : Production) → rule ≡ rule_of p → (b : Bool) → nat_eq (number_of p) (number_of Production.PlainType) ≡ b
            → b || same_choice (Some p) (pick (begins kind) is.0.byte) ≡ true → Replaces (table_with begins) (number_of_kind kind) (branch rule taken parts)
        go p same true e h =
            let own : rule ≡ rule_of Production.PlainType = same ∙ ap rule_of (same_production p Production.PlainType e) in
            let none : taken ≡ [] = takes_its rule (rule_of Production.PlainType) taken is.0.byte false own refl is.0.takes in
            subst (λ r. Replaces (table_with begins) (number_of_kind kind) (branch r taken parts)) (sym own)
            (subst (λ l. Replaces (table_with begins) (number_of_kind kind) (branch (rule_of Production.PlainType) l parts)) (sym none)
            (plain_argument parts (subst (λ r. AreTrees (table_with begins) (symbols_of r) parts) own is.1)))
        go p same false e h = record {
          tree = branch rule taken parts;
          is = (record { byte = is.0.byte; is_byte = is.0.is_byte; found = same_at (number_of_kind kind) kind is.0.byte p at_kind h ∙ ap Some (sym same); takes = is.0.takes }, is.1);
          spells = refl;
          says = λ around place state. refl;
        }
    item_argument empty is = absurd (none_empty ITEM Kind.Item refl refl is)
    item_argument (token t) is = absurd is
    item_argument (fixed b) is = absurd is

pub abi_argument : (t : Tree) → IsTree abi (OfKind ITEM) t → Replaces abi ARGUMENT t
unfolding abi sheet number_of_kind kinds rule_of is_chain in_ranges among is_in pick alternatives
abi_argument t is = item_argument alternatives Kind.Argument Production.ArgumentWithT refl refl abi_begins (parameter_argument alternatives refl) t is

pub wide_argument : (t : Tree) → IsTree wide (OfKind ITEM) t → Replaces wide ARGUMENT t
unfolding wide wide_sheet number_of_kind kinds rule_of is_chain in_ranges among is_in pick wide_alternatives
wide_argument t is = item_argument wide_alternatives Kind.Argument Production.ArgumentWithT refl refl wide_begins (parameter_argument wide_alternatives refl) t is

pub abi_first : (t : Tree) → IsTree abi (OfKind ITEM) t → Replaces abi FIRST_OF_LAMBDA t
unfolding abi sheet number_of_kind kinds rule_of is_chain in_ranges among is_in pick alternatives
abi_first t is = item_argument alternatives Kind.FirstOfLambda Production.FirstWithT refl refl abi_first_begins (parameter_first alternatives refl refl) t is

pub wide_first : (t : Tree) → IsTree wide (OfKind ITEM) t → Replaces wide FIRST_OF_LAMBDA t
unfolding wide wide_sheet number_of_kind kinds rule_of is_chain in_ranges among is_in pick wide_alternatives
wide_first t is = item_argument wide_alternatives Kind.FirstOfLambda Production.FirstWithT refl refl wide_first_begins (parameter_first wide_alternatives refl refl) t is
