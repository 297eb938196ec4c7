-- What follows a name in a nested name may also follow a substituted name: there, another tree of the same bytes denotes the
-- same.
use Rattle.cpp_grammar.proofs.Basics.{◌≡◌, ℕ, ◌+◌, List, [], ◌∷◌, ◌++◌, length, Bool, true, false, ◌&&◌, nat_eq, Option, Some, None, Result, refl, ap, sym, ◌∙◌, subst, add-zero, append-nil, lit≤, eqb-true, and_parts, Refusal, Kind as OfKind, symbols_of, Tree, Forest, branch, empty, token, fixed, nothing, grown, spell, TakesRule, IsTree, AreTrees, ◌>>=◌, alone, found, standing, unfold_tree, unfold_forest, Production, NEST_REST, NEST_REST_OR_END, NEST_MORE_OR_END, in_ranges, among, is_in, pick, alternatives, kinds, productions, number_of, number_of_kind, parts_of, is_chain, may_be_empty, rule_of, padded, sheet, abi, instance, State, Around, prefix_tree, prefix_listed, Value, nothing_there, tree, tree_of, part, appended, with_prefix, inside, after, no_items, named_so_far, listed_so_far, between, meaning, opening, close, production_at, byte_of, cpp}
use Rattle.cpp_grammar.specs.declared.kind.Kind.{Kind}
use Rattle.cpp_grammar.specs.Unfolding as unfolding_
use Rattle.cpp_grammar.proofs.Growing.{same_choice, each_below, below, same_production}
use Rattle.cpp_grammar.proofs.Arguments.{Read, One, refused, one, tree_one, first_same, takes_its, picked_at, same_at, none_empty}

deep_same : (m : Result Read Refusal) → One m → (a b c d f g : Read → Result Read Refusal) → ((v : Value) (s : State) → (((a (found (v ∷ []) s) >>= b) >>= c) >>= d) ≡ (f (found (v ∷ []) s) >>= g))
    → ((((m >>= a) >>= b) >>= c) >>= d) ≡ ((m >>= f) >>= g)
deep_same _ (refused e) a b c d f g same = refl
deep_same _ (one v s) a b c d f g same = same v s

-- arguments and a further piece after them: the piece is a part of its own
abbrev in_parts : (a : Tree) (byte : ℕ) (c t : Tree) → Tree
in_parts a byte c t = branch (rule_of Production.NestInstance) (73 ∷ []) (grown a (grown (fixed byte) (grown (branch (rule_of Production.NestNext) [] (grown c (grown t nothing))) nothing)))

instance_same : (around : Around) (place : ℕ) (a : Tree) (byte : ℕ) (c t : Tree) (state : State) →
    unfold_tree cpp around place (in_parts a byte c t) state
    ≡ unfold_tree cpp around place (branch (rule_of Production.NestArguments) (73 ∷ []) (grown a (grown (fixed byte) (grown c (grown t nothing))))) state
unfolding cpp opening production_at productions rule_of number_of between with_prefix inside named_so_far listed_so_far after close unfolding_.behind meaning part prefix_tree prefix_listed appended byte_of
instance_same around place a byte c t state =
    let taken : List ℕ = 73 ∷ [] in
    let next = branch (rule_of Production.NestNext) [] (grown c (grown t nothing)) in
    let new = standing (rule_of Production.NestInstance) taken place around state in
    let old = standing (rule_of Production.NestArguments) taken place around state in
    let at = place + length taken + length (spell a) in
    let new_end : Read → Result Read Refusal = λ inner. close Production.NestInstance (byte_of taken) around place state inner.value inner.state >>= alone in
    let old_end : Read → Result Read Refusal = λ inner. close Production.NestArguments (byte_of taken) around place state inner.value inner.state >>= alone in
    first_same (unfold_tree cpp (inside around) (place + length taken) a (with_prefix around state)) (tree_one a (inside around) (place + length taken) (with_prefix around state))
    (λ part. unfold_forest cpp new ([] ++ part.value) at (grown (fixed byte) (grown next nothing)) part.state)
    (λ part. unfold_forest cpp old ([] ++ part.value) at (grown (fixed byte) (grown c (grown t nothing))) part.state)
    new_end old_end
    (λ v s.
    let name = instance (prefix_tree around.prefix) (no_items v) in
    let on = at + length (spell (fixed byte)) in
    let inner = standing (rule_of Production.NestNext) [] on (after name false around) s in
    let inner_end : Read → Result Read Refusal = λ i. close Production.NestNext (byte_of []) (after name false around) on s i.value i.state >>= alone in
    let onward : Read → Result Read Refusal = λ part. unfold_forest cpp new ((tree name false ∷ nothing_there ∷ []) ++ part.value) (on + length (spell next)) nothing part.state in
    let component : ℕ → Result Read Refusal = λ n. unfold_tree cpp (after name false around) n c (appended around name s) in
    let behind : ℕ → Read → Result Read Refusal = λ n part. unfold_forest cpp inner ([] ++ part.value) (n + length (spell c)) (grown t nothing) part.state in
    let plain : Read → Result Read Refusal = λ part. unfold_forest cpp old ((tree name false ∷ nothing_there ∷ []) ++ part.value) (on + length (spell c)) (grown t nothing) part.state in
    subst (λ n. ((((component n >>= behind n) >>= inner_end) >>= onward) >>= new_end) ≡ ((component on >>= plain) >>= old_end)) (sym (add-zero on))
    (deep_same (component on) (tree_one c (after name false around) on (appended around name s)) (behind on) inner_end onward new_end plain old_end
    (λ w s_. deep_same (unfold_tree cpp (after (tree_of w) false around) (on + length (spell c)) t s_) (tree_one t (after (tree_of w) false around) (on + length (spell c)) s_)
    (λ part. unfold_forest cpp inner ((w ∷ []) ++ part.value) (on + length (spell c) + length (spell t)) nothing part.state) inner_end onward new_end
    (λ part. unfold_forest cpp old ((tree name false ∷ nothing_there ∷ w ∷ []) ++ part.value) (on + length (spell c) + length (spell t)) nothing part.state) old_end
    (λ x last. refl))))

-- a tree of what follows a substituted name, in the place of this one
pub record AsRest (t : Tree) : Type 0 where
  pub tree : Tree
  pub is : IsTree abi (OfKind NEST_REST_OR_END) tree
  pub spells : spell tree ≡ spell t
  pub says : (around : Around) (place : ℕ) (state : State) → unfold_tree cpp around place tree state ≡ unfold_tree cpp around place t state

unfoldable rest_stays : (byte : ℕ) → (chosen other more : Option Production) → Bool
rest_stays byte None other more = true
rest_stays byte (Some p) other more = elim (nat_eq (number_of p) (number_of Production.NestNext)) [
  | true ↦ same_choice (Some Production.NestNext) other
  | false ↦ nat_eq (number_of p) (number_of Production.NestArguments) && (nat_eq byte 73 && same_choice (Some Production.NestInstance) other)
]

rests_stay : each_below 256 (λ b. rest_stays b (pick (alternatives Kind.NestRest) b) (pick (alternatives Kind.NestRestOrEnd) b) (pick (alternatives Kind.NestMoreOrEnd) b)) ≡ true
unfolding in_ranges among is_in pick number_of alternatives same_choice each_below rest_stays
rests_stay = refl

more_at : TakesRule abi NEST_MORE_OR_END (rule_of Production.NestNext) []
unfolding rule_of is_chain kinds number_of in_ranges among is_in pick alternatives same_choice abi sheet
more_at = record { byte = 48; is_byte = lit≤ tt; found = same_at alternatives NEST_MORE_OR_END Kind.NestMoreOrEnd 48 Production.NestNext refl refl; takes = refl }

arguments_rest : (parts : Forest) → AreTrees abi (symbols_of (rule_of Production.NestArguments)) parts → TakesRule abi NEST_REST_OR_END (rule_of Production.NestInstance) (73 ∷ [])
    → AsRest (branch (rule_of Production.NestArguments) (73 ∷ []) parts)
unfolding rule_of parts_of padded number_of_kind
arguments_rest (grown a (grown (fixed byte) (grown c (grown t nothing)))) trees takes = record {
  tree = in_parts a byte c t;
  is = (takes, (trees.0, (trees.1.0, ((more_at, trees.1.1), tt))));
  spells = ap (λ l. 73 ∷ (spell a ++ (byte ∷ l))) (append-nil (spell c ++ (spell t ++ [])));
  says = λ around place state. instance_same around place a byte c t state;
}
arguments_rest nothing trees takes = absurd trees
arguments_rest (grown a nothing) trees takes = absurd trees.1
arguments_rest (grown a (grown empty f)) trees takes = absurd trees.1.0
arguments_rest (grown a (grown (token t) f)) trees takes = absurd trees.1.0
arguments_rest (grown a (grown (branch r t i) f)) trees takes = absurd trees.1.0
arguments_rest (grown a (grown (fixed byte) nothing)) trees takes = absurd trees.1.1
arguments_rest (grown a (grown (fixed byte) (grown c nothing))) trees takes = absurd trees.1.1.1
arguments_rest (grown a (grown (fixed byte) (grown c (grown t (grown u f))))) trees takes = absurd trees.1.1.1.1

pub abi_rest : (t : Tree) → IsTree abi (OfKind NEST_REST) t → AsRest t
unfolding abi sheet kinds may_be_empty rest_stays is_chain rule_of
abi_rest (branch rule taken parts) is =
    let byte = is.0.byte in
    let p = picked_at alternatives NEST_REST Kind.NestRest byte rule refl is.0.found in
    go p.production p.is (nat_eq (number_of p.production) (number_of Production.NestNext)) refl
    (subst (λ o. rest_stays byte o (pick (alternatives Kind.NestRestOrEnd) byte) (pick (alternatives Kind.NestMoreOrEnd) byte) ≡ true) p.picked
    (below 256 (λ b. rest_stays b (pick (alternatives Kind.NestRest) b) (pick (alternatives Kind.NestRestOrEnd) b) (pick (alternatives Kind.NestMoreOrEnd) b)) byte rests_stay is.0.is_byte))
  where
    go : (p : Production) → rule ≡ rule_of p → (b : Bool) → nat_eq (number_of p) (number_of Production.NestNext) ≡ b
        → elim b as (λ _. Bool) [
          | true ↦ same_choice (Some Production.NestNext) (pick (alternatives Kind.NestRestOrEnd) is.0.byte)
          | false ↦ nat_eq (number_of p) (number_of Production.NestArguments) && (nat_eq is.0.byte 73 && same_choice (Some Production.NestInstance) (pick (alternatives Kind.NestRestOrEnd) is.0.byte))
        ] ≡ true
        → AsRest (branch rule taken parts)
    go p same true e h =
        let own : rule ≡ rule_of Production.NestNext = same ∙ ap rule_of (same_production p Production.NestNext e) in
        record {
          tree = branch rule taken parts;
          is = (record { byte = is.0.byte; is_byte = is.0.is_byte; found = same_at alternatives NEST_REST_OR_END Kind.NestRestOrEnd is.0.byte Production.NestNext refl h ∙ ap Some (sym own); takes = is.0.takes }, is.1);
          spells = refl;
          says = λ around place state. refl;
        }
    go p same false e h =
        let both = and_parts (nat_eq (number_of p) (number_of Production.NestArguments)) (nat_eq is.0.byte 73 && same_choice (Some Production.NestInstance) (pick (alternatives Kind.NestRestOrEnd) is.0.byte)) h in
        let two = and_parts (nat_eq is.0.byte 73) (same_choice (Some Production.NestInstance) (pick (alternatives Kind.NestRestOrEnd) is.0.byte)) both.1 in
        let own : rule ≡ rule_of Production.NestArguments = same ∙ ap rule_of (same_production p Production.NestArguments both.0) in
        let at : is.0.byte ≡ 73 = eqb-true is.0.byte 73 two.0 in
        let behind_i : taken ≡ 73 ∷ [] = takes_its rule (rule_of Production.NestArguments) taken is.0.byte true own refl is.0.takes ∙ ap (λ b. b ∷ []) at in
        subst (λ r. AsRest (branch r taken parts)) (sym own)
        (subst (λ l. AsRest (branch (rule_of Production.NestArguments) l parts)) (sym behind_i)
        (arguments_rest parts (subst (λ r. AreTrees abi (symbols_of r) parts) own is.1)
        (record { byte = is.0.byte; is_byte = is.0.is_byte; found = same_at alternatives NEST_REST_OR_END Kind.NestRestOrEnd is.0.byte Production.NestInstance refl two.1; takes = ap (λ b. b ∷ []) (sym at) })))
abi_rest empty is = absurd (none_empty alternatives NEST_REST Kind.NestRest refl refl is)
abi_rest (token t) is = absurd is
abi_rest (fixed b) is = absurd is
