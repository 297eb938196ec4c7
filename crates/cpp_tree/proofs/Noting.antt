-- What is noted of a node holds of the node's tree.
use Rattle.cpp_tree.proofs.Basics.{◌≡◌, refl, sym, ap, ◌∙◌, ℕ, zero, suc, ◌+◌, ◌-◌, ◌<◌, ◌≤◌, arith, List, length, Bool, true, false, not, cond, nat_eq, max, ◌||◌, ◌&&◌, Option, None, Some, eqb-true, true≢false, Term, free_in, both, Piece, Node, Table, tree_at, piece_of, tree_of, trees, entry_at, IsPieceBelow, IsBelow, IsAliasBelow, IsPlacedBelow, IsClassBelow, IsPlacedThere, IsTable, tree_if_there, tree_under, class_is, head_of, placed_if_there, untagged_is, head_noted, by_argument_of, free_is, is_again, IsFlat, IsLone, IsSettled, IsNoted, arguments_of, without_tags, before_arguments, pack_length, length_if_pack, is_structor, has_return_type, count, element, is_alone, has_pack, is_open, Head, Placed, HeadClass, HeadFrom, Free, ByArgument, reargued, reargued_if_there, argument_or, given_alone, bare, head_from, class_from, is_empty_with, Entry, reargued_none, reargued_twice, reargued_lone, given_alone_twice, open_reargued, alone_reargued, has_pack_reargued, free_reargued, count_reargued, arguments_reargued, untagged_reargued, structor_reargued, returns_reargued, bare_reargued, length_reargued, head_from_reargued, empty_with_reargued, pack_reargued, class_reargued, empty_reargued, free_at, both_free, piece_frees, frees, by_argument_at, passed, joined, piece_by_argument, collapses_from, of_expansion, of_pack, of_head, node_by_argument, empty_by, place_of, resolved_at, shape_at, placed_under, if_own, packs_by, empties, ends_in, or_itself, untagging, collapses, pack_class, argument_class, class_by, classes, packs_at, argument_packs, piece_packs, packing, is_structor_piece, is_structor_node, is_argument_node, alone_at, having_pack, returning, counting, running, noting}
use Rattle.cpp_grammar.specs.Scope as scope
use Rattle.cpp_term.specs.Term as term
use Rattle.cpp_grammar.specs.Items as heads
use Rattle.cpp_term.specs.Items as items
use Rattle.cpp_term.specs.Reargued as again
use Rattle.cpp_tree.proofs.FreeParameters.{node-open}

one-more : (n : ℕ) → 1 + n ≡ suc n
one-more n = omega arith

more-on : (k n : ℕ) → suc k + n ≡ suc (k + n)
more-on k n = omega arith

and-true : (b : Bool) → b ≡ b && true
and-true true = refl
and-true false = refl

and-false : (b : Bool) → false ≡ b && false
and-false true = refl
and-false false = refl

expansion-by-argument : (l : ByArgument) (t : Term) → l ≡ by_argument_of t → of_expansion l ≡ by_argument_of (term.expansion t)
unfolding by_argument_of bare head_from is_empty_with head_noted
expansion-by-argument l t e = ap of_expansion e ∙ (rw (sym (and-true (bare t)), sym (and-false (bare t))) refl)

collapses-noted : (h : again.HeadFrom) → collapses_from (head_noted h) ≡ head_noted (again.collapsed_from h)
unfolding collapses_from head_noted again.collapsed_from
collapses-noted again.of_its_own = refl
collapses-noted again.of_argument = refl
collapses-noted again.collapsed_of_argument = refl

rvalue-by-argument : (l : ByArgument) (t : Term) → l ≡ by_argument_of t → of_head (collapses_from l.head) l ≡ by_argument_of (term.rvalue t)
unfolding by_argument_of bare head_from is_empty_with
rvalue-by-argument l t e = ap (λ x. of_head (collapses_from x.head) x) e ∙ ap (λ h. of_head h (by_argument_of t)) (collapses-noted (head_from t))

pub by_argument_reargued : (c : Option Term) (t : Term) → by_argument_of (reargued c t) ≡ by_argument_of t
unfolding by_argument_of
by_argument_reargued c t = rw (bare_reargued c t, head_from_reargued c t, empty_with_reargued true c t, empty_with_reargued false c t) refl

-- this tree is neither a name nor a list; each type whose head isn't its own is such a tree
pub record IsPlain (t : Term) : Type 0 where
  pub no_arguments : arguments_of t ≡ None
  pub no_tags : without_tags t ≡ t
  pub returns_none : has_return_type t ≡ false
  pub no_elements : count t ≡ 0
  pub no_pack : has_pack t ≡ false

is-plain : (t : Term) → (head_noted (head_from t) ≡ HeadFrom.Own → ⊥) → IsPlain t
unfolding head_noted head_from arguments_of without_tags has_return_type count has_pack
is-plain (term.parameter k a) other = record { no_arguments = refl; no_tags = refl; returns_none = refl; no_elements = refl; no_pack = refl }
is-plain (term.rvalue t) other = record { no_arguments = refl; no_tags = refl; returns_none = refl; no_elements = refl; no_pack = refl }
is-plain (term.qualified q t) other = record { no_arguments = refl; no_tags = refl; returns_none = refl; no_elements = refl; no_pack = refl }
is-plain _ other = absurd (other refl)

own-noted : (h : again.HeadFrom) → HeadFrom.Own ≡ head_noted h → h ≡ again.of_its_own
unfolding head_noted
own-noted again.of_its_own is = refl
own-noted again.of_argument is = absurd cc
own-noted again.collapsed_of_argument is = absurd cc

-- ## The argument of an alias

lone-class : (a t : Term) → IsLone a t → items.class_of (reargued (Some a) t) ≡ class_from (head_from t) (items.class_of t) (items.class_of (term.parameter 0 a))
unfolding class_from
lone-class a t lone = class_reargued a t ∙ go (head_from t) refl
  where
    alone : (head_from t ≡ again.of_its_own → ⊥) → items.class_of (term.parameter 0 (given_alone a (free_in t))) ≡ items.class_of (term.parameter 0 a)
    alone other = ap (λ x. items.class_of (term.parameter 0 x)) (lone other)

    go : (h : again.HeadFrom) → head_from t ≡ h → class_from h (items.class_of t) (items.class_of (term.parameter 0 (given_alone a (free_in t)))) ≡ class_from h (items.class_of t) (items.class_of (term.parameter 0 a))
    go again.of_its_own is = refl
    go again.of_argument is = alone (λ own. let clash : again.of_argument ≡ again.of_its_own = sym is ∙ own in absurd cc)
    go again.collapsed_of_argument is = ap items.collapsed_class (alone (λ own. let clash : again.collapsed_of_argument ≡ again.of_its_own = sym is ∙ own in absurd cc))

pub lone-given : (g a t : Term) → g ≡ given_alone a (free_in t) → IsLone g t
lone-given g a t is other = ap (λ x. given_alone x (free_in t)) is ∙ given_alone_twice a (free_in t) ∙ sym is

pub same-given : (g a t : Term) → g ≡ given_alone a (free_in t) → (head_from t ≡ again.of_its_own → ⊥) → reargued (Some g) t ≡ reargued (Some a) t
same-given g a t is other = ap (λ x. reargued (Some x) t) is ∙ reargued_lone a t other

packs-chosen : (b : Bool) (given : Option ℕ) → packs_by b given ≡ cond b given None
unfolding packs_by
packs-chosen true given = refl
packs-chosen false given = refl

empty-chosen : (none : Bool) (t : Term) → empty_by none (by_argument_of t) ≡ is_empty_with none t
unfolding empty_by by_argument_of
empty-chosen true t = refl
empty-chosen false t = refl

pub other-place : (i : ℕ) (n : Node) → ((t a : ℕ) → n ≡ Node.Reargued t a → ⊥) → record { node = i; under = None } ≡ place_of i n
unfolding place_of
other-place i (Node.Reargued t a) other = absurd (other t a refl)
other-place i _ other = refl

pub again-place : (i t a : ℕ) (n : Node) → n ≡ Node.Reargued t a → record { node = t; under = Some a } ≡ place_of i n
unfolding place_of
again-place i t a n is = rw is refl

both-is : (a b : Free) → free_is (both_free a b) ≡ scope.both_free (free_is a) (free_is b)
unfolding both_free free_is scope.both_free
both-is Free.None b = refl
both-is (Free.One j) Free.None = refl
both-is (Free.One j) (Free.One k) = one-is (nat_eq j k)
  where
    one-is : (same : Bool) → free_is (elim same [ true ↦ Free.One j | false ↦ Free.Several (max j k) ]) ≡ elim same [ true ↦ scope.one_free j | false ↦ scope.several_free (max j k) ]
    one-is true = refl
    one-is false = refl
both-is (Free.One j) (Free.Several m) = refl
both-is (Free.Several m) Free.None = refl
both-is (Free.Several m) (Free.One k) = refl
both-is (Free.Several m) (Free.Several n) = refl

both-are : (a b : Free) {f g : scope.Free} → free_is a ≡ f → free_is b ≡ g → free_is (both_free a b) ≡ scope.both_free f g
both-are a b e h = both-is a b ∙ both scope.both_free e h

module _ (y : Table) (table : IsTable y) where
  at : (i : ℕ) → i < length y.nodes → free_is (free_at y.nodes i) ≡ free_in (tree_at (trees y) i)
  at i less = (table.each i less).free

  piece-free : (p : Piece) → IsPieceBelow y.bytes (length y.nodes) p → free_is (piece_frees y.nodes p) ≡ free_in (piece_of y.bytes (trees y) p)
  unfolding piece_frees piece_of free_in free_is
  piece-free (Piece.Lambda parameters number) b = at parameters b
  piece-free (Piece.Inheriting digit base) b = at base b
  piece-free (Piece.Conversion t) b = at t b
  piece-free (Piece.Enumeration t name) b = at t b.0
  piece-free (Piece.Bindings names) b = at names b
  piece-free _ b = refl

  -- Generated by tools/trees.py.
  pub node-free : (n : Node) → IsBelow y.bytes (length y.thunks) (length y.nodes) n → free_is (frees y.nodes n) ≡ free_in (tree_of y.bytes y.thunks (trees y) n)
  unfolding frees tree_of free_in free_is
  node-free (Node.Alone p) b = piece-free p b
  node-free (Node.InStd p) b = piece-free p b
  node-free (Node.Within prefix p) b = both-are (free_at y.nodes prefix) (piece_frees y.nodes p) (at prefix b.0) (piece-free p b.1)
  node-free (Node.Instance template arguments) b = both-are (free_at y.nodes template) (free_at y.nodes arguments) (at template b.0) (at arguments b.1)
  node-free (Node.Local e entity d) b = at entity b.1
  node-free (Node.Holder name) b = at name b
  node-free (Node.Tagged of_structor name tag) b = at name b.0
  node-free (Node.OfDefault digits entity) b = at entity b.1
  node-free (Node.Declaring heads parameters) b = both-are (free_at y.nodes heads) (free_at y.nodes parameters) (at heads b.0) (at parameters b.1)
  node-free (Node.Constrained letter concept) b = at concept b
  node-free (Node.Pointer t) b = at t b
  node-free (Node.Lvalue t) b = at t b
  node-free (Node.Rvalue t) b = at t b
  node-free (Node.Array digits t) b = at t b.1
  node-free (Node.Bounded bound t) b = both-are (free_at y.nodes bound) (free_at y.nodes t) (at bound b.0) (at t b.1)
  node-free (Node.MemberPointer class t) b = both-are (free_at y.nodes class) (free_at y.nodes t) (at class b.0) (at t b.1)
  node-free (Node.FunctionType c n m returned parameters) b = both-are (free_at y.nodes returned) (free_at y.nodes parameters) (at returned b.0) (at parameters b.1)
  node-free (Node.Qualified q t) b = at t b
  node-free (Node.Vector digits t) b = at t b.1
  node-free (Node.Complex t) b = at t b
  node-free (Node.Decltype operand) b = at operand b
  node-free (Node.Expansion pattern) b = at pattern b
  node-free (Node.Integer t n) b = at t b.0
  node-free (Node.Operation one two u w) b = both-are (free_at y.nodes u) (free_at y.nodes w) (at u b.0) (at w b.1)
  node-free (Node.Pack elements) b = at elements b
  node-free (Node.Cell first rest) b = both-are (free_at y.nodes first) (free_at y.nodes rest) (at first b.0) (at rest b.1)
  node-free (Node.Reargued t a) b = at t b.0 ∙ sym (free_reargued (Some (tree_at (trees y) a)) (tree_at (trees y) t))
  node-free _ b = refl

  by-argument-at : (i : ℕ) → i < length y.nodes → by_argument_at y.nodes i ≡ by_argument_of (tree_at (trees y) i)
  by-argument-at i less = (table.each i less).by_argument

  piece-by-argument : (p : Piece) → IsPieceBelow y.bytes (length y.nodes) p → piece_by_argument y.nodes p ≡ passed (by_argument_of (piece_of y.bytes (trees y) p))
  unfolding piece_by_argument piece_of by_argument_of bare head_from is_empty_with head_noted passed
  piece-by-argument (Piece.Lambda parameters number) b = ap passed (by-argument-at parameters b)
  piece-by-argument (Piece.Inheriting digit base) b = ap passed (by-argument-at base b)
  piece-by-argument (Piece.Conversion t) b = ap passed (by-argument-at t b)
  piece-by-argument (Piece.Enumeration t name) b = ap passed (by-argument-at t b.0)
  piece-by-argument (Piece.Bindings names) b = ap passed (by-argument-at names b)
  piece-by-argument _ b = refl

  -- Generated by tools/trees.py.
  pub node-by-argument : (n : Node) → IsBelow y.bytes (length y.thunks) (length y.nodes) n → node_by_argument y.nodes n ≡ by_argument_of (tree_of y.bytes y.thunks (trees y) n)
  unfolding node_by_argument tree_of by_argument_of bare head_from is_empty_with head_noted passed joined
  node-by-argument (Node.Alone p) b = piece-by-argument p b
  node-by-argument (Node.InStd p) b = piece-by-argument p b
  node-by-argument (Node.Within prefix p) b = rw (by-argument-at prefix b.0, piece-by-argument p b.1) refl
  node-by-argument (Node.Instance template arguments) b = rw (by-argument-at template b.0, by-argument-at arguments b.1) refl
  node-by-argument (Node.Local e entity d) b = ap passed (by-argument-at entity b.1)
  node-by-argument (Node.Holder name) b = ap passed (by-argument-at name b)
  node-by-argument (Node.Tagged of_structor name tag) b = ap passed (by-argument-at name b.0)
  node-by-argument (Node.OfDefault digits entity) b = ap passed (by-argument-at entity b.1)
  node-by-argument (Node.Parameter k a) b = refl
  node-by-argument (Node.Declaring heads parameters) b = rw (by-argument-at heads b.0, by-argument-at parameters b.1) refl
  node-by-argument (Node.Constrained letter concept) b = ap passed (by-argument-at concept b)
  node-by-argument (Node.Pointer t) b = ap passed (by-argument-at t b)
  node-by-argument (Node.Lvalue t) b = ap passed (by-argument-at t b)
  node-by-argument (Node.Rvalue t) b = rvalue-by-argument (by_argument_at y.nodes t) (tree_at (trees y) t) (by-argument-at t b)
  node-by-argument (Node.Array digits t) b = ap passed (by-argument-at t b.1)
  node-by-argument (Node.Bounded bound t) b = rw (by-argument-at bound b.0, by-argument-at t b.1) refl
  node-by-argument (Node.MemberPointer class t) b = rw (by-argument-at class b.0, by-argument-at t b.1) refl
  node-by-argument (Node.FunctionType c n m returned parameters) b = rw (by-argument-at returned b.0, by-argument-at parameters b.1) refl
  node-by-argument (Node.Qualified q t) b = ap (λ l. of_head l.head l) (by-argument-at t b)
  node-by-argument (Node.Vector digits t) b = ap passed (by-argument-at t b.1)
  node-by-argument (Node.Complex t) b = ap passed (by-argument-at t b)
  node-by-argument (Node.Decltype operand) b = ap passed (by-argument-at operand b)
  node-by-argument (Node.Expansion pattern) b = expansion-by-argument (by_argument_at y.nodes pattern) (tree_at (trees y) pattern) (by-argument-at pattern b)
  node-by-argument (Node.Integer t n) b = ap passed (by-argument-at t b.0)
  node-by-argument (Node.Operation one two u w) b = rw (by-argument-at u b.0, by-argument-at w b.1) refl
  node-by-argument (Node.Pack elements) b = ap of_pack (by-argument-at elements b)
  node-by-argument (Node.Cell first rest) b = rw (by-argument-at first b.0, by-argument-at rest b.1) refl
  node-by-argument (Node.Reargued t a) b = by-argument-at t b.0 ∙ sym (by_argument_reargued (Some (tree_at (trees y) a)) (tree_at (trees y) t))
  node-by-argument _ b = refl

  -- ## What a node denotes

  pub place-is : (i : ℕ) → i < length y.nodes → tree_under (trees y) (resolved_at y.nodes i) ≡ tree_at (trees y) i
  unfolding tree_under tree_if_there place_of tree_of
  place-is i less = go (entry_at y.nodes i).node (table.each i less).built
    where
      go : (n : Node) → tree_at (trees y) i ≡ tree_of y.bytes y.thunks (trees y) n → tree_under (trees y) (place_of i n) ≡ tree_at (trees y) i
      go (Node.Reargued t a) e = sym e
      go _ e = reargued_none (tree_at (trees y) i)

  place-below : (i : ℕ) → i < length y.nodes → (resolved_at y.nodes i).node < length y.nodes
  unfolding place_of
  place-below i less = go (entry_at y.nodes i).node (table.each i less).below
    where
      go : (n : Node) → IsBelow y.bytes (length y.thunks) i n → (place_of i n).node < length y.nodes
      go (Node.Reargued t a) b = omega (arith, less, b.0)
      go _ b = less

  place-under : (i : ℕ) → i < length y.nodes → IsAliasBelow (length y.nodes) (resolved_at y.nodes i).under
  unfolding place_of
  place-under i less = go (entry_at y.nodes i).node (table.each i less).below
    where
      go : (n : Node) → IsBelow y.bytes (length y.thunks) i n → IsAliasBelow (length y.nodes) (place_of i n).under
      go (Node.Reargued t a) b = omega (arith, less, b.1)
      go _ b = tt

  pub shape-flat : (i : ℕ) → i < length y.nodes → is_again (shape_at y.nodes i) ≡ false
  unfolding place_of is_again
  shape-flat i less = go (entry_at y.nodes i).node (table.each i less).flat refl
    where
      go : (n : Node) → IsFlat y.nodes n → (entry_at y.nodes i).node ≡ n → is_again (entry_at y.nodes (place_of i n).node).node ≡ false
      go (Node.Reargued t a) flat is = flat
      go _ flat is = ap is_again is

  pub resolved-is : (i : ℕ) (r : Placed) → i < length y.nodes → r ≡ resolved_at y.nodes i
      → (tree_under (trees y) r ≡ tree_at (trees y) i) × ((is_again (entry_at y.nodes r.node).node ≡ false) × IsPlacedBelow (length y.nodes) r)
  resolved-is i r less is = rw is (place-is i less, (shape-flat i less, (place-below i less, place-under i less)))

  empty-at : (i : ℕ) → i < length y.nodes → (entry_at y.nodes i).is_empty ≡ items.is_empty items.closed (tree_at (trees y) i)
  empty-at i less = (table.each i less).empty

  arguments-again : (a : ℕ) (o : Option Placed) → placed_if_there (trees y) (placed_under a o) ≡ reargued_if_there (Some (tree_at (trees y) a)) (placed_if_there (trees y) o)
  unfolding placed_if_there placed_under reargued_if_there tree_under tree_if_there
  arguments-again a None = refl
  arguments-again a (Some p) = ap Some (sym (reargued_twice (tree_if_there (trees y) p.under) (tree_at (trees y) a) (tree_at (trees y) p.node)))

  -- what is noted of a tree's head says where the head is from
  head-at : (t : ℕ) → t < length y.nodes → (by_argument_at y.nodes t).head ≡ head_noted (head_from (tree_at (trees y) t))
  unfolding by_argument_of
  head-at t less = ap (λ l. l.head) (by-argument-at t less)

  -- a head that is noted as the tree's own is the tree's own
  pub own-at : (t : ℕ) (held : Entry) → t < length y.nodes → held ≡ entry_at y.nodes t → held.by_argument.head ≡ HeadFrom.Own → head_from (tree_at (trees y) t) ≡ again.of_its_own
  own-at t held less at own = own-noted (head_from (tree_at (trees y) t)) (sym own ∙ ap (λ e. e.by_argument.head) at ∙ head-at t less)

  pub other-at : (t : ℕ) (held : Entry) → t < length y.nodes → held ≡ entry_at y.nodes t → (held.by_argument.head ≡ HeadFrom.Own → ⊥) → head_from (tree_at (trees y) t) ≡ again.of_its_own → ⊥
  unfolding head_noted
  other-at t held less at other own = other (ap (λ e. e.by_argument.head) at ∙ head-at t less ∙ ap head_noted own)

  plain-at : (t : ℕ) → t < length y.nodes → ((by_argument_at y.nodes t).head ≡ HeadFrom.Own → ⊥) → IsPlain (tree_at (trees y) t)
  plain-at t less other = is-plain (tree_at (trees y) t) (λ e. other (head-at t less ∙ e))

  ends-again : (t a : ℕ) (h : HeadFrom) → t < length y.nodes → (by_argument_at y.nodes t).head ≡ h
      → placed_if_there (trees y) (if_own h (placed_under a (entry_at y.nodes t).arguments) None) ≡ arguments_of (reargued (Some (tree_at (trees y) a)) (tree_at (trees y) t))
  unfolding if_own placed_if_there reargued_if_there
  ends-again t a h less is = which h is ∙ sym (arguments_reargued (Some (tree_at (trees y) a)) (tree_at (trees y) t))
    where
      none : IsPlain (tree_at (trees y) t) → None ≡ reargued_if_there (Some (tree_at (trees y) a)) (arguments_of (tree_at (trees y) t))
      none plain = ap (reargued_if_there (Some (tree_at (trees y) a))) (sym plain.no_arguments)

      which : (h : HeadFrom) → (by_argument_at y.nodes t).head ≡ h
          → placed_if_there (trees y) (if_own h (placed_under a (entry_at y.nodes t).arguments) None) ≡ reargued_if_there (Some (tree_at (trees y) a)) (arguments_of (tree_at (trees y) t))
      which HeadFrom.Own is = arguments-again a (entry_at y.nodes t).arguments ∙ ap (reargued_if_there (Some (tree_at (trees y) a))) (table.each t less).arguments
      which HeadFrom.Argument is = none (plain-at t less (λ o. cc (is, o)))
      which HeadFrom.Collapsed is = none (plain-at t less (λ o. cc (is, o)))

  pub node-ends : (n : Node) → IsBelow y.bytes (length y.thunks) (length y.nodes) n → placed_if_there (trees y) (ends_in y.nodes n) ≡ arguments_of (tree_of y.bytes y.thunks (trees y) n)
  unfolding ends_in tree_of arguments_of placed_if_there tree_under tree_if_there
  node-ends (Node.Instance template arguments) b = ap Some (reargued_none (tree_at (trees y) arguments))
  node-ends (Node.Local e entity d) b = (table.each entity b.1).arguments
  node-ends (Node.OfDefault digits entity) b = (table.each entity b.1).arguments
  node-ends (Node.Reargued t a) b = ends-again t a (by_argument_at y.nodes t).head b.0 refl
  node-ends _ b = refl

  pub placed-below : (i n : ℕ) (p : Placed) → i < n → IsPlacedBelow i p → IsPlacedBelow n p
  placed-below i n p less b = (omega (arith, less, b.0), go p.under b.1)
    where
      go : (u : Option ℕ) → IsAliasBelow i u → IsAliasBelow n u
      go None d = tt
      go (Some k) d = omega (arith, less, d)

  arguments-below : (i n : ℕ) (a : Option Placed) → i < n → IsPlacedThere i a → IsPlacedThere n a
  arguments-below i n None less b = tt
  arguments-below i n (Some p) less b = placed-below i n p less b

  under-below : (n a : ℕ) (o : Option Placed) → a < n → IsPlacedThere n o → IsPlacedThere n (placed_under a o)
  unfolding placed_under
  under-below n a None less b = tt
  under-below n a (Some p) less b = (b.0, less)

  own-below : (n : ℕ) (h : HeadFrom) (o : Option Placed) → IsPlacedThere n o → IsPlacedThere n (if_own h o None)
  unfolding if_own
  own-below n HeadFrom.Own o b = b
  own-below n HeadFrom.Argument o b = tt
  own-below n HeadFrom.Collapsed o b = tt

  pub node-ends-below : (n : Node) → IsBelow y.bytes (length y.thunks) (length y.nodes) n → IsPlacedThere (length y.nodes) (ends_in y.nodes n)
  unfolding ends_in
  node-ends-below (Node.Instance template arguments) b = (b.1, tt)
  node-ends-below (Node.Local e entity d) b = arguments-below entity (length y.nodes) (entry_at y.nodes entity).arguments b.1 (table.each entity b.1).arguments_below
  node-ends-below (Node.OfDefault digits entity) b = arguments-below entity (length y.nodes) (entry_at y.nodes entity).arguments b.1 (table.each entity b.1).arguments_below
  node-ends-below (Node.Reargued t a) b = own-below (length y.nodes) (by_argument_at y.nodes t).head (placed_under a (entry_at y.nodes t).arguments)
      (under-below (length y.nodes) a (entry_at y.nodes t).arguments b.1 (arguments-below t (length y.nodes) (entry_at y.nodes t).arguments b.0 (table.each t b.0).arguments_below))
  node-ends-below _ b = tt

  name-untagged : (t : Term) (name : ℕ) (o : Option Placed) → untagged_is (trees y) (tree_at (trees y) name) o ≡ t → tree_under (trees y) (or_itself name o) ≡ t
  unfolding untagged_is or_itself tree_under tree_if_there
  name-untagged t name None e = reargued_none (tree_at (trees y) name) ∙ e
  name-untagged t name (Some i) e = e

  untagged-again : (t a : ℕ) (h : HeadFrom) → t < length y.nodes → (by_argument_at y.nodes t).head ≡ h
      → untagged_is (trees y) (reargued (Some (tree_at (trees y) a)) (tree_at (trees y) t)) (if_own h (placed_under a (entry_at y.nodes t).untagged) None) ≡ without_tags (reargued (Some (tree_at (trees y) a)) (tree_at (trees y) t))
  unfolding if_own untagged_is placed_under tree_under tree_if_there
  untagged-again t a h less is = which h is ∙ sym (untagged_reargued (Some (tree_at (trees y) a)) (tree_at (trees y) t))
    where
      own : (o : Option Placed) → untagged_is (trees y) (tree_at (trees y) t) o ≡ without_tags (tree_at (trees y) t) → untagged_is (trees y) (reargued (Some (tree_at (trees y) a)) (tree_at (trees y) t)) (placed_under a o) ≡ reargued (Some (tree_at (trees y) a)) (without_tags (tree_at (trees y) t))
      own None e = ap (reargued (Some (tree_at (trees y) a))) e
      own (Some p) e = sym (reargued_twice (tree_if_there (trees y) p.under) (tree_at (trees y) a) (tree_at (trees y) p.node)) ∙ ap (reargued (Some (tree_at (trees y) a))) e

      which : (h : HeadFrom) → (by_argument_at y.nodes t).head ≡ h → untagged_is (trees y) (reargued (Some (tree_at (trees y) a)) (tree_at (trees y) t)) (if_own h (placed_under a (entry_at y.nodes t).untagged) None) ≡ reargued (Some (tree_at (trees y) a)) (without_tags (tree_at (trees y) t))
      which HeadFrom.Own is = own (entry_at y.nodes t).untagged (table.each t less).untagged
      which HeadFrom.Argument is = ap (reargued (Some (tree_at (trees y) a))) (sym (plain-at t less (λ o. cc (is, o))).no_tags)
      which HeadFrom.Collapsed is = ap (reargued (Some (tree_at (trees y) a))) (sym (plain-at t less (λ o. cc (is, o))).no_tags)

  pub node-untagged : (n : Node) → IsBelow y.bytes (length y.thunks) (length y.nodes) n
      → untagged_is (trees y) (tree_of y.bytes y.thunks (trees y) n) (untagging y.nodes n) ≡ without_tags (tree_of y.bytes y.thunks (trees y) n)
  unfolding untagging untagged_is tree_of without_tags
  node-untagged (Node.Tagged of_structor name tag) b = name-untagged _ name (entry_at y.nodes name).untagged (table.each name b.0).untagged
  node-untagged (Node.Reargued t a) b = untagged-again t a (by_argument_at y.nodes t).head b.0 refl
  node-untagged _ b = refl

  untagged-below : (n name : ℕ) (o : Option Placed) → name < n → IsPlacedThere name o → IsPlacedBelow n (or_itself name o)
  unfolding or_itself
  untagged-below n name None less b = (less, tt)
  untagged-below n name (Some p) less b = placed-below name n p less b

  pub node-untagged-below : (n : Node) → IsBelow y.bytes (length y.thunks) (length y.nodes) n → IsPlacedThere (length y.nodes) (untagging y.nodes n)
  unfolding untagging
  node-untagged-below (Node.Tagged of_structor name tag) b = untagged-below (length y.nodes) name (entry_at y.nodes name).untagged b.0 (table.each name b.0).untagged_below
  node-untagged-below (Node.Reargued t a) b = own-below (length y.nodes) (by_argument_at y.nodes t).head (placed_under a (entry_at y.nodes t).untagged)
      (under-below (length y.nodes) a (entry_at y.nodes t).untagged b.1 (arguments-below t (length y.nodes) (entry_at y.nodes t).untagged b.0 (table.each t b.0).untagged_below))
  node-untagged-below _ b = tt

  collapse-is : (ts : List Term) (c : HeadClass) → class_is ts (collapses c) ≡ items.collapsed_class (class_is ts c)
  unfolding collapses class_is items.collapsed_class heads.collapsed head_of
  collapse-is ts (HeadClass.Known Head.Plain) = refl
  collapse-is ts (HeadClass.Known Head.FunctionOrArray) = refl
  collapse-is ts (HeadClass.Known Head.Lvalue) = refl
  collapse-is ts (HeadClass.Known Head.Rvalue) = refl
  collapse-is ts (HeadClass.OfElement e) = refl
  collapse-is ts (HeadClass.CollapsedOfElement e) = refl

  shape-is : (u : Option Term) (k : ℕ) (under : Option ℕ) (n : Node) (c : HeadClass) → u ≡ tree_if_there (trees y) under → is_again n ≡ false → class_is (trees y) c ≡ items.class_of (reargued u (tree_of y.bytes y.thunks (trees y) n))
      → class_is (trees y) (pack_class under n c) ≡ items.class_of (term.parameter k (reargued u (tree_of y.bytes y.thunks (trees y) n)))
  unfolding pack_class class_is tree_of items.class_of reargued argument_or is_again tree_under
  shape-is u k under (Node.Pack elements) c is flat e = ap (λ v. items.of_element (reargued v (tree_at (trees y) elements))) (sym is)
  shape-is u k under (Node.Reargued t a) c is flat e = absurd (true≢false flat)
  shape-is u k under _ c is flat e = e

  pub argument-is : (k a : ℕ) → a < length y.nodes → class_is (trees y) (argument_class y.nodes a) ≡ items.class_of (term.parameter k (tree_at (trees y) a))
  unfolding tree_under
  argument-is k a less =
      let r = resolved_at y.nodes a in
      let built = (table.each r.node (place-below a less)).built in
      let whole : reargued (tree_if_there (trees y) r.under) (tree_of y.bytes y.thunks (trees y) (shape_at y.nodes a)) ≡ tree_at (trees y) a = ap (reargued (tree_if_there (trees y) r.under)) (sym built) ∙ place-is a less in
      shape-is (tree_if_there (trees y) r.under) k r.under (shape_at y.nodes a) (entry_at y.nodes a).class refl (shape-flat a less) ((table.each a less).class ∙ ap items.class_of (sym whole))
      ∙ ap (λ t. items.class_of (term.parameter k t)) whole

  class-chosen : (h : again.HeadFrom) (own given : HeadClass) → class_is (trees y) (class_by (head_noted h) own given) ≡ class_from h (class_is (trees y) own) (class_is (trees y) given)
  unfolding class_by head_noted class_from
  class-chosen again.of_its_own own given = refl
  class-chosen again.of_argument own given = refl
  class-chosen again.collapsed_of_argument own given = collapse-is (trees y) given

  -- the head of a re-read tree, from the tree's own head and that of a parameter with this argument
  class-given : (t a : ℕ) → t < length y.nodes → a < length y.nodes
      → class_is (trees y) (class_by (by_argument_at y.nodes t).head (entry_at y.nodes t).class (argument_class y.nodes a)) ≡ class_from (head_from (tree_at (trees y) t)) (items.class_of (tree_at (trees y) t)) (items.class_of (term.parameter 0 (tree_at (trees y) a)))
  class-given t a less few =
      ap (λ h. class_is (trees y) (class_by h (entry_at y.nodes t).class (argument_class y.nodes a))) (head-at t less)
      ∙ class-chosen (head_from (tree_at (trees y) t)) (entry_at y.nodes t).class (argument_class y.nodes a)
      ∙ ap (λ c. class_from (head_from (tree_at (trees y) t)) c (class_is (trees y) (argument_class y.nodes a))) (table.each t less).class
      ∙ ap (class_from (head_from (tree_at (trees y) t)) (items.class_of (tree_at (trees y) t))) (argument-is 0 a few)

  class-again : (t a : ℕ) → t < length y.nodes → a < length y.nodes → IsLone (tree_at (trees y) a) (tree_at (trees y) t)
      → class_is (trees y) (class_by (by_argument_at y.nodes t).head (entry_at y.nodes t).class (argument_class y.nodes a)) ≡ items.class_of (reargued (Some (tree_at (trees y) a)) (tree_at (trees y) t))
  class-again t a less few lone = class-given t a less few ∙ sym (lone-class (tree_at (trees y) a) (tree_at (trees y) t) lone)

  -- the head of a re-read tree, from the tree's own head and the argument of its one parameter
  pub class-by-given : (t g : ℕ) (a : Term) → t < length y.nodes → g < length y.nodes → tree_at (trees y) g ≡ given_alone a (free_in (tree_at (trees y) t))
      → class_is (trees y) (class_by (by_argument_at y.nodes t).head (entry_at y.nodes t).class (argument_class y.nodes g)) ≡ items.class_of (reargued (Some a) (tree_at (trees y) t))
  class-by-given t g a less few is =
      class-given t g less few
      ∙ ap (λ x. class_from (head_from (tree_at (trees y) t)) (items.class_of (tree_at (trees y) t)) (items.class_of (term.parameter 0 x))) is
      ∙ sym (class_reargued a (tree_at (trees y) t))

  pub node-class : (n : Node) → IsSettled (trees y) n → IsBelow y.bytes (length y.thunks) (length y.nodes) n → class_is (trees y) (classes y.nodes n) ≡ items.class_of (tree_of y.bytes y.thunks (trees y) n)
  unfolding classes class_is tree_of items.class_of head_of
  node-class (Node.Rvalue t) lone b = collapse-is (trees y) (entry_at y.nodes t).class ∙ ap items.collapsed_class (table.each t b).class
  node-class (Node.Qualified q t) lone b = (table.each t b).class
  node-class (Node.Parameter k a) lone b = argument-is k a b
  node-class (Node.Reargued t a) lone b = class-again t a b.0 b.1 lone
  node-class _ lone b = refl

  pub class-later : (i n : ℕ) (c : HeadClass) → i < n → IsClassBelow i c → IsClassBelow n c
  class-later i n (HeadClass.Known h) less b = tt
  class-later i n (HeadClass.OfElement e) less b = placed-below i n e less b
  class-later i n (HeadClass.CollapsedOfElement e) less b = placed-below i n e less b

  collapse-below : (n : ℕ) (c : HeadClass) → IsClassBelow n c → IsClassBelow n (collapses c)
  unfolding collapses
  collapse-below n (HeadClass.Known Head.Lvalue) b = tt
  collapse-below n (HeadClass.Known _) b = tt
  collapse-below n (HeadClass.OfElement e) b = b
  collapse-below n (HeadClass.CollapsedOfElement e) b = b

  pack-below : (i m : ℕ) (under : Option ℕ) (n : Node) (c : HeadClass) → i < m → IsAliasBelow m under → IsBelow y.bytes (length y.thunks) i n → IsClassBelow m c → IsClassBelow m (pack_class under n c)
  unfolding pack_class
  pack-below i m under (Node.Pack elements) c less there b d = (omega (arith, less, b), there)
  pack-below i m under _ c less there b d = d

  pub argument-below : (a : ℕ) → a < length y.nodes → IsClassBelow (length y.nodes) (argument_class y.nodes a)
  argument-below a less =
      let r = resolved_at y.nodes a in
      pack-below r.node (length y.nodes) r.under (shape_at y.nodes a) (entry_at y.nodes a).class (place-below a less) (place-under a less) (table.each r.node (place-below a less)).below
      (class-later a (length y.nodes) (entry_at y.nodes a).class less (table.each a less).class_below)

  pub chosen-below : (n : ℕ) (h : HeadFrom) (own given : HeadClass) → IsClassBelow n own → IsClassBelow n given → IsClassBelow n (class_by h own given)
  unfolding class_by
  chosen-below n HeadFrom.Own own given b d = b
  chosen-below n HeadFrom.Argument own given b d = d
  chosen-below n HeadFrom.Collapsed own given b d = collapse-below n given d

  pub node-class-below : (n : Node) → IsBelow y.bytes (length y.thunks) (length y.nodes) n → IsClassBelow (length y.nodes) (classes y.nodes n)
  unfolding classes
  node-class-below (Node.Rvalue t) b = collapse-below (length y.nodes) (entry_at y.nodes t).class (class-later t (length y.nodes) (entry_at y.nodes t).class b (table.each t b).class_below)
  node-class-below (Node.Qualified q t) b = class-later t (length y.nodes) (entry_at y.nodes t).class b (table.each t b).class_below
  node-class-below (Node.Parameter k a) b = argument-below a b
  node-class-below (Node.Reargued t a) b = chosen-below (length y.nodes) (by_argument_at y.nodes t).head (entry_at y.nodes t).class (argument_class y.nodes a)
      (class-later t (length y.nodes) (entry_at y.nodes t).class b.0 (table.each t b.0).class_below) (argument-below a b.1)
  node-class-below _ b = tt

  pack-at : (i : ℕ) → i < length y.nodes → packs_at y.nodes i ≡ pack_length (tree_at (trees y) i)
  pack-at i less = (table.each i less).packs

  piece-pack : (p : Piece) → IsPieceBelow y.bytes (length y.nodes) p → piece_packs y.nodes p ≡ pack_length (piece_of y.bytes (trees y) p)
  unfolding piece_packs piece_of pack_length
  piece-pack (Piece.Lambda parameters number) b = pack-at parameters b
  piece-pack (Piece.Inheriting digit base) b = pack-at base b
  piece-pack (Piece.Conversion t) b = pack-at t b
  piece-pack (Piece.Enumeration t name) b = pack-at t b.0
  piece-pack (Piece.Bindings names) b = pack-at names b
  piece-pack _ b = refl

  count-at : (i : ℕ) → i < length y.nodes → (entry_at y.nodes i).count ≡ count (tree_at (trees y) i)
  count-at i less = (table.each i less).counted

  length-is : (i : ℕ) (n : Node) → i < length y.nodes → is_again n ≡ false → IsBelow y.bytes (length y.thunks) i n → argument_packs y.nodes n ≡ length_if_pack (tree_of y.bytes y.thunks (trees y) n)
  unfolding argument_packs tree_of length_if_pack is_again
  length-is i (Node.Pack elements) less flat b = ap Some (count-at elements (omega (arith, less, b)))
  length-is i (Node.Reargued t a) less flat b = absurd (true≢false flat)
  length-is i _ less flat b = refl

  pub argument-pack : (a : ℕ) → a < length y.nodes → argument_packs y.nodes (shape_at y.nodes a) ≡ length_if_pack (tree_at (trees y) a)
  unfolding tree_under
  argument-pack a less =
      let r = resolved_at y.nodes a in
      let e = table.each r.node (place-below a less) in
      length-is r.node (shape_at y.nodes a) (place-below a less) (shape-flat a less) e.below ∙ ap length_if_pack (sym e.built)
      ∙ sym (length_reargued (tree_if_there (trees y) r.under) (tree_at (trees y) r.node)) ∙ ap length_if_pack (place-is a less)

  pub again-pack : (t a : ℕ) → t < length y.nodes → a < length y.nodes → packs_by (by_argument_at y.nodes t).is_bare (argument_packs y.nodes (shape_at y.nodes a)) ≡ pack_length (reargued (Some (tree_at (trees y) a)) (tree_at (trees y) t))
  unfolding by_argument_of
  again-pack t a less few =
      packs-chosen (by_argument_at y.nodes t).is_bare (argument_packs y.nodes (shape_at y.nodes a))
      ∙ ap (λ l. cond l.is_bare (argument_packs y.nodes (shape_at y.nodes a)) None) (by-argument-at t less)
      ∙ ap (λ o. cond (bare (tree_at (trees y) t)) o None) (argument-pack a few)
      ∙ sym (pack_reargued (tree_at (trees y) a) (tree_at (trees y) t))

  -- Generated by tools/trees.py.
  pub node-pack : (n : Node) → IsBelow y.bytes (length y.thunks) (length y.nodes) n → packing y.nodes n ≡ pack_length (tree_of y.bytes y.thunks (trees y) n)
  unfolding packing tree_of pack_length
  node-pack (Node.Alone p) b = piece-pack p b
  node-pack (Node.InStd p) b = piece-pack p b
  node-pack (Node.Within prefix p) b = rw (pack-at prefix b.0, piece-pack p b.1) refl
  node-pack (Node.Instance template arguments) b = rw (pack-at template b.0, pack-at arguments b.1) refl
  node-pack (Node.Local e entity d) b = pack-at entity b.1
  node-pack (Node.Holder name) b = pack-at name b
  node-pack (Node.Tagged of_structor name tag) b = pack-at name b.0
  node-pack (Node.OfDefault digits entity) b = pack-at entity b.1
  node-pack (Node.Parameter k a) b = argument-pack a b
  node-pack (Node.Declaring heads parameters) b = rw (pack-at heads b.0, pack-at parameters b.1) refl
  node-pack (Node.Constrained letter concept) b = pack-at concept b
  node-pack (Node.Pointer t) b = pack-at t b
  node-pack (Node.Lvalue t) b = pack-at t b
  node-pack (Node.Rvalue t) b = pack-at t b
  node-pack (Node.Array digits t) b = pack-at t b.1
  node-pack (Node.Bounded bound t) b = rw (pack-at bound b.0, pack-at t b.1) refl
  node-pack (Node.MemberPointer class t) b = rw (pack-at class b.0, pack-at t b.1) refl
  node-pack (Node.FunctionType c n m returned parameters) b = rw (pack-at returned b.0, pack-at parameters b.1) refl
  node-pack (Node.Qualified q t) b = pack-at t b
  node-pack (Node.Vector digits t) b = pack-at t b.1
  node-pack (Node.Complex t) b = pack-at t b
  node-pack (Node.Decltype operand) b = pack-at operand b
  node-pack (Node.Integer t n) b = pack-at t b.0
  node-pack (Node.Operation one two u w) b = rw (pack-at u b.0, pack-at w b.1) refl
  node-pack (Node.Pack elements) b = pack-at elements b
  node-pack (Node.Cell first rest) b = rw (pack-at first b.0, pack-at rest b.1) refl
  node-pack (Node.Reargued t a) b = again-pack t a b.0 b.1
  node-pack _ b = refl

  pub again-empty : (t a : ℕ) → t < length y.nodes → a < length y.nodes
      → empty_by (heads.is_none_of (argument_packs y.nodes (shape_at y.nodes a))) (by_argument_at y.nodes t) ≡ items.is_empty items.closed (reargued (Some (tree_at (trees y) a)) (tree_at (trees y) t))
  again-empty t a less few =
      ap (λ o. empty_by (heads.is_none_of o) (by_argument_at y.nodes t)) (argument-pack a few)
      ∙ ap (empty_by (heads.is_none_of (length_if_pack (tree_at (trees y) a)))) (by-argument-at t less)
      ∙ empty-chosen (heads.is_none_of (length_if_pack (tree_at (trees y) a))) (tree_at (trees y) t)
      ∙ sym (empty_reargued items.closed (tree_at (trees y) a) (tree_at (trees y) t))

  pub node-empty : (n : Node) → IsBelow y.bytes (length y.thunks) (length y.nodes) n → empties y.nodes n ≡ items.is_empty items.closed (tree_of y.bytes y.thunks (trees y) n)
  unfolding empties tree_of items.is_empty items.packs_of
  node-empty (Node.Expansion pattern) b = ap heads.is_none_of (table.each pattern b).packs
  node-empty (Node.Pack elements) b = empty-at elements b
  node-empty (Node.Cell first rest) b = rw (empty-at first b.0, empty-at rest b.1) refl
  node-empty (Node.Reargued t a) b = again-empty t a b.0 b.1
  node-empty _ b = refl

  structor-piece : (t : Term) (p : Piece) → is_structor_piece p ≡ is_structor (term.within t (piece_of y.bytes (trees y) p))
  unfolding is_structor_piece piece_of is_structor
  structor-piece t (Piece.Constructor digit) = refl
  structor-piece t (Piece.Destructor digit) = refl
  structor-piece t _ = refl

  structor-node : (n : Node) → is_again n ≡ false → is_structor_node n ≡ is_structor (tree_of y.bytes y.thunks (trees y) n)
  unfolding is_structor_node tree_of is_structor is_again
  structor-node (Node.Within prefix p) flat = structor-piece (tree_at (trees y) prefix) p
  structor-node (Node.Reargued t a) flat = absurd (true≢false flat)
  structor-node _ flat = refl

  structor-shape : (i : ℕ) → i < length y.nodes → is_structor_node (shape_at y.nodes i) ≡ is_structor (tree_at (trees y) i)
  unfolding tree_under
  structor-shape i less =
      let r = resolved_at y.nodes i in
      structor-node (shape_at y.nodes i) (shape-flat i less) ∙ ap is_structor (sym (table.each r.node (place-below i less)).built)
      ∙ sym (structor_reargued (tree_if_there (trees y) r.under) (tree_at (trees y) r.node)) ∙ ap is_structor (place-is i less)

  returns-again : (t a : ℕ) (h : HeadFrom) → t < length y.nodes → (by_argument_at y.nodes t).head ≡ h → if_own h (entry_at y.nodes t).returns false ≡ has_return_type (tree_at (trees y) t)
  unfolding if_own
  returns-again t a HeadFrom.Own less is = (table.each t less).returns
  returns-again t a HeadFrom.Argument less is = sym (plain-at t less (λ o. cc (is, o))).returns_none
  returns-again t a HeadFrom.Collapsed less is = sym (plain-at t less (λ o. cc (is, o))).returns_none

  count-again : (t a : ℕ) (h : HeadFrom) → t < length y.nodes → (by_argument_at y.nodes t).head ≡ h → if_own h (entry_at y.nodes t).count 0 ≡ count (tree_at (trees y) t)
  unfolding if_own
  count-again t a HeadFrom.Own less is = count-at t less
  count-again t a HeadFrom.Argument less is = sym (plain-at t less (λ o. cc (is, o))).no_elements
  count-again t a HeadFrom.Collapsed less is = sym (plain-at t less (λ o. cc (is, o))).no_elements

  pub node-returns : (n : Node) → IsBelow y.bytes (length y.thunks) (length y.nodes) n → returning y.nodes n ≡ has_return_type (tree_of y.bytes y.thunks (trees y) n)
  unfolding returning tree_of has_return_type arguments_of before_arguments
  node-returns (Node.Instance template arguments) b = ap not (structor-shape template b.0)
  node-returns (Node.Local e entity d) b = (table.each entity b.1).returns
  node-returns (Node.OfDefault digits entity) b = (table.each entity b.1).returns
  node-returns (Node.Reargued t a) b = returns-again t a (by_argument_at y.nodes t).head b.0 refl ∙ sym (returns_reargued (Some (tree_at (trees y) a)) (tree_at (trees y) t))
  node-returns _ b = refl

  pub node-counted : (n : Node) → IsBelow y.bytes (length y.thunks) (length y.nodes) n → counting y.nodes n ≡ count (tree_of y.bytes y.thunks (trees y) n)
  unfolding counting tree_of count
  node-counted (Node.Cell first rest) b = omega (arith, count-at rest b.1)
  node-counted (Node.Reargued t a) b = count-again t a (by_argument_at y.nodes t).head b.0 refl ∙ sym (count_reargued (Some (tree_at (trees y) a)) (tree_at (trees y) t))
  node-counted _ b = refl

  pub node-count-below : (n : Node) → IsBelow y.bytes (length y.thunks) (length y.nodes) n → counting y.nodes n ≤ length y.nodes
  unfolding counting if_own
  node-count-below (Node.Cell first rest) b = omega (arith, (table.each rest b.1).count_below, b.1)
  node-count-below (Node.Reargued t a) b = go (by_argument_at y.nodes t).head
    where
      go : (h : HeadFrom) → if_own h (entry_at y.nodes t).count 0 ≤ length y.nodes
      go HeadFrom.Own = omega (arith, (table.each t b.0).count_below, b.0)
      go HeadFrom.Argument = omega arith
      go HeadFrom.Collapsed = omega arith
  node-count-below _ b = omega arith

  run-on : (f r : Term) (rest k n : ℕ) → rest + 1 ≡ length y.nodes → rest < length y.nodes → r ≡ tree_at (trees y) rest → k < (entry_at y.nodes rest).run + 1
      → element (term.list f r) (suc k + n) ≡ element (tree_at (trees y) (length y.nodes - suc k)) n
  unfolding element
  run-on f r rest zero n last less is most = ap (λ m. element (term.list f r) m) (one-more n) ∙ ap (λ t. element t n) is ∙ ap (λ i. element (tree_at (trees y) i) n) (omega (arith, last))
  run-on f r rest (suc k) n last less is most = ap (λ m. element (term.list f r) m) (more-on (suc k) n) ∙ ap (λ t. element t (suc k + n)) is ∙ (table.each rest less).runs k n (omega (arith, most)) ∙ ap (λ i. element (tree_at (trees y) i) n) (omega (arith, last))

  cell-runs : (b : Bool) (first rest k n : ℕ) → nat_eq (rest + 1) (length y.nodes) ≡ b → rest < length y.nodes → k < cond b ((entry_at y.nodes rest).run + 1) 0
      → element (term.list (tree_at (trees y) first) (tree_at (trees y) rest)) (suc k + n) ≡ element (tree_at (trees y) (length y.nodes - suc k)) n
  cell-runs true first rest k n last less most = run-on _ _ rest k n (eqb-true _ _ last) less refl most
  cell-runs false first rest k n last less most = absurd (omega (arith, most))

  pub node-runs : (n : Node) → IsBelow y.bytes (length y.thunks) (length y.nodes) n → (k m : ℕ) → k < running y.nodes n
      → element (tree_of y.bytes y.thunks (trees y) n) (suc k + m) ≡ element (tree_at (trees y) (length y.nodes - suc k)) m
  unfolding running tree_of
  node-runs (Node.Cell first rest) b k m most = cell-runs (nat_eq (rest + 1) (length y.nodes)) first rest k m refl b.1 most
  node-runs _ b k m most = absurd (omega (arith, most))

  run-below : (b : Bool) (n rest : ℕ) → n < length y.nodes → rest ≤ n → cond b (rest + 1) 0 ≤ length y.nodes
  run-below true n rest less most = omega (arith, less, most)
  run-below false n rest less most = omega arith

  pub node-run-below : (n : Node) → IsBelow y.bytes (length y.thunks) (length y.nodes) n → running y.nodes n ≤ length y.nodes
  unfolding running
  node-run-below (Node.Cell first rest) b = run-below (nat_eq (rest + 1) (length y.nodes)) rest (entry_at y.nodes rest).run b.1 (table.each rest b.1).run_below
  node-run-below _ b = omega arith

  alone-node : (n : Node) → is_again n ≡ false → is_argument_node n && not (is_open (tree_of y.bytes y.thunks (trees y) n)) ≡ is_alone (tree_of y.bytes y.thunks (trees y) n)
  unfolding is_argument_node tree_of is_alone is_again
  alone-node (Node.Pack elements) flat = refl
  alone-node (Node.Cell first rest) flat = refl
  alone-node (Node.Reargued t a) flat = absurd (true≢false flat)
  alone-node _ flat = refl

  -- whether a node's tree is an argument proper
  pub alone-shape : (i : ℕ) → i < length y.nodes → is_argument_node (shape_at y.nodes i) && not (is_open (tree_at (trees y) i)) ≡ is_alone (tree_at (trees y) i)
  unfolding tree_under
  alone-shape i less =
      let r = resolved_at y.nodes i in
      let u = tree_if_there (trees y) r.under in
      let built = (table.each r.node (place-below i less)).built in
      let opened : is_open (tree_at (trees y) i) ≡ is_open (tree_of y.bytes y.thunks (trees y) (shape_at y.nodes i)) = ap is_open (sym (place-is i less)) ∙ open_reargued u (tree_at (trees y) r.node) ∙ ap is_open built in
      ap (λ b. is_argument_node (shape_at y.nodes i) && not b) opened ∙ alone-node (shape_at y.nodes i) (shape-flat i less) ∙ ap is_alone (sym built)
      ∙ sym (alone_reargued u (tree_at (trees y) r.node)) ∙ ap is_alone (place-is i less)

  alone-is : (i : ℕ) → i < length y.nodes → alone_at y.nodes i ≡ is_alone (tree_at (trees y) i)
  alone-is i less = ap (λ b. is_argument_node (shape_at y.nodes i) && not b) (node-open y i table less) ∙ alone-shape i less

  told-again : (t a : ℕ) (h : HeadFrom) → t < length y.nodes → (by_argument_at y.nodes t).head ≡ h → if_own h (entry_at y.nodes t).has_pack false ≡ has_pack (tree_at (trees y) t)
  unfolding if_own
  told-again t a HeadFrom.Own less is = (table.each t less).pack_told
  told-again t a HeadFrom.Argument less is = sym (plain-at t less (λ o. cc (is, o))).no_pack
  told-again t a HeadFrom.Collapsed less is = sym (plain-at t less (λ o. cc (is, o))).no_pack

  pub node-told : (n : Node) → IsBelow y.bytes (length y.thunks) (length y.nodes) n → having_pack y.nodes n ≡ has_pack (tree_of y.bytes y.thunks (trees y) n)
  unfolding having_pack tree_of has_pack
  node-told (Node.Cell first rest) b = both (λ x z. not x || z) (alone-is first b.0) (table.each rest b.1).pack_told
  node-told (Node.Reargued t a) b = told-again t a (by_argument_at y.nodes t).head b.0 refl ∙ sym (has_pack_reargued (Some (tree_at (trees y) a)) (tree_at (trees y) t))
  node-told _ b = refl

  -- what is noted of a node holds of the node's tree
  pub noted : (n : Node) → IsFlat y.nodes n → IsSettled (trees y) n → IsBelow y.bytes (length y.thunks) (length y.nodes) n → IsNoted y (noting y.nodes n)
  noted n flat lone b = record {
    below = b;
    packs = node-pack n b;
    free = node-free n b;
    empty = node-empty n b;
    by_argument = node-by-argument n b;
    flat = flat;
    class = node-class n lone b;
    class_below = node-class-below n b;
    arguments = node-ends n b;
    arguments_below = node-ends-below n b;
    untagged = node-untagged n b;
    untagged_below = node-untagged-below n b;
    returns = node-returns n b;
    counted = node-counted n b;
    count_below = node-count-below n b;
    runs = node-runs n b;
    run_below = node-run-below n b;
    pack_told = node-told n b;
  }
