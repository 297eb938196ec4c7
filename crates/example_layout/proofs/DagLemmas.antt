-- Each node of a linked table denotes the tree over its parts' trees.
use Rattle.std.proofs.Common.{◌≡◌, ℕ, zero, suc, ◌+◌, ◌<◌, Bool, true, false, List, [], ◌∷◌, ◌++◌, length, get_or, refl, sym, ap, ◌∙◌, arith, length-append, take, subst, ap₂}
use Rattle.std.proofs.lemmas.List.{get_or_append_left}
use Rattle.std.specs.List.{All}
use Rattle.std.proofs.lemmas.List.Elements.{All-same, All-cons, All-nil}
use Rattle.std.proofs.Math.Seq.{get_or-append_seam}
use Rattle.example_layout.specs.declared.Node.{Node}
use Rattle.example_layout.specs.declared.Node.TheVariants.{Leaf, Pair}
use Rattle.sym_print.specs.declared.layout.Item.{Item}
use Rattle.sym_print.specs.declared.layout.Part.{Part}
use Rattle.sym_print.specs.declared.layout.Part.TheVariants.{Sub, Fixed, Own}
use Rattle.sym_print.specs.Joined.{joined}
use Rattle.sym_print.specs.Unfold.{RanksBelow, AreParts, printed}
use Rattle.sym_print.proofs.Unfolding.{prints_the_same}
use Rattle.example_layout.specs.Dag.{Tree, leaf, pair, at, tree_of, trees_onto, trees_of, doubled, IsBelow, IsLinked, Seen, seen, parts_of, rank, item_of, bytes_of, mark_of, MayCome}

-- the trees of earlier nodes stay the same in a longer table
onto-front : (before : List Tree) (nodes : List Node) (k : ℕ) → k < length before → at (trees_onto before nodes) k ≡ at before k
onto-front before [] k h = refl
onto-front before (node ∷ rest) k h =
    onto-front (before ++ tree_of before node ∷ []) rest k (omega (arith, length-append before (tree_of before node ∷ [])))
    ∙ get_or_append_left before (tree_of before node ∷ []) (leaf 0) k h

-- a node's tree is the same over a longer table
tree_of-onto : (before : List Tree) (nodes : List Node) (node : Node) → IsBelow (length before) node → tree_of before node ≡ tree_of (trees_onto before nodes) node
tree_of-onto before nodes (Leaf byte) below = refl
tree_of-onto before nodes (Pair left right) below =
    ap (λ t. pair t (at before right)) (sym (onto-front before nodes left below.0))
    ∙ ap (pair (at (trees_onto before nodes) left)) (sym (onto-front before nodes right below.1))

below-same : (i j : ℕ) (node : Node) → i ≡ j → IsBelow i node → IsBelow j node
below-same i j (Leaf byte) e below = tt
below-same i j (Pair left right) e below = (omega (arith, below.0), omega (arith, below.1))

linked-same : (i j : ℕ) (nodes : List Node) → i ≡ j → IsLinked i nodes → IsLinked j nodes
linked-same i j [] e linked = tt
linked-same i j (node ∷ rest) e linked = (below-same i j node e linked.0, linked-same (i + 1) (j + 1) rest (omega arith) linked.1)

onto-at : (before : List Tree) (nodes : List Node) (k : ℕ) (d : Node) → IsLinked (length before) nodes → k < length nodes
    → at (trees_onto before nodes) (length before + k) ≡ tree_of (trees_onto before nodes) (get_or nodes k d)
onto-at before [] k d linked h = absurd (omega arith)
onto-at before (node ∷ rest) zero d linked h =
    let more = before ++ tree_of before node ∷ [] in
    let one : length more ≡ length before + 1 = length-append before (tree_of before node ∷ []) in
    let here : length before + 0 ≡ length before = omega arith in
    ap (at (trees_onto more rest)) here
    ∙ onto-front more rest (length before) (omega (arith, one))
    ∙ get_or-append_seam before (tree_of before node) [] (leaf 0)
    ∙ tree_of-onto before (node ∷ rest) node linked.0
onto-at before (node ∷ rest) (suc k) d linked h =
    let more = before ++ tree_of before node ∷ [] in
    let one : length more ≡ length before + 1 = length-append before (tree_of before node ∷ []) in
    let here : length before + suc k ≡ length more + k = omega (arith, one) in
    ap (at (trees_onto more rest)) here
    ∙ onto-at more rest k d (linked-same (length before + 1) (length more) rest (sym one) linked.1) (omega arith)

-- each node denotes the tree over its parts' trees
pub tree-at : (nodes : List Node) (k : ℕ) (d : Node) → IsLinked 0 nodes → k < length nodes → at (trees_of nodes) k ≡ tree_of (trees_of nodes) (get_or nodes k d)
tree-at nodes k d linked h = let here : k ≡ 0 + k = omega arith in ap (at (trees_of nodes)) here ∙ onto-at [] nodes k d linked h

linked-below : (i : ℕ) (nodes : List Node) (k : ℕ) (d : Node) → IsLinked i nodes → k < length nodes → IsBelow (i + k) (get_or nodes k d)
linked-below i [] k d linked h = absurd (omega arith)
linked-below i (node ∷ rest) zero d linked h = below-same i (i + 0) node (omega arith) linked.0
linked-below i (node ∷ rest) (suc k) d linked h = below-same (i + 1 + k) (i + suc k) (get_or rest k d) (omega arith) (linked-below (i + 1) rest k d linked.1 (omega arith))

-- each node's parts precede it
pub below-at : (nodes : List Node) (k : ℕ) (d : Node) → IsLinked 0 nodes → k < length nodes → IsBelow k (get_or nodes k d)
below-at nodes k d linked h = below-same (0 + k) k (get_or nodes k d) (omega arith) (linked-below 0 nodes k d linked h)

-- a part is smaller than its tree
pub rank-falls : (i : Seen) → RanksBelow rank (rank i) (parts_of i)
rank-falls (seen (leaf byte) side) = tt
rank-falls (seen (pair left right) side) = (omega arith, (omega arith, tt))

-- the code's parts of a leaf, and those of a pair, print what the unshared item prints
module _ (nodes : List Node) (i : Item Bool) (d : Node) (linked : IsLinked 0 nodes) (here : i.node < length nodes) (parts : List (Part Bool)) where
  prints : (tree : Tree) → at (trees_of nodes) i.node ≡ tree → AreParts (item_of nodes) bytes_of parts (parts_of (seen tree i.ctx))
      → printed parts_of rank (item_of nodes i) ≡ joined (λ j. printed parts_of rank (item_of nodes j)) bytes_of parts
  prints tree e same =
      prints_the_same parts_of rank rank-falls (item_of nodes) bytes_of i parts
      (subst (λ t. AreParts (item_of nodes) bytes_of parts (parts_of (seen t i.ctx))) (sym e) same)

  pub leaf-prints : (byte : ℕ) (own : List ℕ) → get_or nodes i.node d ≡ Leaf byte → take 1 own ≡ byte ∷ [] → parts ≡ Own own 1 ∷ []
      → printed parts_of rank (item_of nodes i) ≡ joined (λ j. printed parts_of rank (item_of nodes j)) bytes_of parts
  leaf-prints byte own is one e =
      prints (leaf byte) (tree-at nodes i.node d linked here ∙ ap (tree_of (trees_of nodes)) is)
      (subst (λ ps. AreParts (item_of nodes) bytes_of ps (parts_of (seen (leaf byte) i.ctx))) (sym e) (one, tt))

  pub pair-prints : (left right mark : ℕ) (l r : Item Bool) → get_or nodes i.node d ≡ Pair left right → l.node ≡ left → l.ctx ≡ false → r.node ≡ right → r.ctx ≡ true
      → bytes_of (Fixed mark) ≡ mark_of i.ctx → parts ≡ Sub l ∷ Fixed mark ∷ Sub r ∷ []
      → printed parts_of rank (item_of nodes i) ≡ joined (λ j. printed parts_of rank (item_of nodes j)) bytes_of parts
  pair-prints left right mark l r is ln lc rn rc marked e =
      prints (pair (at (trees_of nodes) left) (at (trees_of nodes) right)) (tree-at nodes i.node d linked here ∙ ap (tree_of (trees_of nodes)) is)
      (subst (λ ps. AreParts (item_of nodes) bytes_of ps (parts_of (seen (pair (at (trees_of nodes) left) (at (trees_of nodes) right)) i.ctx))) (sym e)
      (ap₂ (λ n c. seen (at (trees_of nodes) n) c) ln lc, (marked, (ap₂ (λ n c. seen (at (trees_of nodes) n) c) rn rc, tt))))

-- a list after one push, and after three pushes
pub one-pushed : {X : Type 0} {a : X} (p q : List X) → p ≡ [] → q ≡ p ++ a ∷ [] → q ≡ a ∷ []
one-pushed {a = a} p q e f = f ∙ ap (λ (ps : List _). ps ++ a ∷ []) e

pub three-pushed : {X : Type 0} {a b c : X} (p q r s : List X) → p ≡ [] → q ≡ p ++ a ∷ [] → r ≡ q ++ b ∷ [] → s ≡ r ++ c ∷ [] → s ≡ a ∷ b ∷ c ∷ []
three-pushed {b = b} {c = c} p q r s e f g h =
    h ∙ ap (λ (ps : List _). ps ++ c ∷ []) (g ∙ ap (λ (ps : List _). ps ++ b ∷ []) (one-pushed p q e f))

pub mark-right : (n : ℕ) (side : Bool) → side ≡ true → n ≡ 1 → (bytes_of (Fixed n) ≡ mark_of side) × (n < 2)
mark-right n side p q = (ap (λ k. bytes_of (Fixed k)) q ∙ ap mark_of (sym p), omega arith)

pub mark-left : (n : ℕ) (side : Bool) → side ≡ false → n ≡ 0 → (bytes_of (Fixed n) ≡ mark_of side) × (n < 2)
mark-left n side p q = (ap (λ k. bytes_of (Fixed k)) q ∙ ap mark_of (sym p), omega arith)

-- a linked table stays linked with one more node, if the parts of this node are earlier
linked-push : (i : ℕ) (nodes : List Node) (node : Node) → IsLinked i nodes → IsBelow (i + length nodes) node → IsLinked i (nodes ++ node ∷ [])
linked-push i [] node linked below = (below-same (i + 0) i node (omega arith) below, tt)
linked-push i (first ∷ rest) node linked below =
    (linked.0, linked-push (i + 1) rest node linked.1 (below-same (i + suc (length rest)) (i + 1 + length rest) node (omega arith) below))

pub doubled-length : (levels : ℕ) → length (doubled levels) ≡ levels + 1
doubled-length zero = refl
doubled-length (suc below) = omega (arith, length-append (doubled below) (Pair below below ∷ []), doubled-length below)

pub doubled-linked : (levels : ℕ) → IsLinked 0 (doubled levels)
doubled-linked zero = (tt, tt)
doubled-linked (suc below) =
    linked-push 0 (doubled below) (Pair below below) (doubled-linked below) (omega (arith, doubled-length below), omega (arith, doubled-length below))

pub pair-may_come : (nodes : List Node) (i : ℕ) (d : Node) (left right mark : ℕ) (l r : Item Bool) (parts : List (Part Bool)) → IsLinked 0 nodes → i < length nodes
    → get_or nodes i d ≡ Pair left right → l.node ≡ left → r.node ≡ right → mark < 2 → parts ≡ Sub l ∷ Fixed mark ∷ Sub r ∷ []
    → All (λ part. IsLinked 0 nodes × MayCome nodes part) parts
pair-may_come nodes i d left right mark l r parts linked here is ln rn small e =
    let P : Part Bool → Type 0 = λ part. IsLinked 0 nodes × MayCome nodes part in
    let below : IsBelow i (Pair left right) = subst (IsBelow i) is (below-at nodes i d linked here) in
    let first : left < i = below.0 in
    let second : right < i = below.1 in
    All-same P parts (Sub l ∷ Fixed mark ∷ Sub r ∷ []) e
    (All-cons P (Sub l) (Fixed mark ∷ Sub r ∷ []) (linked, omega arith)
    (All-cons P (Fixed mark) (Sub r ∷ []) (linked, small)
    (All-cons P (Sub r) [] (linked, omega arith) (All-nil P))))
