-- What a lambda denotes, whether it declares parameters or not.
use Rattle.cpp_link.proofs.Basics.{◌≡◌, refl, ap, subst, arith, ℕ, ◌+◌, List, true, false, Option, true≢false, ◌&&◌, if◌then◌else◌, Term, Value, tree_of, is_void, is_nil, parameters, signature_with, reargued, is_declaring, is_again, Node, Thunk, Part, one_if_declared, value_of}
use Rattle.cpp_term.specs.Term as term
use Rattle.cpp_term.specs.Values as values
use Rattle.cpp_tree.specs.Nodes as nodes

-- ## A lambda that declares parameters

pub declaring_means : (first : Value) (key : ℕ) (t heads rest items : Term) (given number : ℕ) → first ≡ values.pair key t heads → rest ≡ items → given ≡ number
    → values.piece (term.lambda (term.declaring heads (parameters (term.list t rest))) given) ≡ values.piece (term.lambda (signature_with first (parameters (term.list (tree_of first) items))) number)
unfolding signature_with tree_of
declaring_means first key t heads rest items given number pair same named = rw (pair, same, named) refl

pub declaring_makes : (first : Value) (key : ℕ) (t heads rest items : Term) → first ≡ values.pair key t heads → rest ≡ items
    → (if is_void t && is_nil rest then 0 else 1) + 1 ≡ (if is_void (tree_of first) && is_nil items then 0 else 1) + one_if_declared first
unfolding tree_of one_if_declared
declaring_makes first key t heads rest items pair same = rw (pair, same) refl

-- ## A lambda that declares no parameters

signature_alone : (s : List ℕ) (ts : List Term) (p : Part) (t : Term) → ((letter left right : ℕ) → p ≡ Part.Pair letter left right → ⊥) → t ≡ signature_with (value_of s ts p) t
unfolding signature_with value_of
signature_alone s ts (Part.Pair letter left right) t other = absurd (other letter left right refl)
signature_alone s ts _ t other = refl

none_declared : (s : List ℕ) (ts : List Term) (p : Part) → ((letter left right : ℕ) → p ≡ Part.Pair letter left right → ⊥) → one_if_declared (value_of s ts p) ≡ 0
unfolding one_if_declared value_of
none_declared s ts (Part.Pair letter left right) other = absurd (other letter left right refl)
none_declared s ts _ other = refl

pub undeclared_means : (s : List ℕ) (ts : List Term) (p : Part) (first : Value) (t rest items : Term) (given number : ℕ) → ((letter left right : ℕ) → p ≡ Part.Pair letter left right → ⊥)
    → value_of s ts p ≡ first → t ≡ tree_of first → rest ≡ items → given ≡ number
    → values.piece (term.lambda (parameters (term.list t rest)) given) ≡ values.piece (term.lambda (signature_with first (parameters (term.list (tree_of first) items))) number)
undeclared_means s ts p first t rest items given number other is same others named =
    let alone : (u : Term) → u ≡ signature_with first u = λ u. subst (λ v. u ≡ signature_with v u) is (signature_alone s ts p u other) in
    rw (same, others, named) (ap (λ u. values.piece (term.lambda u number)) (alone (parameters (term.list (tree_of first) items))))

pub undeclared_makes : (s : List ℕ) (ts : List Term) (p : Part) (first : Value) (t rest items : Term) → ((letter left right : ℕ) → p ≡ Part.Pair letter left right → ⊥)
    → value_of s ts p ≡ first → t ≡ tree_of first → rest ≡ items
    → (if is_void t && is_nil rest then 0 else 1) ≡ (if is_void (tree_of first) && is_nil items then 0 else 1) + one_if_declared first
undeclared_makes s ts p first t rest items other is same others =
    omega (arith, none_declared s ts p other, ap one_if_declared is, ap {B = ℕ} (λ u. if is_void u && is_nil rest then 0 else 1) same, ap {B = ℕ} (λ u. if is_void (tree_of first) && is_nil u then 0 else 1) others)

-- ## A signature that declares parameters

pub signature_declares : (s : List ℕ) (us : List Thunk) (ts : List Term) (given : Option Term) (node : Node) (heads types : ℕ) → node ≡ Node.Declaring heads types → is_declaring (reargued given (nodes.tree_of s us ts node)) ≡ true
unfolding is_declaring nodes.tree_of reargued
signature_declares s us ts given node heads types is = rw is refl

pub signature_declares_none : (s : List ℕ) (us : List Thunk) (ts : List Term) (given : Option Term) (node : Node) → is_again node ≡ false → ((heads types : ℕ) → node ≡ Node.Declaring heads types → ⊥)
    → is_declaring (reargued given (nodes.tree_of s us ts node)) ≡ false
unfolding is_declaring nodes.tree_of reargued is_again
signature_declares_none s us ts given (Node.Reargued t a) own other = absurd (true≢false own)
signature_declares_none s us ts given (Node.Declaring heads types) own other = absurd (other heads types refl)
signature_declares_none s us ts given Node.Absent own other = refl
signature_declares_none s us ts given _ own other = refl
