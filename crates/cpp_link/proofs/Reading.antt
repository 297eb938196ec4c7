-- What is read from nodes.
use Rattle.cpp_link.proofs.Basics.{◌≡◌, refl, sym, ◌∙◌, ap, ℕ, zero, suc, List, [], ◌∷◌, map, get_or, slice_get, Bool, true, false, ◌&&◌, Option, Some, None, IfSome, Production, productions, production_at, Term, absent, has_return_type, is_structor, is_void, is_nil, parameters, encoding_of, is_instance, counted_held, fits, Value, tree_of, qualifiers_of, ref_of, tree_at, tree_if_there, is_again, IsBelow, IsAliasBelow, reargued, both, true≢false, Node, Piece, Thunk, void_node, nil_node, instance_node, held_node, node_fits, cell_under, parameters_by, encoding_by, IsSplitThere}
use Rattle.cpp_grammar.specs.Term.{Qualifiers, RefQualifier}
use Rattle.cpp_term.specs.Term as term
use Rattle.cpp_tree.specs.Nodes as nodes
use Rattle.cpp_link.specs.declared.signatures.Split.{Split}
use Rattle.cpp_term.proofs.Reargued.{reargued_none}
use Rattle.cpp_tree.specs.Notes.{is_structor_node, is_structor_piece}

-- ## Productions by their numbers

got : {X : Type 0} (xs : List X) (k : ℕ) (d : X) → get_or xs k d ≡ elim (slice_get xs k) [ Some p ↦ p | None ↦ d ]
got [] k d = refl
got (x ∷ xs) zero d = refl
got (x ∷ xs) (suc k) d = got xs k d

pub production_got : (k : ℕ) → get_or productions k Production.Mark ≡ production_at k
unfolding production_at
production_got k = got productions k Production.Mark

-- what is listed of each production, by number
pub count_got : {X : Type 0} (f : Production → X) (k : ℕ) → get_or (map f productions) k (f Production.Mark) ≡ f (production_at k)
unfolding production_at
count_got f k = go productions k
  where
    go : (ps : List Production) (k : ℕ) → get_or (map f ps) k (f Production.Mark) ≡ f (elim (slice_get ps k) [ Some p ↦ p | None ↦ Production.Mark ])
    go [] k = refl
    go (p ∷ ps) zero = refl
    go (p ∷ ps) (suc k) = go ps k

-- ## Lists

-- a node that isn't an alias says whether its tree is the type void, whichever argument its parts are under
pub void_is : (s : List ℕ) (us : List Thunk) (ts : List Term) (given : Option Term) (node : Node) → is_again node ≡ false → is_void (reargued given (nodes.tree_of s us ts node)) ≡ void_node node
unfolding is_void nodes.tree_of void_node reargued is_again
void_is s us ts given (Node.Reargued t a) own = absurd (true≢false own)
void_is s us ts given Node.Absent own = refl
void_is s us ts given _ own = refl

pub nil_is : (s : List ℕ) (us : List Thunk) (ts : List Term) (given : Option Term) (node : Node) → is_again node ≡ false → is_nil (reargued given (nodes.tree_of s us ts node)) ≡ nil_node node
unfolding is_nil nodes.tree_of nil_node reargued is_again
nil_is s us ts given (Node.Reargued t a) own = absurd (true≢false own)
nil_is s us ts given Node.Absent own = refl
nil_is s us ts given _ own = refl

void_again : (given : Option Term) (t : Term) → is_void (reargued given t) ≡ is_void t
unfolding is_void reargued
void_again given term.absent = refl
void_again given _ = refl

nil_again : (given : Option Term) (t : Term) → is_nil (reargued given t) ≡ is_nil t
unfolding is_nil reargued
nil_again given term.absent = refl
nil_again given _ = refl

-- the parameters of a list that is re-read are the list's parameters, re-read under the same argument
parameters_again : (given : Option Term) (t : Term) → parameters (reargued given t) ≡ reargued given (parameters t)
unfolding parameters reargued
parameters_again given (term.list first rest) =
    both (λ a b. elim (a && b) as (λ _. Term) [ true ↦ term.nil | false ↦ term.list (reargued given first) (reargued given rest) ]) (void_again given first) (nil_again given rest) ∙ by (is_void first && is_nil rest)
  where
    by : (b : Bool) → elim b as (λ _. Term) [ true ↦ term.nil | false ↦ term.list (reargued given first) (reargued given rest) ] ≡ reargued given (elim b [ true ↦ term.nil | false ↦ term.list first rest ])
    by true = refl
    by false = refl
parameters_again given term.absent = refl
parameters_again given _ = refl

pub parameters_are : (s : List ℕ) (us : List Thunk) (ts : List Term) (node : Node) (under : Option ℕ) (t : Term) → is_again node ≡ false → t ≡ reargued (tree_if_there ts under) (nodes.tree_of s us ts node) → parameters t ≡ parameters_by ts (cell_under node under) t
unfolding parameters nodes.tree_of cell_under parameters_by reargued is_again
parameters_are s us ts (Node.Reargued x a) under t own is = absurd (true≢false own)
parameters_are s us ts (Node.Cell first rest) under t own is =
    rw is (both (λ a b. elim (a && b) as (λ _. Term) [ true ↦ term.nil | false ↦ term.list (reargued (tree_if_there ts under) (tree_at ts first)) (reargued (tree_if_there ts under) (tree_at ts rest)) ])
    (void_again (tree_if_there ts under) (tree_at ts first)) (nil_again (tree_if_there ts under) (tree_at ts rest)))
parameters_are s us ts _ under t own is = rw is refl

pub encoding_is : (s : List ℕ) (us : List Thunk) (ts : List Term) (node : Node) (under : Option ℕ) (name : Value) (t : Term) → is_again node ≡ false → t ≡ reargued (tree_if_there ts under) (nodes.tree_of s us ts node) → encoding_of name t ≡ encoding_by ts name (cell_under node under) t
unfolding encoding_of nodes.tree_of cell_under encoding_by reargued is_again
encoding_is s us ts (Node.Reargued x a) under name t own is = absurd (true≢false own)
encoding_is s us ts (Node.Cell first rest) under name t own is =
    rw is (ap (λ x. elim (has_return_type (tree_of name)) as (λ _. Term) [
      | true ↦ term.function (tree_of name) (qualifiers_of name) (ref_of name) (reargued (tree_if_there ts under) (tree_at ts first)) x
      | false ↦ term.function (tree_of name) (qualifiers_of name) (ref_of name) absent (parameters (term.list (reargued (tree_if_there ts under) (tree_at ts first)) (reargued (tree_if_there ts under) (tree_at ts rest))))
    ]) (parameters_again (tree_if_there ts under) (tree_at ts rest)))
encoding_is s us ts _ under name t own is = rw is refl

pub no_cell : (node : Node) (under : Option ℕ) → ((first rest : ℕ) → node ≡ Node.Cell first rest → ⊥) → None ≡ cell_under node under
unfolding cell_under
no_cell (Node.Cell first rest) under other = absurd (other first rest refl)
no_cell _ under other = refl

pub split_there : (s : List ℕ) (held n : ℕ) (node : Node) (under : Option ℕ) → IsBelow s held n node → IsAliasBelow n under → IfSome (cell_under node under) (IsSplitThere n)
unfolding cell_under
split_there s held n (Node.Cell first rest) under below there = (below.0, (below.1, there))
split_there s held n _ under below there = tt

pub instance_is : (s : List ℕ) (us : List Thunk) (ts : List Term) (given : Option Term) (node : Node) → is_again node ≡ false → is_instance (reargued given (nodes.tree_of s us ts node)) ≡ instance_node node
unfolding is_instance nodes.tree_of instance_node reargued is_again
instance_is s us ts given (Node.Reargued t a) own = absurd (true≢false own)
instance_is s us ts given Node.Absent own = refl
instance_is s us ts given _ own = refl

pub held_node_is : (s : List ℕ) (us : List Thunk) (ts : List Term) (given : Option Term) (node : Node) → is_again node ≡ false → counted_held (reargued given (nodes.tree_of s us ts node)) ≡ held_node node
unfolding counted_held nodes.tree_of held_node reargued is_again
held_node_is s us ts given (Node.Reargued t a) own = absurd (true≢false own)
held_node_is s us ts given Node.Absent own = refl
held_node_is s us ts given _ own = refl

pub fits_is : (p q : Bool) (s : List ℕ) (us : List Thunk) (ts : List Term) (given : Option Term) (node : Node) → is_again node ≡ false → fits p q (reargued given (nodes.tree_of s us ts node)) ≡ node_fits node p q
unfolding fits nodes.tree_of node_fits reargued is_again
fits_is p q s us ts given (Node.Reargued t a) own = absurd (true≢false own)
fits_is p q s us ts given Node.Absent own = refl
fits_is p q s us ts given _ own = refl

structor_piece : (s : List ℕ) (ts : List Term) (given : Option Term) (t : Term) (p : Piece) → is_structor (term.within t (reargued given (nodes.piece_of s ts p))) ≡ is_structor_piece p
unfolding is_structor nodes.piece_of is_structor_piece reargued
structor_piece s ts given t (Piece.Constructor digit) = refl
structor_piece s ts given t (Piece.Destructor digit) = refl
structor_piece s ts given t _ = refl

pub structor_is : (s : List ℕ) (us : List Thunk) (ts : List Term) (given : Option Term) (node : Node) → is_again node ≡ false → is_structor (reargued given (nodes.tree_of s us ts node)) ≡ is_structor_node node
unfolding is_structor nodes.tree_of is_structor_node reargued is_again
structor_is s us ts given (Node.Reargued t a) own = absurd (true≢false own)
structor_is s us ts given (Node.Within prefix p) own = structor_piece s ts given (reargued given (tree_at ts prefix)) p
structor_is s us ts given _ own = refl

-- ## Encodings

pub made_object : (ts : List Term) (v : Value) (items x : Term) (q : Qualifiers) (m : RefQualifier) → x ≡ tree_of v → q ≡ qualifiers_of v → m ≡ ref_of v
    → encoding_of v items ≡ encoding_by ts v None items → term.object x q m ≡ encoding_of v items
unfolding encoding_by
made_object ts v items x q m tree marks mark enc = rw (tree, marks, mark) (sym enc)

pub made_function : (ts : List Term) (v : Value) (items x z : Term) (q : Qualifiers) (m : RefQualifier) (l : Split) (word : ℕ) → x ≡ tree_of v → q ≡ qualifiers_of v → m ≡ ref_of v
    → encoding_of v items ≡ encoding_by ts v (Some l) items → has_return_type (tree_of v) ≡ true → z ≡ parameters (tree_at ts l.rest) → nodes.under_kept word ≡ l.under
    → term.function x q m (reargued (tree_if_there ts (nodes.under_kept word)) (tree_at ts l.first)) (reargued (tree_if_there ts (nodes.under_kept word)) z) ≡ encoding_of v items
unfolding encoding_by
made_function ts v items x z q m l word tree marks mark enc returns rest under =
    rw (tree, marks, mark, rest, under) (sym (enc ∙ ap (λ b. elim b as (λ _. Term) [
      | true ↦ term.function (tree_of v) (qualifiers_of v) (ref_of v) (reargued (tree_if_there ts l.under) (tree_at ts l.first)) (reargued (tree_if_there ts l.under) (parameters (tree_at ts l.rest)))
      | false ↦ term.function (tree_of v) (qualifiers_of v) (ref_of v) absent (parameters items)
    ]) returns))

pub made_procedure : (ts : List Term) (v : Value) (items x z w : Term) (q : Qualifiers) (m : RefQualifier) (l : Split) (word : ℕ) → x ≡ tree_of v → q ≡ qualifiers_of v → m ≡ ref_of v
    → encoding_of v items ≡ encoding_by ts v (Some l) items → has_return_type (tree_of v) ≡ false → z ≡ parameters items → w ≡ absent → nodes.under_kept word ≡ None
    → term.function x q m (reargued (tree_if_there ts (nodes.under_kept word)) w) (reargued (tree_if_there ts (nodes.under_kept word)) z) ≡ encoding_of v items
unfolding encoding_by tree_if_there
made_procedure ts v items x z w q m l word tree marks mark enc returns rest none under =
    rw (tree, marks, mark, rest, none, under) (both (λ a b. term.function (tree_of v) (qualifiers_of v) (ref_of v) a b) (reargued_none absent) (reargued_none (parameters items))
    ∙ sym (enc ∙ ap (λ b. elim b as (λ _. Term) [
      | true ↦ term.function (tree_of v) (qualifiers_of v) (ref_of v) (reargued (tree_if_there ts l.under) (tree_at ts l.first)) (reargued (tree_if_there ts l.under) (parameters (tree_at ts l.rest)))
      | false ↦ term.function (tree_of v) (qualifiers_of v) (ref_of v) absent (parameters items)
    ]) returns))
