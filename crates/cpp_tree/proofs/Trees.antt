-- What nodes say of their trees.
use Rattle.cpp_tree.proofs.Basics.{◌≡◌, refl, sym, ◌∙◌, ap, subst, arith, ℕ, zero, suc, ◌-◌, ◌+◌, ◌<◌, ◌≤◌, List, [], ◌∷◌, length, Bool, true, not, ◌&&◌, Option, Some, None, without_tags, element, is_list, is_alone, is_open, length_if_pack, pack_length, indexed, plain_class, element_head, head_of_class, Node, Head, HeadClass, Placed, Entry, reargued, if_alone, given_for, given_alone, Free, true≢false, false, length_reargued, reargued_none, reargued_twice, reargued_closed, list_reargued, alone_reargued, element_reargued, untagged_reargued, erase_reargued, class_by, empty_by, packs_by, argument_packs, place_of, resolved_at, shape_at, is_argument_node, erase, NodeView, Qualifiers, Mark, FUNCTION, fields, fields_of, qualifiers_number, mark_number, AreBelow, plain_tree, seen_of, seen_fields, no_text, both, Table, tree_at, tree_of, trees, entry_at, IsBelow, IsAliasBelow, IsFlat, IsSettled, free_is, tree_if_there, under_kept, qualifiers_of, mark_of, tree_under, is_again, IsClassBelow, IsPlacedThere, head_of, class_is, untagged_is, IsTable}
use Rattle.cpp_term.specs.Term.{Term, absent, nil, list, pack}
use Rattle.cpp_grammar.specs.Items as heads
use Rattle.cpp_term.specs.Items as items
use Rattle.cpp_tree.specs.declared.node.Thunk.{Thunk}
use Rattle.cpp_tree.proofs.Noting.{class-later, again-pack, again-empty, alone-shape}

-- a node's tree is its production over the trees of its parts, which are earlier nodes
pub node_is : (y : Table) (i : ℕ) (n : Node) → IsTable y → i < length y.nodes → (entry_at y.nodes i).node ≡ n
    → (tree_at (trees y) i ≡ tree_of y.bytes y.thunks (trees y) n) × IsBelow y.bytes (length y.thunks) i n
node_is y i n table less is =
    let e = table.each i less in
    (e.built ∙ ap (λ n. tree_of y.bytes y.thunks (trees y) n) is, subst (λ n. IsBelow y.bytes (length y.thunks) i n) is e.below)

pub cell_is : (y : Table) (i first rest : ℕ) → IsTable y → i < length y.nodes → (entry_at y.nodes i).node ≡ Node.Cell first rest
    → (tree_at (trees y) i ≡ list (tree_at (trees y) first) (tree_at (trees y) rest)) × (first < i) × (rest < i)
unfolding tree_of
cell_is y i first rest table less is =
    let n = node_is y i (Node.Cell first rest) table less is in
    (n.0, n.1.0, n.1.1)

no_element : (s : List ℕ) (us : List Thunk) (ts : List Term) (n : Node) (k : ℕ) → is_again n ≡ false → ((first rest : ℕ) → n ≡ Node.Cell first rest → ⊥) → element (tree_of s us ts n) k ≡ absent
unfolding tree_of element is_again
no_element s us ts (Node.Cell first rest) k flat other = absurd (other first rest refl)
no_element s us ts (Node.Reargued t a) k flat other = absurd (true≢false flat)
no_element s us ts _ k flat other = refl

pub element_none : (y : Table) (i k : ℕ) → IsTable y → i < length y.nodes → is_again (entry_at y.nodes i).node ≡ false → ((first rest : ℕ) → (entry_at y.nodes i).node ≡ Node.Cell first rest → ⊥) → element (tree_at (trees y) i) k ≡ absent
element_none y i k table less flat other = ap (λ t. element t k) (table.each i less).built ∙ no_element y.bytes y.thunks (trees y) (entry_at y.nodes i).node k flat other

pub element_first : (t first rest : Term) → t ≡ list first rest → first ≡ element t 0
unfolding element
element_first t first rest is = rw is refl

pub element_next : (t first rest : Term) (k : ℕ) → t ≡ list first rest → element t (suc k) ≡ element rest k
unfolding element
element_next t first rest k is = rw is refl

-- within a run, a list's elements from place k on are those of the cell that is k nodes before the list's own
pub run_is : (y : Table) (i k n : ℕ) → IsTable y → i < length y.nodes → k ≤ (entry_at y.nodes i).run → element (tree_at (trees y) i) (k + n) ≡ element (tree_at (trees y) (i - k)) n
run_is y i zero n table less most = ap (λ m. element (tree_at (trees y) i) m) (let e : 0 + n ≡ n = omega arith in e) ∙ ap (λ m. element (tree_at (trees y) m) n) (let e : i ≡ i - 0 = omega arith in e)
run_is y i (suc k) n table less most = (table.each i less).runs k n (omega (arith, most))

-- an element in a run is the first one of its cell
pub run_at : (y : Table) (i k run : ℕ) → IsTable y → i < length y.nodes → (entry_at y.nodes i).run ≡ run → k ≤ run → element (tree_at (trees y) i) k ≡ element (tree_at (trees y) (i - k)) 0
run_at y i k run table less is most = ap (λ m. element (tree_at (trees y) i) m) (let e : k ≡ k + 0 = omega arith in e) ∙ run_is y i k 0 table less (omega (arith, is, most))

-- ## Elements of lists under an argument

abbrev under_tree : Table → Option ℕ → Term → Term
under_tree y u t = reargued (tree_if_there (trees y) u) t

pub placed_element : (y : Table) (p : Placed) (k : ℕ) → element (tree_under (trees y) p) k ≡ under_tree y p.under (element (tree_at (trees y) p.node) k)
unfolding tree_under
placed_element y p k = element_reargued (tree_if_there (trees y) p.under) (tree_at (trees y) p.node) k

-- the first element of a list under an argument, and those after it
pub cell_first : (y : Table) (p : Placed) (first rest : ℕ) → IsTable y → p.node < length y.nodes → (entry_at y.nodes p.node).node ≡ Node.Cell first rest
    → tree_under (trees y) (record { node = first; under = p.under }) ≡ element (tree_under (trees y) p) 0
unfolding tree_under
cell_first y p first rest table less is =
    ap (under_tree y p.under) (element_first (tree_at (trees y) p.node) (tree_at (trees y) first) (tree_at (trees y) rest) (cell_is y p.node first rest table less is).0) ∙ sym (placed_element y p 0)

pub cell_next : (y : Table) (p : Placed) (first rest k : ℕ) → IsTable y → p.node < length y.nodes → (entry_at y.nodes p.node).node ≡ Node.Cell first rest
    → element (tree_under (trees y) (record { node = rest; under = p.under })) k ≡ element (tree_under (trees y) p) (suc k)
cell_next y p first rest k table less is =
    placed_element y (record { node = rest; under = p.under }) k
    ∙ ap (under_tree y p.under) (sym (element_next (tree_at (trees y) p.node) (tree_at (trees y) first) (tree_at (trees y) rest) k (cell_is y p.node first rest table less is).0))
    ∙ sym (placed_element y p (suc k))

pub cell_none : (y : Table) (p : Placed) (k : ℕ) → IsTable y → p.node < length y.nodes → is_again (entry_at y.nodes p.node).node ≡ false → ((first rest : ℕ) → (entry_at y.nodes p.node).node ≡ Node.Cell first rest → ⊥)
    → element (tree_under (trees y) p) k ≡ absent
unfolding reargued
cell_none y p k table less flat other = placed_element y p k ∙ ap (under_tree y p.under) (element_none y p.node k table less flat other)

-- an element in a run is the first one of its cell
pub placed_run : (y : Table) (i k run : ℕ) (u : Option ℕ) → IsTable y → i < length y.nodes → (entry_at y.nodes i).run ≡ run → k ≤ run
    → element (tree_under (trees y) (record { node = i - k; under = u })) 0 ≡ element (tree_under (trees y) (record { node = i; under = u })) k
placed_run y i k run u table less is most =
    placed_element y (record { node = i - k; under = u }) 0 ∙ ap (under_tree y u) (sym (run_at y i k run table less is most)) ∙ sym (placed_element y (record { node = i; under = u }) k)

-- an element after the end of a run is an element of the run's last cell
placed_behind : (y : Table) (i k run : ℕ) (u : Option ℕ) → IsTable y → i < length y.nodes → (entry_at y.nodes i).run ≡ run → run < k
    → element (tree_under (trees y) (record { node = i - run; under = u })) (suc (k - (run + 1))) ≡ element (tree_under (trees y) (record { node = i; under = u })) k
placed_behind y i k run u table less is more =
    placed_element y (record { node = i - run; under = u }) (suc (k - (run + 1)))
    ∙ ap (under_tree y u) (sym (run_is y i run (suc (k - (run + 1))) table less (omega (arith, is))))
    ∙ ap (λ m. under_tree y u (element (tree_at (trees y) i) m)) (let e : run + suc (k - (run + 1)) ≡ k = omega (arith, more) in e)
    ∙ sym (placed_element y (record { node = i; under = u }) k)

-- the list continues with the last cell's rest
pub run_next : (y : Table) (i k run first rest : ℕ) (u : Option ℕ) (s : Placed) → IsTable y → i < length y.nodes → (entry_at y.nodes i).run ≡ run → run < k
    → tree_under (trees y) s ≡ tree_under (trees y) (record { node = i - run; under = u }) → s.node < length y.nodes → (entry_at y.nodes s.node).node ≡ Node.Cell first rest
    → element (tree_under (trees y) (record { node = rest; under = s.under })) (k - (run + 1)) ≡ element (tree_under (trees y) (record { node = i; under = u })) k
run_next y i k run first rest u s table less is more same inside cell =
    cell_next y s first rest (k - (run + 1)) table inside cell ∙ ap (λ t. element t (suc (k - (run + 1)))) same ∙ placed_behind y i k run u table less is more

pub run_ends : (y : Table) (i k run : ℕ) (u : Option ℕ) (s : Placed) → IsTable y → i < length y.nodes → (entry_at y.nodes i).run ≡ run → run < k
    → tree_under (trees y) s ≡ tree_under (trees y) (record { node = i - run; under = u }) → s.node < length y.nodes → is_again (entry_at y.nodes s.node).node ≡ false → ((first rest : ℕ) → (entry_at y.nodes s.node).node ≡ Node.Cell first rest → ⊥)
    → element (tree_under (trees y) (record { node = i; under = u })) k ≡ absent
run_ends y i k run u s table less is more same inside flat other =
    sym (placed_behind y i k run u table less is more) ∙ ap (λ t. element t (suc (k - (run + 1)))) (sym same) ∙ cell_none y s (suc (k - (run + 1))) table inside flat other

-- ## Trees under an argument

pub placed-alone : (ts : List Term) (i : ℕ) → tree_under ts (record { node = i; under = None }) ≡ tree_at ts i
unfolding tree_under tree_if_there
placed-alone ts i = reargued_none (tree_at ts i)

pub placed-none : (ts : List Term) (p : Placed) → p.under ≡ None → tree_under ts p ≡ tree_at ts p.node
unfolding tree_under tree_if_there
placed-none ts p is = ap (λ u. reargued (tree_if_there ts u) (tree_at ts p.node)) is ∙ reargued_none (tree_at ts p.node)

pub placed-some : (ts : List Term) (p : Placed) (a : ℕ) → p.under ≡ Some a → tree_under ts p ≡ reargued (Some (tree_at ts a)) (tree_at ts p.node)
unfolding tree_under tree_if_there
placed-some ts p a is = ap (λ u. reargued (tree_if_there ts u) (tree_at ts p.node)) is

-- the outer of two arguments counts
pub over-some : (ts : List Term) (a : ℕ) (inner : Placed) (t : Term) → tree_under ts inner ≡ t → tree_under ts (record { node = inner.node; under = Some a }) ≡ reargued (Some (tree_at ts a)) t
unfolding tree_under tree_if_there
over-some ts a inner t is = sym (reargued_twice (tree_if_there ts inner.under) (tree_at ts a) (tree_at ts inner.node)) ∙ ap (reargued (Some (tree_at ts a))) is

pub there-below : (n : ℕ) (u : Option ℕ) (a : ℕ) → u ≡ Some a → IsAliasBelow n u → a < n
there-below n u a is b = subst (λ x. IsAliasBelow n x) is b

pub untagged-over : (a t : Term) → reargued (Some a) (without_tags t) ≡ without_tags (reargued (Some a) t)
untagged-over a t = sym (untagged_reargued (Some a) t)

pub flat-tree : (s : List ℕ) (us : List Thunk) (ts : List Term) (t a : ℕ) (n : Node) (inner : Placed) → n ≡ Node.Reargued t a → tree_under ts inner ≡ tree_at ts t
    → tree_of s us ts (Node.Reargued inner.node a) ≡ tree_of s us ts n
unfolding tree_of tree_under tree_if_there
flat-tree s us ts t a n inner is same = rw is (over-some ts a inner (tree_at ts t) same)

pub flat-other : (es : List Entry) (n : Node) → ((t a : ℕ) → n ≡ Node.Reargued t a → ⊥) → IsFlat es n
flat-other es (Node.Reargued t a) other = absurd (other t a refl)
flat-other es _ other = tt

pub settled-other : (ts : List Term) (n : Node) → ((t a : ℕ) → n ≡ Node.Reargued t a → ⊥) → IsSettled ts n
settled-other ts (Node.Reargued t a) other = absurd (other t a refl)
settled-other ts _ other = tt

pub again-below : (s : List ℕ) (held n t a : ℕ) (node : Node) → node ≡ Node.Reargued t a → IsBelow s held n node → (t < n) × (a < n)
again-below s held n t a node is b = subst (λ x. IsBelow s held n x) is b

-- ## Trees without arguments

pub erased_place : (y : Table) (p : Placed) (t : Term) → tree_under (trees y) p ≡ t → erase (tree_at (trees y) p.node) ≡ erase t
unfolding tree_under
erased_place y p t is = sym (erase_reargued (tree_if_there (trees y) p.under) (tree_at (trees y) p.node)) ∙ ap erase is

pub erased_again : (y : Table) (t a : ℕ) (n : Node) → n ≡ Node.Reargued t a → erase (tree_of y.bytes y.thunks (trees y) n) ≡ erase (tree_at (trees y) t)
unfolding tree_of
erased_again y t a n is = ap (λ x. erase (tree_of y.bytes y.thunks (trees y) x)) is ∙ erase_reargued (Some (tree_at (trees y) a)) (tree_at (trees y) t)

-- a function's fields don't depend on the argument that its types are under
pub function_fields : (y : Table) (name returned parameters under : ℕ) (q : Qualifiers) (m : Mark)
    → seen_fields y (seen_of FUNCTION (qualifiers_number (qualifiers_of q) ∷ mark_number (mark_of m) ∷ []) (no_text ∷ no_text ∷ []) 3 (name ∷ returned ∷ parameters ∷ []))
    ≡ fields_of (erase (tree_of y.bytes y.thunks (trees y) (Node.Function name q m returned parameters under)))
unfolding fields_of erase tree_of
function_fields y name returned parameters under q m =
    let u = tree_if_there (trees y) (under_kept under) in
    both (λ r p. fields FUNCTION (qualifiers_number (qualifiers_of q)) (mark_number (mark_of m)) [] (plain_tree y name ∷ r ∷ p ∷ []))
    (sym (erase_reargued u (tree_at (trees y) returned))) (sym (erase_reargued u (tree_at (trees y) parameters)))

pub not_again : (n : Node) → ((t a : ℕ) → n ≡ Node.Reargued t a → ⊥) → is_again n ≡ false
unfolding is_again
not_again (Node.Reargued t a) other = absurd (other t a refl)
not_again _ other = refl

pub place_most : (y : Table) (i : ℕ) (p : Placed) → IsTable y → i < length y.nodes → p ≡ resolved_at y.nodes i → p.node ≤ i
unfolding place_of
place_most y i p table less is = rw is (go (entry_at y.nodes i).node (table.each i less).below)
  where
    go : (n : Node) → IsBelow y.bytes (length y.thunks) i n → (place_of i n).node ≤ i
    go (Node.Reargued t a) b = omega (arith, b.0)
    go _ b = omega arith

pub later_parts : (m n : ℕ) (seen : NodeView) → m ≤ n → AreBelow m seen → AreBelow n seen
later_parts m n seen most all = λ k d less. omega (arith, all k d less, most)

-- ## What is given

no_list_node : (s : List ℕ) (us : List Thunk) (ts : List Term) (n : Node) → is_again n ≡ false → ((first rest : ℕ) → n ≡ Node.Cell first rest → ⊥) → is_list (tree_of s us ts n) ≡ false
unfolding tree_of is_list is_again
no_list_node s us ts (Node.Cell first rest) flat other = absurd (other first rest refl)
no_list_node s us ts (Node.Reargued t a) flat other = absurd (true≢false flat)
no_list_node s us ts _ flat other = refl

placed-list : (y : Table) (p : Placed) (t : Term) → tree_under (trees y) p ≡ t → is_list t ≡ is_list (tree_at (trees y) p.node)
unfolding tree_under
placed-list y p t is = ap is_list (sym is) ∙ list_reargued (tree_if_there (trees y) p.under) (tree_at (trees y) p.node)

pub is_cell_list : (y : Table) (p : Placed) (t : Term) (first rest : ℕ) → IsTable y → p.node < length y.nodes → tree_under (trees y) p ≡ t → (entry_at y.nodes p.node).node ≡ Node.Cell first rest → true ≡ is_list t
unfolding is_list
is_cell_list y p t first rest table less is cell = sym (placed-list y p t is ∙ ap is_list (cell_is y p.node first rest table less cell).0)

pub is_no_list : (y : Table) (p : Placed) (t : Term) → IsTable y → p.node < length y.nodes → tree_under (trees y) p ≡ t → is_again (entry_at y.nodes p.node).node ≡ false
    → ((first rest : ℕ) → (entry_at y.nodes p.node).node ≡ Node.Cell first rest → ⊥) → false ≡ is_list t
is_no_list y p t table less is flat other =
    sym (placed-list y p t is ∙ ap is_list (table.each p.node less).built ∙ no_list_node y.bytes y.thunks (trees y) (entry_at y.nodes p.node).node flat other)

-- an element, by whether it is an argument proper
chosen-by : (t : Term) (b : Bool) → is_alone t ≡ b → if_alone t ≡ elim b as (λ _. Term) [ true ↦ t | false ↦ absent ]
unfolding if_alone
chosen-by t b is = ap (λ x. elim x as (λ _. Term) [ true ↦ t | false ↦ absent ]) is

alone-by : (y : Table) (p : Placed) (argued opened : Bool) → IsTable y → p.node < length y.nodes → is_argument_node (shape_at y.nodes p.node) ≡ argued → is_open (tree_at (trees y) p.node) ≡ opened
    → is_alone (tree_under (trees y) p) ≡ (argued && not opened)
unfolding tree_under
alone-by y p argued opened table less is-argued is-opened =
    alone_reargued (tree_if_there (trees y) p.under) (tree_at (trees y) p.node) ∙ sym (alone-shape y table p.node less) ∙ both (λ a b. a && not b) is-argued is-opened

pub given_open : (y : Table) (p : Placed) → IsTable y → p.node < length y.nodes → is_open (tree_at (trees y) p.node) ≡ true → tree_at (trees y) 0 ≡ if_alone (tree_under (trees y) p)
given_open y p table less opened =
    table.no_tree ∙ sym (chosen-by (tree_under (trees y) p) false (alone-by y p (is_argument_node (shape_at y.nodes p.node)) true table less refl opened ∙ never (is_argument_node (shape_at y.nodes p.node))))
  where
    never : (b : Bool) → (b && false) ≡ false
    never true = refl
    never false = refl

pub given_pack : (y : Table) (p : Placed) → IsTable y → p.node < length y.nodes → is_argument_node (shape_at y.nodes p.node) ≡ false → tree_at (trees y) 0 ≡ if_alone (tree_under (trees y) p)
given_pack y p table less argued =
    table.no_tree ∙ sym (chosen-by (tree_under (trees y) p) false (alone-by y p false (is_open (tree_at (trees y) p.node)) table less argued refl))

pub given_alone_node : (y : Table) (p : Placed) → IsTable y → p.node < length y.nodes → is_argument_node (shape_at y.nodes p.node) ≡ true → is_open (tree_at (trees y) p.node) ≡ false
    → tree_at (trees y) p.node ≡ if_alone (tree_under (trees y) p)
unfolding tree_under
given_alone_node y p table less argued opened =
    sym (chosen-by (tree_under (trees y) p) true (alone-by y p true false table less argued opened) ∙ reargued_closed (tree_if_there (trees y) p.under) (tree_at (trees y) p.node) opened)

-- a parameter is given its element of an argument that is a list
pub given_listed : (a : Term) (k : ℕ) → is_list a ≡ true → given_for a k ≡ if_alone (element a k)
unfolding given_for is_list
given_listed (list first rest) k is = refl
given_listed _ k is = absurd (true≢false (sym is))

-- the argument itself is given, unless exactly one parameter is free
pub given_other : (a : Term) (f : Free) → ((k : ℕ) → f ≡ Free.One k → ⊥) → a ≡ given_alone a (free_is f)
unfolding given_alone free_is
given_other a Free.None other = refl
given_other a (Free.One k) other = absurd (other k refl)
given_other a (Free.Several m) other = refl

pub given_one : (a : Term) (f : Free) (k : ℕ) → f ≡ Free.One k → given_for a k ≡ given_alone a (free_is f)
unfolding given_alone free_is
given_one a f k is = ap (λ x. given_alone a (free_is x)) (sym is)

-- ## Tags

-- the name that is noted is the one without tags
pub untagged_at : (y : Table) (i : ℕ) (o : Option Placed) → IsTable y → i < length y.nodes → (entry_at y.nodes i).untagged ≡ o
    → (untagged_is (trees y) (tree_at (trees y) i) o ≡ without_tags (tree_at (trees y) i)) × IsPlacedThere i o
untagged_at y i o table less is =
    let e = table.each i less in
    (ap (λ x. untagged_is (trees y) (tree_at (trees y) i) x) (sym is) ∙ e.untagged, subst (λ x. IsPlacedThere i x) is e.untagged_below)

-- ## Packs

indexed_is : (c : Option Term) (i : ℕ) (t elements : Term) → t ≡ pack elements → indexed (Some i) (reargued c t) ≡ element (reargued c elements) i
unfolding indexed reargued
indexed_is c i t elements is = rw is refl

pub indexed_pack : (y : Table) (p : Placed) (i elements : ℕ) → IsTable y → p.node < length y.nodes → (entry_at y.nodes p.node).node ≡ Node.Pack elements
    → element (tree_under (trees y) (record { node = elements; under = p.under })) i ≡ indexed (Some i) (tree_under (trees y) p)
unfolding tree_of tree_under
indexed_pack y p i elements table less is =
    sym (indexed_is (tree_if_there (trees y) p.under) i (tree_at (trees y) p.node) (tree_at (trees y) elements) (node_is y p.node (Node.Pack elements) table less is).0)

pub pack_below : (y : Table) (i elements : ℕ) → IsTable y → i < length y.nodes → (entry_at y.nodes i).node ≡ Node.Pack elements → elements < i
pack_below y i elements table less is = (node_is y i (Node.Pack elements) table less is).1

no_pack : (s : List ℕ) (us : List Thunk) (ts : List Term) (c : Option Term) (n : Node) (index : Option ℕ) → is_again n ≡ false → ((elements : ℕ) → n ≡ Node.Pack elements → ⊥) → indexed index (reargued c (tree_of s us ts n)) ≡ reargued c (tree_of s us ts n)
unfolding tree_of indexed reargued is_again
no_pack s us ts c (Node.Pack t) index flat other = absurd (other t refl)
no_pack s us ts c (Node.Reargued t a) index flat other = absurd (true≢false flat)
no_pack s us ts c _ None flat other = refl
no_pack s us ts c _ (Some i) flat other = refl

pub indexed_none : (t : Term) → indexed None t ≡ t
unfolding indexed
indexed_none t = refl

pub indexed_other : (y : Table) (p : Placed) (index : Option ℕ) → IsTable y → p.node < length y.nodes → is_again (entry_at y.nodes p.node).node ≡ false → ((elements : ℕ) → (entry_at y.nodes p.node).node ≡ Node.Pack elements → ⊥)
    → indexed index (tree_under (trees y) p) ≡ tree_under (trees y) p
unfolding tree_under
indexed_other y p index table less flat other =
    let e = table.each p.node less in
    let c = tree_if_there (trees y) p.under in
    ap (λ t. indexed index (reargued c t)) e.built ∙ no_pack y.bytes y.thunks (trees y) c (entry_at y.nodes p.node).node index flat other ∙ ap (reargued c) (sym e.built)

-- ## Heads

pub class_at : (y : Table) (i : ℕ) (c : HeadClass) → IsTable y → i < length y.nodes → (entry_at y.nodes i).class ≡ c → (class_is (trees y) c ≡ items.class_of (tree_at (trees y) i)) × IsClassBelow (length y.nodes) c
class_at y i c table less is =
    let e = table.each i less in
    (ap (λ x. class_is (trees y) x) (sym is) ∙ e.class, class-later y table i (length y.nodes) c less (subst (λ x. IsClassBelow i x) is e.class_below))

pub same-class : (made : HeadClass) (held e : Entry) (given class : HeadClass) → made ≡ class_by held.by_argument.head held.class given → held ≡ e → given ≡ class → made ≡ class_by e.by_argument.head e.class class
same-class made held e given class is at there = is ∙ ap (λ x. class_by x.by_argument.head x.class given) at ∙ ap (λ h. class_by e.by_argument.head e.class h) there

pub same-below : (n : ℕ) (c d : HeadClass) → c ≡ d → IsClassBelow n d → IsClassBelow n c
same-below n c d is b = subst (λ x. IsClassBelow n x) (sym is) b

pub of-class : (ts : List Term) (c d : HeadClass) (x : items.HeadClass) → c ≡ d → class_is ts c ≡ x → class_is ts d ≡ x
of-class ts c d x is at = ap (λ h. class_is ts h) (sym is) ∙ at

pub known_plain : (ts : List Term) (h : Head) → head_of h ≡ plain_class (class_is ts (HeadClass.Known h))
unfolding plain_class class_is
known_plain ts h = refl

pub element_plain : (ts : List Term) (n : Placed) → head_of Head.Plain ≡ plain_class (class_is ts (HeadClass.OfElement n))
unfolding plain_class class_is head_of
element_plain ts n = refl

pub collapsed_plain : (ts : List Term) (n : Placed) → head_of Head.Rvalue ≡ plain_class (class_is ts (HeadClass.CollapsedOfElement n))
unfolding plain_class class_is head_of
collapsed_plain ts n = refl

pub known_head : (ts : List Term) (index : Option ℕ) (h : Head) → head_of h ≡ head_of_class index (class_is ts (HeadClass.Known h))
unfolding head_of_class class_is
known_head ts index h = refl

pub of_element_head : (ts : List Term) (index : Option ℕ) (n : Placed) → element_head index (tree_under ts n) ≡ head_of_class index (class_is ts (HeadClass.OfElement n))
unfolding head_of_class class_is
of_element_head ts index n = refl

pub collapsed_head : (ts : List Term) (index : Option ℕ) (n : Placed) → heads.collapsed (element_head index (tree_under ts n)) ≡ head_of_class index (class_is ts (HeadClass.CollapsedOfElement n))
unfolding head_of_class class_is
collapsed_head ts index n = refl

pub some_element : (i : ℕ) (t e : Term) → e ≡ element t i → plain_class (items.class_of e) ≡ element_head (Some i) t
unfolding element_head
some_element i t e is = ap (λ x. plain_class (items.class_of x)) is

pub none_element : (t : Term) → head_of Head.Plain ≡ element_head None t
unfolding element_head head_of
none_element t = refl

-- ## Lists

other_node : (s : List ℕ) (us : List Thunk) (ts : List Term) (c : Option Term) (n : Node) → is_again n ≡ false → (n ≡ Node.Nil → ⊥) → reargued c (tree_of s us ts n) ≡ nil → ⊥
unfolding tree_of reargued is_again
other_node s us ts c Node.Nil flat other e = other refl
other_node s us ts c (Node.Reargued t a) flat other e = true≢false flat
other_node s us ts c _ flat other e = cc e

-- whether a tree prints nothing doesn't depend on the index
empty_closed : (c : items.Context) (t : Term) → items.is_empty items.closed t ≡ items.is_empty c t
unfolding items.is_empty items.packs_of
empty_closed c (pack elements) = empty_closed c elements
empty_closed c (list e rest) = rw (empty_closed c e, empty_closed c rest) refl
empty_closed c _ = refl

pub empty_in : (y : Table) (p : Placed) (held : Entry) (c : items.Context) → IsTable y → p.node < length y.nodes → held ≡ entry_at y.nodes p.node → p.under ≡ None → held.is_empty ≡ items.is_empty c (tree_under (trees y) p)
empty_in y p held c table less at none = ap (λ e. e.is_empty) at ∙ (table.each p.node less).empty ∙ empty_closed c (tree_at (trees y) p.node) ∙ ap (items.is_empty c) (sym (placed-none (trees y) p none))

pub empty_again : (y : Table) (p : Placed) (held : Entry) (a : ℕ) (given : Option ℕ) (none result : Bool) (c : items.Context) → IsTable y → p.node < length y.nodes → a < length y.nodes → held ≡ entry_at y.nodes p.node → p.under ≡ Some a
    → given ≡ argument_packs y.nodes (shape_at y.nodes a) → none ≡ heads.is_none_of given → result ≡ empty_by none held.by_argument → result ≡ items.is_empty c (tree_under (trees y) p)
empty_again y p held a given none result c table less few at under given-is none-is is =
    is ∙ ap (λ b. empty_by b held.by_argument) (none-is ∙ ap heads.is_none_of given-is) ∙ ap (λ e. empty_by (heads.is_none_of (argument_packs y.nodes (shape_at y.nodes a))) e.by_argument) at
    ∙ again-empty y table p.node a less few ∙ empty_closed c _ ∙ ap (items.is_empty c) (sym (placed-some (trees y) p a under))

pub packs_in : (y : Table) (p : Placed) (held : Entry) → IsTable y → p.node < length y.nodes → held ≡ entry_at y.nodes p.node → p.under ≡ None → held.packs ≡ pack_length (tree_under (trees y) p)
packs_in y p held table less at none = ap (λ e. e.packs) at ∙ (table.each p.node less).packs ∙ ap pack_length (sym (placed-none (trees y) p none))

pub packs_again : (y : Table) (p : Placed) (held : Entry) (a : ℕ) (given result : Option ℕ) → IsTable y → p.node < length y.nodes → a < length y.nodes → held ≡ entry_at y.nodes p.node → p.under ≡ Some a
    → given ≡ argument_packs y.nodes (shape_at y.nodes a) → result ≡ packs_by held.by_argument.is_bare given → result ≡ pack_length (tree_under (trees y) p)
packs_again y p held a given result table less few at under given-is is =
    is ∙ ap (packs_by held.by_argument.is_bare) given-is ∙ ap (λ e. packs_by e.by_argument.is_bare (argument_packs y.nodes (shape_at y.nodes a))) at
    ∙ again-pack y table p.node a less few ∙ ap pack_length (sym (placed-some (trees y) p a under))

-- ## Packs

-- a tree that is a pack has as many elements under an argument as without it
pub pack_length_is : (y : Table) (p : Placed) (elements many : ℕ) → IsTable y → p.node < length y.nodes → (entry_at y.nodes p.node).node ≡ Node.Pack elements → many ≡ (entry_at y.nodes elements).count
    → Some many ≡ length_if_pack (tree_under (trees y) p)
unfolding tree_under tree_of length_if_pack
pack_length_is y p elements many table less is counted =
    let n = node_is y p.node (Node.Pack elements) table less is in
    ap Some (counted ∙ (table.each elements (omega (arith, less, n.1))).counted)
    ∙ sym (length_reargued (tree_if_there (trees y) p.under) (tree_at (trees y) p.node) ∙ ap length_if_pack n.0)

no_length : (s : List ℕ) (us : List Thunk) (ts : List Term) (n : Node) → is_again n ≡ false → ((elements : ℕ) → n ≡ Node.Pack elements → ⊥) → length_if_pack (tree_of s us ts n) ≡ None
unfolding tree_of length_if_pack is_again
no_length s us ts (Node.Pack elements) flat other = absurd (other elements refl)
no_length s us ts (Node.Reargued t a) flat other = absurd (true≢false flat)
no_length s us ts _ flat other = refl

pub no_pack_length : (y : Table) (p : Placed) → IsTable y → p.node < length y.nodes → is_again (entry_at y.nodes p.node).node ≡ false → ((elements : ℕ) → (entry_at y.nodes p.node).node ≡ Node.Pack elements → ⊥)
    → length_if_pack (tree_under (trees y) p) ≡ None
unfolding tree_under
no_pack_length y p table less flat other =
    length_reargued (tree_if_there (trees y) p.under) (tree_at (trees y) p.node)
    ∙ ap length_if_pack (table.each p.node less).built ∙ no_length y.bytes y.thunks (trees y) (entry_at y.nodes p.node).node flat other
