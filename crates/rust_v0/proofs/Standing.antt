-- The nodes of a finished linker denote what the symbol's shape denotes.
use Rattle.rust_v0.proofs.Basics.{◌≡◌, refl, sym, ap, ◌∙◌, subst, inl, inr, ℕ, ◌+◌, ◌*◌, ◌≤◌, List, [], ◌∷◌, length, Option, Some, None, Ok, Err, arith, cond, Result, codes, cases_Bool, FitsSymbol, Refusal, Rule, Kind, Byte, Choice, choice_at, classes_of, in_ranges, Found, ◌>>=◌, found, alone, standing, unfold_tree, unfold_forest, closing_makes, done_untallied, done_counts, IsSymbol, IsTable, trees, symbol_in, RustNodes, Part, Production, production_of, v0_table, takes, each, Value, State, At, Meaning, v0, at_first, at_rule, meaning, symbol_of, unfolded, path_part, other_path_part, suffix_part, Ground, IsPart, v0_view, made_by, nodes_of_shape, v0_counted}
use Rattle.std.specs.Result.{IfOk}
use Rattle.sym_shape.specs.declared.rule.Row.{Row}
use Rattle.sym_shape.specs.Tree.{Tree, Forest, branch, spell, IsTree}
use Rattle.sym_link.specs.Following.{IsShape, IsDone, meaning_of}
use Rattle.sym_link.proofs.Starting.{root_of}
use Rattle.rust_tree.specs.Symbol as tree
use Rattle.rust_tree.specs.Counts.{IsRead}
use Rattle.rust_tree.specs.Layout.{ReadSymbol}
use Rattle.rust_grammar.specs.declared.production.Production.TheVariants as rules
use Rattle.rust_grammar.specs.declared.kind.TheConstants.{PATH, OTHER_PATH, SUFFIX}
use Rattle.rust_grammar.specs.Value as value
use Rattle.rust_grammar.specs.Unfold as defined
use Rattle.rust_v0.specs.Whole.{whole_of}

-- ## The root's rule makes a symbol

abbrev pub IsWhole : Value → Type 0
IsWhole v = (y : tree.Symbol) × (v ≡ value.a_symbol y)

whole_behind : {A : Type 0} (r : Result A Refusal) (k : A → Meaning) → ((a : A) → IfOk (k a) (λ f. IsWhole f.value)) → IfOk (r >>= k) (λ f. IsWhole f.value)
whole_behind (Ok a) k each = each a
whole_behind (Err e) k each = tt

symbol_whole : (at : At) (parts : List Value) → IfOk (meaning rules.Symbol at parts) (λ f. IsWhole f.value)
symbol_whole at parts =
    whole_behind (path_part parts) _ (λ path. whole_behind (other_path_part path.1) _ (λ other. whole_behind (suffix_part other.1) _ (λ suffix. (_, refl))))

one_choice : (c : Choice) (byte : ℕ) (rule : Rule) → choice_at (c ∷ []) byte ≡ Some rule → c.rule ≡ rule
one_choice c byte rule given = elim (cases_Bool (in_ranges (classes_of c) byte)) [
  | inl here ↦ some_same (sym (ap (λ v. cond v (Some c.rule) None) here) ∙ given)
  | inr other ↦ absurd (let e : None ≡ Some rule = sym (ap (λ v. cond v (Some c.rule) None) other) ∙ given in cc)
]
  where
    some_same : {a b : Rule} → Some a ≡ Some b → a ≡ b
    some_same e = cc

root_production : (byte : ℕ) (rule : Rule) → v0_table.rule 0 byte ≡ Some rule → production_of rule.number ≡ Some rules.Symbol
root_production byte rule is =
    ap (λ r. production_of r.number) (sym (one_choice (takes (each (codes "_")) rules.Symbol (Byte 82 ∷ Kind PATH ∷ Kind OTHER_PATH ∷ Kind SUFFIX ∷ [])) byte rule is))

abbrev first_value : List Value → Value
first_value (v ∷ vs) = v
first_value [] = value.unsafe_mark

abbrev first_of : Result (Found (List Value) State) Refusal → Value
first_of (Ok f) = first_value f.value
first_of (Err e) = value.unsafe_mark

closed_whole : (m : Meaning) (v : Value) (state : State) → IfOk m (λ f. IsWhole f.value) → (m >>= alone) ≡ Ok (found (v ∷ []) state) → IsWhole v
closed_whole (Ok f) v state (y, is) same = (y, sym (ap first_of same) ∙ is)
closed_whole (Err e) v state whole same = absurd (let no_ok : Err e ≡ Ok (found (v ∷ []) state) = same in cc)

opened_whole : (r : Result (Found (List Value) State) Refusal) (at : Found (List Value) State → At) (v : Value) (state : State)
    → (r >>= λ f. meaning rules.Symbol (at f) f.value >>= alone) ≡ Ok (found (v ∷ []) state) → IsWhole v
opened_whole (Ok f) at v state same = closed_whole (meaning rules.Symbol (at f) f.value) v state (symbol_whole (at f) f.value) same
opened_whole (Err e) at v state same = absurd (let no_ok : Err e ≡ Ok (found (v ∷ []) state) = same in cc)

-- a symbol's tree means a symbol
whole_is : (s : List ℕ) (shape : Tree) (v : Value) (state : State) → IsTree v0_table (Kind 0) shape → meaning_of (v0_view s) shape ≡ Ok (found (v ∷ []) state) → IsWhole v
whole_is s shape v state is means =
    let root = root_of v0_table shape is refl in
    of_root root.rule root.taken root.inner (root_production root.takes.byte root.rule root.takes.found)
    (ap (λ t. unfold_tree (v0 s) 0 0 t at_first) (sym root.tree_is) ∙ means)
  where
    of_root : (rule : Rule) (taken : List ℕ) (inner : Forest) → production_of rule.number ≡ Some rules.Symbol
        → unfold_tree (v0 s) 0 0 (branch rule taken inner) at_first ≡ Ok (found (v ∷ []) state) → IsWhole v
    of_root rule taken inner is same =
        opened_whole (unfold_forest (v0 s) (standing rule taken 0 0 at_first) [] (0 + length taken) inner at_first)
        (λ f. at_rule s (standing rule taken 0 0 at_first) f.state) v state
        (subst (λ (o : Option Production). (unfold_forest (v0 s) (standing rule taken 0 0 at_first) [] (0 + length taken) inner at_first
        >>= λ f. defined.meaning_of o (at_rule s (standing rule taken 0 0 at_first) f.state) f.value >>= alone) ≡ Ok (found (v ∷ []) state)) is same)

-- ## A finished linker

symbol_part : (g : Ground) (part : Part) (y : tree.Symbol) → IsPart g part (value.a_symbol y) → (node : ℕ) × (part ≡ Part.Symbol node) × IsSymbol g.all node y
symbol_part g (Part.Symbol node) y is = (node, refl, is)
symbol_part g part y is = absurd is

-- the meaning of the whole is the meaning of its symbol
unfolded_is : (s : List ℕ) (shape : Tree) → spell shape ≡ s → unfolded shape ≡ (meaning_of (v0_view s) shape >>= λ whole. symbol_of whole.value)
unfolded_is s shape spelled = ap (λ u. unfold_tree (v0 u) 0 0 shape at_first >>= λ whole. symbol_of whole.value) spelled

-- the one part is the node of a symbol, which the shape denotes
pub record HasWhole (s : List ℕ) (shape : Tree) (linked : RustNodes) (parts : List Part) : Type 0 where
  pub node : ℕ
  pub whole : tree.Symbol
  pub parts_are : parts ≡ Part.Symbol node ∷ []
  pub is_whole : IsSymbol (trees s linked.nodes.nodes) node whole
  pub stands : Ok whole ≡ unfolded shape
  pub table : IsTable s linked.nodes
  pub nodes : length linked.nodes.nodes ≤ 4 * length s + 8
  pub text : length linked.nodes.text ≤ 4 * length s + 20

has_plain : (s : List ℕ) (rows : List Row) (shape : Tree) (linked : RustNodes) (parts : List Part) → IsShape v0_table s rows shape
    → IsDone (v0_view s) s rows (meaning_of (v0_view s) shape) linked parts → HasWhole s shape linked parts
has_plain s rows shape linked parts is done =
    let w = whole_is s shape done.value done.state is.is_tree done.means in
    let p = symbol_part _ done.part w.0 (subst (λ v. IsPart _ done.part v) w.1 done.is_part) in
    record {
      node = p.0;
      whole = w.0;
      parts_are = done.parts_are ∙ ap (λ x. x ∷ []) p.1;
      is_whole = p.2;
      stands = sym (unfolded_is s shape is.spelled ∙ ap (λ m. m >>= λ whole. symbol_of whole.value) (done.means ∙ ap (λ v. Ok (found (v ∷ []) done.state)) w.1));
      table = done.holds.table;
      nodes = omega (arith, done.size, done.paid.begun);
      text = done.paid.text;
    }

pub has_whole : (s : List ℕ) (rows : List Row) (shape : Tree) (linked : RustNodes) (parts : List Part) → IsShape v0_table s rows shape
    → IsDone (v0_counted s) s rows (meaning_of (v0_counted s) shape) linked parts → HasWhole s shape linked parts
has_whole s rows shape linked parts is done = has_plain s rows shape linked parts is (done_untallied (v0_view s) (closing_makes made_by) s rows shape linked parts done)

-- a finished linker has as many nodes as its shape makes
pub counted_nodes : (s : List ℕ) (rows : List Row) (shape : Tree) (linked : RustNodes) (parts : List Part)
    → IsDone (v0_counted s) s rows (meaning_of (v0_counted s) shape) linked parts → length linked.nodes.nodes ≡ nodes_of_shape shape
counted_nodes s rows shape linked parts done = omega (arith, done_counts (v0_view s) made_by s rows shape linked parts done, done.paid.begun)

-- ## The end

node_of : List Part → ℕ
node_of (Part.Symbol node ∷ parts) = node
node_of parts = 0

-- the node of the one part is that of the whole
same_node : (s : List ℕ) (shape : Tree) (linked : RustNodes) (parts : List Part) (w : HasWhole s shape linked parts) (node : ℕ) → parts ≡ Part.Symbol node ∷ [] → node ≡ w.node
unfolding node_of
same_node s shape linked parts w node is = ap node_of (sym is ∙ w.parts_are)

pub reads : (s : List ℕ) (shape : Tree) (linked : RustNodes) (parts : List Part) (w : HasWhole s shape linked parts) (node rows steps : ℕ) → parts ≡ Part.Symbol node ∷ []
    → FitsSymbol s → rows ≤ 4 * length s + 4 → rows ≤ steps → steps ≤ 32 * length s + 48
    → IsRead (record { bytes = s; table = linked.nodes; root = node; rows = rows; steps = steps })
reads s shape linked parts w node rows steps is fits few each all = record {
  table = w.table;
  root = (w.whole, subst (λ n. IsSymbol (trees s linked.nodes.nodes) n w.whole) (sym (same_node s shape linked parts w node is)) w.is_whole);
  fits = fits;
  rows = few;
  nodes = w.nodes;
  text = w.text;
  steps = all;
  counted = each;
}

-- the symbol that was read denotes its shape
pub whole_read : (y : ReadSymbol) (s : List ℕ) (shape : Tree) (linked : RustNodes) (parts : List Part) (w : HasWhole s shape linked parts) (node rows steps : ℕ)
    → y ≡ record { bytes = s; table = linked.nodes; root = node; rows = rows; steps = steps } → parts ≡ Part.Symbol node ∷ [] → Ok (whole_of y) ≡ unfolded shape
whole_read y s shape linked parts w node rows steps is there =
    rw (is, same_node s shape linked parts w node there) (ap (λ o. let okay : tree.Symbol → Result tree.Symbol Refusal = λ t. Ok t in okay (symbol_in o)) w.is_whole ∙ w.stands)
