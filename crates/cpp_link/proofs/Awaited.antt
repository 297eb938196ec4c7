-- The heads of types, and which types are awaited, read from nodes.
use Rattle.cpp_link.proofs.Basics.{◌≡◌, refl, sym, ◌∙◌, ap, ℕ, zero, suc, List, [], Bool, true, false, Option, Ok, true≢false, Production, by_all, nothing_awaited, Counting, is_by_all, Term, reargued, head_of_name, head_of, first_head, rest_of, heads_of, types_in, awaited_by_piece, awaited_by, awaiting, counted_so_far, noting, State, Around, Value, behind, Stored, tree_at, is_again, Node, Piece, Thunk, Candidates, Linked, Part, counting_of, IsCounted, state_of, trees_in, candidates_of, MakesPart, counted_of, both, piece_head, node_head, nth_head}
use Rattle.cpp_grammar.specs.Values as plain
use Rattle.cpp_term.specs.Term as term
use Rattle.cpp_tree.specs.Nodes as nodes
use Rattle.cpp_link.proofs.Listed.{so_far_same}
use Rattle.cpp_link.proofs.Viewing.{same_state}

-- ## Heads

piece_head_is : (s : List ℕ) (ts : List Term) (given : Option Term) (p : Piece) → head_of_name (reargued given (nodes.piece_of s ts p)) ≡ piece_head p
unfolding head_of_name nodes.piece_of piece_head reargued
piece_head_is s ts given (Piece.Lambda parameters number) = refl
piece_head_is s ts given (Piece.GenericLambda parameters number) = refl
piece_head_is s ts given _ = refl

pub head_is : (s : List ℕ) (us : List Thunk) (ts : List Term) (given : Option Term) (node : Node) → is_again node ≡ false → head_of (reargued given (nodes.tree_of s us ts node)) ≡ node_head node
unfolding head_of nodes.tree_of node_head reargued is_again
head_is s us ts given (Node.Reargued t a) own = absurd (true≢false own)
head_is s us ts given Node.Absent own = refl
head_is s us ts given (Node.Alone p) own = piece_head_is s ts given p
head_is s us ts given (Node.InStd p) own = piece_head_is s ts given p
head_is s us ts given (Node.Within prefix p) own = piece_head_is s ts given p
head_is s us ts given _ own = refl

name_again : (given : Option Term) (t : Term) → head_of_name (reargued given t) ≡ head_of_name t
unfolding head_of_name reargued
name_again given (term.lambda parameters number) = refl
name_again given (term.generic_lambda parameters number) = refl
name_again given _ = refl

head_again : (given : Option Term) (t : Term) → head_of (reargued given t) ≡ head_of t
unfolding head_of reargued
head_again given (term.alone p) = name_again given p
head_again given (term.in_std p) = name_again given p
head_again given (term.within prefix p) = name_again given p
head_again given _ = refl

first_again : (given : Option Term) (t : Term) → first_head (reargued given t) ≡ first_head t
unfolding first_head reargued
first_again given (term.list t rest) = head_again given t
first_again given _ = refl

rest_again : (given : Option Term) (t : Term) → rest_of (reargued given t) ≡ reargued given (rest_of t)
unfolding rest_of reargued
rest_again given (term.list t rest) = refl
rest_again given _ = refl

pub nth_again : (k : ℕ) (given : Option Term) (t : Term) → nth_head k (reargued given t) ≡ nth_head k t
unfolding nth_head
nth_again zero given t = first_again given t
nth_again (suc k) given t = ap (nth_head k) (rest_again given t) ∙ nth_again k given (rest_of t)

-- ## Lists of types

module _ (s : List ℕ) (us : List Thunk) (ts : List Term) (given : Option Term) where
  pub cell_head : (node : Node) (t : Term) (first rest : ℕ) → t ≡ reargued given (nodes.tree_of s us ts node) → node ≡ Node.Cell first rest → head_of (tree_at ts first) ≡ first_head t
  unfolding first_head nodes.tree_of reargued
  cell_head node t first rest tree is = rw (tree, is) (sym (head_again given (tree_at ts first)))

  pub cell_rest : (node : Node) (t : Term) (first rest k : ℕ) → t ≡ reargued given (nodes.tree_of s us ts node) → node ≡ Node.Cell first rest → nth_head k (tree_at ts rest) ≡ nth_head (suc k) t
  unfolding nth_head rest_of nodes.tree_of reargued
  cell_rest node t first rest k tree is = rw (tree, is) (sym (nth_again k given (tree_at ts rest)))

  no_first : (node : Node) → is_again node ≡ false → ((first rest : ℕ) → node ≡ Node.Cell first rest → ⊥) → first_head (reargued given (nodes.tree_of s us ts node)) ≡ 0
  unfolding first_head nodes.tree_of reargued is_again
  no_first (Node.Reargued t a) own other = absurd (true≢false own)
  no_first (Node.Cell first rest) own other = absurd (other first rest refl)
  no_first Node.Absent own other = refl
  no_first _ own other = refl

  none_behind : (node : Node) → is_again node ≡ false → ((first rest : ℕ) → node ≡ Node.Cell first rest → ⊥) → rest_of (reargued given (nodes.tree_of s us ts node)) ≡ term.nil
  unfolding rest_of nodes.tree_of reargued is_again
  none_behind (Node.Reargued t a) own other = absurd (true≢false own)
  none_behind (Node.Cell first rest) own other = absurd (other first rest refl)
  none_behind Node.Absent own other = refl
  none_behind _ own other = refl

  pub no_head : (node : Node) (t : Term) → t ≡ reargued given (nodes.tree_of s us ts node) → is_again node ≡ false → ((first rest : ℕ) → node ≡ Node.Cell first rest → ⊥) → 0 ≡ first_head t
  no_head node t tree own other = sym (ap first_head tree ∙ no_first node own other)

  pub no_rest : (node : Node) (t : Term) (k : ℕ) → t ≡ reargued given (nodes.tree_of s us ts node) → is_again node ≡ false → ((first rest : ℕ) → node ≡ Node.Cell first rest → ⊥) → (u : Term) → u ≡ term.nil → nth_head k u ≡ nth_head (suc k) t
  unfolding nth_head
  no_rest node t k tree own other u empty = ap (nth_head k) (empty ∙ sym (ap rest_of tree ∙ none_behind node own other))

  pub declared_types : (node : Node) (t : Term) (heads types k : ℕ) → t ≡ reargued given (nodes.tree_of s us ts node) → node ≡ Node.Declaring heads types → nth_head k (tree_at ts types) ≡ nth_head k (types_in t)
  unfolding types_in nodes.tree_of reargued
  declared_types node t heads types k tree is = rw (tree, is) (sym (nth_again k given (tree_at ts types)))

  none_declared : (node : Node) → is_again node ≡ false → ((heads types : ℕ) → node ≡ Node.Declaring heads types → ⊥) → types_in (reargued given (nodes.tree_of s us ts node)) ≡ reargued given (nodes.tree_of s us ts node)
  unfolding types_in nodes.tree_of reargued is_again
  none_declared (Node.Reargued t a) own other = absurd (true≢false own)
  none_declared (Node.Declaring heads types) own other = absurd (other heads types refl)
  none_declared Node.Absent own other = refl
  none_declared _ own other = refl

  pub own_types : (node : Node) (t : Term) (k : ℕ) → t ≡ reargued given (nodes.tree_of s us ts node) → is_again node ≡ false → ((heads types : ℕ) → node ≡ Node.Declaring heads types → ⊥) → nth_head k t ≡ nth_head k (types_in t)
  own_types node t k tree own other = ap (nth_head k) (tree ∙ sym (ap types_in tree ∙ none_declared node own other))

-- ## What is awaited

same_heads : (place a b c d x y z w : ℕ) → a ≡ x → b ≡ y → c ≡ z → d ≡ w →
    ◌≡◌ {A = plain.Awaited} (record { encoding = place; is_called = false; first = a; second = b; third = c; fourth = d }) (record { encoding = place; is_called = false; first = x; second = y; third = z; fourth = w })
same_heads place a b c d x y z w e f g h = rw (e, f, g, h) refl

-- what is awaited, given the heads of the first four types
pub heads_are : (place a b c d : ℕ) (types : Term) → a ≡ nth_head 0 types → b ≡ nth_head 1 types → c ≡ nth_head 2 types → d ≡ nth_head 3 types →
    ◌≡◌ {A = plain.Awaited} (record { encoding = place; is_called = false; first = a; second = b; third = c; fourth = d }) (heads_of place types)
unfolding heads_of nth_head
heads_are place a b c d types e f g h = same_heads place a b c d _ _ _ _ e f g h

pub heads_alike : (place : ℕ) (t u : Term) → ((k : ℕ) → nth_head k t ≡ nth_head k u) → heads_of place t ≡ heads_of place u
unfolding heads_of nth_head
heads_alike place t u same = same_heads place _ _ _ _ _ _ _ _ (same 0) (same 1) (same 2) (same 3)

piece_again : (place : ℕ) (given : Option Term) (t : Term) → awaited_by_piece place (reargued given t) ≡ awaited_by_piece place t
unfolding awaited_by_piece reargued
piece_again place given (term.lambda signature number) = heads_alike place (reargued given signature) signature (λ k. nth_again k given signature)
piece_again place given (term.generic_lambda signature number) = refl
piece_again place given _ = refl

module _ (place : ℕ) (s : List ℕ) (us : List Thunk) (ts : List Term) (given : Option Term) where
  pub awaited_within : (node : Node) (t : Term) (prefix : ℕ) (p : Piece) → t ≡ reargued given (nodes.tree_of s us ts node) → node ≡ Node.Within prefix p → awaited_by_piece place (nodes.piece_of s ts p) ≡ awaited_by place t
  unfolding awaited_by nodes.tree_of reargued
  awaited_within node t prefix p tree is = rw (tree, is) (sym (piece_again place given (nodes.piece_of s ts p)))

  none_awaited : (node : Node) → is_again node ≡ false → ((prefix : ℕ) (p : Piece) → node ≡ Node.Within prefix p → ⊥) → awaited_by place (reargued given (nodes.tree_of s us ts node)) ≡ nothing_awaited
  unfolding awaited_by nodes.tree_of reargued is_again
  none_awaited (Node.Reargued t a) own other = absurd (true≢false own)
  none_awaited (Node.Within prefix p) own other = absurd (other prefix p refl)
  none_awaited Node.Absent own other = refl
  none_awaited _ own other = refl

  pub nothing_awaited_by : (node : Node) (t : Term) → t ≡ reargued given (nodes.tree_of s us ts node) → is_again node ≡ false → ((prefix : ℕ) (p : Piece) → node ≡ Node.Within prefix p → ⊥) → nothing_awaited ≡ awaited_by place t
  nothing_awaited_by node t tree own other = sym (ap (awaited_by place) tree ∙ none_awaited node own other)

-- ## Where the rule closes

pub nothing_after : (byte : ℕ) (around : Around) (began : State) (vs : List Value) (state : State) → behind Production.Holder byte around began vs state ≡ state
unfolding behind
nothing_after byte around began vs state = refl

-- a part stays made when only the counting of candidates changes
pub made_counted : (s : List ℕ) (old mid new : Linked) (most count : ℕ) (part : Part) → new.nodes ≡ mid.nodes → new.candidates ≡ mid.candidates → MakesPart s old mid most count (Ok part) → MakesPart s old new most count (Ok part)
made_counted s old mid new most count part ns cs made = record {
  there = rw ns made.there;
  grows = record { least = rw ns made.grows.least; stays = rw ns made.grows.stays };
  few = rw ns made.few;
  makes = rw ns made.makes;
  paid = record { begun = rw ns made.paid.begun; thunks = rw ns made.paid.thunks };
  whole = record { table = rw ns made.whole.table; there = rw (ns, cs) made.whole.there };
  keeps = record { nodes = rw ns made.keeps.nodes; thunks = rw ns made.keeps.thunks; candidates = rw cs made.keeps.candidates };
  full = tt;
}

module _ (s : List ℕ) (mid new : Linked) where
  -- the candidates' `by` says which compilers count them
  counted_is : IsCounted mid.candidates → counted_so_far by_all (state_of s mid).candidates ≡ counted_of mid.candidates.by
  counted_is counted = so_far_same (trees_in s mid.nodes) [] by_all mid.candidates.list.items ∙ sym counted.by

  -- the types of the lambda that this name denotes are awaited
  pub awaits : (around : Around) (name : Term) (state : State) → state ≡ state_of s mid → new.nodes ≡ mid.nodes → new.candidates ≡ mid.candidates → new.packs ≡ mid.packs → IsCounted mid.candidates
      → (a : plain.Awaited) → a ≡ awaited_by around.encoding name
      → counting_of new.counting ≡ elim (is_by_all (counted_of mid.candidates.by)) [ true ↦ counting_of mid.counting | false ↦ record (counting_of mid.counting) { awaited = a } ]
      → noting (awaiting around name state.counting) state ≡ state_of s new
  unfolding noting awaiting
  awaits around name state is ns cs packs counted a awaited counting =
      ap (λ x. noting (awaiting around name x.counting) x) is
      ∙ ap (λ b. elim b as (λ _. State) [ true ↦ state_of s mid | false ↦ record (state_of s mid) { counting = record (counting_of mid.counting) { awaited = awaited_by around.encoding name } } ]) (ap is_by_all (counted_is counted))
      ∙ ap (λ w. elim (is_by_all (counted_of mid.candidates.by)) as (λ _. State) [ true ↦ state_of s mid | false ↦ record (state_of s mid) { counting = record (counting_of mid.counting) { awaited = w } } ]) (sym awaited)
      ∙ by (is_by_all (counted_of mid.candidates.by)) counting
    where
      ended : (c : Counting) → counting_of new.counting ≡ c → record (state_of s mid) { counting = c } ≡ state_of s new
      ended c is = same_state _ _ _ _ _ _ (both (λ (y : Stored) (v : Candidates). candidates_of (trees_in s y) v.list.items) (sym ns) (sym cs)) (sym packs) (sym is)

      by : (b : Bool) → counting_of new.counting ≡ elim b [ true ↦ counting_of mid.counting | false ↦ record (counting_of mid.counting) { awaited = a } ]
          → elim b as (λ _. State) [ true ↦ state_of s mid | false ↦ record (state_of s mid) { counting = record (counting_of mid.counting) { awaited = a } } ] ≡ state_of s new
      by true is = ended (counting_of mid.counting) is
      by false is = ended (record (counting_of mid.counting) { awaited = a }) is
