-- A piece of a name follows the name so far.
use Rattle.cpp_link.proofs.Basics.{◌≡◌, sym, ◌∙◌, ap, subst, lit<, ℕ, List, [], ◌∷◌, length, get_or, true, false, Production, between, extended, named_so_far, Node, Piece, piece_of, IsBelow, Surroundings, Linked, Step, made_before, makes_before, trees_in, tree_of_node, around_of, prefix_of, name_of, IsStepThere, goes_on, behind_first, named_if, appended_if, IsStepOf, nodes_of_step}
use Rattle.cpp_term.specs.Term as term
use Rattle.cpp_term.specs.Values as values
use Rattle.cpp_references.specs.declared.around.Prefix.{Prefix}

module _ (s : List ℕ) (l : Linked) (place : ℕ) (kept : Surroundings) (v : values.Value) where
  -- all that is known of a step after the first part
  abbrev IsBehindFirst : Production → Step → Type 0
  IsBehindFirst p step = record {
    is : (state : values.State) → between p (around_of (trees_in s l.nodes) kept) place (v ∷ []) (record state { packs = l.packs }) ≡ goes_on s l.nodes kept (v ∷ []) state l.packs step;
    there : IsStepThere s (length l.nodes.thunks) (length l.nodes.nodes) step;
    of : IsStepOf p 1 step;
    makes : nodes_of_step step ≡ makes_before p (v ∷ []);
  }

  -- before its second part, this production adds the piece to the name so far
  abbrev Extends : Production → term.Term → Type 0
  Extends p piece = (around : values.Around) (state : values.State) → between p around place (v ∷ []) state ≡ named_so_far around (extended around.prefix piece) [] state

  pub piece_behind : (p q : Production) (step : Step) (node : Node) (prefix : Prefix) (made : Piece) (piece : term.Term) → p ≡ q → step ≡ Step.Made node false true false l.packs → Extends q piece
      → prefix ≡ name_of kept → piece_of s (trees_in s l.nodes) made ≡ piece → tree_of_node s l.nodes node ≡ extended (prefix_of (trees_in s l.nodes) prefix) (piece_of s (trees_in s l.nodes) made)
      → IsBelow s (length l.nodes.thunks) (length l.nodes.nodes) node → get_or (made_before q) 1 0 ≡ 1 → 1 ≡ makes_before q (v ∷ []) → IsBehindFirst p step
  unfolding goes_on behind_first named_if appended_if named_so_far around_of
  piece_behind p q step node prefix made piece is steps begins before same tree there owed makes =
      let ts = trees_in s l.nodes in
      let around = around_of ts kept in
      let extends : tree_of_node s l.nodes node ≡ extended (prefix_of ts (name_of kept)) piece =
      tree ∙ ap (λ x. extended (prefix_of ts x) (piece_of s ts made)) before ∙ ap (λ x. extended (prefix_of ts (name_of kept)) x) same in
      let behind : IsBehindFirst q (Step.Made node false true false l.packs) =
      record {
        is = λ state. begins around (record state { packs = l.packs }) ∙ ap (λ t. named_so_far around t [] (record state { packs = l.packs })) (sym extends);
        there = there;
        of = (lit< tt, owed);
        makes = makes;
      } in
      subst (λ x. IsBehindFirst x step) (sym is) (subst (λ x. IsBehindFirst q x) (sym steps) behind)
