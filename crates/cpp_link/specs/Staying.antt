-- Existing nodes keep their meaning when nodes are added.
use Rattle.std.proofs.Common.{◌≡◌, refl, arith, ℕ, ◌<◌, ◌≤◌, List, [], ◌∷◌, length, Option, Some, None}
use Rattle.cpp_tree.specs.Nodes.{Stored, tree_at, piece_of, tree_if_there, IsPieceBelow, IsAliasBelow}
use Rattle.cpp_tree.specs.declared.node.Piece.{Piece}
use Rattle.cpp_link.specs.declared.part.Part.{Part}
use Rattle.cpp_references.specs.declared.around.Prefix.{Prefix}
use Rattle.cpp_references.specs.declared.around.Surroundings.{Surroundings}
use Rattle.cpp_references.specs.declared.candidates.Candidate.{Candidate}
use Rattle.cpp_link.specs.declared.candidates.Candidates.{Candidates}
use Rattle.cpp_link.specs.Parts.{trees_in, value_of, values_of, value_in, values_in, prefix_of, scope_of, name_of, around_of, candidates_of, IsThere, AreThere, IsPrefixThere, IsKeptThere, AreNodesThere, AreCandidatesThere}

module _ (s : List ℕ) (old new : Stored) (stays : (i : ℕ) → i < length old.nodes → tree_at (trees_in s new) i ≡ tree_at (trees_in s old) i) where
  piece_stays : (p : Piece) → IsPieceBelow s (length old.nodes) p → piece_of s (trees_in s new) p ≡ piece_of s (trees_in s old) p
  unfolding piece_of
  piece_stays (Piece.Lambda parameters number) there = rw (stays parameters there) refl
  piece_stays (Piece.GenericLambda parameters number) there = rw (stays parameters there) refl
  piece_stays (Piece.Conversion ty) there = rw (stays ty there) refl
  piece_stays (Piece.Enumeration ty name) there = rw (stays ty there.0) refl
  piece_stays (Piece.Bindings names) there = rw (stays names there) refl
  piece_stays (Piece.Inheriting digit base) there = rw (stays base there) refl
  piece_stays _ there = refl

  pub value_stays : (p : Part) → IsThere s (length old.nodes) p → value_in s new p ≡ value_in s old p
  unfolding value_of
  value_stays (Part.Tree node listed) there = rw (stays node there) refl
  value_stays (Part.Piece p) there = rw (piece_stays p there) refl
  value_stays (Part.Named node q m) there = rw (stays node there) refl
  value_stays (Part.Signature list m) there = rw (stays list there) refl
  value_stays (Part.Pair letter left right) there = rw (stays left there.0, stays right there.1) refl
  value_stays Part.Nothing there = refl
  value_stays (Part.Letter byte) there = refl
  value_stays (Part.Text span) there = refl
  value_stays (Part.Signed n) there = refl
  value_stays (Part.Adjusted a) there = refl

  pub values_stay : (ps : List Part) → AreThere s (length old.nodes) ps → values_in s new ps ≡ values_in s old ps
  unfolding values_of
  values_stay [] there = refl
  values_stay (p ∷ ps) there = rw (value_stays p there.0, values_stay ps there.1) refl

  arguments_stay : (o : Option ℕ) → IsAliasBelow (length old.nodes) o → tree_if_there (trees_in s new) o ≡ tree_if_there (trees_in s old) o
  unfolding tree_if_there
  arguments_stay None there = refl
  arguments_stay (Some a) there = rw (stays a there) refl

  prefix_stays : (p : Prefix) → IsPrefixThere (length old.nodes) p → prefix_of (trees_in s new) p ≡ prefix_of (trees_in s old) p
  unfolding prefix_of
  prefix_stays Prefix.Outermost there = refl
  prefix_stays (Prefix.Behind node listed) there = rw (stays node there) refl

  pub around_stays : (kept : Surroundings) → IsKeptThere (length old.nodes) kept → around_of (trees_in s new) kept ≡ around_of (trees_in s old) kept
  unfolding around_of
  around_stays kept there = rw (arguments_stay (scope_of kept) there.0, prefix_stays (name_of kept) there.1) refl

  all_stay : (cs : List Candidate) → AreNodesThere (length old.nodes) cs → candidates_of (trees_in s new) cs ≡ candidates_of (trees_in s old) cs
  all_stay [] there = refl
  all_stay (c ∷ cs) there = rw (stays c.node there.0, all_stay cs there.1) refl

  pub candidates_stay : (cs : Candidates) → AreCandidatesThere (length old.nodes) cs → candidates_of (trees_in s new) cs.list.items ≡ candidates_of (trees_in s old) cs.list.items
  candidates_stay cs there = all_stay cs.list.items there.0

-- existing nodes survive additions
pub there_more : (s : List ℕ) (m n : ℕ) (p : Part) → m ≤ n → IsThere s m p → IsThere s n p
there_more s m n (Part.Tree node listed) le there = omega (arith, le, there)
there_more s m n (Part.Piece p) le there = piece p there
  where
    piece : (p : Piece) → IsPieceBelow s m p → IsPieceBelow s n p
    piece (Piece.Source internal bytes) below = below
    piece (Piece.LiteralOperator bytes) below = below
    piece (Piece.Lambda parameters number) below = omega (arith, le, below)
    piece (Piece.GenericLambda parameters number) below = omega (arith, le, below)
    piece (Piece.Conversion ty) below = omega (arith, le, below)
    piece (Piece.Enumeration ty name) below = (omega (arith, le, below.0), below.1)
    piece (Piece.Bindings names) below = omega (arith, le, below)
    piece (Piece.Inheriting digit base) below = omega (arith, le, below)
    piece _ below = tt
there_more s m n (Part.Named node q ref) le there = omega (arith, le, there)
there_more s m n (Part.Signature list ref) le there = omega (arith, le, there)
there_more s m n (Part.Pair letter left right) le there = (omega (arith, le, there.0), omega (arith, le, there.1))
there_more s m n (Part.Text span) le there = there
there_more s m n (Part.Signed v) le there = there
there_more s m n (Part.Adjusted a) le there = there
there_more s m n _ le there = tt

nodes_more : (m n : ℕ) (cs : List Candidate) → m ≤ n → AreNodesThere m cs → AreNodesThere n cs
nodes_more m n [] le there = tt
nodes_more m n (c ∷ cs) le there = (omega (arith, le, there.0), nodes_more m n cs le there.1)

pub candidates_more : (m n : ℕ) (cs : Candidates) → m ≤ n → AreCandidatesThere m cs → AreCandidatesThere n cs
candidates_more m n cs le there = (nodes_more m n cs.list.items le there.0, there.1)

pub kept_more : (m n : ℕ) (kept : Surroundings) → m ≤ n → IsKeptThere m kept → IsKeptThere n kept
kept_more m n kept le there = (arguments (scope_of kept) there.0, prefix (name_of kept) there.1)
  where
    arguments : (o : Option ℕ) → IsAliasBelow m o → IsAliasBelow n o
    arguments None below = tt
    arguments (Some a) below = omega (arith, le, below)

    prefix : (p : Prefix) → IsPrefixThere m p → IsPrefixThere n p
    prefix Prefix.Outermost below = tt
    prefix (Prefix.Behind node listed) below = omega (arith, le, below)
