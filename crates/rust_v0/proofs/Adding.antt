-- A node that is added denotes what its production means.
use Rattle.rust_v0.proofs.Basics.{◌≡◌, refl, ap, arith, ℕ, ◌<◌, inl, List, ◌∷◌, length, Option, Some, None, Ok, slice_get, slice_set, length-set, Tree, Grows, IsTable, trees, tree_of, type_of, Node, Ty, Target, RustNodes, Value, At, Meaning, as_path, ends_tree, IsNoted, AreNoted, Keeps, v0_view, Gives}
use Rattle.rust_grammar.specs.Value as value
use Rattle.rust_v0.specs.CodeSemantics as semantics
use Rattle.rust_v0.proofs.Noted.{stays_noted, lists_stay, noted_added}

-- what a `Ty` node denotes is no path
not_a_path : (s : List ℕ) (all : List Tree) (type : Ty) → as_path (Some (value.a_type (type_of s all type))) ≡ None
unfolding type_of
not_a_path s all (Ty.Basic letter) = refl
not_a_path s all type = refl

-- the endings, with one more noted at a place if there is one
abbrev pub ended_with : Option Target → List Target → (place : ℕ) → List Target
ended_with None endings place = endings
ended_with (Some ending) endings place = slice_set endings place ending

module _ (at : At) (old new : RustNodes) (number : ℕ) (read : Meaning) (there : at.place < length old.targets.items) (keeps : Keeps at.symbol old at.ended)
    (grows : Grows old.nodes new.nodes) (table : IsTable at.symbol new.nodes) where
  abbrev all : List Tree
  all = trees at.symbol old.nodes.nodes

  further : AreNoted (trees at.symbol new.nodes.nodes) old.targets.items at.ended
  further place = stays_noted at.symbol old.nodes new.nodes grows _ _ (keeps.noted place)

  -- what has ended is noted
  keeps_with : (ending : Target) (v : Value) → IsNoted (trees at.symbol new.nodes.nodes) ending (Some v) → new.targets.items ≡ slice_set old.targets.items at.place ending
      → Keeps at.symbol new (record { place = at.place; value = v } ∷ at.ended)
  keeps_with ending v is same = record {
    places = omega (arith, keeps.places, ap (λ es. length es) same, length-set old.targets.items at.place ending);
    table = table;
    lists = lists_stay at.symbol old.nodes new.nodes grows keeps.lists;
    noted = λ place. rw same (noted_added (trees at.symbol new.nodes.nodes) old.targets.items at.ended at.place ending v there further is place);
  }

  keeps_same : new.targets.items ≡ old.targets.items → Keeps at.symbol new at.ended
  keeps_same same = record {
    places = omega (arith, keeps.places, ap (λ es. length es) same);
    table = table;
    lists = lists_stay at.symbol old.nodes new.nodes grows keeps.lists;
    noted = λ place. rw same (further place);
  }

  pub added_gives : (node : Node) → read ≡ ends_tree at (tree_of at.symbol all node)
      → slice_get (trees at.symbol new.nodes.nodes) number ≡ Some (tree_of at.symbol all node)
      → new.targets.items ≡ ended_with (semantics.placed node number).1 old.targets.items at.place
      → Gives (v0_view at.symbol) new (Ok (semantics.part_of (semantics.placed node number).0)) read
  added_gives (Node.Path path) is got same = (_, _, is, got, keeps_with (Target.Path number) _ (_, got, inl refl) same)
  added_gives (Node.Ty type) is got same = (_, _, is, inl got, keeps_with (Target.Type number) _ (_, got, not_a_path at.symbol all type, refl) same)
  added_gives (Node.Constant constant) is got same = (_, _, is, got, keeps_with (Target.Constant number) _ (_, got, refl) same)
  added_gives (Node.Arguments arguments) is got same = (_, _, is, got, keeps_same same)
  added_gives (Node.Types types) is got same = (_, _, is, got, keeps_same same)
  added_gives (Node.Bounds bounds) is got same = (_, _, is, got, keeps_same same)
  added_gives (Node.Bindings bindings) is got same = (_, _, is, got, keeps_same same)
  added_gives (Node.Symbol whole) is got same = (_, _, is, got, keeps_same same)
