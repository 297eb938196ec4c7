-- The keys of trees, which have the numbers of the trees' parts, and a map of keys.
use Rattle.std.specs.Prelude.{◌≡◌, ℕ, ◌+◌, ◌-◌, ◌<◌, ◌≤◌, List, [], ◌∷◌, length, get_or, slice_get, cond, nat_lt, Option, Some, None}
use Rattle.std.specs.Cmp.Lexicographic.{slice_cmp}
use Rattle.std.specs.Ordering.{nat_cmp, ordering_then}
use Rattle.std.specs.declared.cmp.Ordering.{Ordering}
use Rattle.sym_spell.proofs.FirstOnes.{AreFirsts}
use Rattle.cpp_grammar.specs.Term.{Term}
use Rattle.cpp_tree.specs.Fields.{fields_of}
use Rattle.cpp_layout.specs.Layout.{ReadSymbol}
use Rattle.cpp_press.specs.declared.numbering.Key.{Key}
use Rattle.cpp_spelling.specs.Tasks.{plain_at}
use Rattle.cpp_press.specs.Details.{tree_told}

-- one more than the number of a part, or 0 for no part
abbrev pub part_number : List ℕ → Option ℕ → ℕ
part_number numbers None = 0
part_number numbers (Some part) = get_or numbers part 0 + 1

-- one more than the number of a part, which is one of the numbered trees, or 0 for no part
abbrev pub IsPartNumber : (at : ℕ → Term) → (numbers : List ℕ) → Option Term → ℕ → Type 0
IsPartNumber at numbers None n = n ≡ 0
IsPartNumber at numbers (Some t) n = (p : ℕ) × (p < length numbers) × (at p ≡ t) × (n ≡ get_or numbers p 0 + 1)

-- The key of a tree: its production, its details, and the numbers of its parts.
pub record IsKeyOf (at : ℕ → Term) (numbers : List ℕ) (t : Term) (key : Key) : Type 0 where
  pub production : key.production ≡ (fields_of t).production
  pub own_numbers : key.numbers ≡ (tree_told t).numbers
  pub texts : key.first_text.now ∷ key.second_text.now ∷ key.third_text.now ∷ key.fourth_text.now ∷ [] ≡ (tree_told t).texts
  pub few : length (fields_of t).parts ≤ 3
  pub first : IsPartNumber at numbers (slice_get (fields_of t).parts 0) key.first_part
  pub second : IsPartNumber at numbers (slice_get (fields_of t).parts 1) key.second_part
  pub third : IsPartNumber at numbers (slice_get (fields_of t).parts 2) key.third_part

-- the key is a key of the tree at place `i`
abbrev pub IsKey : (at : ℕ → Term) → (numbers : List ℕ) → ℕ → Key → Type 0
IsKey at numbers i key = IsKeyOf at numbers (at i) key

-- the order of keys in a map
abbrev pub key_cmp : Key → Key → Ordering
key_cmp a b =
    ordering_then (nat_cmp a.first_part b.first_part) (ordering_then (nat_cmp a.second_part b.second_part)
    (ordering_then (nat_cmp a.third_part b.third_part) (ordering_then (nat_cmp a.production b.production)
    (ordering_then (slice_cmp nat_cmp a.numbers b.numbers) (ordering_then (slice_cmp nat_cmp a.first_text.now b.first_text.now)
    (ordering_then (slice_cmp nat_cmp a.second_text.now b.second_text.now) (ordering_then (slice_cmp nat_cmp a.third_text.now b.third_text.now)
    (slice_cmp nat_cmp a.fourth_text.now b.fourth_text.now))))))))

-- The map has the first node of each tree so far, and the nodes of a symbol come next.
pub record ComeNext (y : ReadSymbol) (at : ℕ → Term) (firsts : List ℕ) (before : ℕ) (first : Key → Option ℕ) : Type 0 where
  pub known : AreFirsts at (IsKey at) firsts first
  pub many : length firsts ≡ before
  pub next : (i : ℕ) → i < length y.table.nodes → at (before + i) ≡ plain_at y i

-- the trees of the nodes of a symbol, followed by those of another symbol
abbrev pub both_at : (one other : ReadSymbol) → ℕ → Term
both_at one other i = cond (nat_lt i (length one.table.nodes)) (plain_at one i) (plain_at other (i - length one.table.nodes))
