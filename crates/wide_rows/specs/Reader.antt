-- The small reader of rows over the wide table, to compute the wide grammar's definitions at single symbols.
use Rattle.std.specs.Prelude.{ℕ, zero, suc, ◌+◌, ◌*◌, List, [], ◌∷◌, length, drop, Bool, true, false, nat_eq, ◌&&◌, slice_get, Option, Some, None}
use Rattle.sym_core.specs.declared.NumberKind.TheVariants.{Length}
use Rattle.sym_shape.specs.declared.rule.Sym.{Sym}
use Rattle.sym_shape.specs.declared.rule.Sym.TheVariants.{Kind as OfKind, Name, Number, Byte}
use Rattle.sym_shape.specs.Tree.{Tree, Forest, branch, empty, fixed, nothing, grown}
use Rattle.sym_print.specs.declared.detail.Detail.{Detail}
use Rattle.cpp_grammar.specs.declared.kind.Kind.{Kind}
use Rattle.cpp_grammar.specs.Wide.{wide_choose}
use Rattle.cpp_grammar.specs.Grammar.{kinds, parts_of, is_chain, may_be_empty}
use Rattle.cpp_grammar.specs.Table.{rule_of}
use Rattle.cpp_grammar.specs.Rescoping.{unfold_wide}
use Rattle.cpp_grammar.proofs.Reader.{Seen, no_shape, front_digits, number_at, name_at, seen_tree}
use Rattle.cpp_grammar.proofs.Row.{Row, same_seen}

infixl 10 ◌and_then◌
abbrev ◌and_then◌ : {A B : Type 0} → Option A → (A → Option B) → Option B
(Some x) and_then f = f x
None and_then f = None

unfoldable mutual
  pub read_kind : ℕ → Kind → List ℕ → Option (Tree × List ℕ)
  read_kind zero kind bytes = None
  read_kind (suc n) kind [] = elim (may_be_empty kind) [ true ↦ Some (empty, []) | false ↦ None ]
  read_kind (suc n) kind (b ∷ bytes) = elim (wide_choose kind b) [
    | None ↦ elim (may_be_empty kind) [ true ↦ Some (empty, b ∷ bytes) | false ↦ None ]
    | Some p ↦ elim (is_chain p) [
      | true ↦ read_all n (parts_of p) (b ∷ bytes) and_then λ r. Some (branch (rule_of p) [] r.0, r.1)
      | false ↦ read_all n (parts_of p) bytes and_then λ r. Some (branch (rule_of p) (b ∷ []) r.0, r.1)
    ]
  ]

  pub read_symbol : ℕ → Sym → List ℕ → Option (Tree × List ℕ)
  read_symbol zero s bytes = None
  read_symbol (suc n) (OfKind k) bytes = elim (slice_get kinds k) [ None ↦ None | Some kind ↦ read_kind n kind bytes ]
  read_symbol (suc n) Name bytes = name_at (front_digits Length bytes) (drop (length (front_digits Length bytes)) bytes)
  read_symbol (suc n) (Number kind) bytes = number_at kind (front_digits kind bytes) (drop (length (front_digits kind bytes)) bytes)
  read_symbol (suc n) (Byte b) [] = None
  read_symbol (suc n) (Byte b) (c ∷ bytes) = elim (nat_eq b c) [ true ↦ Some (fixed b, bytes) | false ↦ None ]

  pub read_all : ℕ → List Sym → List ℕ → Option (Forest × List ℕ)
  read_all zero ss bytes = None
  read_all (suc n) [] bytes = Some (nothing, bytes)
  read_all (suc n) (s ∷ ss) bytes = read_symbol n s bytes and_then λ r. read_all n ss r.1 and_then λ q. Some (grown r.0 q.0, q.1)

unfoldable pub shape_of : List ℕ → Option Tree
shape_of s = elim (read_kind (10 * length s + 10) Kind.Symbol s) [ None ↦ None | Some r ↦ elim r.1 [ [] ↦ Some r.0 | b ∷ bs ↦ None ] ]

-- the text and the cost of a symbol by the wide grammar
unfoldable pub see_wide : Detail → List ℕ → Seen
see_wide d s = elim (shape_of s) [ None ↦ no_shape | Some tree ↦ seen_tree d (unfold_wide tree) ]

unfoldable pub are_right_wide : List Row → Bool
are_right_wide [] = true
are_right_wide (row ∷ rows) = same_seen (see_wide row.detail row.symbol) row.wanted && are_right_wide rows
