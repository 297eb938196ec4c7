-- A small reader over the table, to compute the definitions at single symbols.
use Rattle.cpp_grammar.proofs.Basics.{ℕ, zero, suc, ◌+◌, ◌*◌, List, [], ◌∷◌, length, take, drop, Bool, true, false, nat_eq, nat_le, ◌||◌, ◌&&◌, not, slice_get, Option, Some, None, Result, Ok, Err, Refusal, Length, Digits, Cpp, Sym, Kind as OfKind, Name, Number, Byte, value_of, is_name_byte, Tree, Forest, branch, empty, token, fixed, nothing, grown, Detail, kinds, choose, parts_of, is_chain, may_be_empty, rule_of, Term, unfold_cpp}
use Rattle.sym_core.specs.declared.NumberKind.{NumberKind}
use Rattle.sym_core.specs.Number.{is_decimal_digit, is_digit_of}
use Rattle.cpp_grammar.specs.declared.kind.Kind.{Kind}
use Rattle.cpp_grammar.specs.Answer.{text_of_symbol, cost_of_symbol}

infixl 10 ◌and_then◌
abbrev ◌and_then◌ : {A B : Type 0} → Option A → (A → Option B) → Option B
(Some x) and_then f = f x
None and_then f = None

-- the digits at the front, and what is after them
unfoldable pub front_digits : NumberKind → List ℕ → List ℕ
front_digits kind [] = []
front_digits kind (b ∷ bytes) = elim (is_digit_of kind b) [ true ↦ b ∷ front_digits kind bytes | false ↦ [] ]

unfoldable pub is_length_form : List ℕ → Bool
is_length_form [] = false
is_length_form (d ∷ ds) = (nat_eq (length ds) 0 || not (nat_eq d 48)) && nat_le (length ds) 8

-- enough digits, and the ending of the kind after them
unfoldable pub number_at : NumberKind → List ℕ → List ℕ → Option (Tree × List ℕ)
number_at Digits [] rest = None
number_at Digits digits rest = Some (token (record { before = []; own = digits; behind = [] }), rest)
number_at kind digits [] = None
number_at kind digits (b ∷ rest) = elim (nat_eq b 95) [ true ↦ Some (token (record { before = []; own = digits; behind = 95 ∷ [] }), rest) | false ↦ None ]

unfoldable pub are_name_bytes : List ℕ → Bool
are_name_bytes [] = true
are_name_bytes (b ∷ bytes) = is_name_byte Cpp b && are_name_bytes bytes

-- some name bytes, and the first is no digit
unfoldable pub is_own : List ℕ → Bool
is_own [] = false
is_own (b ∷ bytes) = not (is_decimal_digit b) && are_name_bytes (b ∷ bytes)

unfoldable pub name_at : List ℕ → List ℕ → Option (Tree × List ℕ)
name_at digits tail =
    elim (is_length_form digits && nat_le (value_of Length digits) (length tail) && is_own (take (value_of Length digits) tail)) [
      | true ↦ Some (token (record { before = digits; own = take (value_of Length digits) tail; behind = [] }), drop (value_of Length digits) tail)
      | false ↦ None
    ]

unfoldable mutual
  pub read_kind : ℕ → Kind → List ℕ → Option (Tree × List ℕ)
  read_kind zero kind bytes = None
  read_kind (suc n) kind [] = elim (may_be_empty kind) [ true ↦ Some (empty, []) | false ↦ None ]
  read_kind (suc n) kind (b ∷ bytes) = elim (choose kind b) [
    | None ↦ elim (may_be_empty kind) [ true ↦ Some (empty, b ∷ bytes) | false ↦ None ]
    | Some p ↦ elim (is_chain p) [
      | true ↦ read_all n (parts_of p) (b ∷ bytes) and_then λ r. Some (branch (rule_of p) [] r.0, r.1)
      | false ↦ read_all n (parts_of p) bytes and_then λ r. Some (branch (rule_of p) (b ∷ []) r.0, r.1)
    ]
  ]

  pub read_symbol : ℕ → Sym → List ℕ → Option (Tree × List ℕ)
  read_symbol zero s bytes = None
  read_symbol (suc n) (OfKind k) bytes = elim (slice_get kinds k) [ None ↦ None | Some kind ↦ read_kind n kind bytes ]
  read_symbol (suc n) Name bytes = name_at (front_digits Length bytes) (drop (length (front_digits Length bytes)) bytes)
  read_symbol (suc n) (Number kind) bytes = number_at kind (front_digits kind bytes) (drop (length (front_digits kind bytes)) bytes)
  read_symbol (suc n) (Byte b) [] = None
  read_symbol (suc n) (Byte b) (c ∷ bytes) = elim (nat_eq b c) [ true ↦ Some (fixed b, bytes) | false ↦ None ]

  pub read_all : ℕ → List Sym → List ℕ → Option (Forest × List ℕ)
  read_all zero ss bytes = None
  read_all (suc n) [] bytes = Some (nothing, bytes)
  read_all (suc n) (s ∷ ss) bytes = read_symbol n s bytes and_then λ r. read_all n ss r.1 and_then λ q. Some (grown r.0 q.0, q.1)

-- what is seen of a single symbol: no shape, a refusal, or a text and its cost
pub data Seen : Type 0 where
  no_shape : Seen
  refused : Refusal → Seen
  seen : (text : List ℕ) → (cost : ℕ) → Seen

unfoldable pub seen_tree : Detail → Result Term Refusal → Seen
seen_tree d (Ok t) = seen (text_of_symbol d t) (cost_of_symbol d t)
seen_tree d (Err r) = refused r

unfoldable pub shape_of : List ℕ → Option Tree
shape_of s = elim (read_kind (10 * length s + 10) Kind.Symbol s) [ None ↦ None | Some r ↦ elim r.1 [ [] ↦ Some r.0 | b ∷ bs ↦ None ] ]

unfoldable pub see : Detail → List ℕ → Seen
see d s = elim (shape_of s) [ None ↦ no_shape | Some tree ↦ seen_tree d (unfold_cpp tree) ]
