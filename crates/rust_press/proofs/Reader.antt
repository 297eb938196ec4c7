-- A small reader over a table, to compute the definitions at single symbols.
use Rattle.rust_press.proofs.Basics.{ℕ, zero, suc, List, [], ◌∷◌, ◌++◌, length, take, drop, true, false, nat_eq, Option, Some, None, Ok, Err, NumberKind, Length, is_digit_of, value_of, Sym, Kind, Name, Number, Byte, symbols_of, v0_table, unfolded, pressed}
use Rattle.sym_shape.specs.Tree.{Tree, Forest, branch, empty, token, fixed, nothing, grown}

infixl 10 ◌and_then◌
abbrev ◌and_then◌ : {A B : Type 0} → Option A → (A → Option B) → Option B
(Some x) and_then f = f x
None and_then f = None

-- the digits at the front, and the bytes after them
unfoldable pub front_digits : NumberKind → List ℕ → List ℕ
front_digits kind [] = []
front_digits kind (b ∷ bytes) = elim (is_digit_of kind b) [ true ↦ b ∷ front_digits kind bytes | false ↦ [] ]

unfoldable pub number_at : List ℕ → List ℕ → Option (Tree × List ℕ)
number_at digits [] = None
number_at digits (b ∷ rest) = elim (nat_eq b 95) [ true ↦ Some (token (record { before = []; own = digits; behind = 95 ∷ [] }), rest) | false ↦ None ]

unfoldable pub name_from : List ℕ → List ℕ → Option (Tree × List ℕ)
name_from digits tail = Some (token (record { before = digits; own = take (value_of Length digits) tail; behind = [] }), drop (value_of Length digits) tail)

-- an underscore straight after the length is the separator
unfoldable pub separated : List ℕ → List ℕ → Option (Tree × List ℕ)
separated digits [] = name_from digits []
separated digits (b ∷ tail) = elim (nat_eq b 95) [
  | true ↦ Some (token (record { before = digits ++ 95 ∷ []; own = take (value_of Length digits) tail; behind = [] }), drop (value_of Length digits) tail)
  | false ↦ name_from digits (b ∷ tail)
]

-- a length is 0 alone, or all digits
unfoldable pub length_digits : List ℕ → List ℕ
length_digits [] = []
length_digits (b ∷ bytes) = elim (nat_eq b 48) [ true ↦ b ∷ [] | false ↦ front_digits Length (b ∷ bytes) ]

unfoldable mutual
  pub read_sym : ℕ → Sym → List ℕ → Option (Tree × List ℕ)
  read_sym zero s bytes = None
  read_sym (suc n) Name bytes = separated (length_digits bytes) (drop (length (length_digits bytes)) bytes)
  read_sym (suc n) (Number kind) bytes = number_at (front_digits kind bytes) (drop (length (front_digits kind bytes)) bytes)
  read_sym (suc n) (Byte b) [] = None
  read_sym (suc n) (Byte b) (c ∷ bytes) = elim (nat_eq b c) [ true ↦ Some (fixed c, bytes) | false ↦ None ]
  read_sym (suc n) (Kind k) [] = elim (v0_table.may_be_empty k) [ true ↦ Some (empty, []) | false ↦ None ]
  read_sym (suc n) (Kind k) (b ∷ bytes) = elim (v0_table.rule k b) [
    | None ↦ elim (v0_table.may_be_empty k) [ true ↦ Some (empty, b ∷ bytes) | false ↦ None ]
    | Some rule ↦ elim rule.eats [
      | true ↦ read_all n (symbols_of rule) bytes and_then λ r. Some (branch rule (b ∷ []) r.0, r.1)
      | false ↦ read_all n (symbols_of rule) (b ∷ bytes) and_then λ r. Some (branch rule [] r.0, r.1)
    ]
  ]

  pub read_all : ℕ → List Sym → List ℕ → Option (Forest × List ℕ)
  read_all zero ss bytes = None
  read_all (suc n) [] bytes = Some (nothing, bytes)
  read_all (suc n) (s ∷ ss) bytes =
      read_sym n s bytes and_then λ one. read_all n ss one.1 and_then λ more. Some (grown one.0 more.0, more.1)

unfoldable pub press_read : Option (Tree × List ℕ) → List ℕ
press_read None = []
press_read (Some (shape, [])) = elim (unfolded shape) [ Ok symbol ↦ pressed symbol | Err refusal ↦ [] ]
press_read (Some (shape, more)) = []

-- the pressed bytes of a symbol, or no bytes if it isn't read
unfoldable pub press : List ℕ → List ℕ
press bytes = press_read (read_sym 2000 (Kind 0) bytes)
