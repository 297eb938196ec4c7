-- A reader of shapes for computing examples: its depth is bounded by its fuel.
use Rattle.rust_v0.proofs.Basics.{ℕ, zero, suc, ◌+◌, ◌-◌, ◌*◌, List, [], ◌∷◌, ◌++◌, length, take, drop, Bool, true, false, ◌&&◌, ◌||◌, ◌==◌, nat_le, Option, Some, None, NumberKind, Base62, Hex, is_decimal_digit, is_upper_letter, is_lower_letter, Rule, Sym, Kind, Name, Number, Byte, symbols_of, v0_table}
use Rattle.sym_shape.specs.Tree.{Tree, Forest}
use Rattle.sym_shape.specs.Tree as shape

abbrev pub Read : Type 0 → Type 0
Read A = Option (A × List ℕ)

infixl 10 ◌>>=◌
abbrev pub ◌>>=◌ : {A B : Type 0} → Option A → (A → Option B) → Option B
None >>= f = None
(Some x) >>= f = f x

-- the longest front of bytes that pass a test, and the rest
abbrev pub longest : (ℕ → Bool) → List ℕ → List ℕ × List ℕ
longest p [] = ([], [])
longest p (b ∷ bs) = elim (p b) [ true ↦ (b ∷ (longest p bs).0, (longest p bs).1) | false ↦ ([], b ∷ bs) ]

abbrev pub is_numeral_byte : NumberKind → ℕ → Bool
is_numeral_byte Base62 byte = is_decimal_digit byte || is_lower_letter byte || is_upper_letter byte
is_numeral_byte Hex byte = is_decimal_digit byte || (nat_le 97 byte && nat_le byte 102)
is_numeral_byte _ byte = is_decimal_digit byte

-- digits, and the underscore after them
abbrev pub ending : Bool → List ℕ → List ℕ → Read Tree
ending true digits rest = Some (shape.token (record { before = []; own = digits; behind = 95 ∷ [] }), rest)
ending false digits rest = None

abbrev pub ended : List ℕ → List ℕ → Read Tree
ended digits [] = None
ended digits (b ∷ bs) = ending (b == 95) digits bs

abbrev pub numeral_at : NumberKind → List ℕ → Read Tree
numeral_at kind bytes = let split = longest (is_numeral_byte kind) bytes in ended split.0 split.1

abbrev pub decimal_value : ℕ → List ℕ → ℕ
decimal_value high [] = high
decimal_value high (d ∷ ds) = decimal_value (10 * high + (d - 48)) ds

-- the digits of a length, or a single `0`, and the rest
abbrev pub length_at : List ℕ → List ℕ × List ℕ
length_at [] = ([], [])
length_at (b ∷ bs) = elim (b == 48) [ true ↦ (b ∷ [], bs) | false ↦ longest is_decimal_digit (b ∷ bs) ]

abbrev pub name_of : Bool → List ℕ → ℕ → List ℕ → Read Tree
name_of true before count rest = Some (shape.token (record { before = before; own = take count rest; behind = [] }), drop count rest)
name_of false before count rest = None

-- a name after its length: a separator, if there is one, and its own bytes
abbrev pub separated : List ℕ → ℕ → List ℕ → Read Tree
separated before count [] = name_of (nat_le count 0) before count []
separated before count (b ∷ bs) =
    elim (b == 95) [
      | true ↦ name_of (nat_le count (length bs)) (before ++ b ∷ []) count bs
      | false ↦ name_of (nat_le count (length (b ∷ bs))) before count (b ∷ bs)
    ]

abbrev pub name_at : List ℕ → Read Tree
name_at bytes = let split = length_at bytes in separated split.0 (decimal_value 0 split.0) split.1

abbrev pub fixed_at : ℕ → List ℕ → Read Tree
fixed_at byte [] = None
fixed_at byte (b ∷ bs) = elim (b == byte) [ true ↦ Some (shape.fixed b, bs) | false ↦ None ]

abbrev pub empty_at : Bool → List ℕ → Read Tree
empty_at true bytes = Some (shape.empty, bytes)
empty_at false bytes = None

abbrev mutual
  pub tree_at : ℕ → Sym → List ℕ → Read Tree
  tree_at zero symbol bytes = None
  tree_at (suc fuel) (Kind kind) [] = empty_at (v0_table.may_be_empty kind) []
  tree_at (suc fuel) (Kind kind) (b ∷ bs) = by_rule fuel (v0_table.rule kind b) kind b bs
  tree_at (suc fuel) Name bytes = name_at bytes
  tree_at (suc fuel) (Number kind) bytes = numeral_at kind bytes
  tree_at (suc fuel) (Byte byte) bytes = fixed_at byte bytes

  pub by_rule : ℕ → Option Rule → ℕ → ℕ → List ℕ → Read Tree
  by_rule zero rule kind b bs = None
  by_rule (suc fuel) None kind b bs = empty_at (v0_table.may_be_empty kind) (b ∷ bs)
  by_rule (suc fuel) (Some rule) kind b bs = elim rule.eats [
    | true ↦ (forest_at fuel (symbols_of rule) bs >>= λ parts. Some (shape.branch rule (b ∷ []) parts.0, parts.1))
    | false ↦ (forest_at fuel (symbols_of rule) (b ∷ bs) >>= λ parts. Some (shape.branch rule [] parts.0, parts.1))
  ]

  pub forest_at : ℕ → List Sym → List ℕ → Read Forest
  forest_at zero symbols bytes = None
  forest_at (suc fuel) [] bytes = Some (shape.nothing, bytes)
  forest_at (suc fuel) (s ∷ ss) bytes = tree_at fuel s bytes >>= λ first. forest_at fuel ss first.1 >>= λ rest. Some (shape.grown first.0 rest.0, rest.1)

-- the tree of a whole symbol
abbrev pub whole : Read Tree → Option Tree
whole None = None
whole (Some (tree, [])) = Some tree
whole (Some (tree, b ∷ bs)) = None

abbrev pub shape_of : List ℕ → Option Tree
shape_of bytes = whole (tree_at (12 * length bytes + 24) (Kind 0) bytes)
