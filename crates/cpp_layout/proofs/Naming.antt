-- The parts of names.
use Rattle.cpp_layout.proofs.Basics.{zero, suc, ◌≡◌, ◌≢◌, ◌<◌, refl, sym, ◌∙◌, ap, subst, arith, slice_index, length, ℕ, List, [], ◌∷◌, ◌++◌, Bool, true, false, nat_eq, ◌&&◌, ◌||◌, cond, codes, decimal, if◌then◌else◌, Option, eqb-true, eq-eqb, ne_eqb, starts_with, Span, PartOf, text, begins_with, source_text, same_bytes, Term, as_item, list_part, piece_parts, prefix_item, before_piece, component_parts, attached_parts, within_parts, base_within, opening_text, last_piece, entity_of, instance_parts, Node, Thunk, reargued, true≢false, tree_at, tree_of, piece_of, is_again, fixed_text, ANONYMOUS, AT, BLANK_LESS, BRACE, COLONS, CONVERSION, ENUM, GREATER, LAMBDA, LEFT_BRACE, LEFT_BRACKET, LESS, LITERAL, RIGHT_BRACES, RIGHT_BRACKET, RIGHT_NUMBER, UNNAMED, IsNoSource}
use Rattle.cpp_grammar.specs.Items as heads
use Rattle.cpp_term.specs.Term as term
use Rattle.cpp_term.specs.Items as items
use Rattle.cpp_tree.specs.declared.node.Piece.{Piece}

pub begins : (xs ys : List ℕ) → begins_with xs ys ≡ starts_with nat_eq ys xs
unfolding begins_with
begins [] ys = refl
begins (x ∷ xs) [] = refl
begins (x ∷ xs) (y ∷ ys) = ap (λ b. nat_eq x y && b) (begins xs ys)

-- a text whose first byte isn't x doesn't begin with x and further bytes
pub begins-otherwise : (x : ℕ) (xs ys : List ℕ) → (0 < length ys → slice_index ys 0 ≢ x) → begins_with (x ∷ xs) ys ≡ false
unfolding begins_with
begins-otherwise x xs [] other = refl
begins-otherwise x xs (y ∷ ys) other = go (nat_eq x y) refl
  where
    go : (b : Bool) → nat_eq x y ≡ b → (nat_eq x y && begins_with xs ys) ≡ false
    go false e = rw e refl
    go true e = absurd (other (omega arith) (sym (eqb-true x y e)))

pub source-anonymous : (name : List ℕ) → begins_with (codes "_GLOBAL__N") name ≡ true → fixed_text ANONYMOUS ≡ source_text name
unfolding source_text
source-anonymous name e = rw (source_text, e) refl

pub source-plain : (name : List ℕ) → begins_with (codes "_GLOBAL__N") name ≡ false → name ≡ source_text name
unfolding source_text
source-plain name e = rw (source_text, e) refl

-- ## Operators

abbrev is_angle : (a b : ℕ) → Bool
is_angle a b = same_bytes (a ∷ b ∷ []) (codes "ls") || same_bytes (a ∷ b ∷ []) (codes "lt")

pub angle-other : (a b : ℕ) → nat_eq a 108 ≡ false → false ≡ is_angle a b
unfolding same_bytes
angle-other a b e = rw (same_bytes, e) refl

pub angle-left : (a b : ℕ) → a ≡ 108 → b ≡ 115 → true ≡ is_angle a b
unfolding same_bytes
angle-left a b e f = rw (e, f) refl

and-true : (b : Bool) → b ≡ b && true
and-true true = refl
and-true false = refl

pub angle-less : (a b : ℕ) → a ≡ 108 → nat_eq b 115 ≡ false → nat_eq b 116 ≡ is_angle a b
unfolding same_bytes
angle-less a b e f = rw (e, same_bytes, f) (and-true (nat_eq b 116))

angle-text : (r : Bool) → fixed_text (if r then BLANK_LESS else LESS) ≡ cond r (codes " <") (codes "<")
angle-text true = refl
angle-text false = refl

pub angle-is : (s : List ℕ) (ts : List Term) (p : Piece) (a b : ℕ) (r : Bool) → p ≡ Piece.Operator a b → r ≡ is_angle a b → fixed_text (if r then BLANK_LESS else LESS) ≡ opening_text (piece_of s ts p)
unfolding piece_of opening_text
angle-is s ts p a b r is e = subst (λ q. fixed_text (if r then BLANK_LESS else LESS) ≡ opening_text (piece_of s ts q)) (sym is) (angle-text r ∙ ap (λ x. cond x (codes " <") (codes "<")) e)

pub no-angle : (s : List ℕ) (ts : List Term) (p : Piece) → ((a b : ℕ) → p ≡ Piece.Operator a b → ⊥) → fixed_text LESS ≡ opening_text (piece_of s ts p)
unfolding piece_of opening_text
no-angle s ts (Piece.Operator a b) other = absurd (other a b refl)
no-angle s ts _ other = refl

pub opening-shown : (given : Option Term) (t : Term) → opening_text t ≡ opening_text (reargued given t)
unfolding opening_text reargued
opening-shown given (term.operator a b) = refl
opening-shown given _ = refl

-- ## Pieces

pub lambda-whole : (c : items.Context) (parameters : Term) (number : ℕ) → text (fixed_text LAMBDA) ∷ (list_part heads.first c parameters ++ (text (fixed_text RIGHT_NUMBER) ∷ text (decimal number) ∷ text (fixed_text BRACE) ∷ [])) ≡ piece_parts c (term.lambda parameters number)
unfolding piece_parts
lambda-whole c parameters number = refl

pub unnamed-whole : (c : items.Context) (number : ℕ) → text (fixed_text UNNAMED) ∷ text (decimal number) ∷ text (fixed_text BRACE) ∷ [] ≡ piece_parts c (term.unnamed number)
unfolding piece_parts
unnamed-whole c number = refl

pub conversion-whole : (c : items.Context) (t : Term) → text (fixed_text CONVERSION) ∷ as_item heads.left c t ∷ as_item heads.right c t ∷ [] ≡ piece_parts c (term.conversion t)
unfolding piece_parts
conversion-whole c t = refl

pub enumeration-whole : (c : items.Context) (t : Term) (name : List ℕ) → text (fixed_text ENUM) ∷ as_item heads.left c t ∷ as_item heads.right c t ∷ text (fixed_text LEFT_BRACE) ∷ text name ∷ text (fixed_text RIGHT_BRACES) ∷ [] ≡ piece_parts c (term.enumeration t name)
unfolding piece_parts
enumeration-whole c t name = refl

pub bindings-whole : (c : items.Context) (names : Term) → text (fixed_text LEFT_BRACKET) ∷ (list_part heads.first c names ++ (text (fixed_text RIGHT_BRACKET) ∷ [])) ≡ piece_parts c (term.bindings names)
unfolding piece_parts
bindings-whole c names = refl

pub literal-whole : (c : items.Context) (name : List ℕ) → text (fixed_text LITERAL) ∷ text name ∷ [] ≡ piece_parts c (term.literal_operator name)
unfolding piece_parts
literal-whole c name = refl

pub no-source : (p : Piece) → IsNoSource p → (i : Bool) (b : Span) → p ≡ Piece.Source i b → ⊥
no-source (Piece.Source i b) h j a is = h
no-source _ h j a is = cc is

pub other-source : (p : Piece) → ((i : Bool) (b : Span) → p ≡ Piece.Source i b → ⊥) → IsNoSource p
other-source (Piece.Source i b) other = other i b refl
other-source _ other = tt

pub piece-none : (s : List ℕ) (ts : List Term) (given : Option Term) (c : items.Context) (p : Piece) → ((i : Bool) (b : Span) → p ≡ Piece.Source i b → ⊥) → ((a b : ℕ) → p ≡ Piece.Operator a b → ⊥) → ((b : Span) → p ≡ Piece.LiteralOperator b → ⊥)
    → ((a n : ℕ) → p ≡ Piece.Lambda a n → ⊥) → ((a n : ℕ) → p ≡ Piece.GenericLambda a n → ⊥) → ((n : ℕ) → p ≡ Piece.Unnamed n → ⊥) → (p ≡ Piece.StringLiteral → ⊥) → ((t : ℕ) → p ≡ Piece.Conversion t → ⊥) → ((t : ℕ) (name : Span) → p ≡ Piece.Enumeration t name → ⊥) → ((names : ℕ) → p ≡ Piece.Bindings names → ⊥) → [] ≡ piece_parts c (reargued given (piece_of s ts p))
unfolding piece_of piece_parts reargued
piece-none s ts given c (Piece.Source i b) h1 h2 h3 h4 h8 h5 h6 h7 h9 h10 = absurd (h1 i b refl)
piece-none s ts given c (Piece.Operator a b) h1 h2 h3 h4 h8 h5 h6 h7 h9 h10 = absurd (h2 a b refl)
piece-none s ts given c (Piece.LiteralOperator b) h1 h2 h3 h4 h8 h5 h6 h7 h9 h10 = absurd (h3 b refl)
piece-none s ts given c (Piece.Lambda a n) h1 h2 h3 h4 h8 h5 h6 h7 h9 h10 = absurd (h4 a n refl)
piece-none s ts given c (Piece.GenericLambda a n) h1 h2 h3 h4 h8 h5 h6 h7 h9 h10 = absurd (h8 a n refl)
piece-none s ts given c (Piece.Unnamed n) h1 h2 h3 h4 h8 h5 h6 h7 h9 h10 = absurd (h5 n refl)
piece-none s ts given c Piece.StringLiteral h1 h2 h3 h4 h8 h5 h6 h7 h9 h10 = absurd (h6 refl)
piece-none s ts given c (Piece.Conversion t) h1 h2 h3 h4 h8 h5 h6 h7 h9 h10 = absurd (h7 t refl)
piece-none s ts given c (Piece.Enumeration t name) h1 h2 h3 h4 h8 h5 h6 h7 h9 h10 = absurd (h9 t name refl)
piece-none s ts given c (Piece.Bindings names) h1 h2 h3 h4 h8 h5 h6 h7 h9 h10 = absurd (h10 names refl)
piece-none s ts given c _ h1 h2 h3 h4 h8 h5 h6 h7 h9 h10 = refl

pub base-other : (s : List ℕ) (ts : List Term) (given : Option Term) (c : items.Context) (prefix : Term) (p : Piece) → ((d : ℕ) → p ≡ Piece.Constructor d → ⊥) → ((d b : ℕ) → p ≡ Piece.Inheriting d b → ⊥) → ((d : ℕ) → p ≡ Piece.Destructor d → ⊥) → piece_parts c (reargued given (piece_of s ts p)) ≡ base_within c prefix (reargued given (piece_of s ts p))
unfolding piece_of base_within reargued
base-other s ts given c prefix (Piece.Constructor d) h1 h3 h2 = absurd (h1 d refl)
base-other s ts given c prefix (Piece.Inheriting d b) h1 h3 h2 = absurd (h3 d b refl)
base-other s ts given c prefix (Piece.Destructor d) h1 h3 h2 = absurd (h2 d refl)
base-other s ts given c prefix _ h1 h3 h2 = refl

-- ## Prefixes

pub prefix-held : (s : List ℕ) (us : List Thunk) (ts : List Term) (given : Option Term) (c : items.Context) (n : Node) (flat : is_again n ≡ false) (t : Term) (a : ℕ) → t ≡ reargued given (tree_of s us ts n) → n ≡ Node.Holder a → as_item heads.left c (reargued given (tree_at ts a)) ≡ prefix_item c t
unfolding tree_of prefix_item reargued is_again
prefix-held s us ts given c n flat t a is held = ap (λ m. prefix_item c (reargued given (tree_of s us ts m))) (sym held) ∙ ap (λ u. prefix_item c u) (sym is)

pub within-other : (s : List ℕ) (ts : List Term) (given : Option Term) (c : items.Context) (prefix t : Term) (p : Piece) → t ≡ reargued given (piece_of s ts p) → ((d : ℕ) → p ≡ Piece.Constructor d → ⊥) → ((d b : ℕ) → p ≡ Piece.Inheriting d b → ⊥) → ((d : ℕ) → p ≡ Piece.Destructor d → ⊥)
    → component_parts c prefix t ≡ within_parts c prefix (reargued given (piece_of s ts p))
unfolding piece_of within_parts reargued
within-other s ts given c prefix t (Piece.Constructor d) is h1 h3 h2 = absurd (h1 d refl)
within-other s ts given c prefix t (Piece.Inheriting d b) is h1 h3 h2 = absurd (h3 d b refl)
within-other s ts given c prefix t (Piece.Destructor d) is h1 h3 h2 = absurd (h2 d refl)
within-other s ts given c prefix t _ is h1 h3 h2 = ap (component_parts c prefix) is

-- ## Names that are attached to modules

pub component-nested : (s : List ℕ) (us : List Thunk) (ts : List Term) (given : Option Term) (c : items.Context) (n : Node) (flat : is_again n ≡ false) (t p : Term) → t ≡ reargued given (tree_of s us ts n) → ((a b u w : ℕ) → n ≡ Node.Operation a b u w → ⊥)
    → prefix_item c t ∷ text (fixed_text COLONS) ∷ as_item heads.piece c p ∷ [] ≡ component_parts c t p
unfolding component_parts reargued tree_of is_again
component-nested s us ts given c n flat t p is other =
    subst (λ u. prefix_item c u ∷ text (fixed_text COLONS) ∷ as_item heads.piece c p ∷ [] ≡ component_parts c u p) (sym is) (by n flat other)
  where
    by : (n : Node) → is_again n ≡ false → ((a b u w : ℕ) → n ≡ Node.Operation a b u w → ⊥)
        → prefix_item c (reargued given (tree_of s us ts n)) ∷ text (fixed_text COLONS) ∷ as_item heads.piece c p ∷ [] ≡ component_parts c (reargued given (tree_of s us ts n)) p
    by (Node.Operation a b u w) flat other = absurd (other a b u w refl)
    by (Node.Reargued x z) flat other = absurd (true≢false flat)
    by _ flat other = refl

module _ (c : items.Context) (a b : ℕ) (x y t p : Term) (is : t ≡ term.operation a b x y) where
  pub component-plain : (a ≡ 87 → ⊥) → prefix_item c t ∷ text (fixed_text COLONS) ∷ as_item heads.piece c p ∷ [] ≡ component_parts c t p
  unfolding component_parts
  component-plain other = rw (is, component_parts, ne_eqb a 87 other) refl

  pub component-attached : a ≡ 87 → b ≡ 64 → attached_parts c x p y ≡ component_parts c t p
  unfolding component_parts
  component-attached first second = rw (is, component_parts, eq-eqb a 87 first, eq-eqb b 64 second) refl

  pub component-alone : a ≡ 87 → (b ≡ 64 → ⊥) → (none : Term) → none ≡ term.absent → attached_parts c none p t ≡ component_parts c t p
  unfolding component_parts
  component-alone first other none absent = rw (is, component_parts, eq-eqb a 87 first, ne_eqb b 64 other, absent) refl

pub before-none : (c : items.Context) (t : Term) (others : List (PartOf items.Item)) → t ≡ term.absent → others ≡ before_piece c t ++ others
unfolding before_piece
before-none c t others is = rw is refl

pub before-some : (c : items.Context) (t : Term) (others : List (PartOf items.Item)) → (t ≡ term.absent → ⊥) → prefix_item c t ∷ text (fixed_text COLONS) ∷ others ≡ before_piece c t ++ others
unfolding before_piece
before-some c term.absent others there = absurd (there refl)
before-some c _ others there = refl

pub attached-whole : (c told : items.Context) (prefix p its_module : Term) → told ≡ c
    → before_piece told prefix ++ (as_item heads.piece c p ∷ text (fixed_text AT) ∷ as_item heads.left told its_module ∷ []) ≡ attached_parts c prefix p its_module
unfolding attached_parts
attached-whole c told prefix p its_module is = rw is refl

-- ## The entity of a local name

pub entity-other : (s : List ℕ) (us : List Thunk) (ts : List Term) (given : Option Term) (n : Node) (flat : is_again n ≡ false) (t : Term) → t ≡ reargued given (tree_of s us ts n) → ((g : Span) (a : ℕ) → n ≡ Node.OfDefault g a → ⊥) → t ≡ entity_of t
unfolding tree_of entity_of reargued is_again
entity-other s us ts given n flat t is other = subst (λ u. u ≡ entity_of u) (sym is) (by n flat other)
  where
    by : (n : Node) → is_again n ≡ false → ((g : Span) (a : ℕ) → n ≡ Node.OfDefault g a → ⊥) → reargued given (tree_of s us ts n) ≡ entity_of (reargued given (tree_of s us ts n))
    by (Node.OfDefault g a) flat other = absurd (other g a refl)
    by (Node.Reargued x z) flat other = absurd (true≢false flat)
    by _ flat other = refl

-- ## The last piece

-- how many local names and default arguments are around the entity of a name
unfoldable pub layers : Term → ℕ
layers (term.local encoding entity discriminator) = suc (layers entity)
layers (term.of_default digits entity) = suc (layers entity)
layers _ = zero

pub instance-whole : (c : items.Context) (t a : Term) (n : ℕ) → fixed_text n ≡ opening_text (last_piece t) → as_item heads.left c t ∷ text (fixed_text n) ∷ (list_part heads.first c a ++ (text (fixed_text GREATER) ∷ [])) ≡ instance_parts true c t a
unfolding instance_parts
instance-whole c t a n e = ap (λ o. as_item heads.left c t ∷ text o ∷ (list_part heads.first c a ++ (text (fixed_text GREATER) ∷ []))) e

pub brief-whole : (c : items.Context) (t a : Term) → as_item heads.left c t ∷ [] ≡ instance_parts false c t a
unfolding instance_parts
brief-whole c t a = refl
