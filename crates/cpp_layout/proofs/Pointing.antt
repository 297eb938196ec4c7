-- What pointers to pointers print.
use Rattle.cpp_layout.proofs.Basics.{◌≡◌, ℕ, zero, suc, ◌<◌, ◌≤◌, ◌+◌, ◌*◌, ◌-◌, List, [], ◌∷◌, ◌++◌, true, false, length, take, drop, replicate, Some, None, codes, refl, sym, ap, ◌∙◌, arith, All, Item, Part, Detail, IsText, Unshared, done, bytes, item, printed-parts, Term, pointer, qualified, qualifier_text, parts, qualified_left, qualified_right, text_part, parts_in, not_empty, left_parts, right_parts, marked_parts, closing_right, as_item, says, rank, ranks_fall, IsTable, IsPlacedBelow, trees, tree_under, Context, ReadSymbol, table_of, item_in, context_of, unshared_of, bytes_of_part, MayBeAsked, MayCome, pointers, constant_pointers, constant_stars, run_text, just_const, IsPointer}
use Rattle.std.proofs.lemmas.List.{take-replicate, length-replicate, take-append-le, length-append, append_assoc}
use Rattle.std.proofs.Math.Seq.{take-length}
use Rattle.std.proofs.lemmas.List.Elements.{All-replicate, All-cons, All-nil}
use Rattle.sym_print.specs.declared.layout.Part.TheVariants as part
use Rattle.sym_print.specs.Unfold.{text, printed_parts, printed}
use Rattle.cpp_grammar.specs.Items as heads
use Rattle.cpp_term.specs.Items as items
use Rattle.cpp_tree.specs.declared.node.Placed.{Placed}
use Rattle.sym_print.specs.Runs.{nested, texts_of, IsRun}

-- the texts of pointers to constant pointers
abbrev constant_texts : ℕ → List (List ℕ)
constant_texts zero = []
constant_texts (suc n) = (42 ∷ []) ∷ codes " const" ∷ constant_texts n

abbrev no_texts : ℕ → List (List ℕ)
no_texts zero = []
no_texts (suc n) = [] ∷ [] ∷ no_texts n

-- n pointers around a pointer are n + 1 pointers
pointers-within : (n : ℕ) (t : Term) → pointers n (pointer t) ≡ pointers (suc n) t
unfolding pointers
pointers-within zero t = refl
pointers-within (suc n) t = ap pointer (pointers-within n t)

pub one-more : (n : ℕ) (t : Term) → pointers n (pointer t) ≡ pointers (n + 1) t
one-more n t = pointers-within n t ∙ ap (λ k. pointers k t) (omega arith)

constant-within : (n : ℕ) (t : Term) → constant_pointers n (pointer (qualified just_const t)) ≡ constant_pointers (suc n) t
unfolding constant_pointers
constant-within zero t = refl
constant-within (suc n) t = ap (λ u. pointer (qualified just_const u)) (constant-within n t)

pub one-more-constant : (n : ℕ) (t : Term) → constant_pointers n (pointer (qualified just_const t)) ≡ constant_pointers (n + 1) t
one-more-constant n t = constant-within n t ∙ ap (λ k. constant_pointers k t) (omega arith)

-- a pointer is neither a function nor an array
no-function : (c : items.Context) (n : ℕ) (t : Term) → heads.is_funarr (items.head c (pointers n (pointer t))) ≡ false
unfolding pointers heads.is_funarr items.head items.head_of_class items.class_of
no-function c zero t = refl
no-function c (suc n) t = refl

no-constant-function : (c : items.Context) (n : ℕ) (t : Term) → heads.is_funarr (items.head c (qualified just_const (constant_pointers n (pointer t)))) ≡ false
unfolding constant_pointers heads.is_funarr items.head items.head_of_class items.class_of
no-constant-function c zero t = refl
no-constant-function c (suc n) t = refl

module _ (d : Detail) (c : items.Context) where
  abbrev shown_left : Term → Unshared
  shown_left t = printed (parts d) rank (record { tree = t; form = heads.left; context = c })

  abbrev shown_right : Term → Unshared
  shown_right t = printed (parts d) rank (record { tree = t; form = heads.right; context = c })

  star-left : (t : Term) → heads.is_funarr (items.head c t) ≡ false → shown_left (pointer t) ≡ item (shown_left t) (bytes (42 ∷ []) done)
  unfolding parts parts_in left_parts marked_parts not_empty
  star-left t plain = printed-parts (parts d) rank (ranks_fall d) (record { tree = pointer t; form = heads.left; context = c })
      ∙ ap (λ b. printed_parts (printed (parts d) rank) (not_empty (elim b [ true ↦ as_item heads.left c t ∷ text (codes "(" ++ codes "*") ∷ [] | false ↦ as_item heads.left c t ∷ says "*" ∷ [] ]))) plain

  none-right : (t : Term) → heads.is_funarr (items.head c t) ≡ false → shown_right (pointer t) ≡ item (shown_right t) done
  unfolding parts parts_in right_parts closing_right not_empty
  none-right t plain = printed-parts (parts d) rank (ranks_fall d) (record { tree = pointer t; form = heads.right; context = c })
      ∙ ap (λ b. printed_parts (printed (parts d) rank) (not_empty (elim b [ true ↦ says ")" ∷ as_item heads.right c t ∷ [] | false ↦ as_item heads.right c t ∷ [] ]))) plain

  left-run : (n : ℕ) (t : Term) → shown_left (pointers n (pointer t)) ≡ nested (replicate n (42 ∷ [])) (shown_left (pointer t))
  unfolding pointers
  left-run zero t = refl
  left-run (suc n) t = star-left (pointers n (pointer t)) (no-function c n t) ∙ ap (λ u. item u (bytes (42 ∷ []) done)) (left-run n t)

  const-left : (n : ℕ) (t : Term) → shown_left (qualified just_const (constant_pointers n (pointer t))) ≡ item (shown_left (constant_pointers n (pointer t))) (bytes (codes " const") done)
  unfolding constant_pointers parts parts_in left_parts qualified_left not_empty text_part qualifier_text heads.is_funarr heads.is_reference items.head items.head_of_class items.class_of
  const-left zero t = printed-parts (parts d) rank (ranks_fall d) (record { tree = qualified just_const (pointer t); form = heads.left; context = c })
  const-left (suc n) t = printed-parts (parts d) rank (ranks_fall d) (record { tree = qualified just_const (pointer (qualified just_const (constant_pointers n (pointer t)))); form = heads.left; context = c })

  constant-left-run : (n : ℕ) (t : Term) → shown_left (constant_pointers n (pointer t)) ≡ nested (constant_texts n) (shown_left (pointer t))
  unfolding constant_pointers
  constant-left-run zero t = refl
  constant-left-run (suc n) t = star-left (qualified just_const (constant_pointers n (pointer t))) (no-constant-function c n t)
      ∙ ap (λ u. item u (bytes (42 ∷ []) done)) (const-left n t ∙ ap (λ u. item u (bytes (codes " const") done)) (constant-left-run n t))

  right-run : (n : ℕ) (t : Term) → shown_right (pointers n (pointer t)) ≡ nested (replicate n []) (shown_right (pointer t))
  unfolding pointers
  right-run zero t = refl
  right-run (suc n) t = none-right (pointers n (pointer t)) (no-function c n t) ∙ ap (λ u. item u done) (right-run n t)

  const-right : (n : ℕ) (t : Term) → shown_right (qualified just_const (constant_pointers n (pointer t))) ≡ item (shown_right (constant_pointers n (pointer t))) done
  unfolding constant_pointers parts parts_in right_parts qualified_right not_empty
  const-right zero t = printed-parts (parts d) rank (ranks_fall d) (record { tree = qualified just_const (pointer t); form = heads.right; context = c })
  const-right (suc n) t = printed-parts (parts d) rank (ranks_fall d) (record { tree = qualified just_const (pointer (qualified just_const (constant_pointers n (pointer t)))); form = heads.right; context = c })

  constant-right-run : (n : ℕ) (t : Term) → shown_right (constant_pointers n (pointer t)) ≡ nested (no_texts n) (shown_right (pointer t))
  unfolding constant_pointers
  constant-right-run zero t = refl
  constant-right-run (suc n) t = none-right (qualified just_const (constant_pointers n (pointer t))) (no-constant-function c n t)
      ∙ ap (λ u. item u done) (const-right n t ∙ ap (λ u. item u done) (constant-right-run n t))

-- ## Their texts

module _ (star : ℕ) where
  replicate-one : (n : ℕ) → replicate n star ++ star ∷ [] ≡ replicate (suc n) star
  replicate-one zero = refl
  replicate-one (suc n) = ap (λ l. star ∷ l) (replicate-one n)

  stars : (n : ℕ) → texts_of (replicate n (star ∷ [])) ≡ replicate n star
  stars zero = refl
  stars (suc n) = ap (λ l. l ++ star ∷ []) (stars n) ∙ replicate-one n

all-stars : (n : ℕ) → All (λ (t : List ℕ). 0 < length t) (replicate n (42 ∷ []))
all-stars n = All-replicate (λ (t : List ℕ). 0 < length t) n (42 ∷ []) (omega arith)

all-none : (n : ℕ) → All (λ (t : List ℕ). t ≡ []) (replicate n [])
all-none n = All-replicate (λ (t : List ℕ). t ≡ []) n [] refl

-- a run's text: as many stars as it has levels
stars-of : (n : ℕ) → n ≤ 512 → take (n - 0) (drop 0 run_text) ≡ texts_of (replicate n (42 ∷ []))
unfolding run_text
stars-of n few =
    let whole : n - 0 ≡ n = omega arith in
    ap (λ k. take k (replicate 512 42 ++ constant_stars 64)) whole
    ∙ take-append-le n (replicate 512 42) (constant_stars 64) (omega (arith, few, length-replicate {A = ℕ} 512 42)) ∙ take-replicate n 512 42 few ∙ sym (stars 42 n)

length-run-text : length run_text ≡ 960
unfolding run_text
length-run-text = refl

length-constant : (n : ℕ) → length (constant_texts n) ≡ 2 * n
length-constant zero = refl
length-constant (suc n) = omega (arith, length-constant n)

all-constant : (n : ℕ) → All (λ (t : List ℕ). 0 < length t) (constant_texts n)
all-constant zero = All-nil (λ (t : List ℕ). 0 < length t)
all-constant (suc n) = All-cons (λ (t : List ℕ). 0 < length t) (42 ∷ []) (codes " const" ∷ constant_texts n) (omega arith) (All-cons (λ (t : List ℕ). 0 < length t) (codes " const") (constant_texts n) (omega arith) (all-constant n))

length-none : (n : ℕ) → length (no_texts n) ≡ 2 * n
length-none zero = refl
length-none (suc n) = omega (arith, length-none n)

all-no-texts : (n : ℕ) → All (λ (t : List ℕ). t ≡ []) (no_texts n)
all-no-texts zero = All-nil (λ (t : List ℕ). t ≡ [])
all-no-texts (suc n) = All-cons (λ (t : List ℕ). t ≡ []) [] ([] ∷ no_texts n) refl (All-cons (λ (t : List ℕ). t ≡ []) [] (no_texts n) refl (all-no-texts n))

length-stars : (n : ℕ) → length (constant_stars n) ≡ 7 * n
length-stars zero = refl
length-stars (suc n) = length-append (constant_stars n) (codes " const*") ∙ omega (arith, length-stars n)

stars-so : (n : ℕ) → texts_of (constant_texts n) ≡ constant_stars n
stars-so zero = refl
stars-so (suc n) = ap (λ l. (l ++ codes " const") ++ 42 ∷ []) (stars-so n) ∙ append_assoc (constant_stars n) (codes " const") (42 ∷ [])

more : (k n : ℕ) → ℕ
more zero n = n
more (suc k) n = suc (more k n)

more-is : (k n : ℕ) → more k n ≡ k + n
unfolding more
more-is zero n = omega arith
more-is (suc k) n = omega (arith, more-is k n)

first-stars : (k n : ℕ) → take (7 * n) (constant_stars (more k n)) ≡ constant_stars n
unfolding more
first-stars zero n = ap (λ j. take j (constant_stars n)) (sym (length-stars n)) ∙ take-length (constant_stars n)
first-stars (suc k) n = take-append-le (7 * n) (constant_stars (more k n)) (codes " const*") (omega (arith, length-stars (more k n), more-is k n)) ∙ first-stars k n

behind-stars : drop 512 run_text ≡ constant_stars 64
unfolding run_text
behind-stars = refl

constant-of : (n to : ℕ) → to ≡ 512 + 7 * n → n ≤ 64 → take (to - 512) (drop 512 run_text) ≡ texts_of (constant_texts n)
constant-of n to e few =
    let long : to - 512 ≡ 7 * n = omega (arith, e) in
    let many : 64 ≡ more (64 - n) n = omega (arith, few, more-is (64 - n) n) in
    ap (λ j. take j (drop 512 run_text)) long ∙ ap (take (7 * n)) (behind-stars ∙ ap constant_stars many) ∙ first-stars (64 - n) n ∙ sym (stars-so n)

-- ## The runs of a symbol's items

module _ (y : ReadSymbol) (node form at : ℕ) (c : Context) where
  abbrev item_there : Item Context
  item_there = record { node = node; form = form; at = at; ctx = c }

  abbrev tree_there : Placed → Term
  tree_there p = tree_under (trees (table_of y)) p

  is-left : form ≡ 0 → unshared_of y item_there ≡ shown_left c.detail (context_of c) (tree_there (record { node = node; under = c.argument }))
  unfolding tree_under
  is-left e = ap (λ f. printed (parts c.detail) rank (item_in (trees (table_of y)) node f at c)) e

  is-right : form ≡ 1 → unshared_of y item_there ≡ shown_right c.detail (context_of c) (tree_there (record { node = node; under = c.argument }))
  unfolding tree_under
  is-right e = ap (λ f. printed (parts c.detail) rank (item_in (trees (table_of y)) node f at c)) e

-- an item with its type replaced
abbrev pub item_of_type : Item Context → Placed → Item Context
item_of_type i p = record { node = p.node; form = i.form; at = 0; ctx = record { index = i.ctx.index; detail = i.ctx.detail; argument = p.under } }

module _ (y : ReadSymbol) (i : Item Context) (inner : Placed) (n : ℕ) (table : IsTable (table_of y))
    (tree : tree_under (trees (table_of y)) (record { node = i.node; under = i.ctx.argument }) ≡ pointers n (tree_under (trees (table_of y)) inner))
    (below : IsPlacedBelow (length y.table.nodes) inner) (is_pointer : IsPointer (tree_under (trees (table_of y)) inner)) (some : 0 < n) where
  nested-left : i.form ≡ 0 → unshared_of y i ≡ nested (replicate n (42 ∷ [])) (unshared_of y (item_of_type i inner))
  nested-left e =
      is-left y i.node i.form i.at i.ctx e ∙ ap (shown_left i.ctx.detail (context_of i.ctx)) (tree ∙ ap (pointers n) is_pointer.1) ∙ left-run i.ctx.detail (context_of i.ctx) n is_pointer.0
      ∙ ap (nested (replicate n (42 ∷ []))) (ap (shown_left i.ctx.detail (context_of i.ctx)) (sym is_pointer.1) ∙ sym (is-left y inner.node i.form 0 (item_of_type i inner).ctx e))

  nested-right : i.form ≡ 1 → unshared_of y i ≡ nested (replicate n []) (unshared_of y (item_of_type i inner))
  nested-right e =
      is-right y i.node i.form i.at i.ctx e ∙ ap (shown_right i.ctx.detail (context_of i.ctx)) (tree ∙ ap (pointers n) is_pointer.1) ∙ right-run i.ctx.detail (context_of i.ctx) n is_pointer.0
      ∙ ap (nested (replicate n [])) (ap (shown_right i.ctx.detail (context_of i.ctx)) (sym is_pointer.1) ∙ sym (is-right y inner.node i.form 0 (item_of_type i inner).ctx e))

  run-of-stars : (p : Part Context) → IsText p → MayCome (table_of y) p → bytes_of_part y p ≡ texts_of (replicate n (42 ∷ [])) → i.form ≡ 0
      → IsRun (unshared_of y) (bytes_of_part y) (MayBeAsked y) i (record { item = item_of_type i inner; levels = n; text = Some p })
  run-of-stars p is may says e = record {
    texts = replicate n (42 ∷ []);
    is_nested = nested-left e;
    levels = sym (length-replicate n (42 ∷ []));
    some = some;
    end = (table, below);
    text = (is, (table, may), all-stars n, says);
  }

  pub run-left : n ≤ 512 → i.form ≡ 0 → IsRun (unshared_of y) (bytes_of_part y) (MayBeAsked y) i (record { item = item_of_type i inner; levels = n; text = Some (part.List (record { from = 0; to = n })) })
  run-left few e = run-of-stars (part.List (record { from = 0; to = n })) tt (some, omega (arith, few, length-run-text)) (stars-of n few) e

  pub run-right : i.form ≡ 1 → IsRun (unshared_of y) (bytes_of_part y) (MayBeAsked y) i (record { item = item_of_type i inner; levels = n; text = None })
  run-right e = record {
    texts = replicate n [];
    is_nested = nested-right e;
    levels = sym (length-replicate n []);
    some = some;
    end = (table, below);
    text = all-none n;
  }

module _ (y : ReadSymbol) (i : Item Context) (inner : Placed) (n : ℕ) (table : IsTable (table_of y))
    (tree : tree_under (trees (table_of y)) (record { node = i.node; under = i.ctx.argument }) ≡ constant_pointers n (tree_under (trees (table_of y)) inner))
    (below : IsPlacedBelow (length y.table.nodes) inner) (is_pointer : IsPointer (tree_under (trees (table_of y)) inner)) (some : 0 < n) where
  nested-constant : i.form ≡ 0 → unshared_of y i ≡ nested (constant_texts n) (unshared_of y (item_of_type i inner))
  nested-constant e =
      is-left y i.node i.form i.at i.ctx e ∙ ap (shown_left i.ctx.detail (context_of i.ctx)) (tree ∙ ap (constant_pointers n) is_pointer.1) ∙ constant-left-run i.ctx.detail (context_of i.ctx) n is_pointer.0
      ∙ ap (nested (constant_texts n)) (ap (shown_left i.ctx.detail (context_of i.ctx)) (sym is_pointer.1) ∙ sym (is-left y inner.node i.form 0 (item_of_type i inner).ctx e))

  pub run-constant : (levels to : ℕ) → levels ≡ 2 * n → to ≡ 512 + 7 * n → n ≤ 64 → i.form ≡ 0
      → IsRun (unshared_of y) (bytes_of_part y) (MayBeAsked y) i (record { item = item_of_type i inner; levels = levels; text = Some (part.List (record { from = 512; to = to })) })
  run-constant levels to twice end few e = record {
    texts = constant_texts n;
    is_nested = nested-constant e;
    levels = twice ∙ sym (length-constant n);
    some = omega (arith, twice, some);
    end = (table, below);
    text = (tt, (table, (omega (arith, end, some), omega (arith, end, few, length-run-text))), all-constant n, constant-of n to end few);
  }

  nested-constant-right : i.form ≡ 1 → unshared_of y i ≡ nested (no_texts n) (unshared_of y (item_of_type i inner))
  nested-constant-right e =
      is-right y i.node i.form i.at i.ctx e ∙ ap (shown_right i.ctx.detail (context_of i.ctx)) (tree ∙ ap (constant_pointers n) is_pointer.1) ∙ constant-right-run i.ctx.detail (context_of i.ctx) n is_pointer.0
      ∙ ap (nested (no_texts n)) (ap (shown_right i.ctx.detail (context_of i.ctx)) (sym is_pointer.1) ∙ sym (is-right y inner.node i.form 0 (item_of_type i inner).ctx e))

  pub run-constant-right : (levels : ℕ) → levels ≡ 2 * n → i.form ≡ 1 → IsRun (unshared_of y) (bytes_of_part y) (MayBeAsked y) i (record { item = item_of_type i inner; levels = levels; text = None })
  run-constant-right levels twice e = record {
    texts = no_texts n;
    is_nested = nested-constant-right e;
    levels = twice ∙ sym (length-none n);
    some = omega (arith, twice, some);
    end = (table, below);
    text = all-no-texts n;
  }
