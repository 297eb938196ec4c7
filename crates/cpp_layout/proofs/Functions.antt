-- The parts of encodings, function types and expansions.
use Rattle.cpp_layout.proofs.Basics.{Option, None, Some, zero, suc, ◌≡◌, ℕ, ◌<◌, ◌≤◌, ◌+◌, List, [], ◌∷◌, ◌++◌, length, Bool, true, false, if◌then◌else◌, nat_eq, refl, sym, ap, subst, ◌∙◌, arith, append-nil, append_assoc, codes, PartOf, text, encoding_text, qualifier_text, is_below, clone_text, as_item, list_part, text_part, begins_parameters, function_bare, function_full, root_parts, expand_parts, expand_rest, comma_before, at_index, types_of, function_right, qualified_right, expansion_parts, Term, reargued, true≢false, tree_of, is_again, Node, Mark, Thunk, fixed_text, suffix_of, BLANK, BLANK_LEFT, CLONE, OTHER_CLONE, COMMA, DOTS, LEFT, LEFT_THIS, RIGHT, text_if, clone_suffix}
use Rattle.cpp_grammar.specs.Items as heads
use Rattle.cpp_term.specs.Items as items
use Rattle.cpp_term.specs.Term as term
use Rattle.cpp_grammar.specs.Term as values

pub part-none : (b : List ℕ) (rest : List (PartOf items.Item)) → b ≡ [] → rest ≡ text_part b ++ rest
unfolding text_part
part-none b rest e = rw e refl

suffix-plain : (q : values.Qualifiers) (m : values.RefQualifier) → suffix_of q m false ≡ encoding_text q m
unfolding suffix_of
suffix-plain q m = append-nil (encoding_text q m)

-- the text before the parameters of a function with an explicit object: LEFT if there are none, otherwise LEFT_THIS
pub opens-none : (m : values.RefQualifier) (parameters : Term) → m ≡ values.explicit_object → parameters ≡ term.nil → fixed_text LEFT ≡ begins_parameters m parameters
unfolding begins_parameters
opens-none m parameters explicit none = rw (explicit, none) refl

opens-this : (parameters : Term) → (parameters ≡ term.nil → ⊥) → fixed_text LEFT_THIS ≡ begins_parameters values.explicit_object parameters
unfolding begins_parameters
opens-this term.nil some = absurd (some refl)
opens-this _ some = refl

pub opens-object : (m : values.RefQualifier) (parameters : Term) → m ≡ values.explicit_object → (parameters ≡ term.nil → ⊥) → fixed_text LEFT_THIS ≡ begins_parameters m parameters
opens-object m parameters explicit some = opens-this parameters some ∙ ap (λ x. begins_parameters x parameters) (sym explicit)

module _ (name : Term) (q : values.Qualifiers) (m : values.RefQualifier) (parameters : Term) where
  pub bare-whole : (opening : List ℕ) → opening ≡ begins_parameters m parameters → (others : List (PartOf items.Item)) → as_item heads.left items.closed name ∷ text opening ∷ (list_part heads.first items.closed parameters ++ (text (fixed_text RIGHT) ∷ (text_part (suffix_of q m false) ++ others))) ≡ function_bare true name q m parameters ++ others
  unfolding function_bare types_of
  bare-whole opening opens others = ap (λ o. as_item heads.left items.closed name ∷ text o ∷ (list_part heads.first items.closed parameters ++ (text (fixed_text RIGHT) ∷ (text_part (suffix_of q m false) ++ others)))) opens
      ∙ ap (λ l. as_item heads.left items.closed name ∷ text (begins_parameters m parameters) ∷ l)
      (ap (λ s. list_part heads.first items.closed parameters ++ (text (fixed_text RIGHT) ∷ (text_part s ++ others))) (suffix-plain q m)
      ∙ sym (append_assoc (list_part heads.first items.closed parameters) (text (fixed_text RIGHT) ∷ text_part (encoding_text q m)) others))

  pub full-whole : (r : Term) → (r ≡ term.absent → ⊥) → as_item heads.left items.closed r ∷ text (fixed_text BLANK) ∷ (function_bare true name q m parameters ++ (as_item heads.right items.closed r ∷ [])) ≡ function_full true name q m r parameters
  unfolding function_full types_of
  full-whole term.absent there = absurd (there refl)
  full-whole r there = refl

module _ (c : items.Context) (q : values.Qualifiers) (m : values.RefQualifier) (n : Bool) (r parameters : Term) where
  pub right-whole : text (fixed_text LEFT) ∷ (list_part heads.first c parameters ++ (text (fixed_text RIGHT) ∷ (text_part (suffix_of q m n) ++ (as_item heads.right c r ∷ [])))) ≡ function_right c (qualifier_text q) m n r parameters
  unfolding function_right suffix_of encoding_text
  right-whole = ap (λ l. text (fixed_text LEFT) ∷ l) (sym (append_assoc (list_part heads.first c parameters) (text (fixed_text RIGHT) ∷ text_part (suffix_of q m n)) (as_item heads.right c r ∷ [])))

pub qualified-function : (c : items.Context) (q : values.Qualifiers) (t : Term) (l n : Bool) (m : values.RefQualifier) (r p : Term) → t ≡ term.function_type l n m r p → function_right c (qualifier_text q) m n r p ≡ qualified_right c q t
unfolding qualified_right
qualified-function c q t l n m r p e = rw e refl

other-node : (s : List ℕ) (us : List Thunk) (ts : List Term) (given : Option Term) (c : items.Context) (q : values.Qualifiers) (k : Node) (flat : is_again k ≡ false) → ((l n : Bool) (m : Mark) (r p : ℕ) → k ≡ Node.FunctionType l n m r p → ⊥) → as_item heads.right c (reargued given (tree_of s us ts k)) ∷ [] ≡ qualified_right c q (reargued given (tree_of s us ts k))
unfolding tree_of qualified_right reargued is_again
other-node s us ts given c q (Node.FunctionType l n m r p) flat other = absurd (other l n m r p refl)
other-node s us ts given c q (Node.Reargued x z) flat other = absurd (true≢false flat)
other-node s us ts given c q _ flat other = refl

pub qualified-other : (s : List ℕ) (us : List Thunk) (ts : List Term) (given : Option Term) (c : items.Context) (q : values.Qualifiers) (k : Node) (flat : is_again k ≡ false) (t : Term) → t ≡ reargued given (tree_of s us ts k) → ((l n : Bool) (m : Mark) (r p : ℕ) → k ≡ Node.FunctionType l n m r p → ⊥) → as_item heads.right c t ∷ [] ≡ qualified_right c q t
qualified-other s us ts given c q k flat t e other = subst (λ u. as_item heads.right c u ∷ [] ≡ qualified_right c q u) (sym e) (other-node s us ts given c q k flat other)

-- ## Expansions

module _ (c : items.Context) (p : Term) (o : Option ℕ) where
  pub expansion-none : o ≡ None → as_item heads.left c p ∷ as_item heads.right c p ∷ text (fixed_text DOTS) ∷ [] ≡ expansion_parts c p o
  unfolding expansion_parts
  expansion-none e = rw e refl

  pub expansion-zero : (m : ℕ) → m ≡ 0 → o ≡ Some m → [] ≡ expansion_parts c p o
  unfolding expansion_parts
  expansion-zero m z e = rw (e, z) refl

  pub expansion-more : (m : ℕ) → 0 < m → o ≡ Some m → as_item (heads.expand 0) c p ∷ [] ≡ expansion_parts c p o
  unfolding expansion_parts
  expansion-more zero more e = absurd (omega (arith, more))
  expansion-more (suc m) more e = rw e refl

-- ## Encodings

pub object-whole : (i : PartOf items.Item) (q : values.Qualifiers) (m : values.RefQualifier) → i ∷ (text_part (suffix_of q m false) ++ []) ≡ i ∷ text_part (encoding_text q m)
object-whole i q m = ap (λ l. i ∷ l) (append-nil (text_part (suffix_of q m false)) ∙ ap text_part (suffix-plain q m))

-- the parts of a special name: its text, its item and its qualifiers
pub special_name-whole : (t u : List ℕ) (i : PartOf items.Item) (q : values.Qualifiers) (m : values.RefQualifier) → t ≡ u
    → text t ∷ i ∷ (text_part (suffix_of q m false) ++ []) ≡ text u ∷ i ∷ text_part (encoding_text q m)
special_name-whole t u i q m same = rw same (ap (λ l. text u ∷ i ∷ l) (append-nil (text_part (suffix_of q m false)) ∙ ap text_part (suffix-plain q m)))

pub function-absent : (name : Term) (q : values.Qualifiers) (m : values.RefQualifier) (t parameters : Term) → t ≡ term.absent → function_bare true name q m parameters ++ [] ≡ function_full true name q m t parameters
unfolding function_full
function-absent name q m t parameters is = append-nil (function_bare true name q m parameters) ∙ rw is refl

not-absent-node : (s : List ℕ) (us : List Thunk) (ts : List Term) (given : Option Term) (n : Node) (flat : is_again n ≡ false) → (n ≡ Node.Absent → ⊥) → reargued given (tree_of s us ts n) ≡ term.absent → ⊥
unfolding tree_of reargued is_again
not-absent-node s us ts given Node.Absent flat other e = other refl
not-absent-node s us ts given (Node.Reargued x z) flat other e = true≢false flat
not-absent-node s us ts given _ flat other e = cc e

pub not-absent : (s : List ℕ) (us : List Thunk) (ts : List Term) (given : Option Term) (n : Node) (flat : is_again n ≡ false) (t : Term) → t ≡ reargued given (tree_of s us ts n) → (n ≡ Node.Absent → ⊥) → t ≡ term.absent → ⊥
not-absent s us ts given n flat t is other e = not-absent-node s us ts given n flat other (sym is ∙ e)

not-nil-node : (s : List ℕ) (us : List Thunk) (ts : List Term) (given : Option Term) (n : Node) (flat : is_again n ≡ false) → (n ≡ Node.Nil → ⊥) → reargued given (tree_of s us ts n) ≡ term.nil → ⊥
unfolding tree_of reargued is_again
not-nil-node s us ts given Node.Nil flat other e = other refl
not-nil-node s us ts given (Node.Reargued x z) flat other e = true≢false flat
not-nil-node s us ts given _ flat other e = cc e

pub not-nil : (s : List ℕ) (us : List Thunk) (ts : List Term) (given : Option Term) (n : Node) (flat : is_again n ≡ false) (t : Term) → t ≡ reargued given (tree_of s us ts n) → (n ≡ Node.Nil → ⊥) → t ≡ term.nil → ⊥
not-nil s us ts given n flat t is other e = not-nil-node s us ts given n flat other (sym is ∙ e)

pub clone-whole : (letter : ℕ) (i : PartOf items.Item) → ◌≡◌ {A = List (PartOf items.Item)} (text (fixed_text (if nat_eq letter 116 then CLONE else OTHER_CLONE)) ∷ i ∷ []) (text (clone_text letter) ∷ i ∷ [])
unfolding clone_text
clone-whole letter i = by (nat_eq letter 116)
  where
    by : (b : Bool) → ◌≡◌ {A = List (PartOf items.Item)} (text (fixed_text (if b then CLONE else OTHER_CLONE)) ∷ i ∷ [])
        (text (elim b [ true ↦ codes "transaction clone for " | false ↦ codes "non-transaction clone for " ]) ∷ i ∷ [])
    by true = refl
    by false = refl

pub root-whole : (e : Term) (suffix : List ℕ) → as_item heads.full items.closed e ∷ (clone_suffix suffix ++ []) ≡ root_parts (term.symbol e suffix)
unfolding root_parts
root-whole e [] = refl
root-whole e (b ∷ bs) = refl

pub no-clone : (suffix : List ℕ) (others : List (PartOf items.Item)) → suffix ≡ [] → others ≡ clone_suffix suffix ++ others
no-clone suffix others is = rw is refl

pub some-clone : (suffix : List ℕ) (others : List (PartOf items.Item)) → 0 < length suffix → text (fixed_text BLANK_LEFT) ∷ text suffix ∷ text (fixed_text RIGHT) ∷ others ≡ clone_suffix suffix ++ others
some-clone [] others some = absurd (omega (arith, some))
some-clone (b ∷ bs) others some = refl

-- ## Elements of an expansion

pub next-some : (c : items.Context) (p : Term) (i : ℕ) (others : List (PartOf items.Item)) → is_below i (items.packs_of c p) ≡ true → as_item (heads.expand i) c p ∷ others ≡ expand_rest c p i ++ others
unfolding expand_rest
next-some c p i others e = rw (expand_rest, e) refl

pub next-none : (c : items.Context) (p : Term) (i : ℕ) (others : List (PartOf items.Item)) → is_below i (items.packs_of c p) ≡ false → others ≡ expand_rest c p i ++ others
unfolding expand_rest
next-none c p i others e = rw (expand_rest, e) refl

pub expand-whole : (c : items.Context) (p : Term) (at : ℕ) (b : Bool) → (0 < at → b ≡ true) → (at ≤ 0 → b ≡ false)
    → text_if b (fixed_text COMMA) (as_item heads.left (record { index = Some at }) p ∷ as_item heads.right (record { index = Some at }) p ∷ (expand_rest c p (at + 1) ++ [])) ≡ expand_parts c p at
unfolding expand_parts comma_before at_index
expand-whole c p zero b so not = rw (not (omega arith), append-nil (expand_rest c p 1)) refl
expand-whole c p (suc at) b so not = rw (so (omega arith), append-nil (expand_rest c p (suc at + 1))) refl
