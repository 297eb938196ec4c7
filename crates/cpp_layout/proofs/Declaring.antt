-- The parameters that lambdas declare: their names, and what a lambda that declares parameters prints.
use Rattle.cpp_layout.proofs.Basics.{◌≡◌, refl, sym, ap, subst, ◌∙◌, ℕ, zero, suc, ◌+◌, ◌^◌, ◌<◌, ◌≤◌, List, [], ◌∷◌, ◌++◌, Bool, true, false, nat_lt, Option, None, Some, decimal, append-nil, arith, true≢false, eq-eqb, ne_eqb, le-ltb, lt-ltb, Detail, PartOf, text, sub, letter_name, as_item, says, list_part, comma_before, generic_parts, piece_parts, declared_letter, front_of_name, name_of_own, own_name, parameter_parts, declared_rest, declared_parts, element, Term, reargued, reargued_none, reargued_twice, element_reargued, trees, tree_at, tree_of, tree_if_there, is_again, Node, Thunk, fixed_text, BLANK, BRACE, COMMA, DECLARING, RIGHT_NUMBER, TYPES, Context, ReadSymbol, table_of, form_of, context_of, shown_in, printed_tree, item_in, text_if}
use Rattle.cpp_grammar.specs.Items as heads
use Rattle.cpp_term.specs.Items as items
use Rattle.cpp_term.specs.Term as term
use Rattle.cpp_layout.proofs.Growing.{list-some, parameter-same}

abbrev Others : Type 0
Others = List (PartOf items.Item)

-- ## Names

module _ (s : List ℕ) (us : List Thunk) (ts : List Term) (given : Option Term) (n : Node) (flat : is_again n ≡ false) (t : Term) (is : t ≡ reargued given (tree_of s us ts n)) where
  pub letter-none : ((a b x y : ℕ) → n ≡ Node.Operation a b x y → ⊥) → 0 ≡ declared_letter t
  unfolding tree_of declared_letter reargued is_again
  letter-none other = subst (λ u. 0 ≡ declared_letter u) (sym is) (by n flat other)
    where
      by : (n : Node) → is_again n ≡ false → ((a b x y : ℕ) → n ≡ Node.Operation a b x y → ⊥) → 0 ≡ declared_letter (reargued given (tree_of s us ts n))
      by (Node.Operation a b x y) flat other = absurd (other a b x y refl)
      by (Node.Reargued x z) flat other = absurd (true≢false flat)
      by _ flat other = refl

  pub front-none : ((a b x y : ℕ) → n ≡ Node.Operation a b x y → ⊥) → letter_name 0 ≡ front_of_name t
  unfolding tree_of front_of_name reargued is_again
  front-none other = subst (λ u. letter_name 0 ≡ front_of_name u) (sym is) (by n flat other)
    where
      by : (n : Node) → is_again n ≡ false → ((a b x y : ℕ) → n ≡ Node.Operation a b x y → ⊥) → letter_name 0 ≡ front_of_name (reargued given (tree_of s us ts n))
      by (Node.Operation a b x y) flat other = absurd (other a b x y refl)
      by (Node.Reargued x z) flat other = absurd (true≢false flat)
      by _ flat other = refl

  -- a declared parameter's name is its front and its number
  pub name-some : (k : ℕ) → (n ≡ Node.Absent → ⊥) → text (front_of_name t) ∷ text (decimal k) ∷ [] ≡ name_of_own k t
  unfolding tree_of name_of_own reargued is_again
  name-some k other = subst (λ u. text (front_of_name u) ∷ text (decimal k) ∷ [] ≡ name_of_own k u) (sym is) (by n flat other)
    where
      by : (n : Node) → is_again n ≡ false → (n ≡ Node.Absent → ⊥) → text (front_of_name (reargued given (tree_of s us ts n))) ∷ text (decimal k) ∷ [] ≡ name_of_own k (reargued given (tree_of s us ts n))
      by Node.Absent flat other = absurd (other refl)
      by (Node.Reargued x z) flat other = absurd (true≢false flat)
      by _ flat other = refl

  -- an argument prints its own parts, unless it is a signature that declares parameters
  argument-own : (form : heads.Form) (k : ℕ) → ((h p : ℕ) → n ≡ Node.Declaring h p → ⊥) → as_item form items.closed t ∷ [] ≡ parameter_parts form k t
  unfolding tree_of parameter_parts reargued is_again
  argument-own form k other = subst (λ u. as_item form items.closed u ∷ [] ≡ parameter_parts form k u) (sym is) (by n flat other)
    where
      by : (n : Node) → is_again n ≡ false → ((h p : ℕ) → n ≡ Node.Declaring h p → ⊥)
          → as_item form items.closed (reargued given (tree_of s us ts n)) ∷ [] ≡ parameter_parts form k (reargued given (tree_of s us ts n))
      by (Node.Declaring h p) flat other = absurd (other h p refl)
      by (Node.Reargued x z) flat other = absurd (true≢false flat)
      by _ flat other = refl

  pub argument-shown : (form k node : ℕ) (inner : Context) (a : Term) → form < 6 → shown_in ts inner (tree_at ts node) ≡ a → t ≡ shown_in ts inner (tree_at ts node) → context_of inner ≡ items.closed → ((h p : ℕ) → n ≡ Node.Declaring h p → ⊥)
      → sub (item_in ts node form 0 inner) ∷ [] ≡ parameter_parts (form_of form 0) k a
  argument-shown form k node inner a less shown same closed other =
      parameter-same ts form node inner t less (sym same) closed ∙ argument-own (form_of form 0) k other ∙ ap (parameter_parts (form_of form 0) k) (same ∙ shown)

  generic-own : (c : items.Context) (number : ℕ) → ((h p : ℕ) → n ≡ Node.Declaring h p → ⊥) → piece_parts c (term.lambda t number) ≡ piece_parts c (term.generic_lambda t number)
  unfolding tree_of piece_parts generic_parts reargued is_again
  generic-own c number other = subst (λ u. piece_parts c (term.lambda u number) ≡ piece_parts c (term.generic_lambda u number)) (sym is) (by n flat other)
    where
      by : (n : Node) → is_again n ≡ false → ((h p : ℕ) → n ≡ Node.Declaring h p → ⊥)
          → piece_parts c (term.lambda (reargued given (tree_of s us ts n)) number) ≡ piece_parts c (term.generic_lambda (reargued given (tree_of s us ts n)) number)
      by (Node.Declaring h p) flat other = absurd (other h p refl)
      by (Node.Reargued x z) flat other = absurd (true≢false flat)
      by _ flat other = refl

  pub declared-none : (c : items.Context) (k : ℕ) → ((e r : ℕ) → n ≡ Node.Cell e r → ⊥) → [] ≡ declared_parts c t k
  unfolding tree_of declared_parts reargued is_again
  declared-none c k other = subst (λ u. [] ≡ declared_parts c u k) (sym is) (by n flat other)
    where
      by : (n : Node) → is_again n ≡ false → ((e r : ℕ) → n ≡ Node.Cell e r → ⊥) → [] ≡ declared_parts c (reargued given (tree_of s us ts n)) k
      by (Node.Cell e r) flat other = absurd (other e r refl)
      by (Node.Reargued x z) flat other = absurd (true≢false flat)
      by _ flat other = refl

-- a generic lambda prints as a plain one does, if its signature declares nothing
pub generic-plain : (s : List ℕ) (us : List Thunk) (ts : List Term) (given : Option Term) (n : Node) (flat : is_again n ≡ false) (c : items.Context) (number : ℕ) (t u v : Term) → u ≡ t → v ≡ u → v ≡ reargued given (tree_of s us ts n)
    → ((h p : ℕ) → n ≡ Node.Declaring h p → ⊥) → piece_parts c (term.lambda (reargued None t) number) ≡ piece_parts c (term.generic_lambda t number)
generic-plain s us ts given n flat c number t u v own same is other =
    ap (λ x. piece_parts c (term.lambda x number)) (reargued_none t) ∙ generic-own s us ts given n flat t (sym own ∙ sym same ∙ is) c number other

-- the letter of the declaration within a pack of parameters gives what the pack's name begins with
pub front-pack : (a b : ℕ) (x y : Term) → b ≡ 112 → letter_name (declared_letter x) ≡ front_of_name (term.operation a b x y)
unfolding front_of_name
front-pack a b x y is = rw (front_of_name, eq-eqb b 112 is) refl

pub front-letter : (a b : ℕ) (x y : Term) → (b ≡ 112 → ⊥) → letter_name b ≡ front_of_name (term.operation a b x y)
unfolding front_of_name
front-letter a b x y other = rw (front_of_name, ne_eqb b 112 other) refl

letter-kept : (given : Option Term) (t : Term) → declared_letter (reargued given t) ≡ declared_letter t
unfolding declared_letter reargued
letter-kept given (term.operation a b x y) = refl
letter-kept given _ = refl

front-kept : (given : Option Term) (t : Term) → front_of_name (reargued given t) ≡ front_of_name t
unfolding front_of_name reargued
front-kept given (term.operation a b x y) = rw (letter-kept given x) refl
front-kept given _ = refl

-- a name is the same under other arguments
name-kept : (given : Option Term) (k : ℕ) (t : Term) → name_of_own k t ≡ name_of_own k (reargued given t)
unfolding name_of_own reargued front_of_name
name-kept given k term.absent = refl
name-kept given k (term.operation a b x y) = rw (front-kept given (term.operation a b x y)) refl
name-kept given k _ = refl

own-kept : (form : heads.Form) (k : ℕ) (t u : Term) → name_of_own k t ≡ name_of_own k u → own_name form k t ≡ own_name form k u
unfolding own_name
own-kept heads.right k t u same = refl
own-kept form k t u same = same

-- a parameter prints the name that the signature gives it, if its argument is a signature that declares parameters
pub argument-named : (form : heads.Form) (k : ℕ) (given : Option Term) (h p t u v : Term) → u ≡ t → v ≡ u → v ≡ term.declaring (reargued given h) (reargued given p) → own_name form k (element h k) ≡ parameter_parts form k t
unfolding parameter_parts
argument-named form k given h p t u v argument same is =
    own-kept form k (element h k) (element (reargued given h) k) (name-kept given k (element h k) ∙ ap (name_of_own k) (sym (element_reargued given h k)))
    ∙ ap (parameter_parts form k) (sym is ∙ same ∙ argument)

-- ## Forms

pub own-right : (form k : ℕ) (t : Term) → form ≡ 1 → [] ≡ own_name (form_of form 0) k t
unfolding own_name
own-right form k t is = rw is refl

pub own-other : (form k : ℕ) (t : Term) → form < 6 → (form ≡ 1 → ⊥) → name_of_own k t ≡ own_name (form_of form 0) k t
unfolding own_name
own-other zero k t less other = refl
own-other (suc zero) k t less other = absurd (other refl)
own-other (suc (suc zero)) k t less other = refl
own-other (suc (suc (suc zero))) k t less other = refl
own-other (suc (suc (suc (suc zero)))) k t less other = refl
own-other (suc (suc (suc (suc (suc zero))))) k t less other = refl
own-other (suc (suc (suc (suc (suc (suc form)))))) k t less other = absurd (omega (arith, less))

-- ## Lambdas

-- without an argument from the context, a node's tree is printed as it is
pub own-tree : (y : ReadSymbol) (index : Option ℕ) (d : Detail) (c : Context) (node : ℕ) → c ≡ record { index = index; detail = d; argument = None } → printed_tree y c node ≡ tree_at (trees (table_of y)) node
unfolding tree_if_there
own-tree y index d c node is = ap (λ (x : Context). printed_tree y x node) is ∙ reargued_none (tree_at (trees (table_of y)) node)

-- what the name of a lambda that declares parameters prints
abbrev pub declaring_parts : items.Context → (heads types : Term) → (number : ℕ) → Others
declaring_parts c h p number =
    (says "{lambda<" ∷ as_item (heads.declared 0) c h ∷ says ">(" ∷ list_part heads.first c p) ++ (says ")#" ∷ text (decimal number) ∷ says "}" ∷ [])

pub declaring-whole : (c : items.Context) (h p : Term) (number : ℕ)
    → text (fixed_text DECLARING) ∷ as_item (heads.declared 0) c h ∷ text (fixed_text TYPES) ∷ (list_part heads.first c p ++ (text (fixed_text RIGHT_NUMBER) ∷ text (decimal number) ∷ text (fixed_text BRACE) ∷ []))
    ≡ declaring_parts c h p number
declaring-whole c h p number = refl

-- a generic lambda prints these parts, with its own signature as the argument of its parameters
pub generic-declaring : (c : items.Context) (given : Option Term) (t u v h p : Term) (number : ℕ) → u ≡ t → v ≡ u → v ≡ term.declaring (reargued given h) (reargued given p)
    → declaring_parts c (reargued (Some t) h) (reargued (Some t) p) number ≡ piece_parts c (term.generic_lambda t number)
unfolding piece_parts generic_parts
generic-declaring c given t u v h p number own same is =
    ap (λ x. declaring_parts c x (reargued (Some t) p) number) (sym (reargued_twice given t h))
    ∙ ap (λ x. declaring_parts c (reargued (Some t) (reargued given h)) x number) (sym (reargued_twice given t p))
    ∙ subst (λ u. declaring_parts c (reargued (Some u) (reargued given h)) (reargued (Some u) (reargued given p)) number ≡ piece_parts c (term.generic_lambda u number)) (sym is ∙ same ∙ own) refl

-- ## What is declared

pub rest-none : (c : items.Context) (t : Term) (k : ℕ) (others : Others) → 2 ^ 32 ≤ k + 1 → others ≡ declared_rest c t k ++ others
unfolding declared_rest
rest-none c t k others more = rw (declared_rest, le-ltb (k + 1) (2 ^ 32) more) refl

pub rest-nil : (c : items.Context) (t : Term) (k : ℕ) (others : Others) → t ≡ term.nil → others ≡ declared_rest c t k ++ others
unfolding declared_rest list_part
rest-nil c t k others is = by (nat_lt (k + 1) (2 ^ 32))
  where
    by : (b : Bool) → others ≡ elim b [ true ↦ list_part (heads.declared (k + 1)) c t | false ↦ [] ] ++ others
    by true = rw is refl
    by false = refl

pub rest-some : (c : items.Context) (t : Term) (k : ℕ) (others : Others) → k + 1 < 2 ^ 32 → (t ≡ term.nil → ⊥) → as_item (heads.declared (k + 1)) c t ∷ others ≡ declared_rest c t k ++ others
unfolding declared_rest list_part
rest-some c t k others less there = rw (declared_rest, lt-ltb (k + 1) (2 ^ 32) less) (list-some (heads.declared (k + 1)) c t others there)

pub declared-whole : (c : items.Context) (e r : Term) (k : ℕ) (b : Bool) (f : List ℕ) → f ≡ front_of_name e → (0 < k → b ≡ true) → (k ≤ 0 → b ≡ false)
    → text_if b (fixed_text COMMA) (as_item heads.left c e ∷ text (fixed_text BLANK) ∷ text f ∷ text (decimal k) ∷ (declared_rest c r k ++ [])) ≡ declared_parts c (term.list e r) k
unfolding declared_parts comma_before
declared-whole c e r zero b f is so not = rw (not (omega arith), append-nil (declared_rest c r 0), is) refl
declared-whole c e r (suc k) b f is so not = rw (so (omega arith), append-nil (declared_rest c r (suc k)), is) refl
