-- Which bytes spell a part: the steps of looking them up.
use Rattle.sym_parts.proofs.Basics.{◌≡◌, ℕ, suc, ◌+◌, ◌-◌, ◌<◌, ◌≤◌, List, [], ◌∷◌, ◌++◌, length, true, false, cond, refl, sym, ap, ◌∙◌, arith, append_assoc, append-nil, nat_eq, nat_le, nat_lt, slice_get, nat_tests, role_number, or_others, once, element_of, unprinted, Part, Role, Item, Span, Spelled}
use Rattle.sym_parts.specs.declared.role.Role.TheVariants as role

-- ## Parts that come once

pub once-here : (others : Span) (r : Role) (first : Spelled) (rest : List Spelled) → role_number first.role ≡ role_number r → once others r (first ∷ rest) ≡ first.span
unfolding once
once-here others r first rest same =
    let test : nat_eq (role_number first.role) (role_number r) ≡ true = grind (arith, nat_tests, same) in
    ap (λ b. cond {A = Span} b first.span (once others r rest)) test

pub once-later : (others : Span) (r : Role) (first : Spelled) (rest : List Spelled) → (role_number first.role ≡ role_number r → ⊥) → once others r (first ∷ rest) ≡ once others r rest
unfolding once
once-later others r first rest other =
    let test : nat_eq (role_number first.role) (role_number r) ≡ false = grind (arith, nat_tests, other) in
    ap (λ b. cond {A = Span} b first.span (once others r rest)) test

pub once-none : (others : Span) (r : Role) (none : List Spelled) → length none ≡ 0 → others ≡ once others r none
unfolding once
once-none others r [] empty = refl
once-none others r (first ∷ rest) empty = absurd (omega (arith, empty))

-- ## Elements

pub element-itself : (elements : List Span) (item : Item) (n : ℕ) → n ≡ 0 → element_of elements item n ≡ item.span
unfolding element_of
element-itself elements item n none = ap (element_of elements item) none

after-one : (n : ℕ) → (n ≡ 0 → ⊥) → n ≡ suc (n - 1)
after-one n some = omega (arith, some)

pub element-counted : (elements : List Span) (item : Item) (n : ℕ) → (n ≡ 0 → ⊥) → n - 1 < item.count → element_of elements item n ≡ or_others item.span (slice_get elements (item.first + (n - 1)))
unfolding element_of
element-counted elements item n some within =
    let test : nat_lt (n - 1) item.count ≡ true = grind (arith, nat_tests, within) in
    ap (element_of elements item) (after-one n some)
    ∙ ap (λ b. cond {A = Span} b (or_others item.span (slice_get elements (item.first + (n - 1)))) item.span) test

pub element-beyond : (elements : List Span) (item : Item) (n : ℕ) → (n ≡ 0 → ⊥) → (n - 1 < item.count → ⊥) → element_of elements item n ≡ item.span
unfolding element_of
element-beyond elements item n some beyond =
    let test : nat_lt (n - 1) item.count ≡ false = grind (arith, nat_tests, beyond) in
    ap (element_of elements item) (after-one n some)
    ∙ ap (λ b. cond {A = Span} b (or_others item.span (slice_get elements (item.first + (n - 1)))) item.span) test

-- ## Parts that aren't in the text

-- the part at the text's end for what isn't printed
abbrev pub unprinted_part : (end : ℕ) → Spelled → Part
unprinted_part end spelled = record { role = spelled.role; start = end; length = 0; from = spelled.span.from; to = spelled.span.to }

pub unprinted-here : (end : ℕ) (first : Spelled) (rest : List Spelled) → role_number role.Hash ≤ role_number first.role → unprinted end (first ∷ rest) ≡ unprinted_part end first ∷ unprinted end rest
unfolding unprinted
unprinted-here end first rest is =
    let test : nat_le (role_number role.Hash) (role_number first.role) ≡ true = grind (arith, nat_tests, is) in
    ap (λ b. cond {A = List Part} b (unprinted_part end first ∷ unprinted end rest) (unprinted end rest)) test

pub unprinted-later : (end : ℕ) (first : Spelled) (rest : List Spelled) → (role_number role.Hash ≤ role_number first.role → ⊥) → unprinted end (first ∷ rest) ≡ unprinted end rest
unfolding unprinted
unprinted-later end first rest other =
    let test : nat_le (role_number role.Hash) (role_number first.role) ≡ false = grind (arith, nat_tests, other) in
    ap (λ b. cond {A = List Part} b (unprinted_part end first ∷ unprinted end rest) (unprinted end rest)) test

pub unprinted-none : (end : ℕ) (none : List Spelled) → length none ≡ 0 → unprinted end none ≡ []
unfolding unprinted
unprinted-none end [] empty = refl
unprinted-none end (first ∷ rest) empty = absurd (omega (arith, empty))

-- ## Lists that grow

-- once one more element is added, the list and the rest are still the whole
pub grown : {X : Type 0} (before after these rest whole : List X) (one : X) → after ≡ before ++ one ∷ [] → these ≡ one ∷ rest → before ++ these ≡ whole → after ++ rest ≡ whole
grown before after these rest whole one is first all =
    ap (λ xs. xs ++ rest) is ∙ append_assoc before (one ∷ []) rest ∙ ap (λ xs. before ++ xs) (sym first) ∙ all

-- if nothing is left to be added, the list is the whole
pub all-grown : {X : Type 0} (before these whole : List X) → these ≡ [] → before ++ these ≡ whole → before ≡ whole
all-grown before these whole none all = sym (append-nil before) ∙ ap (λ xs. before ++ xs) (sym none) ∙ all
