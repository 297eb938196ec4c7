-- Function types and arrays, and pointers and references to them, as elements of lists.
use Rattle.cpp_direct.proofs.AllGround.{any_value, array, array_left, as_item, builtin, closed, closing_right, Context, Detail, first, first_of, function_right, function_type, head, head_with, is_empty, is_funarr, is_nil, is_open, is_reference, is_void, left, left_parts, list_part, lvalue, marked_parts, nil, not_empty, pack_length, parameters, parts_in, pointer, ref_text, reference_parts, right, right_parts, says, Term, text_part, ◌≡◌, ◌≢◌, refl, ap, sym, ◌∙◌, ℕ, ◌+◌, ◌*◌, ◌≤◌, List, [], ◌∷◌, ◌++◌, length, Bool, true, false, None, arith, codes, length-append, append-nil, append_assoc, inl, subst, text_of, cost_of, IsElement, IsUnmarked, list_of, list_with, PrintAll, Prints, PrintsAround, written_of, accessed, array_opening, plain_function, pointed, Access, shown_by, text_shown, cost_shown, text_append, cost_append, part-text, part-cost, all-in, around-element, list-with-none, list-text, list-cost, list-closed, list-packless, none-print, parameters-kept}
use Rattle.cpp_direct.specs.AllStates.{opening_text}

-- ## What a function type prints at the left and at the right

-- a function type with this list of parameters
abbrev plain : (returned items : Term) → Term
plain returned items = function_type false false any_value returned items

left-text : {detail : Detail} (c : Context) (r : Term) (b : List ℕ) (is_reference : Bool) (items : Term) → Prints detail r b is_reference
    → text_of (written_of detail left c (plain r items)) ≡ b ++ codes " "
unfolding parts_in left_parts not_empty
left-text {detail} c r b is_reference items p =
    text_shown detail left c (plain r items) (as_item left c r ∷ says " " ∷ []) refl refl ∙ ap (λ s. s ++ codes " ") (p.left_text c)

left-cost : (detail : Detail) (c : Context) (r items : Term) → cost_of (written_of detail left c (plain r items)) ≡ 2 + cost_of (written_of detail left c r)
unfolding parts_in left_parts not_empty
left-cost detail c r items = omega (arith, cost_shown detail left c (plain r items) (as_item left c r ∷ says " " ∷ []) refl refl)

bracketed_text : (x y l : List ℕ) → x ≡ l → y ≡ [] → ((codes "(" ++ x) ++ codes ")") ++ (y ++ []) ≡ codes "(" ++ l ++ codes ")"
bracketed_text x y l e f = rw (e, f) (append-nil (codes "(" ++ l ++ codes ")"))

right-text : {detail : Detail} (c : Context) (r : Term) (b : List ℕ) (is_reference : Bool) (ts : List Term) (l : List ℕ) → Prints detail r b is_reference
    → PrintAll detail 0 ts l → text_of (written_of detail right c (plain r (list_of ts))) ≡ codes "(" ++ l ++ codes ")"
unfolding parts_in right_parts function_right text_part ref_text not_empty
right-text {detail} c r b is_reference ts l p all =
    let front = says "(" ∷ list_part first c (list_of ts) in
    let close = says ")" ∷ [] in
    let behind = as_item right c r ∷ [] in
    text_shown detail right c (plain r (list_of ts)) (front ++ close ++ behind) refl refl ∙ text_append detail (front ++ close) behind
    ∙ ap (λ s. s ++ text_of (shown_by detail behind)) (text_append detail front close)
    ∙ bracketed_text (text_of (shown_by detail (list_part first c (list_of ts)))) (text_of (written_of detail right c r)) l
    (list-text detail c 0 ts l all) (p.right_text c)

right-cost : (detail : Detail) (c : Context) (r : Term) (ts : List Term) (l : List ℕ) → PrintAll detail 0 ts l
    → cost_of (written_of detail right c (plain r (list_of ts))) ≤ 3 + cost_of (written_of detail right c r) + 4 * length l
unfolding parts_in right_parts function_right text_part ref_text not_empty
right-cost detail c r ts l all =
    let front = says "(" ∷ list_part first c (list_of ts) in
    let close = says ")" ∷ [] in
    let behind = as_item right c r ∷ [] in
    omega (
      arith,
      list-cost detail c 0 ts l (omega arith) all,
      cost_shown detail right c (plain r (list_of ts)) (front ++ close ++ behind) refl refl,
      cost_append detail (front ++ close) behind,
      cost_append detail front close,
    )

-- ## A function type as an element

sections : (b s o l k : List ℕ) → (b ++ s) ++ (o ++ l ++ k) ≡ b ++ (s ++ o) ++ l ++ k
sections b s o l k = simp append_assoc

around_text : (x y b l o e : List ℕ) → x ≡ b ++ codes " " → y ≡ o ++ l ++ e → x ++ y ≡ b ++ (codes " " ++ o) ++ l ++ e
around_text x y b l o e left_is right_is = ap (λ k. k ++ y) left_is ∙ ap (λ k. (b ++ codes " ") ++ k) right_is ∙ sections b (codes " ") o l e

marked_text : (x y b l m o e : List ℕ) → x ≡ b ++ codes " " → y ≡ o ++ l ++ e
    → (x ++ (codes "(" ++ m)) ++ (codes ")" ++ (y ++ [])) ≡ b ++ ((codes " (" ++ m) ++ (codes ")" ++ o)) ++ l ++ e
marked_text x y b l m o e left_is right_is =
    ap (λ k. (k ++ (codes "(" ++ m)) ++ (codes ")" ++ (y ++ []))) left_is
    ∙ ap (λ k. ((b ++ codes " ") ++ (codes "(" ++ m)) ++ (codes ")" ++ k)) (append-nil y ∙ right_is)
    ∙ ap (λ k. k ++ (codes ")" ++ (o ++ l ++ e))) (append_assoc b (codes " ") (codes "(" ++ m)) ∙ sections b (codes " (" ++ m) (codes ")" ++ o) l e

text-length : (b o l : List ℕ) (e : ℕ) → length (b ++ o ++ l ++ e ∷ []) ≡ length b + length o + length l + 1
text-length b o l e = omega (arith, length-append (b ++ o ++ l) (e ∷ []), length-append (b ++ o) l, length-append b o)

pub closed-list : (detail : Detail) (ts : List Term) (l : List ℕ) → PrintAll detail 0 ts l → is_open (list_of ts) ≡ false
closed-list detail ts l all = subst (λ k. is_open k ≡ false) (list-with-none ts) (list-closed detail 0 ts nil l (inl refl) all)

pub packless-list : (detail : Detail) (scope : Term) (ts : List Term) (l : List ℕ) → PrintAll detail 0 ts l → pack_length scope (list_of ts) ≡ None
packless-list detail scope ts l all = subst (λ k. pack_length scope k ≡ None) (list-with-none ts) (list-packless detail scope 0 ts nil l (inl refl) all)

plain-element : {detail : Detail} (extra : ℕ) (is_pointer : Bool) (r : Term) (b : List ℕ) (is_reference : Bool) (ts : List Term) (l : List ℕ)
    → Prints detail r b is_reference → PrintAll detail 0 ts l
    → IsElement detail extra (pointed is_pointer (plain r (list_of ts))) (b ++ opening_text is_pointer ++ l ++ codes ")")
unfolding parts_in left_parts right_parts marked_parts closing_right head head_with is_funarr not_empty is_empty is_open pack_length first_of is_void
plain-element {detail} extra false r b is_reference ts l p all = record {
  both_texts = λ c. let f = plain r (list_of ts) in
      around_text (text_of (written_of detail left c f)) (text_of (written_of detail right c f)) b l (codes "(") (codes ")")
      (left-text c r b is_reference (list_of ts) p) (right-text c r b is_reference ts l p all);
  cost = λ c. omega (arith, p.cost c, left-cost detail c r (list_of ts), right-cost detail c r ts l all, text-length b (codes " (") l 41);
  filled = λ c. refl;
  is_closed = rw (p.is_closed, closed-list detail ts l all) refl;
  packless = λ scope. rw (p.packless scope, packless-list detail scope ts l all) refl;
  void = λ e. cc e;
}
plain-element {detail} extra true r b is_reference ts l p all = let f = plain r (list_of ts) in record {
  both_texts = λ c.
      ap (λ k. k ++ text_of (written_of detail right c (pointer f))) (text_shown detail left c (pointer f) (as_item left c f ∷ says "(*" ∷ []) refl refl)
      ∙ ap (λ k. (text_of (written_of detail left c f) ++ codes "(*") ++ k) (text_shown detail right c (pointer f) (says ")" ∷ as_item right c f ∷ []) refl refl)
      ∙ marked_text (text_of (written_of detail left c f)) (text_of (written_of detail right c f)) b l (codes "*") (codes "(") (codes ")")
      (left-text c r b is_reference (list_of ts) p) (right-text c r b is_reference ts l p all);
  cost = λ c. omega (
    arith,
    p.cost c,
    left-cost detail c r (list_of ts),
    right-cost detail c r ts l all,
    cost_shown detail left c (pointer f) (as_item left c f ∷ says "(*" ∷ []) refl refl,
    cost_shown detail right c (pointer f) (says ")" ∷ as_item right c f ∷ []) refl refl,
    text-length b (codes " (*)(") l 41,
  );
  filled = λ c. refl;
  is_closed = rw (p.is_closed, closed-list detail ts l all) refl;
  packless = λ scope. rw (p.packless scope, packless-list detail scope ts l all) refl;
  void = λ e. cc e;
}

-- A function type, or a pointer to it, prints its return type and its parameters, unless the parameters are a lone
-- void.
pub function-element : {detail : Detail} (extra : ℕ) (is_pointer : Bool) (r : Term) (b : List ℕ) (is_reference : Bool) (ts : List Term) (l : List ℕ)
    → Prints detail r b is_reference → PrintAll detail 0 ts l → l ≢ codes "void"
    → IsElement detail extra (pointed is_pointer (plain_function r (list_with ts nil))) (b ++ opening_text is_pointer ++ l ++ codes ")")
function-element {detail} extra is_pointer r b is_reference ts l p all apart =
    subst (λ items. IsElement detail extra (pointed is_pointer (plain r items)) (b ++ opening_text is_pointer ++ l ++ codes ")"))
    (sym (ap parameters (list-with-none ts) ∙ parameters-kept detail closed 0 ts l (all-in detail closed 0 ts l all) apart))
    (plain-element extra is_pointer r b is_reference ts l p all)

-- A function type with a lone void prints no parameters.
pub void-function-element : {detail : Detail} (extra : ℕ) (is_pointer : Bool) (r : Term) (b : List ℕ) (is_reference : Bool) → Prints detail r b is_reference
    → IsElement detail extra (pointed is_pointer (plain_function r (list_with (builtin (118 ∷ []) ∷ []) nil))) (b ++ opening_text is_pointer ++ codes ")")
unfolding parameters is_void is_nil
void-function-element {detail} extra is_pointer r b is_reference p =
    subst (λ s. IsElement detail extra (pointed is_pointer (plain r nil)) (s ++ codes ")")) (append-nil (b ++ opening_text is_pointer))
    (plain-element extra is_pointer r b is_reference [] [] p (none-print detail 0))

-- ## What an array prints at the left and at the right

beginning : (c : Context) (t : Term) → is_funarr (head c t) ≡ false → array_left c t ≡ as_item left c t ∷ says " " ∷ []
unfolding array_left
beginning c t e = rw (e, array_left) refl

array-left-text : {detail : Detail} (c : Context) (digits : List ℕ) (t : Term) (b : List ℕ) (r : Bool) → Prints detail t b r
    → text_of (written_of detail left c (array digits t)) ≡ b ++ codes " "
unfolding parts_in left_parts not_empty
array-left-text {detail} c digits t b r p =
    text_shown detail left c (array digits t) (as_item left c t ∷ says " " ∷ []) (beginning c t (p.is_funarr_head c)) refl ∙ ap (λ s. s ++ codes " ") (p.left_text c)

array-left-cost : {detail : Detail} (c : Context) (digits : List ℕ) (t : Term) (b : List ℕ) (r : Bool) → Prints detail t b r
    → cost_of (written_of detail left c (array digits t)) ≡ 2 + cost_of (written_of detail left c t)
unfolding parts_in left_parts not_empty
array-left-cost {detail} c digits t b r p = omega (arith, cost_shown detail left c (array digits t) (as_item left c t ∷ says " " ∷ []) (beginning c t (p.is_funarr_head c)) refl)

sized_text : (x y l : List ℕ) → x ≡ l → y ≡ [] → (codes "[" ++ x) ++ (codes "]" ++ (y ++ [])) ≡ codes "[" ++ l ++ codes "]"
sized_text x y l e f = rw (e, f) refl

array-right-text : {detail : Detail} (c : Context) (digits : List ℕ) → IsUnmarked digits → (t : Term) (b : List ℕ) (r : Bool) → Prints detail t b r
    → text_of (written_of detail right c (array digits t)) ≡ codes "[" ++ digits ++ codes "]"
unfolding parts_in right_parts not_empty
array-right-text {detail} c digits plain t b r p =
    let front = says "[" ∷ text_part digits in
    let behind = says "]" ∷ as_item right c t ∷ [] in
    text_shown detail right c (array digits t) (front ++ behind) refl refl ∙ text_append detail front behind
    ∙ sized_text (text_of (shown_by detail (text_part digits))) (text_of (written_of detail right c t)) digits (part-text detail digits plain) (p.right_text c)

array-right-cost : (detail : Detail) (c : Context) (digits : List ℕ) (t : Term)
    → cost_of (written_of detail right c (array digits t)) ≡ 3 + cost_of (written_of detail right c t) + length digits
unfolding parts_in right_parts not_empty
array-right-cost detail c digits t =
    let front = says "[" ∷ text_part digits in
    let behind = says "]" ∷ as_item right c t ∷ [] in
    omega (arith, cost_shown detail right c (array digits t) (front ++ behind) refl refl, cost_append detail front behind, part-cost detail digits)

-- ## An array as an element

-- A reference to an array prints the type of the array's elements and the array's size, with a mark between them.
pub array-around : {detail : Detail} (digits : List ℕ) → IsUnmarked digits → (t : Term) (b : List ℕ) (r : Bool) → Prints detail t b r
    → PrintsAround detail (lvalue (array digits t)) (b ++ array_opening Access.Lvalue ++ digits ++ codes "]")
unfolding parts_in left_parts right_parts marked_parts reference_parts closing_right head head_with is_reference is_funarr not_empty is_empty is_open pack_length is_void
array-around {detail} digits plain t b r p = let a = array digits t in record {
  both_texts = λ c.
      ap (λ k. k ++ text_of (written_of detail right c (lvalue a))) (text_shown detail left c (lvalue a) (as_item left c a ∷ says "(&" ∷ []) refl refl)
      ∙ ap (λ k. (text_of (written_of detail left c a) ++ codes "(&") ++ k) (text_shown detail right c (lvalue a) (says ")" ∷ as_item right c a ∷ []) refl refl)
      ∙ marked_text (text_of (written_of detail left c a)) (text_of (written_of detail right c a)) b digits (codes "&") (codes "[") (codes "]") (array-left-text c digits t b r p) (array-right-text c digits plain t b r p);
  cost = λ c. omega (
    arith,
    p.cost c,
    array-left-cost c digits t b r p,
    array-right-cost detail c digits t,
    cost_shown detail left c (lvalue a) (as_item left c a ∷ says "(&" ∷ []) refl refl,
    cost_shown detail right c (lvalue a) (says ")" ∷ as_item right c a ∷ []) refl refl,
    text-length b (codes " (&)[") digits 93,
  );
  is_reference_head = λ c. refl;
  is_funarr_head = λ c. refl;
  filled = λ c. refl;
  is_closed = p.is_closed;
  packless = p.packless;
  no_void = refl;
}

-- An array prints its elements' type and its size, and a mark between them if the array is behind a pointer or a
-- reference.
pub array-element : {detail : Detail} (extra : ℕ) (access : Access) (digits : List ℕ) → IsUnmarked digits → (t : Term) (b : List ℕ) (r : Bool) → Prints detail t b r
    → IsElement detail extra (accessed access (array digits t)) (b ++ array_opening access ++ digits ++ codes "]")
unfolding parts_in left_parts right_parts marked_parts reference_parts closing_right head head_with is_reference is_funarr not_empty is_empty is_open pack_length is_void
array-element {detail} extra Access.Plain digits plain t b r p = let a = array digits t in record {
  both_texts = λ c. around_text (text_of (written_of detail left c a)) (text_of (written_of detail right c a)) b digits (codes "[") (codes "]") (array-left-text c digits t b r p) (array-right-text c digits plain t b r p);
  cost = λ c. omega (arith, p.cost c, array-left-cost c digits t b r p, array-right-cost detail c digits t, text-length b (codes " [") digits 93);
  filled = λ c. refl;
  is_closed = p.is_closed;
  packless = p.packless;
  void = λ e. cc e;
}
array-element {detail} extra Access.Pointer digits plain t b r p = let a = array digits t in record {
  both_texts = λ c.
      ap (λ k. k ++ text_of (written_of detail right c (pointer a))) (text_shown detail left c (pointer a) (as_item left c a ∷ says "(*" ∷ []) refl refl)
      ∙ ap (λ k. (text_of (written_of detail left c a) ++ codes "(*") ++ k) (text_shown detail right c (pointer a) (says ")" ∷ as_item right c a ∷ []) refl refl)
      ∙ marked_text (text_of (written_of detail left c a)) (text_of (written_of detail right c a)) b digits (codes "*") (codes "[") (codes "]") (array-left-text c digits t b r p) (array-right-text c digits plain t b r p);
  cost = λ c. omega (
    arith,
    p.cost c,
    array-left-cost c digits t b r p,
    array-right-cost detail c digits t,
    cost_shown detail left c (pointer a) (as_item left c a ∷ says "(*" ∷ []) refl refl,
    cost_shown detail right c (pointer a) (says ")" ∷ as_item right c a ∷ []) refl refl,
    text-length b (codes " (*)[") digits 93,
  );
  filled = λ c. refl;
  is_closed = p.is_closed;
  packless = p.packless;
  void = λ e. cc e;
}
array-element {detail} extra Access.Lvalue digits plain t b r p =
    around-element extra (lvalue (array digits t)) (b ++ array_opening Access.Lvalue ++ digits ++ codes "]") (array-around digits plain t b r p)
