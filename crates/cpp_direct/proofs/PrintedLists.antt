-- Lists of trees with known texts.
use Rattle.cpp_direct.proofs.Basics.{as_item, Context, Detail, first, first_of, first_parts, is_empty, is_open, is_void, left, left_parts, list, list_part, more, more_parts, nil, not_empty, pack, pack_length, parts_in, right, right_parts, says, Term, ◌≡◌, ◌≢◌, inl, inr, refl, ap, sym, subst, ◌∙◌, ℕ, ◌+◌, ◌*◌, ◌≤◌, List, [], ◌∷◌, ◌++◌, length, Bool, true, false, None, arith, codes, length-append, append-nil, append_assoc, text_of, cost_of, AreSingle, in_front_of_next, IsElement, IsElementAs, IsElementGiven, IsElementIn, IsGiven, IsTail, joined, list_of, list_with, Names, PrintAll, PrintAllAs, PrintAllBy, PrintAllIn, PrintEach, PrintEachBy, PrintEachIn, Prints, PrintsAround, PrintsAs, PrintsIn, PrintsListed, written_of}
use Rattle.cpp_direct.proofs.PrintedParts.{shown_by, text_shown, cost_shown}

-- ## What a list prints

-- the texts of further elements
abbrev pub further : List (List ℕ) → List ℕ
further [] = []
further (b ∷ bs) = codes ", " ++ (b ++ further bs)

pub joined-further : (b : List ℕ) (bs : List (List ℕ)) → joined (b ∷ bs) ≡ b ++ further bs
joined-further b [] = sym (append-nil b)
joined-further b (c ∷ bs) = ap (λ s. b ++ codes ", " ++ s) (joined-further c bs) ∙ append_assoc b (codes ", ") (c ++ further bs)

-- the parts of a list that follows another element, and the parts of a whole list
more-is : (c : Context) (e rest : Term) → is_empty c e ≡ false
    → more_parts c (list e rest) ≡ says ", " ∷ as_item left c e ∷ as_item right c e ∷ list_part more c rest
unfolding more_parts
more-is c e rest filled = rw (filled, more_parts) refl

first-is : (c : Context) (e rest : Term) → is_empty c e ≡ false → first_parts c (list e rest) ≡ as_item left c e ∷ as_item right c e ∷ list_part more c rest
unfolding first_parts
first-is c e rest filled = rw (filled, first_parts) refl

element-text : (l r x b y : List ℕ) → l ++ r ≡ b → x ≡ y → l ++ (r ++ x) ≡ b ++ y
element-text l r x b y e f = sym (append_assoc l r x) ∙ ap (λ k. k ++ x) e ∙ ap (λ k. b ++ k) f

-- A tree ends a list after the list's elements, and prints nothing itself. It costs at most `most`.
record EndsList (detail : Detail) (c : Context) (most : ℕ) (tail : Term) : Type 0 where
  first_text : text_of (shown_by detail (list_part first c tail)) ≡ []
  first_cost : cost_of (shown_by detail (list_part first c tail)) ≤ 1 + most
  more_text : text_of (shown_by detail (list_part more c tail)) ≡ []
  more_cost : cost_of (shown_by detail (list_part more c tail)) ≤ 1 + most

ends-bare : {detail : Detail} (c : Context) (most : ℕ) → EndsList detail c most nil
unfolding list_part parts_in not_empty
ends-bare c most = record { first_text = refl; first_cost = omega arith; more_text = refl; more_cost = omega arith }

-- an element that is empty in the context ends a list
ends-nothing : {detail : Detail} (c : Context) (t : Term) → is_empty c t ≡ true → EndsList detail c 1 (list t nil)
unfolding list_part first_parts more_parts parts_in not_empty
ends-nothing {detail} c t none =
    let l = list t nil in
    let first_is : first_parts c l ≡ [] = rw (none, first_parts) refl in
    let more_is : more_parts c l ≡ [] = rw (none, more_parts) refl in
    record {
      first_text = append-nil (text_of (written_of detail first c l)) ∙ text_shown detail first c l [] first_is refl;
      first_cost = omega (arith, cost_shown detail first c l [] first_is refl);
      more_text = append-nil (text_of (written_of detail more c l)) ∙ text_shown detail more c l [] more_is refl;
      more_cost = omega (arith, cost_shown detail more c l [] more_is refl);
    }

ends-list : {detail : Detail} (c : Context) (tail : Term) → IsTail tail → EndsList detail c 1 tail
unfolding is_empty
ends-list {detail} c tail (inl is) = subst (EndsList detail c 1) (sym is) (ends-bare c 1)
ends-list {detail} c tail (inr is) = subst (EndsList detail c 1) (sym is) (ends-nothing c (pack nil) refl)

-- the end of a list has no free parameter, and names no packs
tail-closed : (tail : Term) → IsTail tail → (is_open tail ≡ false) × ((scope : Term) → pack_length scope tail ≡ None)
unfolding is_open pack_length first_of
tail-closed tail (inl is) = rw is (refl, λ scope. refl)
tail-closed tail (inr is) = rw is (refl, λ scope. refl)

-- an element anywhere is an element in a context
pub element-in : {detail : Detail} (c : Context) (extra : ℕ) (t : Term) (b : List ℕ) → IsElement detail extra t b → IsElementIn detail c extra t b
element-in c extra t b p = record { both_texts = p.both_texts c; cost = p.cost c; filled = p.filled c; void = p.void }

more-shown : {detail : Detail} (c : Context) (extra : ℕ) (ts : List Term) (tail : Term) (texts : List (List ℕ)) (most : ℕ) → EndsList detail c most tail
    → PrintEachIn detail c extra ts texts → (text_of (shown_by detail (list_part more c (list_with ts tail))) ≡ further texts)
    × (extra ≤ 6 → cost_of (shown_by detail (list_part more c (list_with ts tail))) ≤ 1 + most + 4 * length (further texts))
unfolding list_part parts_in not_empty
more-shown {detail} c extra [] tail [] most ends each = (ends.more_text, λ few. omega (arith, ends.more_cost))
more-shown {detail} c extra (t ∷ ts) tail (b ∷ bs) most ends each =
    let l = list t (list_with ts tail) in
    let parts = says ", " ∷ as_item left c t ∷ as_item right c t ∷ list_part more c (list_with ts tail) in
    let is = more-is c t (list_with ts tail) each.0.filled in
    let later = more-shown c extra ts tail bs most ends each.1 in (
      append-nil (text_of (written_of detail more c l)) ∙ text_shown detail more c l parts is refl
          ∙ ap (λ s. codes ", " ++ s) (element-text (text_of (written_of detail left c t)) (text_of (written_of detail right c t))
          (text_of (shown_by detail (list_part more c (list_with ts tail)))) b (further bs) each.0.both_texts later.0),
      λ few. omega (arith, later.1 few, few, each.0.cost, length-append {A = ℕ}, cost_shown detail more c l parts is refl),
    )
more-shown {detail} c extra [] tail (b ∷ bs) most ends each = elim each [ ]
more-shown {detail} c extra (t ∷ ts) tail [] most ends each = elim each [ ]

first-shown : {detail : Detail} (c : Context) (extra : ℕ) (ts : List Term) (tail : Term) (texts : List (List ℕ)) (most : ℕ) → EndsList detail c most tail
    → PrintEachIn detail c extra ts texts → (text_of (shown_by detail (list_part first c (list_with ts tail))) ≡ joined texts)
    × (extra ≤ 6 → cost_of (shown_by detail (list_part first c (list_with ts tail))) ≤ 1 + most + extra + 4 * length (joined texts))
unfolding list_part parts_in not_empty
first-shown {detail} c extra [] tail [] most ends each = (ends.first_text, λ few. omega (arith, ends.first_cost))
first-shown {detail} c extra (t ∷ ts) tail (b ∷ bs) most ends each =
    let l = list t (list_with ts tail) in
    let parts = as_item left c t ∷ as_item right c t ∷ list_part more c (list_with ts tail) in
    let is = first-is c t (list_with ts tail) each.0.filled in
    let later = more-shown c extra ts tail bs most ends each.1 in (
      append-nil (text_of (written_of detail first c l)) ∙ text_shown detail first c l parts is refl
          ∙ element-text (text_of (written_of detail left c t)) (text_of (written_of detail right c t))
          (text_of (shown_by detail (list_part more c (list_with ts tail)))) b (further bs) each.0.both_texts later.0 ∙ sym (joined-further b bs),
      λ few. omega (
        arith,
        later.1 few,
        few,
        each.0.cost,
        ap length (joined-further b bs),
        length-append b (further bs),
        cost_shown detail first c l parts is refl,
      ),
    )
first-shown {detail} c extra [] tail (b ∷ bs) most ends each = elim each [ ]
first-shown {detail} c extra (t ∷ ts) tail [] most ends each = elim each [ ]

pub list-with-none : (ts : List Term) → list_with ts nil ≡ list_of ts
list-with-none [] = refl
list-with-none (t ∷ ts) = ap (λ r. list t r) (list-with-none ts)

pub list-more : (ts : List Term) (t r : Term) → list_with (ts ++ t ∷ []) r ≡ list_with ts (list t r)
list-more [] t r = refl
list-more (u ∷ ts) t r = ap (λ l. list u l) (list-more ts t r)

-- Elements that print in one sense also print in each sense that the first one implies.
each-by : (by so : Term → List ℕ → Type 0) → ((t : Term) (b : List ℕ) → by t b → so t b) → (ts : List Term) (texts : List (List ℕ)) → PrintEachBy by ts texts
    → PrintEachBy so ts texts
each-by by so follows [] [] each = tt
each-by by so follows (t ∷ ts) (b ∷ bs) each = (follows t b each.0, each-by by so follows ts bs each.1)
each-by by so follows [] (b ∷ bs) each = elim each [ ]
each-by by so follows (t ∷ ts) [] each = elim each [ ]

all-by : (by so : Term → List ℕ → Type 0) → ((t : Term) (b : List ℕ) → by t b → so t b) → (ts : List Term) (l : List ℕ) → PrintAllBy by ts l → PrintAllBy so ts l
all-by by so follows ts l all = (all.0, each-by by so follows ts all.0 all.1, all.2)

-- A greater cost is allowed wherever a smaller one is.
pub all-more : (detail : Detail) (c : Context) (few most : ℕ) → few ≤ most → (ts : List Term) (l : List ℕ) → PrintAllIn detail c few ts l → PrintAllIn detail c most ts l
all-more detail c few most le ts l all = all-by (IsElementIn detail c few) (IsElementIn detail c most)
    (λ t b p. record { both_texts = p.both_texts; cost = omega (arith, p.cost, le); filled = p.filled; void = p.void }) ts l all

-- What prints anywhere prints in a context.
pub all-in : (detail : Detail) (c : Context) (extra : ℕ) (ts : List Term) (l : List ℕ) → PrintAll detail extra ts l → PrintAllIn detail c extra ts l
all-in detail c extra ts l all = all-by (IsElement detail extra) (IsElementIn detail c extra) (λ t b p. element-in c extra t b p) ts l all

-- What a list prints in a context where its last elements may be empty.
pub list-text-before : (detail : Detail) (c : Context) (extra : ℕ) (ts : List Term) (tail : Term) (l : List ℕ) → IsTail tail → PrintAllIn detail c extra ts l
    → text_of (shown_by detail (list_part first c (list_with ts tail))) ≡ l
list-text-before detail c extra ts tail l is all = (first-shown c extra ts tail all.0 1 (ends-list c tail is) all.1).0 ∙ all.2

-- The text of a list bounds its cost in a context where its last elements may be empty.
pub list-cost-before : (detail : Detail) (c : Context) (extra : ℕ) (ts : List Term) (tail : Term) (l : List ℕ) → extra ≤ 6 → IsTail tail
    → PrintAllIn detail c extra ts l → cost_of (shown_by detail (list_part first c (list_with ts tail))) ≤ 2 + extra + 4 * length l
list-cost-before detail c extra ts tail l few is all = omega (arith, (first-shown c extra ts tail all.0 1 (ends-list c tail is) all.1).1 few, ap length all.2)

-- What a list prints in a context.
pub list-text-in : (detail : Detail) (c : Context) (extra : ℕ) (ts : List Term) (l : List ℕ) → PrintAllIn detail c extra ts l
    → text_of (shown_by detail (list_part first c (list_of ts))) ≡ l
list-text-in detail c extra ts l all =
    subst (λ k. text_of (shown_by detail (list_part first c k)) ≡ l) (list-with-none ts) ((first-shown c extra ts nil all.0 0 (ends-bare c 0) all.1).0 ∙ all.2)

-- The text of a list bounds its cost in a context.
pub list-cost-in : (detail : Detail) (c : Context) (extra : ℕ) (ts : List Term) (l : List ℕ) → extra ≤ 6 → PrintAllIn detail c extra ts l
    → cost_of (shown_by detail (list_part first c (list_of ts))) ≤ 1 + extra + 4 * length l
list-cost-in detail c extra ts l few all =
    subst (λ k. cost_of (shown_by detail (list_part first c k)) ≤ 1 + extra + 4 * length l) (list-with-none ts)
    (omega (arith, (first-shown c extra ts nil all.0 0 (ends-bare c 0) all.1).1 few, ap length all.2))

-- What the items of a function print in a context, at a cost that leaves room for the rest of the function.
abbrev pub PrintsItems : (detail : Detail) → Context → (items : Term) → (l : List ℕ) → Type 0
PrintsItems detail c items l = (text_of (shown_by detail (list_part first c items)) ≡ l) × (cost_of (shown_by detail (list_part first c items)) ≤ 7 + 4 * length l)

pub list-in : (detail : Detail) (c : Context) (extra : ℕ) (ts : List Term) (l : List ℕ) → extra ≤ 6 → PrintAllIn detail c extra ts l
    → PrintsItems detail c (list_of ts) l
list-in detail c extra ts l few all = (list-text-in detail c extra ts l all, omega (arith, list-cost-in detail c extra ts l few all, few))

-- likewise if the last item is empty in the context
pub list-before : (detail : Detail) (c : Context) (ts : List Term) (t : Term) (l : List ℕ) → is_empty c t ≡ true → PrintAllIn detail c 3 ts l
    → PrintsItems detail c (list_with ts (list t nil)) l
list-before detail c ts t l none all =
    let shown = first-shown c 3 ts (list t nil) all.0 1 (ends-nothing c t none) all.1 in (
      shown.0 ∙ all.2,
      omega (arith, shown.1 (omega arith), ap length all.2),
    )

-- What a list prints anywhere.
pub list-text : (detail : Detail) (c : Context) (extra : ℕ) (ts : List Term) (l : List ℕ) → PrintAll detail extra ts l
    → text_of (shown_by detail (list_part first c (list_of ts))) ≡ l
list-text detail c extra ts l all = list-text-in detail c extra ts l (all-in detail c extra ts l all)

-- The text of a list bounds its cost.
pub list-cost : (detail : Detail) (c : Context) (extra : ℕ) (ts : List Term) (l : List ℕ) → extra ≤ 6 → PrintAll detail extra ts l
    → cost_of (shown_by detail (list_part first c (list_of ts))) ≤ 1 + extra + 4 * length l
list-cost detail c extra ts l few all = list-cost-in detail c extra ts l few (all-in detail c extra ts l all)

-- ## Free parameters and packs in a list

each-closed : (detail : Detail) (extra : ℕ) (ts : List Term) (tail : Term) (texts : List (List ℕ)) → is_open tail ≡ false → PrintEach detail extra ts texts
    → is_open (list_with ts tail) ≡ false
unfolding is_open
each-closed detail extra [] tail [] none each = none
each-closed detail extra (t ∷ ts) tail (b ∷ bs) none each = rw (each.0.is_closed, each-closed detail extra ts tail bs none each.1) refl
each-closed detail extra [] tail (b ∷ bs) none each = elim each [ ]
each-closed detail extra (t ∷ ts) tail [] none each = elim each [ ]

each-packless : (scope : Term) (by : Term → List ℕ → Type 0) → ((t : Term) (b : List ℕ) → by t b → pack_length scope t ≡ None)
    → (ts : List Term) (tail : Term) (texts : List (List ℕ)) → pack_length scope tail ≡ None → PrintEachBy by ts texts
    → pack_length scope (list_with ts tail) ≡ None
unfolding pack_length first_of
each-packless scope by none [] tail [] ends each = ends
each-packless scope by none (t ∷ ts) tail (b ∷ bs) ends each = rw (none t b each.0, each-packless scope by none ts tail bs ends each.1) refl
each-packless scope by none [] tail (b ∷ bs) ends each = elim each [ ]
each-packless scope by none (t ∷ ts) tail [] ends each = elim each [ ]

-- No parameter is free in a list of trees that print their texts.
pub list-closed : (detail : Detail) (extra : ℕ) (ts : List Term) (tail : Term) (l : List ℕ) → IsTail tail → PrintAll detail extra ts l
    → is_open (list_with ts tail) ≡ false
list-closed detail extra ts tail l is all = each-closed detail extra ts tail all.0 (tail-closed tail is).0 all.1

-- A list of trees that print their texts names no packs.
pub list-packless : (detail : Detail) (scope : Term) (extra : ℕ) (ts : List Term) (tail : Term) (l : List ℕ) → IsTail tail → PrintAll detail extra ts l
    → pack_length scope (list_with ts tail) ≡ None
list-packless detail scope extra ts tail l is all =
    each-packless scope (IsElement detail extra) (λ t b p. p.packless scope) ts tail all.0 ((tail-closed tail is).1 scope) all.1

-- ## Elements are read one after the other

-- A type prints its text as an element.
pub type-element : {detail : Detail} (extra : ℕ) (t : Term) (b : List ℕ) (r : Bool) → Prints detail t b r → IsElement detail extra t b
type-element extra t b r p = record {
  both_texts = λ c. rw (p.left_text c, p.right_text c) (append-nil b);
  cost = λ c. omega (arith, p.cost c);
  filled = p.filled;
  is_closed = p.is_closed;
  packless = p.packless;
  void = p.void;
}

-- A reference that prints on both sides of a name is an element, too.
pub around-element : {detail : Detail} (extra : ℕ) (t : Term) (b : List ℕ) → PrintsAround detail t b → IsElement detail extra t b
around-element extra t b p = record {
  both_texts = p.both_texts;
  cost = λ c. omega (arith, p.cost c);
  filled = p.filled;
  is_closed = p.is_closed;
  packless = p.packless;
  void = λ e. cc (sym p.no_void ∙ e);
}

-- What may be listed as an argument, or as an element of a pack, is an element.
pub listed-element : {detail : Detail} (in_pack : Bool) (extra : ℕ) (t : Term) (b : List ℕ) (r : Bool) → PrintsListed in_pack detail t b r → IsElement detail extra t b
listed-element false extra t b r p = type-element extra t b r p
listed-element true extra t b r (inl p) = type-element extra t b r p
listed-element true extra t b r (inr p) = around-element extra t b p.1

-- What prints in a context also prints as an element in that context.
pub type-in : {detail : Detail} (c : Context) (extra : ℕ) (t : Term) (b : List ℕ) (r : Bool) → 3 ≤ extra → PrintsIn detail c 3 t b r
    → IsElementIn detail c extra t b
type-in c extra t b r most p = record {
  both_texts = rw (p.left_text, p.right_text) (append-nil b);
  cost = omega (arith, p.cost, most);
  filled = p.filled;
  void = p.void;
}

-- A pack prints its elements.
pub pack-element : {detail : Detail} (ts : List Term) (l : List ℕ) → ts ≢ [] → PrintAll detail 0 ts l → IsElement detail 3 (pack (list_of ts)) l
unfolding parts_in left_parts right_parts not_empty is_empty is_open pack_length is_void
pack-element {detail} [] l some all = absurd (some refl)
pack-element {detail} (t ∷ ts) l some all = let p = pack (list_of (t ∷ ts)) in record {
  both_texts = λ c. ap (λ k. k ++ text_of (written_of detail right c p))
      (text_shown detail left c p (list_part first c (list_of (t ∷ ts))) refl refl ∙ list-text detail c 0 (t ∷ ts) l all)
      ∙ ap (λ k. l ++ k) (text_shown detail right c p [] refl refl) ∙ append-nil l;
  cost = λ c. omega (
    arith,
    cost_shown detail left c p (list_part first c (list_of (t ∷ ts))) refl refl,
    cost_shown detail right c p [] refl refl,
    list-cost detail c 0 (t ∷ ts) l (omega arith) all,
  );
  filled = λ c. first-filled c all.0 all.1;
  is_closed = subst (λ k. is_open k ≡ false) (list-with-none (t ∷ ts)) (list-closed detail 0 (t ∷ ts) nil l (inl refl) all);
  packless = λ scope. subst (λ k. pack_length scope k ≡ None) (list-with-none (t ∷ ts)) (list-packless detail scope 0 (t ∷ ts) nil l (inl refl) all);
  void = λ e. cc e;
}
  where
    first-filled : (c : Context) (texts : List (List ℕ)) → PrintEach detail 0 (t ∷ ts) texts → is_empty c (pack (list_of (t ∷ ts))) ≡ false
    first-filled c [] each = elim each [ ]
    first-filled c (b ∷ bs) each = rw (each.0.filled c) refl

-- A list without elements prints nothing.
pub none-print : (detail : Detail) (extra : ℕ) → PrintAll detail extra [] []
none-print detail extra = ([], tt, refl)

pub none-print-in : (detail : Detail) (c : Context) (extra : ℕ) → PrintAllIn detail c extra [] []
none-print-in detail c extra = ([], tt, refl)

-- a list without elements has no text
pub none-text : (by : Term → List ℕ → Type 0) (l : List ℕ) → PrintAllBy by [] l → l ≡ []
none-text by l all = go all.0 all.1 all.2
  where
    go : (texts : List (List ℕ)) → PrintEachBy by [] texts → joined texts ≡ l → l ≡ []
    go [] each is = sym is
    go (b ∷ bs) each is = absurd each

each-append : (by : Term → List ℕ → Type 0) (ts : List Term) (texts : List (List ℕ)) (t : Term) (b : List ℕ) → PrintEachBy by ts texts → by t b
    → PrintEachBy by (ts ++ t ∷ []) (texts ++ b ∷ [])
each-append by [] [] t b each p = (p, tt)
each-append by (u ∷ ts) (c ∷ bs) t b each p = (each.0, each-append by ts bs t b each.1 p)
each-append by [] (c ∷ bs) t b each p = elim each [ ]
each-append by (u ∷ ts) [] t b each p = elim each [ ]

joined-append : (c : List ℕ) (texts : List (List ℕ)) (b : List ℕ) → joined ((c ∷ texts) ++ b ∷ []) ≡ joined (c ∷ texts) ++ codes ", " ++ b
joined-append c [] b = refl
joined-append c (d ∷ texts) b = rw (joined-append d texts b) (simp append_assoc)

another-prints : (by : Term → List ℕ → Type 0) (u : Term) (ts : List Term) (l : List ℕ) (t : Term) (b : List ℕ) → PrintAllBy by (u ∷ ts) l → by t b
    → PrintAllBy by ((u ∷ ts) ++ t ∷ []) (l ++ codes ", " ++ b)
another-prints by u ts l t b all p = go all.0 all.1 all.2
  where
    go : (texts : List (List ℕ)) → PrintEachBy by (u ∷ ts) texts → joined texts ≡ l → PrintAllBy by ((u ∷ ts) ++ t ∷ []) (l ++ codes ", " ++ b)
    go [] each is = elim each [ ]
    go (c ∷ texts) each is =
        ((c ∷ texts) ++ b ∷ [], each-append by (u ∷ ts) (c ∷ texts) t b each p, joined-append c texts b ∙ ap (λ s. s ++ codes ", " ++ b) is)

pub next-prints-by : (by : Term → List ℕ → Type 0) (ts : List Term) (l : List ℕ) (t : Term) (b : List ℕ) → PrintAllBy by ts l → by t b
    → PrintAllBy by (ts ++ t ∷ []) (in_front_of_next ts l ++ b)
next-prints-by by [] l t b all p = go all.0 all.1 all.2
  where
    go : (texts : List (List ℕ)) → PrintEachBy by [] texts → joined texts ≡ l → PrintAllBy by (t ∷ []) (l ++ b)
    go [] each is = subst (λ m. PrintAllBy by (t ∷ []) (m ++ b)) is (b ∷ [], (p, tt), refl)
    go (c ∷ texts) each is = absurd each
next-prints-by by (u ∷ ts) l t b all p = another-prints by u ts l t b all p

-- One more element prints after those before it.
pub next-prints : {detail : Detail} (extra : ℕ) (ts : List Term) (l : List ℕ) (t : Term) (b : List ℕ) → PrintAll detail extra ts l → IsElement detail extra t b
    → PrintAll detail extra (ts ++ t ∷ []) (in_front_of_next ts l ++ b)
next-prints {detail} extra ts l t b all p = next-prints-by (IsElement detail extra) ts l t b all p

-- Likewise for elements in a context.
pub next-prints-in : {detail : Detail} (c : Context) (extra : ℕ) (ts : List Term) (l : List ℕ) (t : Term) (b : List ℕ) → PrintAllIn detail c extra ts l
    → IsElementIn detail c extra t b → PrintAllIn detail c extra (ts ++ t ∷ []) (in_front_of_next ts l ++ b)
next-prints-in {detail} c extra ts l t b all p = next-prints-by (IsElementIn detail c extra) ts l t b all p

-- ## Elements where parameters name arguments with these texts

-- An element anywhere is an element where parameters name arguments with these texts.
pub element-as : (detail : Detail) (names : Names) (is_dependent : Bool) (extra : ℕ) (t : Term) (b : List ℕ) → IsElement detail extra t b
    → IsElementAs detail names is_dependent extra t b
element-as detail names false extra t b p = p
element-as detail names true extra t b p = record { prints = λ c given. element-in c extra t b p; packless = λ arguments single. p.packless arguments }

pub element-given : (detail : Detail) (names : Names) (is_dependent : Bool) (extra : ℕ) (t : Term) (b : List ℕ) → IsElementAs detail names is_dependent extra t b
    → IsElementGiven detail names extra t b
element-given detail names false extra t b p = element-as detail names true extra t b p
element-given detail names true extra t b p = p

-- Likewise for all elements of a list.
pub all-as : (detail : Detail) (names : Names) (is_dependent : Bool) (extra : ℕ) (ts : List Term) (l : List ℕ) → PrintAll detail extra ts l
    → PrintAllAs detail names is_dependent extra ts l
all-as detail names is_dependent extra ts l all =
    all-by (IsElement detail extra) (IsElementAs detail names is_dependent extra) (λ t b p. element-as detail names is_dependent extra t b p) ts l all

pub all-given : (detail : Detail) (names : Names) (is_dependent : Bool) (extra : ℕ) (ts : List Term) (l : List ℕ) → PrintAllAs detail names is_dependent extra ts l
    → PrintAllAs detail names true extra ts l
all-given detail names is_dependent extra ts l all =
    all-by (IsElementAs detail names is_dependent extra) (IsElementGiven detail names extra) (λ t b p. element-given detail names is_dependent extra t b p) ts l all

-- In a context where parameters name arguments with these texts, the list prints its text.
pub all-as-in : (detail : Detail) (names : Names) (is_dependent : Bool) (c : Context) (extra : ℕ) (ts : List Term) (l : List ℕ) → IsGiven detail names c
    → PrintAllAs detail names is_dependent extra ts l → PrintAllIn detail c extra ts l
all-as-in detail names is_dependent c extra ts l given all =
    all-by (IsElementAs detail names is_dependent extra) (IsElementIn detail c extra) (λ t b p. (element-given detail names is_dependent extra t b p).prints c given) ts l all

-- The elements of a list name no packs if the arguments that may be named are no packs.
pub list-packless-as : (detail : Detail) (names : Names) (is_dependent : Bool) (arguments : Term) (extra : ℕ) (ts : List Term) (tail : Term) (l : List ℕ)
    → AreSingle names arguments → IsTail tail → PrintAllAs detail names is_dependent extra ts l → pack_length arguments (list_with ts tail) ≡ None
list-packless-as detail names is_dependent arguments extra ts tail l single is all =
    each-packless arguments (IsElementAs detail names is_dependent extra) (λ t b p. (element-given detail names is_dependent extra t b p).packless arguments single)
    ts tail all.0 ((tail-closed tail is).1 arguments) all.1

-- A type is an element.
pub type-element-as : (detail : Detail) (names : Names) (is_dependent : Bool) (t : Term) (b : List ℕ) (r : Bool) → PrintsAs detail names is_dependent t b r
    → IsElementAs detail names is_dependent 3 t b
type-element-as detail names false t b r p = type-element 3 t b r p
type-element-as detail names true t b r p = record { prints = λ c given. type-in c 3 t b r (omega arith) (p.prints c given); packless = p.packless }

-- One more element prints after those before it.
pub next-prints-as : (detail : Detail) (names : Names) (is_dependent : Bool) (extra : ℕ) (ts : List Term) (l : List ℕ) (t : Term) (b : List ℕ)
    → PrintAllAs detail names is_dependent extra ts l → IsElementAs detail names is_dependent extra t b
    → PrintAllAs detail names is_dependent extra (ts ++ t ∷ []) (in_front_of_next ts l ++ b)
next-prints-as detail names is_dependent extra ts l t b all p = next-prints-by (IsElementAs detail names is_dependent extra) ts l t b all p
