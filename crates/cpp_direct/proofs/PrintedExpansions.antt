-- What a parameter that expands a pack prints: what its pattern makes of each type of the pack.
use Rattle.cpp_direct.proofs.AllGround.{argument, arguments_of, as_item, at_index, comma_before, Context, count, Detail, element, expand, expand_parts, expand_rest, expansion, expansion_parts, indexed, is_below, is_empty, is_none_of, is_void, left, left_parts, length_if_pack, lvalue, not_empty, pack, pack_length, packs_of, parameter, parts_in, qualified, right, right_parts, rvalue, says, Term, types_of, Pattern, le-ltb, lt-ltb, Prints, PrintsAround, PrintsIn, PrintsListed, PrintsMade, IsMarkedBy, written_of, IsElementIn, PrintEachBy, PrintAllBy, joined, list_of, made_by, inl, inr, ◌≡◌, refl, ap, ◌∙◌, ℕ, ◌+◌, ◌*◌, ◌≤◌, List, [], ◌∷◌, ◌++◌, length, Bool, true, false, arith, codes, length-append, sym, subst, append-nil, append_assoc, ◌≢◌, slice_get, Some, zero, suc, ◌<◌, text_of, cost_of, further, joined-further, type-in, text_shown, cost_shown, shown_by, const-in, constant, lvalue-in, parameter-around, parameter-in, rvalue-again, rvalue-around, rvalue-in}
use Rattle.std.proofs.Math.Dec.{eqb-suc-zero}

-- in the context, the argument with this number is a pack of these types
record IsPacked (c : Context) (k : ℕ) (ts : List Term) : Type 0 where
  pub all : Term
  pub scope_is : c.scope ≡ Some all
  pub pack_is : element all k ≡ pack (list_of ts)

-- the tree that a pattern makes of a parameter that names the pack
abbrev each : Pattern → (number : ℕ) → Term
each pattern k = made_by pattern (parameter k)

-- ## A single element

-- the elements of a pack
element-of : (ts : List Term) (k : ℕ) (t : Term) → slice_get ts k ≡ Some t → element (list_of ts) k ≡ t
unfolding element
element-of [] k t e = cc e
element-of (u ∷ ts) zero t e = cc e
element-of (u ∷ ts) (suc k) t e = element-of ts k t e

count-of : (ts : List Term) → count (list_of ts) ≡ length ts
unfolding count
count-of [] = refl
count-of (t ∷ ts) = ap suc (count-of ts)

argument-at : (c : Context) (k i : ℕ) (ts : List Term) (own : Term) → IsPacked c k ts → slice_get ts i ≡ Some own → argument (at_index i c) k ≡ own
unfolding argument indexed at_index
argument-at c k i ts own p at = rw (p.scope_is, p.pack_is) (element-of ts i own at)

-- what a pattern makes of the type that a parameter names
makes-in : {detail : Detail} (d : Context) (k : ℕ) (pattern : Pattern) (b marks : List ℕ) (r : Bool) → Prints detail (argument d k) b r → IsMarkedBy pattern r marks
    → (q : Bool) × PrintsIn detail d 3 (each pattern k) (b ++ marks) q
makes-in {detail} d k Pattern.Same b marks r p is = (
  r,
  subst (λ m. PrintsIn detail d 3 (parameter k) (b ++ m) r) (sym is)
      (subst (λ l. PrintsIn detail d 3 (parameter k) l r) (sym (append-nil b)) (parameter-in d k b r p)),
)
makes-in {detail} d k Pattern.Lvalue b marks r p is =
    let own = subst (λ q. Prints detail (argument d k) b q) is.0 p in
    (true, subst (λ m. PrintsIn detail d 3 (lvalue (parameter k)) (b ++ m) true) (sym is.1) (lvalue-in d 3 (parameter k) b (parameter-in d k b false own)))
makes-in {detail} d k Pattern.ConstLvalue b marks r p is =
    let own = subst (λ q. Prints detail (argument d k) b q) is.0 p in
    let t = lvalue (qualified constant (parameter k)) in (
      true,
      subst (λ m. PrintsIn detail d 3 t (b ++ m) true) (sym is.1)
          (subst (λ l. PrintsIn detail d 3 t l true) (append_assoc b (codes " const") (codes "&"))
          (lvalue-in d 3 (qualified constant (parameter k)) (b ++ codes " const") (const-in d 3 (parameter k) b (parameter-in d k b false own)))),
    )
makes-in {detail} d k Pattern.Rvalue b marks true p is = (
  true,
  subst (λ m. PrintsIn detail d 3 (rvalue (parameter k)) (b ++ m) true) (sym is)
      (subst (λ l. PrintsIn detail d 3 (rvalue (parameter k)) l true) (sym (append-nil b)) (rvalue-again d k b p)),
)
makes-in {detail} d k Pattern.Rvalue b marks false p is =
    (true, subst (λ m. PrintsIn detail d 3 (rvalue (parameter k)) (b ++ m) true) (sym is) (rvalue-in d 3 (parameter k) b (parameter-in d k b false p)))

-- what a pattern makes of a reference with text on both sides of a name
around-in : {detail : Detail} (d : Context) (k : ℕ) (pattern : Pattern) (b marks : List ℕ) → PrintsAround detail (argument d k) b → IsMarkedBy pattern true marks
    → IsElementIn detail d 3 (each pattern k) (b ++ marks)
around-in {detail} d k Pattern.Same b marks p is =
    subst (λ l. IsElementIn detail d 3 (parameter k) l) (sym (ap (λ m. b ++ m) is ∙ append-nil b)) (parameter-around d k b p)
around-in {detail} d k Pattern.Lvalue b marks p is = cc is.0
around-in {detail} d k Pattern.ConstLvalue b marks p is = cc is.0
around-in {detail} d k Pattern.Rvalue b marks p is =
    subst (λ l. IsElementIn detail d 3 (rvalue (parameter k)) l) (sym (ap (λ m. b ++ m) is ∙ append-nil b)) (rvalue-around d k b p)

listed-in : {detail : Detail} (d : Context) (k : ℕ) (pattern : Pattern) (b marks : List ℕ) (r : Bool) → PrintsListed true detail (argument d k) b r → IsMarkedBy pattern r marks
    → IsElementIn detail d 3 (each pattern k) (b ++ marks)
listed-in d k pattern b marks r (inl p) is =
    let made = makes-in d k pattern b marks r p is in
    type-in d 3 (each pattern k) (b ++ marks) made.0 (omega arith) made.1
listed-in d k pattern b marks r (inr p) is = around-in d k pattern b marks p.1 (subst (λ q. IsMarkedBy pattern q marks) p.0 is)

each-prints : {detail : Detail} (c : Context) (k i : ℕ) (ts : List Term) (pattern : Pattern) (own : Term) (b : List ℕ) → IsPacked c k ts → slice_get ts i ≡ Some own
    → PrintsMade detail pattern own b → IsElementIn detail (at_index i c) 3 (each pattern k) b
each-prints {detail} c k i ts pattern own b packed at p =
    let d = at_index i c in
    subst (λ l. IsElementIn detail d 3 (each pattern k) l) (sym p.5) (listed-in d k pattern p.0 p.2 p.1
    (subst (λ t. PrintsListed true detail t p.0 p.1) (sym (argument-at c k i ts own packed at)) p.3) p.4)

-- ## After the first element

packs-are : (c : Context) (k : ℕ) (ts : List Term) (pattern : Pattern) → IsPacked c k ts → packs_of c (each pattern k) ≡ Some (count (list_of ts))
unfolding packs_of pack_length length_if_pack
packs-are c k ts Pattern.Same p = rw (p.scope_is, p.pack_is) refl
packs-are c k ts Pattern.Lvalue p = rw (p.scope_is, p.pack_is) refl
packs-are c k ts Pattern.ConstLvalue p = rw (p.scope_is, p.pack_is) refl
packs-are c k ts Pattern.Rvalue p = rw (p.scope_is, p.pack_is) refl

-- what follows the first elements
rest-ends : (c : Context) (k : ℕ) (ts : List Term) (pattern : Pattern) (n : ℕ) → IsPacked c k ts → length ts ≤ n → expand_rest c (each pattern k) n ≡ []
unfolding expand_rest is_below
rest-ends c k ts pattern n p le = rw (packs-are c k ts pattern p, le-ltb n (count (list_of ts)) (omega (arith, le, count-of ts)), expand_rest) refl

rest-goes : (c : Context) (k : ℕ) (ts : List Term) (pattern : Pattern) (n : ℕ) → IsPacked c k ts → n < length ts
    → expand_rest c (each pattern k) n ≡ as_item (expand n) c (each pattern k) ∷ []
unfolding expand_rest is_below
rest-goes c k ts pattern n p lt = rw (packs-are c k ts pattern p, lt-ltb n (count (list_of ts)) (omega (arith, lt, count-of ts)), expand_rest) refl

-- the parts of an element after the first
abbrev next_parts : (detail : Detail) → Context → (t : Term) → (m : ℕ) → List ℕ → Type 0
next_parts detail c t m l = (text_of (shown_by detail (expand_rest c t m)) ≡ l) × (cost_of (shown_by detail (expand_rest c t m)) ≤ 1 + 4 * length l)

one-more : {detail : Detail} (c : Context) (k : ℕ) (ts : List Term) (pattern : Pattern) (m : ℕ) (b l : List ℕ) → IsPacked c k ts → suc m < length ts
    → IsElementIn detail (at_index (suc m) c) 3 (each pattern k) b
    → next_parts detail c (each pattern k) (suc m + 1) l → next_parts detail c (each pattern k) (suc m) (codes ", " ++ (b ++ l))
unfolding parts_in expand_parts comma_before not_empty
one-more {detail} c k ts pattern m b l packed lt p n =
    let t = each pattern k in
    let d = at_index (suc m) c in
    let rest = expand_rest c t (suc m + 1) in
    let qs = says ", " ∷ as_item left d t ∷ as_item right d t ∷ rest in
    let goes = rest-goes c k ts pattern (suc m) packed lt in (
      ap (λ ps. text_of (shown_by detail ps)) goes ∙ append-nil (text_of (written_of detail (expand (suc m)) c t)) ∙ text_shown detail (expand (suc m)) c t qs refl refl
          ∙ ap (λ x. codes ", " ++ x) (sym (append_assoc (text_of (written_of detail left d t)) (text_of (written_of detail right d t)) (text_of (shown_by detail rest))))
          ∙ ap (λ x. codes ", " ++ (x ++ text_of (shown_by detail rest))) p.both_texts ∙ ap (λ x. codes ", " ++ (b ++ x)) n.0,
      omega (arith, ap (λ ps. cost_of (shown_by detail ps)) goes, cost_shown detail (expand (suc m)) c t qs refl refl, p.cost, n.1, length-append {A = ℕ}),
    )

rest-prints : (detail : Detail) (c : Context) (k : ℕ) (ts : List Term) (pattern : Pattern) (rest : List Term) (m : ℕ) (texts : List (List ℕ)) → IsPacked c k ts
    → ((i : ℕ) (t : Term) → slice_get rest i ≡ Some t → slice_get ts (suc m + i) ≡ Some t)
    → suc m + length rest ≡ length ts → PrintEachBy (PrintsMade detail pattern) rest texts → next_parts detail c (each pattern k) (suc m) (further texts)
unfolding not_empty
rest-prints detail c k ts pattern [] m [] packed there size each_ =
    let none = rest-ends c k ts pattern (suc m) packed (omega (arith, size)) in
    (ap (λ ps. text_of (shown_by detail ps)) none, omega (arith, ap (λ ps. cost_of (shown_by detail ps)) none))
rest-prints detail c k ts pattern (t ∷ rest) m (b ∷ texts) packed there size each_ =
    let at : slice_get ts (suc m) ≡ Some t = subst (λ n. slice_get ts n ≡ Some t) (omega arith) (there 0 t refl) in
    let behind = rest-prints detail c k ts pattern rest (suc m) texts packed
    (λ i u e. subst (λ n. slice_get ts n ≡ Some u) (omega arith) (there (suc i) u e)) (omega (arith, size)) each_.1 in
    one-more c k ts pattern m b (further texts) packed (omega (arith, size)) (each-prints c k (suc m) ts pattern t b packed at each_.0)
    (subst (λ n. next_parts detail c (each pattern k) n (further texts)) (omega arith) behind)
rest-prints detail c k ts pattern [] m (b ∷ texts) packed there size each_ = absurd each_
rest-prints detail c k ts pattern (t ∷ rest) m [] packed there size each_ = absurd each_

-- ## The whole

expanded : {detail : Detail} (c : Context) (k : ℕ) (pattern : Pattern) (t : Term) (rest : List Term) (b : List ℕ) (texts : List (List ℕ)) → IsPacked c k (t ∷ rest)
    → PrintsMade detail pattern t b → PrintEachBy (PrintsMade detail pattern) rest texts
    → IsElementIn detail c 6 (expansion (each pattern k)) (joined (b ∷ texts))
unfolding parts_in left_parts right_parts not_empty expansion_parts expand_parts comma_before count is_empty is_none_of is_void
expanded {detail} c k pattern t rest b texts packed one others =
    let ts = t ∷ rest in
    let u = each pattern k in
    let d = at_index 0 c in
    let e = expansion u in
    let p = each-prints c k 0 ts pattern t b packed refl one in
    let n = rest-prints detail c k ts pattern rest 0 texts packed
    (λ i v at. let behind : suc i ≡ suc 0 + i = omega arith in subst (λ m. slice_get ts m ≡ Some v) behind at) (omega arith) others in
    let last = expand_rest c u 1 in
    let ps = as_item (expand 0) c u ∷ [] in
    let qs = as_item left d u ∷ as_item right d u ∷ last in
    let packs = packs-are c k ts pattern packed in
    let is : parts_in detail c left e ≡ ps = ap (λ o. expansion_parts c u o) packs in
    record {
      both_texts = ap (λ l. text_of (written_of detail left c e) ++ l) (text_shown detail right c e [] refl refl) ∙ append-nil (text_of (written_of detail left c e))
          ∙ text_shown detail left c e ps is refl ∙ append-nil (text_of (written_of detail (expand 0) c u)) ∙ text_shown detail (expand 0) c u qs refl refl
          ∙ sym (append_assoc (text_of (written_of detail left d u)) (text_of (written_of detail right d u)) (text_of (shown_by detail last)))
          ∙ ap (λ l. l ++ text_of (shown_by detail last)) p.both_texts ∙ ap (λ l. b ++ l) n.0 ∙ sym (joined-further b texts);
      cost = omega (
        arith,
        p.cost,
        n.1,
        cost_shown detail left c e ps is refl,
        cost_shown detail right c e [] refl refl,
        cost_shown detail (expand 0) c u qs refl refl,
        ap length (joined-further b texts),
        length-append b (further texts),
      );
      filled = ap is_none_of packs ∙ eqb-suc-zero (count (list_of rest));
      void = λ h. cc h;
    }

-- An expansion prints what its pattern makes of each element of a pack, among the types of a name whose arguments include that
-- pack.
pub expansion-element : {detail : Detail} (name all : Term) (k : ℕ) (ts : List Term) (pattern : Pattern) (bytes : List ℕ) → ts ≢ []
    → arguments_of name ≡ Some all → element all k ≡ pack (list_of ts)
    → PrintAllBy (PrintsMade detail pattern) ts bytes → IsElementIn detail (types_of name) 6 (expansion (made_by pattern (parameter k))) bytes
unfolding types_of
expansion-element {detail} name all k ts pattern bytes some e pack_is printed =
    subst (λ l. IsElementIn detail (types_of name) 6 (expansion (each pattern k)) l) printed.2
    (go ts printed.0 some (record { all = all; scope_is = e; pack_is = pack_is }) printed.1)
  where
    go : (us : List Term) (texts : List (List ℕ)) → us ≢ [] → IsPacked (types_of name) k us → PrintEachBy (PrintsMade detail pattern) us texts
        → IsElementIn detail (types_of name) 6 (expansion (each pattern k)) (joined texts)
    go [] texts some_ packed each_ = absurd (some_ refl)
    go (t ∷ us) [] some_ packed each_ = absurd each_
    go (t ∷ us) (b ∷ texts) some_ packed each_ = expanded (types_of name) k pattern t us b texts packed each_.0 each_.1

-- Where the pack is empty, so is the expansion.
pub expansion-empty : (name all : Term) (k : ℕ) (ts : List Term) (pattern : Pattern) → length ts ≡ 0 → arguments_of name ≡ Some all
    → element all k ≡ pack (list_of ts) → is_empty (types_of name) (expansion (made_by pattern (parameter k))) ≡ true
unfolding types_of is_empty is_none_of
expansion-empty name all k ts pattern none e pack_is =
    ap is_none_of (packs-are (types_of name) k ts pattern (record { all = all; scope_is = e; pack_is = pack_is }) ∙ ap (λ n. Some n) (count-of ts ∙ none))
