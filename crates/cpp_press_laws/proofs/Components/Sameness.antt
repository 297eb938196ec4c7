-- Two trees are the same exactly if the test says so.
use Rattle.cpp_press_laws.proofs.Basics.{◌≡◌, ℕ, List, [], ◌∷◌, Bool, true, false, ◌&&◌, refl, Option, Some, None, ap, sym, eqb-true, eq-eqb, same_bytes, Qualifiers, RefQualifier, any_value, lvalue_only, rvalue_only, explicit_object, Signed, Adjustment, non_virtual, by_table, Thunk, adjusting, covariant, Term, symbol, function, object, special, thunk, of_name, construction, clone, alone, in_std, within, instance, local, holder, tagged, of_default, abbreviation, parameter, source, operator, literal_operator, constructor, destructor, inheriting, lambda, generic_lambda, unnamed, string_literal, conversion, builtin, sized_float, constrained, vendor, pointer, lvalue, rvalue, array, bounded, member_pointer, function_type, qualified, vector, complex, decltype, expansion, integer, boolean, null_pointer, encoding_literal, address_of, operation, function_parameter, pack, nil, list, absent, enumeration, bindings, declaring, same_truth, same_qualifiers, same_mark, same_signed, same_adjustment, same_thunk, same_discriminator, same_tree}
use Rattle.sym_spell.proofs.Tests.{both, all}

never : false ≡ true → ⊥
never h = cc

both_3 : {a b c : Bool} → a && b && c ≡ true → (a ≡ true) × (b ≡ true) × (c ≡ true)
both_3 h = ((both (both h).0).0, (both (both h).0).1, (both h).1)

both_4 : {a b c d : Bool} → a && b && c && d ≡ true → (a ≡ true) × (b ≡ true) × (c ≡ true) × (d ≡ true)
both_4 h = let p = both_3 (both h).0 in (p.0, p.1, p.2, (both h).1)

both_5 : {a b c d e : Bool} → a && b && c && d && e ≡ true → (a ≡ true) × (b ≡ true) × (c ≡ true) × (d ≡ true) × (e ≡ true)
both_5 h = let p = both_3 (both (both h).0).0 in (p.0, p.1, p.2, (both (both h).0).1, (both h).1)

pub equal-bytes : (xs ys : List ℕ) → same_bytes xs ys ≡ true → xs ≡ ys
unfolding same_bytes
equal-bytes [] [] h = refl
equal-bytes (x ∷ xs) (y ∷ ys) h =
    let one : x ≡ y = eqb-true x y (both h).0 in
    let rest : xs ≡ ys = equal-bytes xs ys (both h).1 in cc
equal-bytes _ _ h = cc

pub bytes-itself : (xs : List ℕ) → same_bytes xs xs ≡ true
unfolding same_bytes
bytes-itself [] = refl
bytes-itself (x ∷ xs) = all (eq-eqb x x refl) (bytes-itself xs)

equal-truth : (a b : Bool) → same_truth a b ≡ true → a ≡ b
unfolding same_truth
equal-truth true b h = sym h
equal-truth false true h = cc
equal-truth false false h = refl

truth-itself : (a : Bool) → same_truth a a ≡ true
unfolding same_truth
truth-itself true = refl
truth-itself false = refl

qualifiers-equal : (r s v w c d : Bool) → r ≡ s → v ≡ w → c ≡ d
    → ◌≡◌ {A = Qualifiers} (record { restrict = r; volatile = v; const = c }) (record { restrict = s; volatile = w; const = d })
qualifiers-equal r s v w c d one two three = rw (one, two, three) refl

pub equal-qualifiers : (q p : Qualifiers) → same_qualifiers q p ≡ true → q ≡ p
unfolding same_qualifiers
equal-qualifiers q p h =
    qualifiers-equal q.restrict p.restrict q.volatile p.volatile q.const p.const (equal-truth q.restrict p.restrict (both (both h).0).0)
    (equal-truth q.volatile p.volatile (both (both h).0).1) (equal-truth q.const p.const (both h).1)

qualifiers-itself : (q : Qualifiers) → same_qualifiers q q ≡ true
unfolding same_qualifiers
qualifiers-itself q = all (all (truth-itself q.restrict) (truth-itself q.volatile)) (truth-itself q.const)

equal-mark : (r s : RefQualifier) → same_mark r s ≡ true → r ≡ s
unfolding same_mark
equal-mark any_value any_value h = refl
equal-mark lvalue_only lvalue_only h = refl
equal-mark rvalue_only rvalue_only h = refl
equal-mark explicit_object explicit_object h = refl
equal-mark _ _ h = cc

mark-itself : (r : RefQualifier) → same_mark r r ≡ true
unfolding same_mark
mark-itself any_value = refl
mark-itself lvalue_only = refl
mark-itself rvalue_only = refl
mark-itself explicit_object = refl

signeds-equal : (m n : Bool) (xs ys : List ℕ) → m ≡ n → xs ≡ ys
    → ◌≡◌ {A = Signed} (record { negative = m; digits = xs }) (record { negative = n; digits = ys })
signeds-equal m n xs ys one two = rw (one, two) refl

equal-signed : (n m : Signed) → same_signed n m ≡ true → n ≡ m
unfolding same_signed
equal-signed n m h = signeds-equal n.negative m.negative n.digits m.digits (equal-truth n.negative m.negative (both h).0) (equal-bytes n.digits m.digits (both h).1)

signed-itself : (n : Signed) → same_signed n n ≡ true
unfolding same_signed
signed-itself n = all (truth-itself n.negative) (bytes-itself n.digits)

equal-adjustment : (a b : Adjustment) → same_adjustment a b ≡ true → a ≡ b
unfolding same_adjustment
equal-adjustment (non_virtual a) (non_virtual b) h = ap non_virtual (equal-signed a b h)
equal-adjustment (by_table a b) (by_table c d) h =
    let one : a ≡ c = equal-signed a c (both h).0 in
    let two : b ≡ d = equal-signed b d (both h).1 in cc
equal-adjustment _ _ h = cc

adjustment-itself : (a : Adjustment) → same_adjustment a a ≡ true
unfolding same_adjustment
adjustment-itself (non_virtual a) = signed-itself a
adjustment-itself (by_table a b) = all (signed-itself a) (signed-itself b)

equal-thunk : (k l : Thunk) → same_thunk k l ≡ true → k ≡ l
unfolding same_thunk
equal-thunk (adjusting a) (adjusting b) h = ap adjusting (equal-adjustment a b h)
equal-thunk (covariant a b) (covariant c d) h =
    let one : a ≡ c = equal-adjustment a c (both h).0 in
    let two : b ≡ d = equal-adjustment b d (both h).1 in cc
equal-thunk _ _ h = cc

thunk-itself : (k : Thunk) → same_thunk k k ≡ true
unfolding same_thunk
thunk-itself (adjusting a) = adjustment-itself a
thunk-itself (covariant a b) = all (adjustment-itself a) (adjustment-itself b)

equal-discriminator : (d e : Option (List ℕ)) → same_discriminator d e ≡ true → d ≡ e
unfolding same_discriminator
equal-discriminator None None h = refl
equal-discriminator (Some a) (Some b) h = let one : a ≡ b = equal-bytes a b h in cc
equal-discriminator _ _ h = cc

discriminator-itself : (d : Option (List ℕ)) → same_discriminator d d ≡ true
unfolding same_discriminator
discriminator-itself None = refl
discriminator-itself (Some a) = bytes-itself a

-- Generated by tools/trees.py. Trees that pass the test are equal
pub equal-tree : (t u : Term) → same_tree t u ≡ true → t ≡ u
unfolding same_tree
equal-tree (symbol a0 a1) (symbol b0 b1) h =
    let e0 : a0 ≡ b0 = equal-tree a0 b0 (both h).0 in
    let e1 : a1 ≡ b1 = equal-bytes a1 b1 (both h).1 in cc
equal-tree (function a0 a1 a2 a3 a4) (function b0 b1 b2 b3 b4) h =
    let p = both_5 h in
    let e0 : a0 ≡ b0 = equal-tree a0 b0 p.0 in
    let e1 : a1 ≡ b1 = equal-qualifiers a1 b1 p.1 in
    let e2 : a2 ≡ b2 = equal-mark a2 b2 p.2 in
    let e3 : a3 ≡ b3 = equal-tree a3 b3 p.3 in
    let e4 : a4 ≡ b4 = equal-tree a4 b4 p.4 in cc
equal-tree (object a0 a1 a2) (object b0 b1 b2) h =
    let p = both_3 h in
    let e0 : a0 ≡ b0 = equal-tree a0 b0 p.0 in
    let e1 : a1 ≡ b1 = equal-qualifiers a1 b1 p.1 in
    let e2 : a2 ≡ b2 = equal-mark a2 b2 p.2 in cc
equal-tree (special a0 a1) (special b0 b1) h =
    let e0 : a0 ≡ b0 = eqb-true a0 b0 (both h).0 in
    let e1 : a1 ≡ b1 = equal-tree a1 b1 (both h).1 in cc
equal-tree (thunk a0 a1) (thunk b0 b1) h =
    let e0 : a0 ≡ b0 = equal-thunk a0 b0 (both h).0 in
    let e1 : a1 ≡ b1 = equal-tree a1 b1 (both h).1 in cc
equal-tree (of_name a0 a1 a2 a3) (of_name b0 b1 b2 b3) h =
    let p = both_4 h in
    let e0 : a0 ≡ b0 = eqb-true a0 b0 p.0 in
    let e1 : a1 ≡ b1 = equal-tree a1 b1 p.1 in
    let e2 : a2 ≡ b2 = equal-qualifiers a2 b2 p.2 in
    let e3 : a3 ≡ b3 = equal-mark a3 b3 p.3 in cc
equal-tree (construction a0 a1 a2) (construction b0 b1 b2) h =
    let p = both_3 h in
    let e0 : a0 ≡ b0 = equal-tree a0 b0 p.0 in
    let e1 : a1 ≡ b1 = equal-bytes a1 b1 p.1 in
    let e2 : a2 ≡ b2 = equal-tree a2 b2 p.2 in cc
equal-tree (clone a0 a1) (clone b0 b1) h =
    let e0 : a0 ≡ b0 = eqb-true a0 b0 (both h).0 in
    let e1 : a1 ≡ b1 = equal-tree a1 b1 (both h).1 in cc
equal-tree (alone a0) (alone b0) h =
    let e0 : a0 ≡ b0 = equal-tree a0 b0 h in cc
equal-tree (in_std a0) (in_std b0) h =
    let e0 : a0 ≡ b0 = equal-tree a0 b0 h in cc
equal-tree (within a0 a1) (within b0 b1) h =
    let e0 : a0 ≡ b0 = equal-tree a0 b0 (both h).0 in
    let e1 : a1 ≡ b1 = equal-tree a1 b1 (both h).1 in cc
equal-tree (instance a0 a1) (instance b0 b1) h =
    let e0 : a0 ≡ b0 = equal-tree a0 b0 (both h).0 in
    let e1 : a1 ≡ b1 = equal-tree a1 b1 (both h).1 in cc
equal-tree (local a0 a1 a2) (local b0 b1 b2) h =
    let p = both_3 h in
    let e0 : a0 ≡ b0 = equal-tree a0 b0 p.0 in
    let e1 : a1 ≡ b1 = equal-tree a1 b1 p.1 in
    let e2 : a2 ≡ b2 = equal-discriminator a2 b2 p.2 in cc
equal-tree (holder a0) (holder b0) h =
    let e0 : a0 ≡ b0 = equal-tree a0 b0 h in cc
equal-tree (tagged a0 a1 a2) (tagged b0 b1 b2) h =
    let p = both_3 h in
    let e0 : a0 ≡ b0 = equal-truth a0 b0 p.0 in
    let e1 : a1 ≡ b1 = equal-tree a1 b1 p.1 in
    let e2 : a2 ≡ b2 = equal-bytes a2 b2 p.2 in cc
equal-tree (of_default a0 a1) (of_default b0 b1) h =
    let e0 : a0 ≡ b0 = equal-bytes a0 b0 (both h).0 in
    let e1 : a1 ≡ b1 = equal-tree a1 b1 (both h).1 in cc
equal-tree (abbreviation a0) (abbreviation b0) h =
    let e0 : a0 ≡ b0 = eqb-true a0 b0 h in cc
equal-tree (parameter a0) (parameter b0) h =
    let e0 : a0 ≡ b0 = eqb-true a0 b0 h in cc
equal-tree (source a0 a1) (source b0 b1) h =
    let e0 : a0 ≡ b0 = equal-truth a0 b0 (both h).0 in
    let e1 : a1 ≡ b1 = equal-bytes a1 b1 (both h).1 in cc
equal-tree (operator a0 a1) (operator b0 b1) h =
    let e0 : a0 ≡ b0 = eqb-true a0 b0 (both h).0 in
    let e1 : a1 ≡ b1 = eqb-true a1 b1 (both h).1 in cc
equal-tree (literal_operator a0) (literal_operator b0) h =
    let e0 : a0 ≡ b0 = equal-bytes a0 b0 h in cc
equal-tree (constructor a0) (constructor b0) h =
    let e0 : a0 ≡ b0 = eqb-true a0 b0 h in cc
equal-tree (destructor a0) (destructor b0) h =
    let e0 : a0 ≡ b0 = eqb-true a0 b0 h in cc
equal-tree (inheriting a0 a1) (inheriting b0 b1) h =
    let e0 : a0 ≡ b0 = eqb-true a0 b0 (both h).0 in
    let e1 : a1 ≡ b1 = equal-tree a1 b1 (both h).1 in cc
equal-tree (lambda a0 a1) (lambda b0 b1) h =
    let e0 : a0 ≡ b0 = equal-tree a0 b0 (both h).0 in
    let e1 : a1 ≡ b1 = eqb-true a1 b1 (both h).1 in cc
equal-tree (generic_lambda a0 a1) (generic_lambda b0 b1) h =
    let e0 : a0 ≡ b0 = equal-tree a0 b0 (both h).0 in
    let e1 : a1 ≡ b1 = eqb-true a1 b1 (both h).1 in cc
equal-tree (unnamed a0) (unnamed b0) h =
    let e0 : a0 ≡ b0 = eqb-true a0 b0 h in cc
equal-tree string_literal string_literal h = refl
equal-tree (conversion a0) (conversion b0) h =
    let e0 : a0 ≡ b0 = equal-tree a0 b0 h in cc
equal-tree (enumeration a0 a1) (enumeration b0 b1) h =
    let e0 : a0 ≡ b0 = equal-tree a0 b0 (both h).0 in
    let e1 : a1 ≡ b1 = equal-bytes a1 b1 (both h).1 in cc
equal-tree (bindings a0) (bindings b0) h =
    let e0 : a0 ≡ b0 = equal-tree a0 b0 h in cc
equal-tree (declaring a0 a1) (declaring b0 b1) h =
    let e0 : a0 ≡ b0 = equal-tree a0 b0 (both h).0 in
    let e1 : a1 ≡ b1 = equal-tree a1 b1 (both h).1 in cc
equal-tree (builtin a0) (builtin b0) h =
    let e0 : a0 ≡ b0 = equal-bytes a0 b0 h in cc
equal-tree (sized_float a0 a1) (sized_float b0 b1) h =
    let e0 : a0 ≡ b0 = equal-bytes a0 b0 (both h).0 in
    let e1 : a1 ≡ b1 = eqb-true a1 b1 (both h).1 in cc
equal-tree (constrained a0 a1) (constrained b0 b1) h =
    let e0 : a0 ≡ b0 = eqb-true a0 b0 (both h).0 in
    let e1 : a1 ≡ b1 = equal-tree a1 b1 (both h).1 in cc
equal-tree (vendor a0) (vendor b0) h =
    let e0 : a0 ≡ b0 = equal-bytes a0 b0 h in cc
equal-tree (pointer a0) (pointer b0) h =
    let e0 : a0 ≡ b0 = equal-tree a0 b0 h in cc
equal-tree (lvalue a0) (lvalue b0) h =
    let e0 : a0 ≡ b0 = equal-tree a0 b0 h in cc
equal-tree (rvalue a0) (rvalue b0) h =
    let e0 : a0 ≡ b0 = equal-tree a0 b0 h in cc
equal-tree (array a0 a1) (array b0 b1) h =
    let e0 : a0 ≡ b0 = equal-bytes a0 b0 (both h).0 in
    let e1 : a1 ≡ b1 = equal-tree a1 b1 (both h).1 in cc
equal-tree (bounded a0 a1) (bounded b0 b1) h =
    let e0 : a0 ≡ b0 = equal-tree a0 b0 (both h).0 in
    let e1 : a1 ≡ b1 = equal-tree a1 b1 (both h).1 in cc
equal-tree (member_pointer a0 a1) (member_pointer b0 b1) h =
    let e0 : a0 ≡ b0 = equal-tree a0 b0 (both h).0 in
    let e1 : a1 ≡ b1 = equal-tree a1 b1 (both h).1 in cc
equal-tree (function_type a0 a1 a2 a3 a4) (function_type b0 b1 b2 b3 b4) h =
    let p = both_5 h in
    let e0 : a0 ≡ b0 = equal-truth a0 b0 p.0 in
    let e1 : a1 ≡ b1 = equal-truth a1 b1 p.1 in
    let e2 : a2 ≡ b2 = equal-mark a2 b2 p.2 in
    let e3 : a3 ≡ b3 = equal-tree a3 b3 p.3 in
    let e4 : a4 ≡ b4 = equal-tree a4 b4 p.4 in cc
equal-tree (qualified a0 a1) (qualified b0 b1) h =
    let e0 : a0 ≡ b0 = equal-qualifiers a0 b0 (both h).0 in
    let e1 : a1 ≡ b1 = equal-tree a1 b1 (both h).1 in cc
equal-tree (vector a0 a1) (vector b0 b1) h =
    let e0 : a0 ≡ b0 = equal-bytes a0 b0 (both h).0 in
    let e1 : a1 ≡ b1 = equal-tree a1 b1 (both h).1 in cc
equal-tree (complex a0) (complex b0) h =
    let e0 : a0 ≡ b0 = equal-tree a0 b0 h in cc
equal-tree (decltype a0) (decltype b0) h =
    let e0 : a0 ≡ b0 = equal-tree a0 b0 h in cc
equal-tree (expansion a0) (expansion b0) h =
    let e0 : a0 ≡ b0 = equal-tree a0 b0 h in cc
equal-tree (integer a0 a1) (integer b0 b1) h =
    let e0 : a0 ≡ b0 = equal-tree a0 b0 (both h).0 in
    let e1 : a1 ≡ b1 = equal-signed a1 b1 (both h).1 in cc
equal-tree (boolean a0) (boolean b0) h =
    let e0 : a0 ≡ b0 = equal-truth a0 b0 h in cc
equal-tree null_pointer null_pointer h = refl
equal-tree (encoding_literal a0) (encoding_literal b0) h =
    let e0 : a0 ≡ b0 = equal-tree a0 b0 h in cc
equal-tree (address_of a0) (address_of b0) h =
    let e0 : a0 ≡ b0 = equal-tree a0 b0 h in cc
equal-tree (operation a0 a1 a2 a3) (operation b0 b1 b2 b3) h =
    let p = both_4 h in
    let e0 : a0 ≡ b0 = eqb-true a0 b0 p.0 in
    let e1 : a1 ≡ b1 = eqb-true a1 b1 p.1 in
    let e2 : a2 ≡ b2 = equal-tree a2 b2 p.2 in
    let e3 : a3 ≡ b3 = equal-tree a3 b3 p.3 in cc
equal-tree (function_parameter a0) (function_parameter b0) h =
    let e0 : a0 ≡ b0 = equal-bytes a0 b0 h in cc
equal-tree (pack a0) (pack b0) h =
    let e0 : a0 ≡ b0 = equal-tree a0 b0 h in cc
equal-tree nil nil h = refl
equal-tree (list a0 a1) (list b0 b1) h =
    let e0 : a0 ≡ b0 = equal-tree a0 b0 (both h).0 in
    let e1 : a1 ≡ b1 = equal-tree a1 b1 (both h).1 in cc
equal-tree absent absent h = refl
equal-tree _ _ h = absurd (never h)

-- Generated by tools/trees.py. Each tree is the same as itself
pub tree-itself : (t : Term) → same_tree t t ≡ true
unfolding same_tree
tree-itself (symbol e suffix) = all (tree-itself e) (bytes-itself suffix)
tree-itself (function name q ref returned parameters) = all (all (all (all (tree-itself name) (qualifiers-itself q)) (mark-itself ref)) (tree-itself returned)) (tree-itself parameters)
tree-itself (object name q ref) = all (all (tree-itself name) (qualifiers-itself q)) (mark-itself ref)
tree-itself (special letter t) = all (eq-eqb letter letter refl) (tree-itself t)
tree-itself (thunk kind e) = all (thunk-itself kind) (tree-itself e)
tree-itself (of_name letter name q ref) = all (all (all (eq-eqb letter letter refl) (tree-itself name)) (qualifiers-itself q)) (mark-itself ref)
tree-itself (construction derived digits parent) = all (all (tree-itself derived) (bytes-itself digits)) (tree-itself parent)
tree-itself (clone letter e) = all (eq-eqb letter letter refl) (tree-itself e)
tree-itself (alone p) = tree-itself p
tree-itself (in_std p) = tree-itself p
tree-itself (within prefix p) = all (tree-itself prefix) (tree-itself p)
tree-itself (instance template arguments) = all (tree-itself template) (tree-itself arguments)
tree-itself (local encoding entity discriminator) = all (all (tree-itself encoding) (tree-itself entity)) (discriminator-itself discriminator)
tree-itself (holder name) = tree-itself name
tree-itself (tagged of_structor name tag) = all (all (truth-itself of_structor) (tree-itself name)) (bytes-itself tag)
tree-itself (of_default digits entity) = all (bytes-itself digits) (tree-itself entity)
tree-itself (abbreviation letter) = eq-eqb letter letter refl
tree-itself (parameter k) = eq-eqb k k refl
tree-itself (source internal bytes) = all (truth-itself internal) (bytes-itself bytes)
tree-itself (operator a b) = all (eq-eqb a a refl) (eq-eqb b b refl)
tree-itself (literal_operator bytes) = bytes-itself bytes
tree-itself (constructor digit) = eq-eqb digit digit refl
tree-itself (destructor digit) = eq-eqb digit digit refl
tree-itself (inheriting digit class) = all (eq-eqb digit digit refl) (tree-itself class)
tree-itself (lambda parameters number) = all (tree-itself parameters) (eq-eqb number number refl)
tree-itself (generic_lambda parameters number) = all (tree-itself parameters) (eq-eqb number number refl)
tree-itself (unnamed number) = eq-eqb number number refl
tree-itself string_literal = refl
tree-itself (conversion t) = tree-itself t
tree-itself (enumeration t bytes) = all (tree-itself t) (bytes-itself bytes)
tree-itself (bindings names) = tree-itself names
tree-itself (declaring heads parameters) = all (tree-itself heads) (tree-itself parameters)
tree-itself (builtin code) = bytes-itself code
tree-itself (sized_float digits end) = all (bytes-itself digits) (eq-eqb end end refl)
tree-itself (constrained letter concept) = all (eq-eqb letter letter refl) (tree-itself concept)
tree-itself (vendor bytes) = bytes-itself bytes
tree-itself (pointer t) = tree-itself t
tree-itself (lvalue t) = tree-itself t
tree-itself (rvalue t) = tree-itself t
tree-itself (array digits t) = all (bytes-itself digits) (tree-itself t)
tree-itself (bounded bound t) = all (tree-itself bound) (tree-itself t)
tree-itself (member_pointer class t) = all (tree-itself class) (tree-itself t)
tree-itself (function_type c_linkage noexcept ref returned parameters) = all (all (all (all (truth-itself c_linkage) (truth-itself noexcept)) (mark-itself ref)) (tree-itself returned)) (tree-itself parameters)
tree-itself (qualified q t) = all (qualifiers-itself q) (tree-itself t)
tree-itself (vector digits t) = all (bytes-itself digits) (tree-itself t)
tree-itself (complex t) = tree-itself t
tree-itself (decltype operand) = tree-itself operand
tree-itself (expansion pattern) = tree-itself pattern
tree-itself (integer t n) = all (tree-itself t) (signed-itself n)
tree-itself (boolean b) = truth-itself b
tree-itself null_pointer = refl
tree-itself (encoding_literal e) = tree-itself e
tree-itself (address_of e) = tree-itself e
tree-itself (operation one two u w) = all (all (all (eq-eqb one one refl) (eq-eqb two two refl)) (tree-itself u)) (tree-itself w)
tree-itself (function_parameter digits) = bytes-itself digits
tree-itself (pack elements) = tree-itself elements
tree-itself nil = refl
tree-itself (list e rest) = all (tree-itself e) (tree-itself rest)
tree-itself absent = refl
