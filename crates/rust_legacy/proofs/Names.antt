-- Names as they are in a symbol, and the walk over them.
use Rattle.rust_legacy.proofs.Basics.{◌≡◌, ℕ, zero, suc, ◌+◌, ◌-◌, ◌<◌, ◌≤◌, List, [], ◌∷◌, ◌++◌, length, take, drop, Bool, cond, ◌&&◌, not, refl, ap, sym, ◌∙◌, arith, true, false, subst, Option, Some, None, codes, nat_le, nat_lt, nat_eq, unwrap_or, prefix_len, nat_tests, length-drop, length-take-le, drop-drop, is_decimal_digit, value_of, Length, Path, Name, AreNames, before_hash, begins_with, is_hash, name_in, names_in, path_before_hash, path_in, with_name}

-- a path with more names at its front
abbrev pub with_names : List (List ℕ) → Option Path → Option Path
with_names [] path = path
with_names (name ∷ rest) path = with_name name (with_names rest path)

pub with_names-joined : (front names : List (List ℕ)) (path : Option Path) → with_names (front ++ names) path ≡ with_names front (with_names names path)
with_names-joined [] names path = refl
with_names-joined (n ∷ front) names path = ap (with_name n) (with_names-joined front names path)

pub with_names-None : (front : List (List ℕ)) → with_names front None ≡ None
with_names-None [] = refl
with_names-None (n ∷ front) = ap (with_name n) (with_names-None front)

pub with_names-Some : (front names : List (List ℕ)) (suffix : List ℕ) → with_names front (Some (record { names = names; suffix = suffix })) ≡ Some (record { names = front ++ names; suffix = suffix })
with_names-Some [] names suffix = refl
with_names-Some (n ∷ front) names suffix = ap (with_name n) (with_names-Some front names suffix)

-- the names, with one more at the front
abbrev pub after : (depth : ℕ) → List ℕ → Option Name → Option Path
after depth s found = elim found [ Some name ↦ with_name name.bytes (names_in depth (drop name.size s)) | None ↦ None ]

abbrev pub at_end : List ℕ → Option Path
at_end s = Some (record { names = []; suffix = drop 1 s })

-- the names at a place are the name at this place and the names from that name's end on
pub one_name : (depth : ℕ) (s : List ℕ) (at to : ℕ) (bytes : List ℕ) → length s - at < depth → at ≤ to
    → begins_with (codes "E") (drop at s) ≡ false → name_in (drop at s) ≡ Some (record { bytes = bytes; size = to - at })
    → (more : ℕ) × (depth ≡ suc more) × (names_in depth (drop at s) ≡ with_name bytes (names_in more (drop to s)))
one_name zero s at to bytes deep low more is = absurd (omega (arith, deep))
one_name (suc depth) s at to bytes deep low more is = (
  depth,
  refl,
  ap (λ b. cond {A = Option Path} b (at_end (drop at s)) (after depth (drop at s) (name_in (drop at s)))) more
      ∙ ap (after depth (drop at s)) is
      ∙ ap (λ r. with_name bytes (names_in depth r)) (drop-drop (to - at) at s ∙ ap (λ n. drop n s) (omega (arith, low))),
)

-- if there is neither a name nor an E, no names are read
pub no_name : (depth : ℕ) (s : List ℕ) → begins_with (codes "E") s ≡ false → name_in s ≡ None → names_in depth s ≡ None
no_name zero s more is = refl
no_name (suc depth) s more is = ap (λ b. cond {A = Option Path} b (at_end s) (after depth s (name_in s))) more ∙ ap (after depth s) is

-- names end at an E
pub ended : (depth : ℕ) (s : List ℕ) (at : ℕ) → length s - at < depth → begins_with (codes "E") (drop at s) ≡ true
    → names_in depth (drop at s) ≡ Some (record { names = []; suffix = drop (at + 1) s })
ended zero s at deep is = absurd (omega (arith, deep))
ended (suc depth) s at deep is =
    ap (λ b. cond {A = Option Path} b (at_end (drop at s)) (after depth (drop at s) (name_in (drop at s)))) is
    ∙ ap (λ r. Some (record { names = []; suffix = r })) (drop-drop 1 at s)

-- names, followed by other names from their end on, are one list of names
pub AreNames-joined : (s : List ℕ) (from at to : ℕ) (front names : List (List ℕ)) → AreNames s from at front → AreNames s at to names → AreNames s from to (front ++ names)
AreNames-joined s from at to [] names are more = subst (λ n. AreNames s n to names) (sym are) more
AreNames-joined s from at to (n ∷ front) names are more = (are.0, are.1, AreNames-joined s (from + are.0) at to front names are.2 more)

abbrev pub names_after : List ℕ → Option (List (List ℕ)) → Option (List (List ℕ))
names_after name found = elim found [ Some names ↦ Some (name ∷ names) | None ↦ None ]

names_after-cond : (b : Bool) (name : List ℕ) (names : List (List ℕ)) → names_after name (cond {A = Option (List (List ℕ))} b (Some names) None) ≡ cond {A = Option (List (List ℕ))} b (Some (name ∷ names)) None
names_after-cond true name names = refl
names_after-cond false name names = refl

-- the names before the last one, if the last one is a hash
pub before_hash-append : (front : List (List ℕ)) (name : List ℕ) → before_hash (front ++ name ∷ []) ≡ cond {A = Option (List (List ℕ))} (is_hash name) (Some front) None
before_hash-append [] name = refl
before_hash-append (n ∷ []) name = names_after-cond (is_hash name) n []
before_hash-append (n ∷ m ∷ front) name = ap (names_after n) (before_hash-append (m ∷ front) name) ∙ names_after-cond (is_hash name) n (m ∷ front)

both : (a b : Bool) → (a && b) ≡ true → (a ≡ true) × (b ≡ true)
both true b h = (refl, h)
both false b h = (h, absurd (cc (h)))

-- a name that was found meets all requirements
given : (b : Bool) (found name : Name) → cond {A = Option Name} b (Some found) None ≡ Some name → (b ≡ true) × (found ≡ name)
given true found name is = (refl, ap (λ o. unwrap_or o found) is)
given false found name is = absurd (cc (is))

some_digits : (s : List ℕ) (count : ℕ) → 0 < value_of Length (take count s) → 0 < count
some_digits s zero positive = absurd (omega (arith, positive))
some_digits s (suc count) positive = omega arith

-- a name isn't empty, and fits in the symbol together with its length
pub name_size : (s : List ℕ) (name : Name) → name_in s ≡ Some name → (0 < name.size) × (name.size ≤ length s) × (length name.bytes + 1 ≤ name.size) × (0 < length name.bytes)
name_size s name is =
    let count = prefix_len is_decimal_digit s in
    let size = value_of Length (take count s) in
    let whole = nat_le (count + size) (length s) in
    let some = nat_lt 0 size in
    let few = nat_le count 9 in
    let long = not (begins_with (codes "0") s) && few in
    let asked = given (long && some && whole) (record { bytes = take size (drop count s); size = count + size }) name is in
    let rest = both (long && some) whole asked.0 in
    let total : count + size ≡ name.size = ap (λ n. n.size) asked.1 in
    let positive : 0 < size = grind (arith, nat_tests, (both long some rest.0).1) in
    let within : count + size ≤ length s = grind (arith, nat_tests, rest.1) in
    let bytes : length name.bytes ≡ size = ap (λ n. length n.bytes) (sym asked.1) ∙ length-take-le size (drop count s) (omega (arith, within, length-drop count s)) in
    (omega (arith, total, positive), omega (arith, total, within), omega (arith, total, bytes, some_digits s count positive), omega (arith, bytes, positive))

-- no name begins with an E
pub not_ended : (s : List ℕ) (name : Name) → name_in s ≡ Some name → begins_with (codes "E") s ≡ false
not_ended [] name is = refl
not_ended (x ∷ s) name is = by (nat_eq 69 x) refl
  where
    by : (b : Bool) → nat_eq 69 x ≡ b → (b && true) ≡ false
    by true e = (let same : 69 ≡ x = grind (arith, nat_tests, e) in absurd (cc (subst (λ y. name_in (y ∷ s) ≡ Some name) (sym same) is)))
    by false e = refl

-- each name takes at least one byte
pub AreNames-low : (s : List ℕ) (from to : ℕ) (names : List (List ℕ)) → AreNames s from to names → from + length names ≤ to
AreNames-low s from to [] are = omega (arith, are)
AreNames-low s from to (name ∷ rest) are =
    omega (arith, (name_size (drop from s) (record { bytes = name; size = are.0 }) are.1).0, AreNames-low s (from + are.0) to rest are.2)

-- there are no names between a place and itself
pub AreNames-none : (s : List ℕ) (from : ℕ) (names : List (List ℕ)) → AreNames s from from names → names ≡ []
AreNames-none s from [] are = refl
AreNames-none s from (name ∷ rest) are = absurd (omega (arith, AreNames-low s from from (name ∷ rest) are))

-- there is at least one name between two different places
pub some_names : (s : List ℕ) (from to : ℕ) (names : List (List ℕ)) → AreNames s from to names → (from ≡ to → ⊥) → 0 < length names
some_names s from to [] are far = absurd (far are)
some_names s from to (name ∷ rest) are far = omega arith

-- the path of names, given whether the last name is a hash
pub path_read : (s : List ℕ) (front : List (List ℕ)) (last suffix : List ℕ) (all : Option Path) → all ≡ Some (record { names = front ++ last ∷ []; suffix = suffix })
    → path_in all ≡ path_before_hash suffix (cond {A = Option (List (List ℕ))} (is_hash last) (Some front) None)
path_read s front last suffix all whole = ap path_in whole ∙ ap (path_before_hash suffix) (before_hash-append front last)

abbrev pub before_suffix : List ℕ → Bool → List (List ℕ) → Option Path
before_suffix suffix b front = path_before_hash suffix (cond {A = Option (List (List ℕ))} b (Some front) None)

pub some_path : (suffix : List ℕ) (b : Bool) (front : List (List ℕ)) → b ≡ true → 0 < length front → before_suffix suffix b front ≡ Some (record { names = front; suffix = suffix })
some_path suffix b [] is some = absurd (omega (arith, some))
some_path suffix b (name ∷ rest) is some = ap (λ v. before_suffix suffix v (name ∷ rest)) is

-- if there is an E, there is at least one byte
pub ended_within : (s : List ℕ) (at : ℕ) → begins_with (codes "E") (drop at s) ≡ true → at < length s
ended_within s at is = by (drop at s) refl is
  where
    by : (rest : List ℕ) → drop at s ≡ rest → begins_with (codes "E") rest ≡ true → at < length s
    by [] same is = absurd (cc (is))
    by (x ∷ rest) same is = omega (arith, length-drop at s, ap length same)
