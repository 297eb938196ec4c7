-- Where the path of each legacy name is in its symbol.
use Rattle.legacy_parts.proofs.Basics.{◌≡◌, ℕ, zero, suc, ◌+◌, ◌<◌, List, [], ◌∷◌, ◌++◌, length, drop, Bool, true, false, cond, refl, sym, ap, subst, ◌∙◌, arith, Option, Some, None, codes, unwrap_or, drop-drop, AreNames, Name, Path, StandsAt, before_hash, begins_with, is_hash, legacy_of, name_in, names_in, path_before_hash, path_in, with_name, PathPlace, path_is, after, at_end, ended_within, name_size}

-- ## All names

-- where these names end: an E follows them, and then this suffix
abbrev End : (s : List ℕ) (at : ℕ) → Path → Type 0
End s at all = (to : ℕ) × AreNames s at to all.names × (to < length s) × (drop (to + 1) s ≡ all.suffix)

abbrev same : (one other : Path) → Some one ≡ Some other → one ≡ other
same one other is = ap (λ found. unwrap_or found one) is

no-names : (s : List ℕ) (at : ℕ) (all : Path) → begins_with (codes "E") (drop at s) ≡ true → at_end (drop at s) ≡ Some all → End s at all
no-names s at all e is =
    let one = same (record { names = []; suffix = drop 1 (drop at s) }) all is in
    subst (End s at) one (at, refl, ended_within s at e, sym (drop-drop 1 at s))

first-of : (s : List ℕ) (at : ℕ) (name : Name) (rest : Option Path) (all : Path) → name_in (drop at s) ≡ Some name
    → ((later : Path) → rest ≡ Some later → End s (at + name.size) later) → with_name name.bytes rest ≡ Some all → End s at all
first-of s at name None all named later is = absurd (cc (is))
first-of s at name (Some found) all named later is =
    let end = later found refl in
    subst (End s at) (same (record { names = name.bytes ∷ found.names; suffix = found.suffix }) all is) (end.0, (name.size, named, end.1), end.2, end.3)

all-names : (depth : ℕ) (s : List ℕ) (at : ℕ) (all : Path) → names_in depth (drop at s) ≡ Some all → End s at all
all-names zero s at all is = absurd (cc (is))
all-names (suc depth) s at all is =
    by (begins_with (codes "E") (drop at s)) refl (name_in (drop at s)) refl is (λ next later. all-names depth s next later)
  where
    by : (b : Bool) → begins_with (codes "E") (drop at s) ≡ b → (found : Option Name) → name_in (drop at s) ≡ found
        → cond {A = Option Path} b (at_end (drop at s)) (after depth (drop at s) found) ≡ Some all
        → ((next : ℕ) (later : Path) → names_in depth (drop next s) ≡ Some later → End s next later) → End s at all
    by true e found named is recursion = no-names s at all e is
    by false e None named is recursion = absurd (cc (is))
    by false e (Some name) named is recursion =
        first-of s at name (names_in depth (drop name.size (drop at s))) all named
        (λ later found. recursion (at + name.size) later (ap (names_in depth) (sym (drop-drop name.size at s ∙ ap (λ n. drop n s) (omega arith))) ∙ found))
        is

-- ## The names before the hash

-- names whose last one is a hash
abbrev Before : (names front : List (List ℕ)) → Type 0
Before names front = (last : List ℕ) × (names ≡ front ++ last ∷ [])

hash-last : (b : Bool) (name : List ℕ) (front : List (List ℕ)) → cond {A = Option (List (List ℕ))} b (Some []) None ≡ Some front → Before (name ∷ []) front
hash-last true name front is = (name, ap (λ found. unwrap_or found [] ++ name ∷ []) is)
hash-last false name front is = absurd (cc (is))

name-before : (name : List ℕ) (rest : List (List ℕ)) (found : Option (List (List ℕ))) (front : List (List ℕ))
    → ((others : List (List ℕ)) → found ≡ Some others → Before rest others)
    → (elim found as (λ x. Option (List (List ℕ))) [ Some names ↦ Some (name ∷ names) | None ↦ None ]) ≡ Some front → Before (name ∷ rest) front
name-before name rest None front before is = absurd (cc (is))
name-before name rest (Some others) front before is =
    let last = before others refl in
    (last.0, ap (λ names. name ∷ names) last.1 ∙ ap (λ found. unwrap_or found [] ++ last.0 ∷ []) is)

names-before : (names front : List (List ℕ)) → before_hash names ≡ Some front → Before names front
names-before [] front is = absurd (cc (is))
names-before (name ∷ []) front is = hash-last (is_hash name) name front is
names-before (name ∷ next ∷ rest) front is = name-before name (next ∷ rest) (before_hash (next ∷ rest)) front (λ others found. names-before (next ∷ rest) others found) is

path-before : (suffix : List ℕ) (found : Option (List (List ℕ))) (path : Path) → path_before_hash suffix found ≡ Some path → (found ≡ Some path.names) × (suffix ≡ path.suffix)
path-before suffix (Some (name ∷ rest)) path is =
    let one = same (record { names = name ∷ rest; suffix = suffix }) path is in
    (ap (λ p. Some p.names) one, ap (λ p. p.suffix) one)
path-before suffix (Some []) path is = absurd (cc (is))
path-before suffix None path is = absurd (cc (is))

-- the names before the last one end before all names do
names-apart : (s : List ℕ) (from to : ℕ) (front : List (List ℕ)) (last : List ℕ) → AreNames s from to (front ++ last ∷ []) → (hash : ℕ) × AreNames s from hash front × (hash < to)
names-apart s from to [] last are =
    (from, refl, omega (arith, (name_size (drop from s) (record { bytes = last; size = are.0 }) are.1).0, are.2))
names-apart s from to (name ∷ front) last are =
    let later = names-apart s (from + are.0) to front last are.2 in
    (later.0, (are.0, are.1, later.1), later.2)

-- ## Paths

stands-in : (s : List ℕ) (found : Option Path) (path : Path) → ((all : Path) → found ≡ Some all → End s 3 all) → path_in found ≡ Some path → (place : PathPlace) × StandsAt s path place
stands-in s None path ends is = absurd (cc (is))
stands-in s (Some all) path ends is =
    let end = ends all refl in
    let parts = path-before all.suffix (before_hash all.names) path is in
    let last = names-before all.names path.names parts.0 in
    let apart = names-apart s 3 end.0 path.names last.0 (subst (AreNames s 3 end.0) last.1 end.1) in
    (record { hash = apart.0; end = end.0 + 1 }, (apart.1, end.3 ∙ parts.1, omega (arith, apart.2), omega (arith, end.2)))

-- the path of a legacy name is in its symbol
pub stands : (s : List ℕ) (path : Path) → legacy_of s ≡ Some path → (place : PathPlace) × StandsAt s path place
stands s path is = stands-in s (names_in (length s) (drop 3 s)) path (λ all found. all-names (length s) s 3 all found) (path_is s path is)
