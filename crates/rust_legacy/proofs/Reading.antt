-- The walk over names by their lengths.
use Rattle.rust_legacy.proofs.Basics.{◌≡◌, ◌≢◌, ℕ, zero, suc, ◌+◌, ◌-◌, ◌<◌, ◌≤◌, List, [], ◌∷◌, ◌++◌, length, drop, Bool, cond, ◌&&◌, refl, ap, sym, ◌∙◌, arith, true, false, subst, get_or, Option, Some, None, MatchOption, codes, nat_le, nat_eq, ⊤, unwrap_or, ◌==◌, list_all, prefix_len, nat_tests, append-nil, length-drop, drop-drop, is_digit_of, Hex, AreNames, AreRead, IsPlaced, Name, Path, before_hash, begins_with, is_end, is_hash, is_legacy_byte, is_suffix, legacy_of, name_in, names_in, path_before_hash, path_in, with_name}
use Rattle.rust_legacy.specs.declared.path.PathPlace.{PathPlace}
use Rattle.rust_legacy.proofs.Legacy.{is_legacy, not_named, not_suffix}
use Rattle.rust_legacy.proofs.Names.{AreNames-joined, AreNames-none, after, before_suffix, ended, ended_within, name_size, names_after, no_name, not_ended, one_name, path_read, some_names, some_path, with_names, with_names-None, with_names-Some, with_names-joined}

-- The names up to a place are read, and the last of them begins at `hash`. The symbol's names are these and the names from the
-- place on.
pub record Reads (s : List ℕ) (hash at : ℕ) : Type 0 where
  pub before : List (List ℕ)
  pub last : List (List ℕ)
  pub depth : ℕ
  pub deep : length s - at < depth
  pub are : AreNames s 3 hash before
  pub one : AreNames s hash at last
  pub few : length last ≤ 1
  pub far : hash ≡ at → hash ≡ 3
  pub order : hash ≤ at
  pub whole : names_in (length s) (drop 3 s) ≡ with_names before (with_names last (names_in depth (drop at s)))

pub begun : (s : List ℕ) → 3 < length s → Reads s 3 3
begun s some =
    record {
      before = [];
      last = [];
      depth = length s;
      deep = omega (arith, some);
      are = refl;
      one = refl;
      few = omega arith;
      far = λ e. e;
      order = omega arith;
      whole = refl;
    }

-- one more name is read
pub next : (s : List ℕ) (hash at to size : ℕ) (bytes : List ℕ) → Reads s hash at → name_in (drop at s) ≡ Some (record { bytes = bytes; size = size })
    → to ≡ at + size → at < to → to ≤ length s → Reads s at to
next s hash at to size bytes r is end more within =
    let same : name_in (drop at s) ≡ Some (record { bytes = bytes; size = to - at }) = is ∙ ap (λ n. Some (record { bytes = bytes; size = n })) (omega (arith, end)) in
    let step = one_name r.depth s at to bytes r.deep (omega (arith, more)) (not_ended (drop at s) _ is) same in
    record {
      before = r.before ++ r.last;
      last = bytes ∷ [];
      depth = step.0;
      deep = omega (arith, r.deep, step.1, more, within);
      are = AreNames-joined s 3 hash at r.before r.last r.are r.one;
      one = (to - at, same, omega (arith, more));
      few = omega arith;
      far = λ e. absurd (omega (arith, e, more));
      order = omega (arith, more);
      whole = r.whole ∙ ap (λ p. with_names r.before (with_names r.last p)) step.2 ∙ sym (with_names-joined r.before r.last (with_name bytes (names_in step.0 (drop to s))));
    }

-- where neither a name nor an E follows, the symbol is no legacy name
pub none_there : (s : List ℕ) (hash at : ℕ) → Reads s hash at → begins_with (codes "E") (drop at s) ≡ false → name_in (drop at s) ≡ None → legacy_of s ≡ None
none_there s hash at r more none = not_named s (
    ap path_in (r.whole ∙ ap (λ p. with_names r.before (with_names r.last p)) (no_name r.depth (drop at s) more none)
    ∙ ap (with_names r.before) (with_names-None r.last) ∙ with_names-None r.before))

-- at an E, the names that were read are all names of the symbol
all_names : (s : List ℕ) (hash at : ℕ) (r : Reads s hash at) → begins_with (codes "E") (drop at s) ≡ true
    → names_in (length s) (drop 3 s) ≡ Some (record { names = r.before ++ r.last; suffix = drop (at + 1) s })
all_names s hash at r is =
    let suffix = drop (at + 1) s in
    r.whole ∙ ap (λ p. with_names r.before (with_names r.last p)) (ended r.depth s at r.deep is)
    ∙ ap (with_names r.before) (with_names-Some r.last [] suffix)
    ∙ with_names-Some r.before (r.last ++ []) suffix
    ∙ ap (λ n. Some (record { names = r.before ++ n; suffix = suffix })) (append-nil r.last)

-- if the bytes after the E are no suffix, the symbol is no legacy name
suffix_not : (s : List ℕ) (names : List (List ℕ)) (suffix : List ℕ) → names_in (length s) (drop 3 s) ≡ Some (record { names = names; suffix = suffix })
    → is_suffix suffix ≡ false → legacy_of s ≡ None
suffix_not s names suffix is none = by (before_hash names) refl
  where
    by : (found : Option (List (List ℕ))) → before_hash names ≡ found → legacy_of s ≡ None
    by None e = not_named s (ap path_in is ∙ ap (path_before_hash suffix) e)
    by (Some []) e = not_named s (ap path_in is ∙ ap (path_before_hash suffix) e)
    by (Some (name ∷ rest)) e = not_suffix s (record { names = name ∷ rest; suffix = suffix }) (ap path_in is ∙ ap (path_before_hash suffix) e) none

-- if there is at most one name, the symbol is no legacy name
one_not : (s : List ℕ) (names : List (List ℕ)) (suffix : List ℕ) → names_in (length s) (drop 3 s) ≡ Some (record { names = names; suffix = suffix })
    → length names ≤ 1 → legacy_of s ≡ None
one_not s [] suffix is few = not_named s (ap path_in is)
one_not s (name ∷ []) suffix is few = not_named s (ap path_in is ∙ by (is_hash name))
  where
    by : (b : Bool) → path_before_hash suffix (cond {A = Option (List (List ℕ))} b (Some []) None) ≡ None
    by true = refl
    by false = refl
one_not s (name ∷ next ∷ rest) suffix is few = absurd (omega (arith, few))

few_names : (s : List ℕ) (hash at : ℕ) → Reads s hash at → begins_with (codes "E") (drop at s) ≡ true → hash ≡ 3 → legacy_of s ≡ None
few_names s hash at r is first =
    let none : r.before ≡ [] = AreNames-none s 3 r.before (subst (λ n. AreNames s 3 n r.before) first r.are) in
    one_not s (r.before ++ r.last) (drop (at + 1) s) (all_names s hash at r is) (omega (arith, ap (λ n. length (n ++ r.last)) none, r.few))

-- a nonempty list of names that ends in no hash
abbrev NoHash : Option Path → Type 0
NoHash None = ⊤
NoHash (Some path) = (before_hash path.names ≡ None) × (0 < length path.names)

no_hash_path : (found : Option Path) → NoHash found → path_in found ≡ None
no_hash_path None none = refl
no_hash_path (Some path) none = ap (path_before_hash path.suffix) none.0

no_hash_after : (name : List ℕ) (names : List (List ℕ)) → before_hash names ≡ None → 0 < length names → before_hash (name ∷ names) ≡ None
no_hash_after name [] none some = absurd (omega (arith, some))
no_hash_after name (next ∷ rest) none some = ap (names_after name) none

no_hash_with : (name : List ℕ) (found : Option Path) → NoHash found → NoHash (with_name name found)
no_hash_with name None none = tt
no_hash_with name (Some path) none = (no_hash_after name path.names none.0 none.1, omega arith)

no_hash_before : (front : List (List ℕ)) (found : Option Path) → NoHash found → NoHash (with_names front found)
no_hash_before [] found none = none
no_hash_before (name ∷ front) found none = no_hash_with name (with_names front found) (no_hash_before front found none)

short_name : (name : List ℕ) → length name < 17 → is_hash name ≡ false
short_name name short = by (begins_with (codes "h") name) (length name == 17) (prefix_len (is_digit_of Hex) (drop 1 name) == 16) (grind (arith, nat_tests, short))
  where
    by : (a b c : Bool) → b ≡ false → (a && b && c) ≡ false
    by true b c e = ap (λ x. x && c) e
    by false b c e = refl

-- a last name that is too short is no hash
last_short : (name : List ℕ) → length name < 17 → before_hash (name ∷ []) ≡ None
last_short name short = ap (λ b. cond {A = Option (List (List ℕ))} b (Some []) None) (short_name name short)

-- names in at most 17 bytes end in no hash
no_hash_in : (depth : ℕ) (s : List ℕ) → length s ≤ 17 → begins_with (codes "E") s ≡ false → NoHash (names_in depth s)
no_hash_in zero s short more = tt
no_hash_in (suc depth) s short more =
    subst NoHash (ap (λ b. cond {A = Option Path} b (Some (record { names = []; suffix = drop 1 s })) (after depth s (name_in s))) (sym more))
    (by (name_in s) refl (λ t few e. no_hash_in depth t few e))
  where
    rest : (name : Name) → name_in s ≡ Some name → ((t : List ℕ) → length t ≤ 17 → begins_with (codes "E") t ≡ false → NoHash (names_in depth t))
        → (b : Bool) → begins_with (codes "E") (drop name.size s) ≡ b → NoHash (with_name name.bytes (names_in depth (drop name.size s)))
    rest name is later false e = no_hash_with name.bytes (names_in depth (drop name.size s)) (later (drop name.size s) (omega (arith, short, length-drop name.size s)) e)
    rest name is later true e = at_last depth
      where
        at_last : (d : ℕ) → NoHash (with_name name.bytes (names_in d (drop name.size s)))
        at_last zero = tt
        at_last (suc d) =
            subst (λ p. NoHash (with_name name.bytes p)) (ap (λ b. cond {A = Option Path} b (Some (record { names = []; suffix = drop 1 (drop name.size s) })) (after d (drop name.size s) (name_in (drop name.size s)))) (sym e))
            (last_short name.bytes (omega (arith, short, name_size s name is)), omega arith)

    by : (found : Option Name) → name_in s ≡ found → ((t : List ℕ) → length t ≤ 17 → begins_with (codes "E") t ≡ false → NoHash (names_in depth t))
        → NoHash (elim found [ Some name ↦ with_name name.bytes (names_in depth (drop name.size s)) | None ↦ None ])
    by None e later = tt
    by (Some name) e later = rest name e later (begins_with (codes "E") (drop name.size s)) refl

-- if no hash has room from this place on, the symbol is no legacy name
pub no_room : (s : List ℕ) (hash at : ℕ) → Reads s hash at → begins_with (codes "E") (drop at s) ≡ false → length s ≤ at + 17 → legacy_of s ≡ None
no_room s hash at r more short =
    let none = no_hash_in r.depth (drop at s) (omega (arith, short, length-drop at s)) more in
    not_named s (ap path_in r.whole
    ∙ no_hash_path (with_names r.before (with_names r.last (names_in r.depth (drop at s)))) (no_hash_before r.before _ (no_hash_before r.last _ none)))

-- the symbol is no legacy name, if its names don't end at this place, or end there as a single name
pub not_read : (s : List ℕ) (hash at : ℕ) → Reads s hash at → (begins_with (codes "E") (drop at s) ≡ false → legacy_of s ≡ None)
    → (is_end (drop at s) ≡ true → hash ≡ 3) → legacy_of s ≡ None
not_read s hash at r none few = by (begins_with (codes "E") (drop at s)) (is_suffix (drop 1 (drop at s))) refl refl
  where
    by : (end suffix : Bool) → begins_with (codes "E") (drop at s) ≡ end → is_suffix (drop 1 (drop at s)) ≡ suffix → legacy_of s ≡ None
    by false suffix e f = none e
    by true false e f = suffix_not s (r.before ++ r.last) (drop (at + 1) s) (all_names s hash at r e) (ap is_suffix (sym (drop-drop 1 at s)) ∙ f)
    by true true e f = few_names s hash at r e (few (ap (λ b. b && is_suffix (drop 1 (drop at s))) e ∙ f))

-- likewise if the last name may have fewer bytes than its length says
pub not_read_on : (s : List ℕ) (hash at : ℕ) → (at ≤ length s → Reads s hash at) → (length s < at → legacy_of s ≡ None) → length s ≤ at + 17
    → (is_end (drop at s) ≡ true → hash ≡ 3) → legacy_of s ≡ None
not_read_on s hash at reads past short few = by (nat_le at (length s)) refl
  where
    by : (b : Bool) → nat_le at (length s) ≡ b → legacy_of s ≡ None
    by true e = (
        let r : Reads s hash at = reads (grind (arith, nat_tests, e)) in
        not_read s hash at r (λ more. no_room s hash at r more short) few)
    by false e = past (grind (arith, nat_tests, e))

pub both : (a b : Bool) → (a && b) ≡ true → (a ≡ true) × (b ≡ true)
both true b h = (refl, h)
both false b h = absurd (cc (h))

-- the names are read, as far as their lengths say
pub are_read : (s : List ℕ) (hash at : ℕ) → Reads s hash at → is_end (drop at s) ≡ true → hash ≢ 3 → AreRead s (record { hash = hash; end = at + 1 })
are_read s hash at r is far = by r.last refl
  where
    parts : (begins_with (codes "E") (drop at s) ≡ true) × (is_suffix (drop 1 (drop at s)) ≡ true)
    parts = both (begins_with (codes "E") (drop at s)) (is_suffix (drop 1 (drop at s))) is

    by : (last : List (List ℕ)) → r.last ≡ last → AreRead s (record { hash = hash; end = at + 1 })
    by [] e = absurd (far (r.far (subst (λ l. AreNames s hash at l) e r.one)))
    by (name ∷ next ∷ rest) e = absurd (omega (arith, r.few, ap length e))
    by (name ∷ []) e = (
        let one : AreNames s hash at (name ∷ []) = subst (λ l. AreNames s hash at l) e r.one in (
          r.before,
          name,
          all_names s hash at r parts.0 ∙ ap (λ l. Some (record { names = r.before ++ l; suffix = drop (at + 1) s })) e,
          r.are,
          some_names s 3 hash r.before r.are (λ same. far (sym same)),
          one.1 ∙ ap (λ n. Some (record { bytes = name; size = n })) (omega (arith, one.2)),
          ap is_suffix (sym (drop-drop 1 at s)) ∙ parts.1,
          omega (arith, r.order),
          omega (arith, ended_within s at parts.0),
        ))

-- a symbol of at most 20 bytes has no room for a name and a hash
pub short_symbol : (s : List ℕ) → length s ≤ 20 → legacy_of s ≡ None
short_symbol s short = by (begins_with (codes "E") (drop 3 s)) refl
  where
    by : (b : Bool) → begins_with (codes "E") (drop 3 s) ≡ b → legacy_of s ≡ None
    by false e = not_named s (no_hash_path (names_in (length s) (drop 3 s)) (no_hash_in (length s) (drop 3 s) (omega (arith, short, length-drop 3 s)) e))
    by true e = few_names s 3 3 (begun s (ended_within s 3 e)) e refl

-- a symbol whose third byte isn't N doesn't begin with _ZN
pub not_nested : (s : List ℕ) → 2 < length s → get_or s 2 0 ≢ 78 → begins_with (codes "_ZN") s ≡ false
not_nested [] long other = absurd (omega (arith, long))
not_nested (a ∷ []) long other = absurd (omega (arith, long))
not_nested (a ∷ b ∷ []) long other = absurd (omega (arith, long))
not_nested (a ∷ b ∷ c ∷ rest) long other = by (nat_eq 95 a) (nat_eq 90 b) (nat_eq 78 c) (grind (arith, nat_tests, other))
  where
    by : (x y z : Bool) → z ≡ false → (x && (y && (z && true))) ≡ false
    by true true z e = ap (λ v. v && true) e
    by true false z e = refl
    by false y z e = refl

-- the result of a call, with weaker facts
pub match_on : {T : Type 0} (o : Option T) (P P' : Type 0) (Q Q' : T → Type 0) → MatchOption o P Q → (P → P') → ((x : T) → Q x → Q' x) → MatchOption o P' Q'
match_on None P P' Q Q' h f g = f h
match_on (Some x) P P' Q Q' h f g = g x h

-- the last name is the name that is read at its place
last_is : (s : List ℕ) (place : PathPlace) (r : AreRead s place) (bytes : List ℕ) (size : ℕ) → name_in (drop place.hash s) ≡ Some (record { bytes = bytes; size = size }) → r.1 ≡ bytes
last_is s place r bytes size is = ap (λ (o : Option Name). (unwrap_or o (record { bytes = bytes; size = size })).bytes) (sym r.5 ∙ is)

-- if the last name is no hash, the symbol is no legacy name
pub no_hash : (s : List ℕ) (place : PathPlace) → AreRead s place → (bytes : List ℕ) (size : ℕ) → name_in (drop place.hash s) ≡ Some (record { bytes = bytes; size = size })
    → is_hash bytes ≡ false → legacy_of s ≡ None
no_hash s place r bytes size is other =
    let suffix = drop place.end s in
    not_named s (path_read s r.0 r.1 suffix _ r.2 ∙ ap (λ b. before_suffix suffix b r.0) (ap is_hash (last_is s place r bytes size is) ∙ other))

-- if the last name is a hash and each byte may be in a legacy name, the path is at the place
pub placed : (s : List ℕ) (place : PathPlace) → AreRead s place → (bytes : List ℕ) (size : ℕ) → name_in (drop place.hash s) ≡ Some (record { bytes = bytes; size = size })
    → is_hash bytes ≡ true → begins_with (codes "_ZN") s ≡ true → list_all is_legacy_byte s ≡ true → IsPlaced s place
placed s place r bytes size is hash begins are =
    let suffix = drop place.end s in
    let path : Path = record { names = r.0; suffix = suffix } in
    let same : path_in (names_in (length s) (drop 3 s)) ≡ Some path = path_read s r.0 r.1 suffix _ r.2 ∙ some_path suffix (is_hash r.1) r.0 (ap is_hash (last_is s place r bytes size is) ∙ hash) r.4 in
    (path, is_legacy s path begins are same r.6, (r.3, refl, r.7, r.8))
