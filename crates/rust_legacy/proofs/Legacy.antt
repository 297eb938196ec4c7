-- Which symbols are legacy names, by the tests of the code.
use Rattle.rust_legacy.proofs.Basics.{◌≡◌, ℕ, ◌<◌, List, [], ◌∷◌, length, drop, Bool, true, false, cond, ◌&&◌, refl, ap, sym, ◌∙◌, arith, Option, Some, None, codes, unwrap_or, list_all, Path, begins_with, is_legacy_byte, is_suffix, legacy_of, names_in, path_before_hash, path_in, with_suffix}

abbrev pub asked : (begins are : Bool) → Option Path → Option Path
asked begins are path = cond {A = Option Path} (begins && are) (with_suffix path) None

pub legacy_is : (s : List ℕ) → legacy_of s ≡ asked (begins_with (codes "_ZN") s) (list_all is_legacy_byte s) (path_in (names_in (length s) (drop 3 s)))
unfolding legacy_of
legacy_is s = refl

none_asked : (begins are : Bool) → asked begins are None ≡ None
none_asked true true = refl
none_asked true false = refl
none_asked false are = refl

bytes_asked : (begins : Bool) (path : Option Path) → asked begins false path ≡ None
bytes_asked true path = refl
bytes_asked false path = refl

pub not_begun : (s : List ℕ) → begins_with (codes "_ZN") s ≡ false → legacy_of s ≡ None
not_begun s no_front = legacy_is s ∙ ap (λ b. asked b (list_all is_legacy_byte s) (path_in (names_in (length s) (drop 3 s)))) no_front

pub not_named : (s : List ℕ) → path_in (names_in (length s) (drop 3 s)) ≡ None → legacy_of s ≡ None
not_named s none =
    legacy_is s ∙ ap (asked (begins_with (codes "_ZN") s) (list_all is_legacy_byte s)) none
    ∙ none_asked (begins_with (codes "_ZN") s) (list_all is_legacy_byte s)

pub not_bytes : (s : List ℕ) → list_all is_legacy_byte s ≡ false → legacy_of s ≡ None
not_bytes s are =
    legacy_is s ∙ ap (λ b. asked (begins_with (codes "_ZN") s) b (path_in (names_in (length s) (drop 3 s)))) are
    ∙ bytes_asked (begins_with (codes "_ZN") s) (path_in (names_in (length s) (drop 3 s)))

pub not_suffix : (s : List ℕ) (path : Path) → path_in (names_in (length s) (drop 3 s)) ≡ Some path → is_suffix path.suffix ≡ false → legacy_of s ≡ None
not_suffix s path is suffix =
    legacy_is s ∙ ap (asked (begins_with (codes "_ZN") s) (list_all is_legacy_byte s)) is
    ∙ ap (λ b. cond {A = Option Path} (begins_with (codes "_ZN") s && list_all is_legacy_byte s) (cond {A = Option Path} b (Some path) None) None) suffix
    ∙ none_asked (begins_with (codes "_ZN") s) (list_all is_legacy_byte s)

pub is_legacy : (s : List ℕ) (path : Path) → begins_with (codes "_ZN") s ≡ true → list_all is_legacy_byte s ≡ true
    → path_in (names_in (length s) (drop 3 s)) ≡ Some path → is_suffix path.suffix ≡ true → legacy_of s ≡ Some path
is_legacy s path begins are is suffix =
    legacy_is s ∙ ap (asked (begins_with (codes "_ZN") s) (list_all is_legacy_byte s)) is
    ∙ ap (λ b. cond {A = Option Path} (begins_with (codes "_ZN") s && list_all is_legacy_byte s) (cond {A = Option Path} b (Some path) None) None) suffix
    ∙ ap (λ b. cond {A = Option Path} (b && list_all is_legacy_byte s) (Some path) None) begins
    ∙ ap (λ b. cond {A = Option Path} b (Some path) None) are

some_before : (suffix : List ℕ) (names : Option (List (List ℕ))) (path : Path) → path_before_hash suffix names ≡ Some path → 0 < length path.names
some_before suffix (Some (name ∷ rest)) path is = omega (arith, ap (λ o. length (unwrap_or o path).names) is)
some_before suffix (Some []) path is = absurd (cc (is))
some_before suffix None path is = absurd (cc (is))

some_in : (all : Option Path) (path : Path) → path_in all ≡ Some path → 0 < length path.names
some_in (Some all) path is = some_before all.suffix _ path is
some_in None path is = absurd (cc (is))

suffix_cond : (b : Bool) (path found : Path) → cond {A = Option Path} b (Some path) None ≡ Some found → path ≡ found
suffix_cond true path found is = ap (λ o. unwrap_or o path) is
suffix_cond false path found is = absurd (cc (is))

pub asked_path : (begins are : Bool) (all : Option Path) (path : Path) → asked begins are all ≡ Some path → all ≡ Some path
asked_path true true (Some all) path is = ap Some (suffix_cond (is_suffix all.suffix) all path is)
asked_path true true None path is = absurd (cc (is))
asked_path true false all path is = absurd (cc (is))
asked_path false are all path is = absurd (cc (is))

-- the path of a legacy name comes from its names
pub path_is : (s : List ℕ) (path : Path) → legacy_of s ≡ Some path → path_in (names_in (length s) (drop 3 s)) ≡ Some path
path_is s path is = asked_path (begins_with (codes "_ZN") s) (list_all is_legacy_byte s) _ path (sym (legacy_is s) ∙ is)

-- a path has at least one name
pub some_names_of : (s : List ℕ) (path : Path) → legacy_of s ≡ Some path → 0 < length path.names
some_names_of s path is = some_in (names_in (length s) (drop 3 s)) path (path_is s path is)
