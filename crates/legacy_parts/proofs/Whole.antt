-- The text of a whole path: how it begins, where the last name is in it, and how long its pieces are.
use Rattle.legacy_parts.proofs.Basics.{◌≡◌, ◌⊎◌, inl, inr, ℕ, ◌+◌, ◌-◌, ◌<◌, ◌≤◌, ◌^◌, List, [], ◌∷◌, ◌++◌, length, take, drop, refl, sym, ap, subst, ◌∙◌, arith, append_assoc, length-append, Bool, false, cond, Some, codes, unwrap_or, length-drop, text_of, AreNames, IsPlaced, Path, begins_with, legacy_of, names_parts, suffix_parts, PathPlace, some_names_of, AreNames-low, AreNames-none, first_name, names_text-next, NameKind, Role, is_closure, kind_of_path, AreFitting, IsTextOf, first_of, place_of, last_of, root_role, shown}
use Rattle.std.proofs.Math.Seq.{drop-append_seam, take-append_seam}
use Rattle.sym_parts.specs.declared.kind.NameKind.TheVariants as kind
use Rattle.sym_parts.specs.declared.role.Role.TheVariants as role
use Rattle.legacy_parts.proofs.Sizes.{total}
use Rattle.legacy_parts.proofs.Texts.{front-length, front_of, names-split}

-- ## The first name

-- if the second of two texts doesn't begin with <, both together begin with < exactly if the first one does
begins-before : (one other : List ℕ) → begins_with (codes "<") other ≡ false → begins_with (codes "<") (one ++ other) ≡ begins_with (codes "<") one
begins-before [] other none = none
begins-before (x ∷ one) other none = refl

no-suffix : (suffix : List ℕ) → begins_with (codes "<") (text_of (suffix_parts suffix)) ≡ false
no-suffix [] = refl
no-suffix (byte ∷ rest) = refl

no-later : (rest : List (List ℕ)) (suffix : List ℕ) → begins_with (codes "<") (text_of (names_parts (codes "::") rest) ++ text_of (suffix_parts suffix)) ≡ false
no-later [] suffix = no-suffix suffix
no-later (name ∷ rest) suffix = ap (λ t. begins_with (codes "<") (t ++ text_of (suffix_parts suffix))) (names_text-next (codes "::") name rest)

-- the role of the first name may be read from the whole text
root-of : (names : List (List ℕ)) (suffix : List ℕ) → 0 < length names
    → root_role (text_of (names_parts [] names) ++ text_of (suffix_parts suffix)) ≡ root_role (shown (first_of names))
unfolding root_role
root-of [] suffix some = absurd (omega (arith, some))
root-of (name ∷ rest) suffix some =
    ap (λ b. cond {A = Role} b role.Impl role.Crate) (
    ap (λ t. begins_with (codes "<") (t ++ text_of (suffix_parts suffix))) (names_text-next [] name rest)
    ∙ ap (begins_with (codes "<")) (append_assoc (shown name) (text_of (names_parts (codes "::") rest)) (text_of (suffix_parts suffix)))
    ∙ begins-before (shown name) (text_of (names_parts (codes "::") rest) ++ text_of (suffix_parts suffix)) (no-later rest suffix))

-- ## The last name

-- the last name is a stretch of the whole text
last-in : (names : List (List ℕ)) (suffix : List ℕ) → 0 < length names
    → take (length (shown (last_of names))) (drop (place_of names) (text_of (names_parts [] names) ++ text_of (suffix_parts suffix))) ≡ shown (last_of names)
last-in [] suffix some = absurd (omega (arith, some))
last-in (name ∷ rest) suffix some =
    let front = front_of (name ∷ rest) in
    let last = shown (last_of (name ∷ rest)) in
    let behind = text_of (suffix_parts suffix) in
    ap (λ n. take (length last) (drop n (text_of (names_parts [] (name ∷ rest)) ++ behind))) (sym (front-length (name ∷ rest)))
    ∙ ap (λ t. take (length last) (drop (length front) (t ++ behind))) (names-split name rest)
    ∙ ap (λ t. take (length last) (drop (length front) t)) (append_assoc front last behind)
    ∙ ap (take (length last)) (drop-append_seam front (last ++ behind))
    ∙ take-append_seam last behind

-- ## Lengths

-- two colons precede the last name, unless nothing precedes it
pub after-colons : (names : List (List ℕ)) → (place_of names ≡ 0) ⊎ (2 ≤ place_of names)
after-colons [] = inl refl
after-colons (name ∷ []) = inl refl
after-colons (name ∷ next ∷ rest) = inr (omega arith)

-- a suffix is shown with a blank and two brackets
long-suffix : (suffix : List ℕ) → (length suffix ≡ 0) ⊎ (length (text_of (suffix_parts suffix)) ≡ 3 + length suffix)
long-suffix [] = inl refl
long-suffix (byte ∷ rest) = inr (omega (arith, length-append (byte ∷ rest) (codes ")")))

-- ## Symbols

-- there is only one way to read names from one place to another
same-names : (s : List ℕ) (from to : ℕ) (names others : List (List ℕ)) → AreNames s from to names → AreNames s from to others → names ≡ others
same-names s from to [] others are also = sym (AreNames-none s from others (subst (λ n. AreNames s from n others) (sym are) also))
same-names s from to (name ∷ names) others are also =
    let first = first_name s from to others (record { bytes = name; size = are.0 }) (omega (arith, AreNames-low s from to (name ∷ names) are)) also are.1 in
    ap (λ r. name ∷ r) (same-names s (from + are.0) to names first.0 are.2 first.2) ∙ sym first.1

-- the kind of a path, by a test of its last name
pub kind-is : (path : Path) (b : Bool) → b ≡ is_closure (shown (last_of path.names)) → cond {A = NameKind} b kind.Closure kind.Value ≡ kind_of_path path
unfolding kind_of_path
kind-is path b is = ap (λ v. cond {A = NameKind} v kind.Closure kind.Value) is

module _ (s : List ℕ) (place : PathPlace) (placed : IsPlaced s place) (text : List ℕ) (is : IsTextOf s text) (fits : length text < 2 ^ 32) where
  shows : text ≡ text_of (names_parts [] placed.0.names) ++ text_of (suffix_parts placed.0.suffix)
  shows = is placed.0 placed.1

  pub some : 0 < length placed.0.names
  some = some_names_of s placed.0 placed.1

  pub has-names : (names : List (List ℕ)) × AreNames s 3 place.hash names × (0 < length names)
  has-names = (placed.0.names, placed.2.0, some)

  long : length text ≡ length (text_of (names_parts [] placed.0.names)) + length (text_of (suffix_parts placed.0.suffix))
  long = ap length shows ∙ length-append (text_of (names_parts [] placed.0.names)) (text_of (suffix_parts placed.0.suffix))

  pub names-fit : (names : List (List ℕ)) → AreNames s 3 place.hash names → AreFitting names
  names-fit names are = subst AreFitting (same-names s 3 place.hash placed.0.names names placed.2.0 are) (omega (arith, long, fits))

  -- the text of the names ends within the whole text
  pub names-within : place_of placed.0.names + length (shown (last_of placed.0.names)) ≤ length text
  names-within = omega (arith, total placed.0.names some, long)

  pub suffix-length : length s - place.end ≡ length placed.0.suffix
  suffix-length = omega (arith, length-drop place.end s, ap length placed.2.1)

  -- the suffix, with its brackets, is within the text after the names
  pub suffix-within : (length s - place.end ≡ 0) ⊎ ((place_of placed.0.names + length (shown (last_of placed.0.names))) + 3 + (length s - place.end) ≤ length text)
  suffix-within = by (long-suffix placed.0.suffix)
    where
      by : (length placed.0.suffix ≡ 0) ⊎ (length (text_of (suffix_parts placed.0.suffix)) ≡ 3 + length placed.0.suffix)
          → (length s - place.end ≡ 0) ⊎ ((place_of placed.0.names + length (shown (last_of placed.0.names))) + 3 + (length s - place.end) ≤ length text)
      by (inl none) = inl (omega (arith, none, suffix-length))
      by (inr brackets) = inr (omega (arith, brackets, suffix-length, total placed.0.names some, long))

  pub root-is : root_role text ≡ root_role (shown (first_of placed.0.names))
  root-is = ap root_role shows ∙ root-of placed.0.names placed.0.suffix some

  pub last-is : (from count : ℕ) → from ≡ place_of placed.0.names → count ≡ length (shown (last_of placed.0.names)) → take count (drop from text) ≡ shown (last_of placed.0.names)
  last-is from count begins ends =
      ap (λ n. take n (drop from text)) ends ∙ ap (λ n. take (length (shown (last_of placed.0.names))) (drop n text)) begins
      ∙ ap (λ t. take (length (shown (last_of placed.0.names))) (drop (place_of placed.0.names) t)) shows ∙ last-in placed.0.names placed.0.suffix some

  pub same-path : (other : Path) → legacy_of s ≡ Some other → placed.0 ≡ other
  same-path other found = ap (λ o. unwrap_or o placed.0) (sym placed.1 ∙ found)
