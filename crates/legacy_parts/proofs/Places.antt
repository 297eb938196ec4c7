-- Where the names of a path are in a symbol.
use Rattle.legacy_parts.proofs.Basics.{◌≡◌, ℕ, ◌+◌, ◌-◌, ◌<◌, ◌≤◌, List, [], ◌∷◌, ◌++◌, length, drop, refl, sym, ap, subst, ◌∙◌, arith, Some, None, unwrap_or, length-drop, AreNames, Name, name_in, AreNames-low, name_size, IsPlaced, Path, legacy_of, PathPlace, Item, Spelled, bytes, end_at, last_at, size_at, spelled, spelling_by, spelling_of_path}
use Rattle.sym_parts.specs.declared.role.Role.TheVariants as role
use Rattle.sym_parts.specs.declared.spelling.Span.{Span}

-- `size_at` is the size of the name at a place
pub size-is : (s : List ℕ) (at : ℕ) (name : Name) → name_in (drop at s) ≡ Some name → size_at s at ≡ name.size
unfolding size_at
size-is s at name is = ap (λ found. elim found [ Some one ↦ one.size | None ↦ 0 ]) is

-- names end where their sizes say
pub ends : (s : List ℕ) (from to : ℕ) (names : List (List ℕ)) → AreNames s from to names → end_at s from names ≡ to
unfolding end_at
ends s from to [] are = are
ends s from to (name ∷ rest) are =
    ap (λ size. end_at s (from + size) rest) (size-is s from (record { bytes = name; size = are.0 }) are.1) ∙ ends s (from + are.0) to rest are.2

-- where the last name begins: at `earlier`, if no names are left
unfoldable pub last_after : (s : List ℕ) (earlier at : ℕ) → List (List ℕ) → ℕ
last_after s earlier at [] = earlier
last_after s earlier at (name ∷ rest) = last_at s at (name ∷ rest)

pub last-begins : (s : List ℕ) (at : ℕ) (names : List (List ℕ)) → last_after s at at names ≡ last_at s at names
unfolding last_at last_after
last-begins s at [] = refl
last-begins s at (name ∷ rest) = refl

pub last-ends : (s : List ℕ) (earlier at : ℕ) (names : List (List ℕ)) → names ≡ [] → last_after s earlier at names ≡ earlier
unfolding last_after
last-ends s earlier at names none = ap (last_after s earlier at) none

last-next : (s : List ℕ) (at : ℕ) (name : List ℕ) (rest : List (List ℕ)) → last_at s at (name ∷ rest) ≡ last_after s at (at + size_at s at) rest
unfolding last_at last_after
last-next s at name [] = refl
last-next s at name (next ∷ rest) = refl

-- one name further: it takes at least one byte, and the last name stays the same
pub one-on : (s : List ℕ) (earlier at to : ℕ) (names : List (List ℕ)) → at < to → AreNames s at to names
    → (rest : List (List ℕ)) × AreNames s (at + size_at s at) to rest × (last_after s at (at + size_at s at) rest ≡ last_after s earlier at names)
    × (0 < size_at s at) × (at + size_at s at ≤ to)
unfolding last_after
one-on s earlier at to [] some are = absurd (omega (arith, some, are))
one-on s earlier at to (name ∷ rest) some are =
    let found : Name = record { bytes = name; size = are.0 } in
    let size = size-is s at found are.1 in
    let taken = name_size (drop at s) found are.1 in
    (rest, subst (λ n. AreNames s (at + n) to rest) (sym size) are.2, sym (last-next s at name rest), omega (arith, size, taken.0), omega (arith, size, AreNames-low s (at + are.0) to rest are.2))

-- ## The parts

-- parts that are added one after another, to an empty list
pub six : {X : Type 0} (none one two three four five all : List X) (a b c d e f : X) → none ≡ [] → one ≡ none ++ a ∷ [] → two ≡ one ++ b ∷ [] → three ≡ two ++ c ∷ []
    → four ≡ three ++ d ∷ [] → five ≡ four ++ e ∷ [] → all ≡ five ++ f ∷ [] → all ≡ a ∷ b ∷ c ∷ d ∷ e ∷ f ∷ []
six none one two three four five all a b c d e f is first second third fourth fifth sixth = rw (sixth, fifth, fourth, third, second, first, is) refl

pub found-by : (first last hash suffix end : ℕ) (spans : List Spelled) (specials tags lists elements : List Span) (arguments parameters : List Item)
    → spans ≡ spelled role.Scope 3 last ∷ spelled role.Crate 3 first ∷ spelled role.Impl 3 first ∷ spelled role.Base last hash ∷ spelled role.Suffix suffix end ∷ spelled role.Hash hash (suffix - 1) ∷ []
    → specials ≡ [] → tags ≡ [] → lists ≡ [] → arguments ≡ [] → parameters ≡ [] → elements ≡ []
    → record { others = bytes 3 hash; spans = spans; specials = specials; tags = tags; argument_lists = lists; arguments = arguments; parameters = parameters; elements = elements } ≡ spelling_by first last hash suffix end
unfolding spelling_by
found-by first last hash suffix end spans specials tags lists elements arguments parameters six no-specials no-tags no-lists no-arguments no-parameters no-elements =
    rw (six, no-specials, no-tags, no-lists, no-arguments, no-parameters, no-elements) refl

-- the spelling by the places that were found is the spelling of the symbol's path
pub places-are : (s : List ℕ) (place : PathPlace) (placed : IsPlaced s place) (path : Path) (first last : ℕ) → legacy_of s ≡ Some path
    → first ≡ 3 + size_at s 3 → last ≡ last_at s 3 placed.0.names → spelling_by first last place.hash place.end (length s) ≡ spelling_of_path s path
unfolding spelling_of_path
places-are s place placed path first last found begins lasts =
    let names = placed.0.names in
    let hash : place.hash ≡ end_at s 3 names = sym (ends s 3 place.hash names placed.2.0) in
    let suffix : place.end ≡ length s - length placed.0.suffix = omega (arith, length-drop place.end s, ap length placed.2.1, placed.2.3) in
    ap (λ n. spelling_by n last place.hash place.end (length s)) begins
    ∙ ap (λ n. spelling_by (3 + size_at s 3) n place.hash place.end (length s)) lasts
    ∙ ap (λ n. spelling_by (3 + size_at s 3) (last_at s 3 names) n place.end (length s)) hash
    ∙ ap (λ n. spelling_by (3 + size_at s 3) (last_at s 3 names) (end_at s 3 names) n (length s)) suffix
    ∙ ap (spelling_of_path s) (ap (λ o. unwrap_or o placed.0) (sym placed.1 ∙ found))
