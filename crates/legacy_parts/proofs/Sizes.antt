-- The names of a path, measured one by one.
use Rattle.legacy_parts.proofs.Basics.{◌≡◌, ℕ, ◌+◌, ◌<◌, ◌≤◌, ◌^◌, List, [], ◌∷◌, length, drop, sym, ap, ◌∙◌, arith, length-append, Some, None, text_of, AreNames, Name, name_in, AreNames-low, first_name, names_parts, AreFitting, place_of, last_of, shown}
use Rattle.legacy_parts.proofs.Texts.{front-length, front_of, names-split}

-- the text of the first name is no longer than the text of all names
pub shown-within : (name : List ℕ) (rest : List (List ℕ)) → length (shown name) ≤ place_of (name ∷ rest) + length (shown (last_of (name ∷ rest)))
shown-within name [] = omega arith
shown-within name (next ∷ rest) = omega arith

pub total : (names : List (List ℕ)) → 0 < length names → length (text_of (names_parts [] names)) ≡ place_of names + length (shown (last_of names))
total [] some = absurd (omega (arith, some))
total (name ∷ rest) some =
    ap length (names-split name rest) ∙ length-append (front_of (name ∷ rest)) (shown (last_of (name ∷ rest)))
    ∙ ap (λ n. n + length (shown (last_of (name ∷ rest)))) (front-length (name ∷ rest))

-- what holds after the first name has been measured
pub begun : (names : List (List ℕ)) (name : List ℕ) (rest : List (List ℕ)) → names ≡ name ∷ rest → AreFitting names
    → (length (shown name) < 2 ^ 32) × (0 + place_of (name ∷ rest) ≡ place_of names) × (last_of (name ∷ rest) ≡ last_of names)
begun names name rest is fit =
    let some : 0 < length names = omega (arith, ap length is) in
    let last : last_of (name ∷ rest) ≡ last_of names = ap last_of (sym is) in (
      omega (arith, fit, total names some, shown-within name rest, ap place_of is, ap (λ n. length (shown n)) last),
      omega (arith, ap place_of is),
      last,
    )

-- One more name: where it begins, and that its length fits. `current ∷ rest` are the name measured last and those after it.
pub next-one : (names : List (List ℕ)) (current : List ℕ) (rest : List (List ℕ)) (name : List ℕ) (later : List (List ℕ)) (last place : ℕ)
    → 0 < length names → AreFitting names
    → rest ≡ name ∷ later → last ≡ length (shown current) → place + place_of (current ∷ rest) ≡ place_of names → last_of (current ∷ rest) ≡ last_of names
    → (length (shown name) < 2 ^ 32) × ((place + (last + 2)) + place_of (name ∷ later) ≡ place_of names) × (last_of (name ∷ later) ≡ last_of names) × (place + (last + 2) < 2 ^ 32)
next-one names current rest name later last place some fit is measured goes same =
    let on : place_of (current ∷ rest) ≡ place_of (current ∷ name ∷ later) = ap (λ r. place_of (current ∷ r)) is in
    let final : last_of (name ∷ later) ≡ last_of names = ap (λ r. last_of (current ∷ r)) (sym is) ∙ same in (
      omega (arith, fit, total names some, shown-within name later, goes, on, ap (λ n. length (shown n)) final),
      omega (arith, goes, on, measured),
      final,
      omega (arith, fit, total names some, goes, on, measured),
    )

-- ## Names in a symbol

-- if there are names between two places, there is a name at the first place
pub none_named : (s : List ℕ) (from to : ℕ) (names : List (List ℕ)) → AreNames s from to names → 0 < length names → name_in (drop from s) ≡ None → ⊥
none_named s from to [] are some none = omega (arith, some)
none_named s from to (name ∷ rest) are some none = cc (are.1, none)

pub named_first : (s : List ℕ) (from to : ℕ) (names : List (List ℕ)) (found : Name) → 0 < length names → AreNames s from to names → name_in (drop from s) ≡ Some found
    → (rest : List (List ℕ)) × (names ≡ found.bytes ∷ rest) × AreNames s (from + found.size) to rest
named_first s from to names found some are is =
    first_name s from to names found (omega (arith, AreNames-low s from to names are, some)) are is
