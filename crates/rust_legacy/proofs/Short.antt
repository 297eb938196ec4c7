-- How long the text of a legacy name is, and what it costs, by how many bytes it has.
use Rattle.rust_legacy.proofs.Basics.{◌≡◌, ◌≤◌, ◌<◌, ℕ, zero, suc, ◌+◌, ◌*◌, ◌++◌, List, [], ◌∷◌, length, drop, Bool, true, false, cond, subst, refl, ap, sym, arith, length-append, Option, Some, None, codes, unwrap_or, length-drop, cost_of, cost_of_parts, text_of, Name, Path, before_hash, begins_with, is_hash, legacy_of, name_in, names_in, path_before_hash, path_in, with_name, names_parts, shown_name, shown_path, suffix_parts, bare_name, texts_of}
use Rattle.rust_legacy.proofs.Bounds.{front_length, texts_of_few}
use Rattle.rust_legacy.proofs.Legacy.{path_is}
use Rattle.rust_legacy.proofs.Names.{after, at_end, name_size, names_after}
use Rattle.rust_legacy.proofs.Paths.{names_cost, names_cost-next, names_text-next}
use Rattle.rust_legacy.proofs.Texts.{name_cost, name_text, some_texts}

bare_few : (name : List ℕ) → 0 < length name → (0 < length (bare_name name)) × (length (bare_name name) ≤ length name)
bare_few name some = by (begins_with (codes "_$") name) refl
  where
    by : (b : Bool) → begins_with (codes "_$") name ≡ b → (0 < length (cond {A = List ℕ} b (drop 1 name) name)) × (length (cond {A = List ℕ} b (drop 1 name) name) ≤ length name)
    by true e = (omega (arith, front_length (codes "_$") name e, length-drop 1 name), omega (arith, length-drop 1 name))
    by false e = (some, omega arith)

name_few : (name : List ℕ) → 0 < length name → (length (text_of (shown_name name)) ≤ length name) × (cost_of (shown_name name) ≤ 2 * length name)
name_few name some =
    let bare = bare_few name some in
    let few = texts_of_few (bare_name name) in (
      omega (arith, bare.1, few.0, ap length (name_text (texts_of (bare_name name)))),
      omega (arith, bare.1, few.1, name_cost (texts_of (bare_name name)) (some_texts (bare_name name) bare.0)),
    )

-- what names show and cost, by the bytes that they and their E take
pub record AreShort (s : List ℕ) (names : List (List ℕ)) (suffix : List ℕ) : Type 0 where
  pub text : 2 * length (text_of (names_parts (codes "::") names)) + 3 * (length suffix + 1) ≤ 3 * length s
  pub cost : 2 * names_cost (codes "::") names + 5 * (length suffix + 1) ≤ 5 * length s

one_short : (s : List ℕ) (name : Name) (names : List (List ℕ)) (suffix : List ℕ) → name_in s ≡ Some name → AreShort (drop name.size s) names suffix → AreShort s (name.bytes ∷ names) suffix
one_short s name names suffix here rest =
    let size = name_size s name here in
    let few = name_few name.bytes size.3 in
    let later = text_of (names_parts (codes "::") names) in
    record {
      text = omega (arith, rest.text, size, few.0, length-drop name.size s, ap length (names_text-next (codes "::") name.bytes names), length-append (text_of (shown_name name.bytes)) later);
      cost = omega (arith, rest.cost, size, few.1, length-drop name.size s, names_cost-next (codes "::") name.bytes names);
    }

none_short : (s : List ℕ) → begins_with (codes "E") s ≡ true → AreShort s [] (drop 1 s)
none_short s is =
    let long = front_length (codes "E") s is in
    record { text = omega (arith, long, length-drop 1 s); cost = omega (arith, long, length-drop 1 s) }

names_short : (depth : ℕ) (s : List ℕ) (path : Path) → names_in depth s ≡ Some path → AreShort s path.names path.suffix
names_short zero s path is = absurd (cc (is))
names_short (suc depth) s path is = by (begins_with (codes "E") s) (name_in s) refl refl is (λ n p. names_short depth (drop n s) p)
  where
    with : (name : Name) (found : Option Path) → name_in s ≡ Some name → with_name name.bytes found ≡ Some path → ((p : Path) → found ≡ Some p → AreShort (drop name.size s) p.names p.suffix)
        → AreShort s path.names path.suffix
    with name None here h rest = absurd (cc (h))
    with name (Some found) here h rest = (
        let same : record { names = name.bytes ∷ found.names; suffix = found.suffix } ≡ path = ap (λ o. unwrap_or o path) h in
        subst (λ p. AreShort s p.names p.suffix) same (one_short s name found.names found.suffix here (rest found refl)))

    by : (b : Bool) (found : Option Name) → begins_with (codes "E") s ≡ b → name_in s ≡ found → cond {A = Option Path} b (at_end s) (after depth s found) ≡ Some path
        → ((n : ℕ) (p : Path) → names_in depth (drop n s) ≡ Some p → AreShort (drop n s) p.names p.suffix) → AreShort s path.names path.suffix
    by true found e n h rest = (
        let same : record { names = []; suffix = drop 1 s } ≡ path = ap (λ o. unwrap_or o path) h in
        subst (λ p. AreShort s p.names p.suffix) same (none_short s e))
    by false None e n h rest = absurd (cc (h))
    by false (Some name) e n h rest = with name (names_in depth (drop name.size s)) n h (λ p is. rest name.size p is)

-- fewer names show no more, and cost no more
before_few : (front : List ℕ) (all names : List (List ℕ)) → before_hash all ≡ Some names
    → (length (text_of (names_parts front names)) ≤ length (text_of (names_parts front all))) × (names_cost front names ≤ names_cost front all)
before_few front [] names is = absurd (cc (is))
before_few front (name ∷ []) names is = by (is_hash name) is
  where
    by : (b : Bool) → cond {A = Option (List (List ℕ))} b (Some []) None ≡ Some names
        → (length (text_of (names_parts front names)) ≤ length (text_of (names_parts front (name ∷ [])))) × (names_cost front names ≤ names_cost front (name ∷ []))
    by true h = (let same : [] ≡ names = ap (λ o. unwrap_or o names) h in
        (omega (arith, ap (λ n. length (text_of (names_parts front n))) (sym same)), omega (arith, ap (names_cost front) (sym same))))
    by false h = absurd (cc (h))
before_few front (name ∷ next ∷ rest) names is = by (before_hash (next ∷ rest)) is (λ n h. before_few (codes "::") (next ∷ rest) n h)
  where
    by : (found : Option (List (List ℕ))) → names_after name found ≡ Some names
        → ((n : List (List ℕ)) → found ≡ Some n → (length (text_of (names_parts (codes "::") n)) ≤ length (text_of (names_parts (codes "::") (next ∷ rest)))) × (names_cost (codes "::") n ≤ names_cost (codes "::") (next ∷ rest)))
        → (length (text_of (names_parts front names)) ≤ length (text_of (names_parts front (name ∷ next ∷ rest)))) × (names_cost front names ≤ names_cost front (name ∷ next ∷ rest))
    by None h few = absurd (cc (h))
    by (Some n) h few = (let same : name ∷ n ≡ names = ap (λ o. unwrap_or o names) h in
        let less = few n refl in
        let one = names_text-next front name n in
        let two = names_text-next front name (next ∷ rest) in (
          omega (
            arith,
            less.0,
            ap (λ m. length (text_of (names_parts front m))) (sym same),
            ap length one,
            ap length two,
            length-append front (text_of (shown_name name) ++ text_of (names_parts (codes "::") n)),
            length-append (text_of (shown_name name)) (text_of (names_parts (codes "::") n)),
            length-append front (text_of (shown_name name) ++ text_of (names_parts (codes "::") (next ∷ rest))),
            length-append (text_of (shown_name name)) (text_of (names_parts (codes "::") (next ∷ rest))),
          ),
          omega (arith, less.1, ap (names_cost front) (sym same), names_cost-next front name n, names_cost-next front name (next ∷ rest)),
        ))

-- without :: before the first name, names show no more and cost no more than with it
bare_front : (names : List (List ℕ)) → (length (text_of (names_parts [] names)) ≤ length (text_of (names_parts (codes "::") names))) × (names_cost [] names ≤ names_cost (codes "::") names)
bare_front [] = (omega arith, omega arith)
bare_front (name ∷ rest) =
    let later = text_of (shown_name name) ++ text_of (names_parts (codes "::") rest) in (
      omega (arith, ap length (names_text-next [] name rest), ap length (names_text-next (codes "::") name rest)),
      omega (arith, names_cost-next [] name rest, names_cost-next (codes "::") name rest),
    )

suffix_few : (suffix : List ℕ) → (length (text_of (suffix_parts suffix)) ≤ length suffix + 3) × (cost_of_parts (suffix_parts suffix) ≤ length suffix + 3)
suffix_few [] = (omega arith, omega arith)
suffix_few (byte ∷ rest) = (omega (arith, length-append rest (codes ")")), omega arith)

-- the bounds of a path, by the bytes of its symbol
pub record IsShort (s : List ℕ) (path : Path) : Type 0 where
  pub text : 2 * length (text_of (shown_path path)) ≤ 3 * length s
  pub cost : 2 * cost_of (shown_path path) ≤ 5 * length s

path_short : (s : List ℕ) (all : Path) (names : List (List ℕ)) → AreShort (drop 3 s) all.names all.suffix → before_hash all.names ≡ Some names
    → IsShort s (record { names = names; suffix = all.suffix })
path_short s all names short is =
    let less = before_few (codes "::") all.names names is in
    let bare = bare_front names in
    let suffix = suffix_few all.suffix in
    record {
      text = omega (arith, short.text, less.0, bare.0, suffix.0, length-drop 3 s, length-append (text_of (names_parts [] names)) (text_of (suffix_parts all.suffix)));
      cost = omega (arith, short.cost, less.1, bare.1, suffix.1, length-drop 3 s, item_few names);
    }
  where
    item_few : (n : List (List ℕ)) → cost_of (names_parts [] n) ≤ 1 + names_cost [] n
    item_few [] = omega arith
    item_few (name ∷ rest) = omega arith

pub short_path : (s : List ℕ) (path : Path) → legacy_of s ≡ Some path → IsShort s path
short_path s path is = by (names_in (length s) (drop 3 s)) refl (path_is s path is)
  where
    from : (all : Path) (found : Option (List (List ℕ))) → AreShort (drop 3 s) all.names all.suffix → before_hash all.names ≡ found → path_before_hash all.suffix found ≡ Some path → IsShort s path
    from all (Some (name ∷ rest)) short e h = (
        let same : record { names = name ∷ rest; suffix = all.suffix } ≡ path = ap (λ o. unwrap_or o path) h in
        subst (IsShort s) same (path_short s all (name ∷ rest) short e))
    from all (Some []) short e h = absurd (cc (h))
    from all None short e h = absurd (cc (h))

    by : (found : Option Path) → names_in (length s) (drop 3 s) ≡ found → path_in found ≡ Some path → IsShort s path
    by None e h = absurd (cc (h))
    by (Some all) e h = from all (before_hash all.names) (names_short (length s) (drop 3 s) all e) refl h
