-- The parts of a path, by the measured lengths of its names.
use Rattle.legacy_parts.proofs.Basics.{◌≡◌, ℕ, ◌+◌, ◌-◌, ◌<◌, ◌≤◌, List, [], ◌∷◌, ◌++◌, length, refl, sym, ap, ◌∙◌, arith, append-nil, length-append, Bool, true, false, cond, codes, nat_eq, nat_tests, Path, suffix_parts, Marked, done, text, marked, ◌before◌, stretches_from, stretches_of, alone, only, suffixed, stretches_from-before, Stretch, Role, AreMeasured, first_of, parts_by, place_of, suffix_part, before_last, last_of, names_marked, path_marked, root_role, shown}
use Rattle.sym_parts.specs.Found.{Found}
use Rattle.sym_parts.specs.Marked as marks
use Rattle.sym_parts.specs.declared.role.Role.TheVariants as role
use Rattle.legacy_parts.specs.declared.names.Names.{Names}
use Rattle.legacy_parts.proofs.Texts.{front-length, front_of, names-split, text-alone, text-names}

abbrev part_at : Role → (start length : ℕ) → Stretch
part_at r start length = record { role = r; ordinal = only; start = start; length = length }

-- the stretches of one part before others: the part's, and then those of the others
parts-alone : (place : ℕ) (r : Role) (b : List ℕ) (rest : Marked) → stretches_from place (alone r only b rest) ≡ part_at r place (length b) ∷ stretches_from (place + length b) rest
unfolding stretches_from marks.text_of
parts-alone place r b rest = ap (λ t. part_at r place (length t) ∷ stretches_from (place + length t) rest) (append-nil b)

-- the text before the last name has no marks
none-before_last : (place : ℕ) (names : List (List ℕ)) → stretches_from place (before_last names) ≡ []
unfolding stretches_from before_last
none-before_last place [] = refl
none-before_last place (name ∷ []) = refl
none-before_last place (name ∷ next ∷ rest) = none-before_last ((place + length (codes "::")) + length (shown name)) (next ∷ rest)

length-before_last : (names : List (List ℕ)) → length (marks.text_of (before_last names)) ≡ place_of names
unfolding marks.text_of before_last
length-before_last [] = refl
length-before_last (name ∷ []) = refl
length-before_last (name ∷ next ∷ rest) =
    omega (arith, length-before_last (next ∷ rest), length-append (shown name) (marks.text_of (before_last (next ∷ rest))))

-- ## Names

same-names : {a b c d e f : ℕ} → a ≡ d → b ≡ e → c ≡ f
    → (let one : Names = record { first = a; last = b; place = c } in let other : Names = record { first = d; last = e; place = f } in one ≡ other)
same-names h i j = rw (h, i, j) refl

abbrev measures : List (List ℕ) → Names
measures names = record { first = length (shown (first_of names)); last = length (shown (last_of names)); place = place_of names }

pub as-measured : (names : List (List ℕ)) (found : Names) → AreMeasured names found → found ≡ measures names
as-measured names found are = same-names are.first are.last are.place

abbrev three : (root : Role) (scope first place last : ℕ) → List Stretch
three root scope first place last = part_at role.Scope 0 scope ∷ part_at root 0 first ∷ part_at role.Base place last ∷ []

later : (root : Role) (found : Names) → 0 < found.place → parts_by root found ≡ three root (found.place - 2) found.first found.place found.last
unfolding parts_by
later root found some =
    let test : nat_eq found.place 0 ≡ false = grind (arith, nat_tests, some) in
    ap (λ b. cond {A = List Stretch} b (part_at role.Base found.place found.last ∷ []) (three root (found.place - 2) found.first found.place found.last)) test

parts-names : (name : List ℕ) (rest : List (List ℕ)) → stretches_from 0 (names_marked (name ∷ rest)) ≡ parts_by (root_role (shown name)) (measures (name ∷ rest))
unfolding stretches_from names_marked parts_by marks.text_of
parts-names name [] = parts-alone 0 role.Base (shown name) done
parts-names name (next ∷ rest) =
    let root = root_role (shown name) in
    let behind = before_last (next ∷ rest) in
    let base = shown (last_of (next ∷ rest)) in
    let all = measures (name ∷ next ∷ rest) in
    let inside = length (marks.text_of (alone root only (shown name) behind)) in
    let long : inside ≡ length (shown name) + place_of (next ∷ rest) =
    ap length (text-alone root only (shown name) behind) ∙ length-append (shown name) (marks.text_of behind) ∙ ap (λ n. length (shown name) + n) (length-before_last (next ∷ rest)) in
    ap (λ ps. part_at role.Scope 0 inside ∷ (ps ++ stretches_from (0 + inside) (text (codes "::") (alone role.Base only base done))))
    (parts-alone 0 root (shown name) behind ∙ ap (λ ps. part_at root 0 (length (shown name)) ∷ ps) (none-before_last (0 + length (shown name)) (next ∷ rest)))
    ∙ ap (λ ps. part_at role.Scope 0 inside ∷ part_at root 0 (length (shown name)) ∷ ps) (parts-alone ((0 + inside) + length (codes "::")) role.Base base done)
    ∙ ap (λ n. three root n (length (shown name)) ((0 + inside) + length (codes "::")) (length base)) (let to : inside ≡ all.place - 2 = omega (arith, long) in to)
    ∙ ap (λ n. three root (all.place - 2) (length (shown name)) n (length base)) (let to : (0 + inside) + length (codes "::") ≡ all.place = omega (arith, long) in to)
    ∙ sym (later root all (omega arith))

-- the text of the names ends after the last one
names-end : (names : List (List ℕ)) (found : Names) → 0 < length names → AreMeasured names found → 0 + length (marks.text_of (names_marked names)) ≡ found.place + found.last
names-end [] found some are = absurd (omega (arith, some))
names-end (name ∷ rest) found some are =
    omega (
      arith,
      are.place,
      are.last,
      ap length (text-names (name ∷ rest)),
      ap length (names-split name rest),
      length-append (front_of (name ∷ rest)) (shown (last_of (name ∷ rest))),
      front-length (name ∷ rest),
    )

-- ## Suffixes

parts-suffix : (place : ℕ) (suffix : List ℕ) → stretches_from place (suffixed (suffix_parts suffix)) ≡ suffix_part place (length suffix)
unfolding stretches_from suffixed suffix_part
parts-suffix place [] = refl
parts-suffix place (byte ∷ rest) =
    let some : 0 < length {A = ℕ} (byte ∷ rest) = omega arith in
    let test : nat_eq (length {A = ℕ} (byte ∷ rest)) 0 ≡ false = grind (arith, nat_tests, some) in
    parts-alone (place + length (codes " (")) role.Suffix (byte ∷ rest) (text (codes ")") done)
    ∙ ap (λ b. cond {A = List Stretch} b [] (part_at role.Suffix (place + 2) (length {A = ℕ} (byte ∷ rest)) ∷ [])) (sym test)

-- ## Paths

named-parts : (names : List (List ℕ)) (found : Names) → 0 < length names → AreMeasured names found → stretches_from 0 (names_marked names) ≡ parts_by (root_role (shown (first_of names))) found
named-parts [] found some are = absurd (omega (arith, some))
named-parts (name ∷ rest) found some are = parts-names name rest ∙ ap (parts_by (root_role (shown name))) (sym (as-measured (name ∷ rest) found are))

path-parts : (path : Path) (found : Names) → 0 < length path.names → AreMeasured path.names found
    → stretches_of (path_marked path) ≡ parts_by (root_role (shown (first_of path.names))) found ++ suffix_part (found.place + found.last) (length path.suffix)
unfolding path_marked
path-parts path found some are =
    let to = 0 + length (marks.text_of (names_marked path.names)) in
    stretches_from-before 0 (names_marked path.names) (suffixed (suffix_parts path.suffix))
    ∙ ap (λ ps. ps ++ stretches_from to (suffixed (suffix_parts path.suffix))) (named-parts path.names found some are)
    ∙ ap (λ ps. parts_by (root_role (shown (first_of path.names))) found ++ ps)
    (parts-suffix to path.suffix ∙ ap (λ n. suffix_part n (length path.suffix)) (names-end path.names found some are))

-- ## There are at most four parts

few-by : (root : Role) (found : Names) → length (parts_by root found) ≤ 3
unfolding parts_by
few-by root found = by (nat_eq found.place 0)
  where
    by : (b : Bool) → length (cond {A = List Stretch} b (part_at role.Base found.place found.last ∷ []) (three root (found.place - 2) found.first found.place found.last)) ≤ 3
    by true = omega arith
    by false = omega arith

few-suffix : (place count : ℕ) → length (suffix_part place count) ≤ 1
unfolding suffix_part
few-suffix place count = by (nat_eq count 0)
  where
    by : (b : Bool) → length (cond {A = List Stretch} b [] (part_at role.Suffix (place + 2) count ∷ [])) ≤ 1
    by true = omega arith
    by false = omega arith

few-names : (names : List (List ℕ)) → length (stretches_from 0 (names_marked names)) ≤ 3
unfolding stretches_from names_marked
few-names [] = omega arith
few-names (name ∷ rest) = omega (arith, ap length (parts-names name rest), few-by (root_role (shown name)) (measures (name ∷ rest)))

pub few-path : (path : Path) → length (stretches_of (path_marked path)) ≤ 4
unfolding path_marked
few-path path =
    let to = 0 + length (marks.text_of (names_marked path.names)) in
    omega (
      arith,
      ap length (stretches_from-before 0 (names_marked path.names) (suffixed (suffix_parts path.suffix))),
      length-append (stretches_from 0 (names_marked path.names)) (stretches_from to (suffixed (suffix_parts path.suffix))),
      few-names path.names,
      ap length (parts-suffix to path.suffix),
      few-suffix to (length path.suffix),
    )

-- ## In code

pub no-suffix_part : (place count : ℕ) → count ≡ 0 → suffix_part place count ≡ []
unfolding suffix_part
no-suffix_part place count none =
    let test : nat_eq count 0 ≡ true = grind (arith, nat_tests, none) in
    ap (λ b. cond {A = List Stretch} b [] (part_at role.Suffix (place + 2) count ∷ [])) test

one-suffix_part : (place count : ℕ) → (count ≡ 0 → ⊥) → suffix_part place count ≡ part_at role.Suffix (place + 2) count ∷ []
unfolding suffix_part
one-suffix_part place count some =
    let test : nat_eq count 0 ≡ false = grind (arith, nat_tests, some) in
    ap (λ b. cond {A = List Stretch} b [] (part_at role.Suffix (place + 2) count ∷ [])) test

-- the parts of one name alone
pub one-name : (root : Role) (found : Names) → found.place ≡ 0 → parts_by root found ≡ part_at role.Base 0 found.last ∷ []
unfolding parts_by
one-name root found none =
    let test : nat_eq found.place 0 ≡ true = grind (arith, nat_tests, none) in
    ap (λ b. cond {A = List Stretch} b (part_at role.Base found.place found.last ∷ []) (three root (found.place - 2) found.first found.place found.last)) test
    ∙ ap (λ n. part_at role.Base n found.last ∷ []) none

-- the parts of several names
pub more-names : (root : Role) (found : Names) → (found.place ≡ 0 → ⊥) → parts_by root found ≡ three root (found.place - 2) found.first found.place found.last
more-names root found some = later root found (omega (arith, some))

-- the base alone, added to an empty list
pub listed-first : (found : Found) (last : ℕ) → found ≡ record { stretches = []; place = 0 } → found.stretches ++ part_at role.Base found.place last ∷ [] ≡ part_at role.Base 0 last ∷ []
listed-first found last is = ap (λ f. f.stretches ++ part_at role.Base f.place last ∷ []) is

-- the scope and its first name, and then the base
pub listed-later : (none scope root found : Found) (first : Role) (names : Names) → none ≡ record { stretches = []; place = 0 }
    → scope.stretches ≡ none.stretches ++ part_at role.Scope none.place (names.place - 2) ∷ [] → scope.place ≡ none.place
    → root.stretches ≡ scope.stretches ++ part_at first scope.place names.first ∷ [] → root.place ≡ scope.place
    → found.stretches ≡ root.stretches → found.place ≡ root.place + names.place
    → found.stretches ++ part_at role.Base found.place names.last ∷ [] ≡ three first (names.place - 2) names.first names.place names.last
listed-later none scope root found first names nothing one one-place two two-place three-parts three-place =
    let begins : none.place ≡ 0 = ap (λ f. f.place) nothing in
    let scope-parts : scope.stretches ≡ part_at role.Scope 0 (names.place - 2) ∷ [] = one ∙ ap (λ f. f.stretches ++ part_at role.Scope f.place (names.place - 2) ∷ []) nothing in
    let root-parts : root.stretches ≡ part_at role.Scope 0 (names.place - 2) ∷ part_at first 0 names.first ∷ [] =
    two ∙ ap (λ ps. ps ++ part_at first scope.place names.first ∷ []) scope-parts
    ∙ ap (λ n. part_at role.Scope 0 (names.place - 2) ∷ part_at first n names.first ∷ []) (one-place ∙ begins) in
    ap (λ ps. ps ++ part_at role.Base found.place names.last ∷ []) (three-parts ∙ root-parts)
    ∙ ap (λ n. part_at role.Scope 0 (names.place - 2) ∷ part_at first 0 names.first ∷ part_at role.Base n names.last ∷ []) (let to : found.place ≡ names.place = omega (arith, three-place, two-place, one-place, begins) in to)

-- a suffix after what was found
pub listed-suffix : (old found : Found) (count : ℕ) → (count ≡ 0 → ⊥) → found.stretches ≡ old.stretches → found.place ≡ old.place + 2
    → found.stretches ++ part_at role.Suffix found.place count ∷ [] ≡ old.stretches ++ suffix_part old.place count
listed-suffix old found count some parts place =
    ap (λ ps. ps ++ part_at role.Suffix found.place count ∷ []) parts
    ∙ ap (λ n. old.stretches ++ part_at role.Suffix n count ∷ []) place
    ∙ ap (λ ps. old.stretches ++ ps) (sym (one-suffix_part old.place count some))

-- the stretches that were found are the parts of the path
pub all-listed : (path : Path) (found : Names) (root : Role) (place count : ℕ) (first all : List Stretch) → 0 < length path.names → AreMeasured path.names found
    → root ≡ root_role (shown (first_of path.names)) → place ≡ found.place + found.last → count ≡ length path.suffix
    → first ≡ parts_by root found → all ≡ first ++ suffix_part place count → all ≡ stretches_of (path_marked path)
all-listed path found root place count first all some are root-is ends suffix names whole =
    whole ∙ ap (λ ps. ps ++ suffix_part place count) (names ∙ ap (λ r. parts_by r found) root-is)
    ∙ ap (λ n. parts_by (root_role (shown (first_of path.names))) found ++ suffix_part n count) ends
    ∙ ap (λ n. parts_by (root_role (shown (first_of path.names))) found ++ suffix_part (found.place + found.last) n) suffix
    ∙ sym (path-parts path found some are)
