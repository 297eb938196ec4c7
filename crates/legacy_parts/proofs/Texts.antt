-- The text of a path, which is what the path shows once its marks are removed; and the lengths of its parts.
use Rattle.legacy_parts.proofs.Basics.{◌≡◌, ℕ, List, [], ◌∷◌, ◌++◌, length, refl, sym, ap, ◌∙◌, arith, append_assoc, append-nil, length-append, codes, Unshared, text_of, Path, names_parts, shown_path, suffix_parts, names_text-next, Marked, done, text, marked, ◌before◌, plain, alone, only, suffixed, text_of-before, Role, place_of, before_last, last_of, names_marked, path_marked, root_role, shown}
use Rattle.sym_parts.specs.Marked as marks
use Rattle.sym_parts.specs.declared.spelling.Ordinal.{Ordinal}
use Rattle.sym_parts.specs.declared.role.Role.TheVariants as role

-- ## The text before the last name

-- the texts of names except for the last one, with two colons after each
abbrev pub front_of : List (List ℕ) → List ℕ
front_of [] = []
front_of (name ∷ []) = []
front_of (name ∷ next ∷ rest) = shown name ++ (codes "::" ++ front_of (next ∷ rest))

pub front-length : (names : List (List ℕ)) → length (front_of names) ≡ place_of names
front-length [] = refl
front-length (name ∷ []) = refl
front-length (name ∷ next ∷ rest) = omega (arith, front-length (next ∷ rest), length-append (shown name) (codes "::" ++ front_of (next ∷ rest)))

-- the two colons before names come first in the text
colons-first : (name : List ℕ) (rest : List (List ℕ)) → text_of (names_parts (codes "::") (name ∷ rest)) ≡ codes "::" ++ text_of (names_parts [] (name ∷ rest))
colons-first name rest = names_text-next (codes "::") name rest ∙ ap (λ t. codes "::" ++ t) (sym (names_text-next [] name rest))

-- the text of names: the text before the last name, and then the last name's
pub names-split : (name : List ℕ) (rest : List (List ℕ)) → text_of (names_parts [] (name ∷ rest)) ≡ front_of (name ∷ rest) ++ shown (last_of (name ∷ rest))
names-split name [] = names_text-next [] name [] ∙ append-nil (shown name)
names-split name (next ∷ rest) =
    names_text-next [] name (next ∷ rest)
    ∙ ap (λ t. shown name ++ t) (colons-first next rest ∙ ap (λ t. codes "::" ++ t) (names-split next rest)
    ∙ sym (append_assoc (codes "::") (front_of (next ∷ rest)) (shown (last_of (next ∷ rest)))))
    ∙ sym (append_assoc (shown name) (codes "::" ++ front_of (next ∷ rest)) (shown (last_of (next ∷ rest))))

-- ## Marks

pub text-alone : (r : Role) (o : Ordinal) (b : List ℕ) (rest : Marked) → marks.text_of (alone r o b rest) ≡ b ++ marks.text_of rest
unfolding marks.text_of
text-alone r o b rest = ap (λ t. t ++ marks.text_of rest) (append-nil b)

text-base : (b : List ℕ) → marks.text_of (alone role.Base only b done) ≡ b
unfolding marks.text_of
text-base b = text-alone role.Base only b done ∙ append-nil b

-- names except for the last one, and then the last one after two colons
pub text-before_last : (name : List ℕ) (rest : List (List ℕ))
    → marks.text_of (before_last (name ∷ rest)) ++ (codes "::" ++ shown (last_of (name ∷ rest))) ≡ text_of (names_parts (codes "::") (name ∷ rest))
unfolding marks.text_of before_last
text-before_last name [] = ap (λ t. codes "::" ++ t) (sym (append-nil (shown name))) ∙ sym (names_text-next (codes "::") name [])
text-before_last name (next ∷ rest) =
    append_assoc (codes "::") (shown name ++ marks.text_of (before_last (next ∷ rest))) _
    ∙ ap (λ t. codes "::" ++ t) (append_assoc (shown name) (marks.text_of (before_last (next ∷ rest))) _ ∙ ap (λ t. shown name ++ t) (text-before_last next rest))
    ∙ sym (names_text-next (codes "::") name (next ∷ rest))

pub text-names : (names : List (List ℕ)) → marks.text_of (names_marked names) ≡ text_of (names_parts [] names)
unfolding marks.text_of names_marked
text-names [] = refl
text-names (name ∷ []) = text-base (shown name) ∙ sym (append-nil (shown name)) ∙ sym (names_text-next [] name [])
text-names (name ∷ next ∷ rest) =
    let behind = before_last (next ∷ rest) in
    let base = shown (last_of (next ∷ rest)) in
    ap (λ t. t ++ (codes "::" ++ marks.text_of (alone role.Base only base done))) (text-alone (root_role (shown name)) only (shown name) behind)
    ∙ append_assoc (shown name) (marks.text_of behind) _
    ∙ ap (λ t. shown name ++ (marks.text_of behind ++ (codes "::" ++ t))) (text-base base)
    ∙ ap (λ t. shown name ++ t) (text-before_last next rest)
    ∙ sym (names_text-next [] name (next ∷ rest))

text-plain : (u : Unshared) → marks.text_of (plain u) ≡ text_of u
unfolding marks.text_of
text-plain u = append-nil (text_of u)

pub text-suffix : (suffix : List ℕ) → marks.text_of (suffixed (suffix_parts suffix)) ≡ text_of (suffix_parts suffix)
unfolding marks.text_of suffixed
text-suffix [] = refl
text-suffix (byte ∷ rest) = ap (λ t. codes " (" ++ (t ++ codes ")")) (append-nil (byte ∷ rest))

-- the text of a whole path
pub text-path : (path : Path) → marks.text_of (path_marked path) ≡ text_of (shown_path path)
unfolding path_marked
text-path path =
    text_of-before (names_marked path.names) (suffixed (suffix_parts path.suffix))
    ∙ ap (λ t. t ++ marks.text_of (suffixed (suffix_parts path.suffix))) (text-names path.names)
    ∙ ap (λ t. text_of (names_parts [] path.names) ++ t) (text-suffix path.suffix)
