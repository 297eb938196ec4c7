-- What is printed without a mark, and parts that contain no other parts.
use Rattle.cpp_parts.proofs.Basics.{◌≡◌, ℕ, ◌+◌, ◌-◌, ◌<◌, subst, List, [], ◌∷◌, Option, Some, None, Bool, true, false, length, take, drop, min, refl, sym, ap, ◌∙◌, arith, length-take, length-drop, Term, symbol, ReadSymbol, table_of, plain_tree, Unshared, done, bytes, item, text_of, Marked, text, marked, ◌before◌, Role, Ordinal, Numbering, alone, numbered, only, plain, suffixed, whole, alone_if_any, words, returned, behind, elements, elements_after, element, element_of, rest_of, within, inside, next, ordinal_of, in_brackets, parameters, arguments, named, are_colons, scoped, in_std, name, abbreviated, called, returning, special_name, encoding, symbol_marked, fields_of, SYMBOL, elements_here, name_by, encoding_by, AreNamesBelow}
use Rattle.cpp_parts.proofs.Sorting.{by-no-name}
use Rattle.cpp_parts.specs.declared.sorts.NameSort.{NameSort}
use Rattle.cpp_parts.specs.declared.sorts.NameSort.TheVariants as names
use Rattle.sym_parts.specs.Marked as marks
use Rattle.sym_parts.specs.declared.role.Role.TheVariants as role
use Rattle.cpp_parts.specs.declared.sorts.EncodingSort.TheVariants as encodings

-- where there are no bytes, there is no part
none-alone : (r : Role) (b : List ℕ) (rest : Marked) (n : ℕ) → n ≡ length b → n ≡ 0 → rest ≡ alone_if_any r b rest
unfolding alone_if_any
none-alone r [] rest n long none = refl
none-alone r (b ∷ bs) rest n long none = absurd (omega (arith, long, none))

one-alone : (r : Role) (b : List ℕ) (rest : Marked) (n : ℕ) → n ≡ length b → (n ≡ 0 → ⊥) → alone r only b rest ≡ alone_if_any r b rest
unfolding alone_if_any
one-alone r [] rest n long some = absurd (some long)
one-alone r (b ∷ bs) rest n long some = refl

pub returned-none : (u right rest : Unshared) (n : ℕ) → u ≡ item right rest → n ≡ length (text_of right) → n ≡ 0 → plain rest ≡ returned u
unfolding returned
returned-none u right rest n is long none = none-alone role.ReturnType (text_of right) (plain rest) n long none ∙ sym (ap returned is)

pub returned-some : (u right rest : Unshared) (n : ℕ) → u ≡ item right rest → n ≡ length (text_of right) → (n ≡ 0 → ⊥) → alone role.ReturnType only (text_of right) (plain rest) ≡ returned u
unfolding returned
returned-some u right rest n is long some = one-alone role.ReturnType (text_of right) (plain rest) n long some ∙ sym (ap returned is)

pub returned-nothing : (u : Unshared) → u ≡ done → plain u ≡ returned u
unfolding returned
returned-nothing u is = ap plain is ∙ sym (ap returned is)

pub returned-text : (u : Unshared) (b : List ℕ) (rest : Unshared) → u ≡ bytes b rest → plain u ≡ returned u
unfolding returned
returned-text u b rest is = ap plain is ∙ sym (ap returned is)

pub behind-nothing : (u : Unshared) → u ≡ done → returned u ≡ behind u
unfolding behind
behind-nothing u is = ap returned is ∙ sym (ap behind is)

pub behind-item : (u one rest : Unshared) → u ≡ item one rest → returned u ≡ behind u
unfolding behind
behind-item u one rest is = ap returned is ∙ sym (ap behind is)

pub behind-text : (u : Unshared) (b : List ℕ) (rest : Unshared) → u ≡ bytes b rest → alone role.Qualifiers only b (returned rest) ≡ behind u
unfolding behind
behind-text u b rest is = sym (ap behind is)

-- ## Elements after an element

pub after-nothing : (r : Role) (o : Numbering) (t : Term) (u : Unshared) → u ≡ done → plain u ≡ elements_after r o t u
unfolding elements_after
after-nothing r o t u is = ap plain is ∙ sym (ap (elements_after r o t) is)

pub after-text : (r : Role) (o : Numbering) (t : Term) (u : Unshared) (b : List ℕ) (rest : Unshared) → u ≡ bytes b rest → plain u ≡ elements_after r o t u
unfolding elements_after
after-text r o t u b rest is = ap plain is ∙ sym (ap (elements_after r o t) is)

pub after-item : (r : Role) (o : Numbering) (t : Term) (u one rest : Unshared) → u ≡ item one rest → elements r o t one before plain rest ≡ elements_after r o t u
unfolding elements_after
after-item r o t u one rest is = sym (ap (elements_after r o t) is)

-- ## Texts that are cut

-- the lengths of a text without its last byte, and of this byte alone; an empty text has no last byte
pub last-lengths : (b : List ℕ) (count blank : ℕ) → length b ≡ count → blank ≡ min count 1
    → (blank ≡ length (drop (length b - 1) b)) × (length (take (length b - 1) b) ≡ count - blank)
last-lengths b count blank long is =
    (omega (arith, long, is, length-drop (length b - 1) b), omega (arith, long, is, length-take (length b - 1) b))

-- ## Elements

pub here-nothing : (r : Role) (o : Numbering) (t : Term) (u : Unshared) → u ≡ done → plain u ≡ elements_here r o t u
unfolding elements_here
here-nothing r o t u is = ap plain is ∙ sym (ap (elements_here r o t) is)

pub here-text : (r : Role) (o : Numbering) (t : Term) (u : Unshared) (b : List ℕ) (rest : Unshared) → u ≡ bytes b rest → plain u ≡ elements_here r o t u
unfolding elements_here
here-text r o t u b rest is = ap plain is ∙ sym (ap (elements_here r o t) is)

pub from-skipped : (r : Role) (o n : Numbering) (t s : Term) (u one rest : Unshared) → u ≡ item one rest → rest ≡ done → s ≡ rest_of t → n ≡ next o → elements r n s one ≡ elements_here r o t u
unfolding elements_here
from-skipped r o n t s u one rest is none same counted = ap (λ x. elements r n x one) same ∙ ap (λ x. elements r x (rest_of t) one) counted ∙ sym (ap (elements_here r o t) (is ∙ ap (item one) none))

pub from-text : (r : Role) (o : Numbering) (t : Term) (u one rest : Unshared) (b : List ℕ) (others : Unshared) → u ≡ item one rest → rest ≡ bytes b others → plain u ≡ elements_here r o t u
unfolding elements_here
from-text r o t u one rest b others is behind_is =
    ap plain (is ∙ ap (item one) behind_is) ∙ sym (ap (elements_here r o t) (is ∙ ap (item one) behind_is))

pub from-item : (r : Role) (o n : Numbering) (t e s : Term) (u left rest right others : Unshared) → u ≡ item left rest → rest ≡ item right others → e ≡ element_of t → s ≡ rest_of t → n ≡ next o
    → element r o (inside o e) (within e) left right before elements_after r n s others ≡ elements_here r o t u
unfolding elements_here
from-item r o n t e s u left rest right others is behind_is one two counted =
    ap (λ x. element r o (inside o x) (within x) left right before elements_after r n s others) one
    ∙ ap (λ x. element r o (inside o (element_of t)) (within (element_of t)) left right before elements_after r n x others) two
    ∙ ap (λ x. element r o (inside o (element_of t)) (within (element_of t)) left right before elements_after r x (rest_of t) others) counted
    ∙ sym (ap (elements_here r o t) (is ∙ ap (item left) behind_is))

pub elements-nothing : (r : Role) (o : Numbering) (t : Term) (u : Unshared) → u ≡ done → plain u ≡ elements r o t u
unfolding elements
elements-nothing r o t u is = ap plain is ∙ sym (ap (elements r o t) is)

here-item : (r : Role) (o : Numbering) (t : Term) (one rest : Unshared) → elements_here r o t (item one rest) ≡ elements r o t (item one rest)
unfolding elements_here elements
here-item r o t one done = refl
here-item r o t one (bytes b rest) = refl
here-item r o t one (item other rest) = refl

pub elements-item : (r : Role) (o : Numbering) (t : Term) (u one rest : Unshared) → u ≡ item one rest → elements_here r o t u ≡ elements r o t u
elements-item r o t u one rest is = ap (elements_here r o t) is ∙ here-item r o t one rest ∙ sym (ap (elements r o t) is)

comma-here : (r : Role) (o : Numbering) (t : Term) (b : List ℕ) (rest : Unshared) → text b (elements_here r o t rest) ≡ elements r o t (bytes b rest)
unfolding elements_here elements
comma-here r o t b done = refl
comma-here r o t b (bytes c rest) = refl
comma-here r o t b (item one done) = refl
comma-here r o t b (item one (bytes c rest)) = refl
comma-here r o t b (item one (item other rest)) = refl

pub elements-text : (r : Role) (o : Numbering) (t : Term) (u : Unshared) (b : List ℕ) (rest : Unshared) → u ≡ bytes b rest → text b (elements_here r o t rest) ≡ elements r o t u
elements-text r o t u b rest is = comma-here r o t b rest ∙ sym (ap (elements r o t) is)

-- ## An element whose elements are listed

abbrev pub lone : Role → Ordinal → (left right : Unshared) → Marked
lone r o left right = marked r o (text (text_of left) (text (text_of right) marks.done)) marks.done

pub within-nothing : (r : Role) (x : Ordinal) (o p : Numbering) (t : Term) (left right : Unshared) → x ≡ ordinal_of o → left ≡ done → lone r x left right ≡ element r o p (Some t) left right
unfolding element
within-nothing r x o p t left right same is = ap (λ v. lone r v left right) same ∙ ap (λ v. lone r (ordinal_of o) v right) is ∙ sym (ap (λ v. element r o p (Some t) v right) is)

pub within-text : (r : Role) (x : Ordinal) (o p : Numbering) (t : Term) (left right : Unshared) (b : List ℕ) (rest : Unshared) → x ≡ ordinal_of o → left ≡ bytes b rest → lone r x left right ≡ element r o p (Some t) left right
unfolding element
within-text r x o p t left right b rest same is = ap (λ v. lone r v left right) same ∙ ap (λ v. lone r (ordinal_of o) v right) is ∙ sym (ap (λ v. element r o p (Some t) v right) is)

pub within-item-text : (r : Role) (x : Ordinal) (o p : Numbering) (t : Term) (left right one rest : Unshared) (b : List ℕ) (others : Unshared) → x ≡ ordinal_of o → left ≡ item one rest → rest ≡ bytes b others → lone r x left right ≡ element r o p (Some t) left right
unfolding element
within-item-text r x o p t left right one rest b others same is behind_is =
    ap (λ v. lone r v left right) same ∙ ap (λ v. lone r (ordinal_of o) v right) (is ∙ ap (item one) behind_is) ∙ sym (ap (λ v. element r o p (Some t) v right) (is ∙ ap (item one) behind_is))

pub within-item-item : (r : Role) (x : Ordinal) (o p : Numbering) (t : Term) (left right one rest other others : Unshared) → x ≡ ordinal_of o → left ≡ item one rest → rest ≡ item other others → lone r x left right ≡ element r o p (Some t) left right
unfolding element
within-item-item r x o p t left right one rest other others same is behind_is =
    ap (λ v. lone r v left right) same ∙ ap (λ v. lone r (ordinal_of o) v right) (is ∙ ap (item one) behind_is) ∙ sym (ap (λ v. element r o p (Some t) v right) (is ∙ ap (item one) behind_is))

pub within-text-right : (r : Role) (x : Ordinal) (o p : Numbering) (t : Term) (left right one rest : Unshared) (b : List ℕ) (others : Unshared) → x ≡ ordinal_of o → left ≡ item one rest → rest ≡ done → right ≡ bytes b others → lone r x left right ≡ element r o p (Some t) left right
unfolding element
within-text-right r x o p t left right one rest b others same is none right_is =
    ap (λ v. lone r v left right) same ∙ ap (λ v. lone r (ordinal_of o) v right) (is ∙ ap (item one) none) ∙ ap (lone r (ordinal_of o) (item one done)) right_is
    ∙ sym (ap (λ v. element r o p (Some t) v right) (is ∙ ap (item one) none) ∙ ap (element r o p (Some t) (item one done)) right_is)

pub within-item-right : (r : Role) (x : Ordinal) (o p : Numbering) (t : Term) (left right one rest other others : Unshared) → x ≡ ordinal_of o → left ≡ item one rest → rest ≡ done → right ≡ item other others → lone r x left right ≡ element r o p (Some t) left right
unfolding element
within-item-right r x o p t left right one rest other others same is none right_is =
    ap (λ v. lone r v left right) same ∙ ap (λ v. lone r (ordinal_of o) v right) (is ∙ ap (item one) none) ∙ ap (lone r (ordinal_of o) (item one done)) right_is
    ∙ sym (ap (λ v. element r o p (Some t) v right) (is ∙ ap (item one) none) ∙ ap (element r o p (Some t) (item one done)) right_is)

pub within-elements : (r : Role) (o p : Numbering) (t : Term) (left right one rest : Unshared) → left ≡ item one rest → rest ≡ done → right ≡ done → elements r p t one ≡ element r o p (Some t) left right
unfolding element
within-elements r o p t left right one rest is none right_is =
    sym (ap (λ v. element r o p (Some t) v right) (is ∙ ap (item one) none) ∙ ap (element r o p (Some t) (item one done)) right_is)

pub without-elements : (r : Role) (x : Ordinal) (o p : Numbering) (e : Option Term) (left right : Unshared) → x ≡ ordinal_of o → e ≡ None → lone r x left right ≡ element r o p e left right
unfolding element
without-elements r x o p e left right same is = ap (λ v. lone r v left right) same ∙ sym (ap (λ v. element r o p v left right) is)

-- ## Brackets

pub brackets-nothing : (r e : Role) (t : Term) (b : List ℕ) (u : Unshared) → u ≡ done → text b (plain u) ≡ in_brackets r e t b u
unfolding in_brackets
brackets-nothing r e t b u is = ap (λ x. text b (plain x)) is ∙ sym (ap (in_brackets r e t b) is)

pub brackets-text : (r e : Role) (t : Term) (b : List ℕ) (u : Unshared) (close : List ℕ) (rest : Unshared) → u ≡ bytes close rest → in_brackets r e t b (bytes close rest) ≡ in_brackets r e t b u
brackets-text r e t b u close rest is = sym (ap (in_brackets r e t b) is)

pub brackets-item-text : (r e : Role) (t : Term) (b : List ℕ) (u one rest : Unshared) (close : List ℕ) (others : Unshared) → u ≡ item one rest → rest ≡ bytes close others
    → in_brackets r e t b (item one (bytes close others)) ≡ in_brackets r e t b u
brackets-item-text r e t b u one rest close others is behind_is = sym (ap (in_brackets r e t b) (is ∙ ap (item one) behind_is))

pub brackets-item-nothing : (r e : Role) (t : Term) (b : List ℕ) (u one rest : Unshared) → u ≡ item one rest → rest ≡ done → text b (plain u) ≡ in_brackets r e t b u
unfolding in_brackets
brackets-item-nothing r e t b u one rest is none = ap (λ x. text b (plain x)) (is ∙ ap (item one) none) ∙ sym (ap (in_brackets r e t b) (is ∙ ap (item one) none))

pub brackets-item-item : (r e : Role) (t : Term) (b : List ℕ) (u one rest other others : Unshared) → u ≡ item one rest → rest ≡ item other others → text b (plain u) ≡ in_brackets r e t b u
unfolding in_brackets
brackets-item-item r e t b u one rest other others is behind_is =
    ap (λ x. text b (plain x)) (is ∙ ap (item one) behind_is) ∙ sym (ap (in_brackets r e t b) (is ∙ ap (item one) behind_is))

pub params-nothing : (t : Term) (u : Unshared) → u ≡ done → plain u ≡ parameters t u
unfolding parameters
params-nothing t u is = ap plain is ∙ sym (ap (parameters t) is)

pub params-item : (t : Term) (u one rest : Unshared) → u ≡ item one rest → plain u ≡ parameters t u
unfolding parameters
params-item t u one rest is = ap plain is ∙ sym (ap (parameters t) is)

pub params-text : (t : Term) (u : Unshared) (b : List ℕ) (rest : Unshared) → u ≡ bytes b rest → in_brackets role.Parameters role.Parameter t b rest ≡ parameters t u
unfolding parameters
params-text t u b rest is = sym (ap (parameters t) is)

pub args-nothing : (t : Term) (u : Unshared) → u ≡ done → plain u ≡ arguments t u
unfolding arguments
args-nothing t u is = ap plain is ∙ sym (ap (arguments t) is)

pub args-item : (t : Term) (u one rest : Unshared) → u ≡ item one rest → plain u ≡ arguments t u
unfolding arguments
args-item t u one rest is = ap plain is ∙ sym (ap (arguments t) is)

pub args-text : (t : Term) (u : Unshared) (b : List ℕ) (rest : Unshared) → u ≡ bytes b rest
    → text (take (length b - 1) b) (in_brackets role.GenericArguments role.GenericArgument t (drop (length b - 1) b) rest) ≡ arguments t u
unfolding arguments
args-text t u b rest is = sym (ap (arguments t) is)

-- ## Names without arguments

pub named-nothing : (u : Unshared) → u ≡ done → whole role.Base only u ≡ named u
unfolding named
named-nothing u is = ap (whole role.Base only) is ∙ sym (ap named is)

pub named-item-nothing : (u one rest : Unshared) → u ≡ item one rest → rest ≡ done → whole role.Base only u ≡ named u
unfolding named
named-item-nothing u one rest is none = ap (whole role.Base only) (is ∙ ap (item one) none) ∙ sym (ap named (is ∙ ap (item one) none))

pub named-item-item : (u one rest other others : Unshared) → u ≡ item one rest → rest ≡ item other others → whole role.Base only u ≡ named u
unfolding named
named-item-item u one rest other others is behind_is = ap (whole role.Base only) (is ∙ ap (item one) behind_is) ∙ sym (ap named (is ∙ ap (item one) behind_is))

chosen-true : (test : Bool) (m n : Marked) → test ≡ true → m ≡ elim test [ true ↦ m | false ↦ n ]
chosen-true true m n is = refl
chosen-true false m n is = absurd (cc is)

chosen-false : (test : Bool) (m n : Marked) → test ≡ false → n ≡ elim test [ true ↦ m | false ↦ n ]
chosen-false false m n is = refl
chosen-false true m n is = absurd (cc is)

pub named-item-scoped : (u one rest : Unshared) (b : List ℕ) (others : Unshared) → u ≡ item one rest → rest ≡ bytes b others → are_colons b ≡ true → scoped (text_of one) b others ≡ named u
unfolding named
named-item-scoped u one rest b others is behind_is colons =
    chosen-true (are_colons b) (scoped (text_of one) b others) (whole role.Base only (item one (bytes b others))) colons ∙ sym (ap named (is ∙ ap (item one) behind_is))

pub named-item-plain : (u one rest : Unshared) (b : List ℕ) (others : Unshared) → u ≡ item one rest → rest ≡ bytes b others → are_colons b ≡ false → whole role.Base only u ≡ named u
unfolding named
named-item-plain u one rest b others is behind_is colons =
    ap (whole role.Base only) (is ∙ ap (item one) behind_is)
    ∙ chosen-false (are_colons b) (scoped (text_of one) b others) (whole role.Base only (item one (bytes b others))) colons
    ∙ sym (ap named (is ∙ ap (item one) behind_is))

pub named-text-nothing : (u : Unshared) (b : List ℕ) (rest : Unshared) → u ≡ bytes b rest → rest ≡ done → whole role.Base only u ≡ named u
unfolding named
named-text-nothing u b rest is none = ap (whole role.Base only) (is ∙ ap (bytes b) none) ∙ sym (ap named (is ∙ ap (bytes b) none))

pub named-text-text : (u : Unshared) (b : List ℕ) (rest : Unshared) (c : List ℕ) (others : Unshared) → u ≡ bytes b rest → rest ≡ bytes c others → whole role.Base only u ≡ named u
unfolding named
named-text-text u b rest c others is behind_is = ap (whole role.Base only) (is ∙ ap (bytes b) behind_is) ∙ sym (ap named (is ∙ ap (bytes b) behind_is))

pub named-text-std : (u : Unshared) (b : List ℕ) (rest one others : Unshared) → u ≡ bytes b rest → rest ≡ item one others → others ≡ done → in_std b rest ≡ named u
unfolding named
named-text-std u b rest one others is behind_is none =
    ap (in_std b) (behind_is ∙ ap (item one) none) ∙ sym (ap named (is ∙ ap (bytes b) (behind_is ∙ ap (item one) none)))

pub named-text-item-text : (u : Unshared) (b : List ℕ) (rest one others : Unshared) (c : List ℕ) (more : Unshared) → u ≡ bytes b rest → rest ≡ item one others → others ≡ bytes c more → whole role.Base only u ≡ named u
unfolding named
named-text-item-text u b rest one others c more is behind_is last =
    ap (whole role.Base only) (is ∙ ap (bytes b) (behind_is ∙ ap (item one) last)) ∙ sym (ap named (is ∙ ap (bytes b) (behind_is ∙ ap (item one) last)))

pub named-text-item-item : (u : Unshared) (b : List ℕ) (rest one others other more : Unshared) → u ≡ bytes b rest → rest ≡ item one others → others ≡ item other more → whole role.Base only u ≡ named u
unfolding named
named-text-item-item u b rest one others other more is behind_is last =
    ap (whole role.Base only) (is ∙ ap (bytes b) (behind_is ∙ ap (item one) last)) ∙ sym (ap named (is ∙ ap (bytes b) (behind_is ∙ ap (item one) last)))

-- the lengths of the first n bytes of a text and of the rest
pub front-lengths : (n : ℕ) (b : List ℕ) (count front : ℕ) → count ≡ length b → front ≡ min count n → (front ≡ length (take n b)) × (count - front ≡ length (drop n b))
front-lengths n b count front long is = (omega (arith, long, is, length-take n b), omega (arith, long, is, length-drop n b))

pub abbreviation-lengths : (b : List ℕ) (count front between : ℕ) → count ≡ length b → front ≡ min count 3 → between ≡ min (count - front) 2
    → (front ≡ length (take 3 b)) × (between ≡ length (take 2 (drop 3 b))) × ((count - front) - between ≡ length (drop 2 (drop 3 b)))
abbreviation-lengths b count front between long is next = (
  omega (arith, long, is, length-take 3 b),
  omega (arith, long, is, next, length-take 2 (drop 3 b), length-drop 3 b),
  omega (arith, long, is, next, length-drop 2 (drop 3 b), length-drop 3 b),
)

-- ## Names by their sorts

pub sort-instance : (y : ReadSymbol) (tags : ℕ) (sort : NameSort) (n m : ℕ) (u one rest : Unshared) → sort ≡ names.Instance n m → u ≡ item one rest
    → name tags (plain_tree (table_of y) n) one before arguments (plain_tree (table_of y) m) rest ≡ name_by y tags sort u
unfolding name_by
sort-instance y tags sort n m u one rest e is = sym (ap (λ s. name_by y tags s u) e ∙ ap (name_by y tags (names.Instance n m)) is)

pub sort-tagged : (y : ReadSymbol) (tags : ℕ) (sort : NameSort) (n : ℕ) (u one rest : Unshared) → sort ≡ names.Tagged n → u ≡ item one rest
    → name (tags + 1) (plain_tree (table_of y) n) one before whole role.AbiTag (numbered tags) rest ≡ name_by y tags sort u
unfolding name_by
sort-tagged y tags sort n u one rest e is = sym (ap (λ s. name_by y tags s u) e ∙ ap (name_by y tags (names.Tagged n)) is)

pub sort-inner : (y : ReadSymbol) (tags : ℕ) (sort : NameSort) (n : ℕ) (u one rest : Unshared) → sort ≡ names.Inner n → u ≡ item one rest
    → name tags (plain_tree (table_of y) n) one before plain rest ≡ name_by y tags sort u
unfolding name_by
sort-inner y tags sort n u one rest e is = sym (ap (λ s. name_by y tags s u) e ∙ ap (name_by y tags (names.Inner n)) is)

pub sort-abbreviation : (y : ReadSymbol) (tags : ℕ) (sort : NameSort) (u one rest : Unshared) → sort ≡ names.Abbreviation → u ≡ item one rest → whole role.Base only u ≡ name_by y tags sort u
unfolding name_by abbreviated
sort-abbreviation y tags sort u one rest e is = ap (whole role.Base only) is ∙ sym (ap (λ s. name_by y tags s u) e ∙ ap (name_by y tags names.Abbreviation) is)

pub sort-other : (y : ReadSymbol) (tags : ℕ) (sort : NameSort) (u : Unshared) → sort ≡ names.Other → named u ≡ name_by y tags sort u
sort-other y tags sort u e = by-no-name tags y u ∙ sym (ap (λ s. name_by y tags s u) e)

pub below-first : (count : ℕ) (sort : NameSort) (n m : ℕ) → sort ≡ names.Instance n m → AreNamesBelow count sort → n < count
below-first count sort n m e below = (subst (AreNamesBelow count) e below).0

pub below-second : (count : ℕ) (sort : NameSort) (n m : ℕ) → sort ≡ names.Instance n m → AreNamesBelow count sort → m < count
below-second count sort n m e below = (subst (AreNamesBelow count) e below).1

pub below-tagged : (count : ℕ) (sort : NameSort) (n : ℕ) → sort ≡ names.Tagged n → AreNamesBelow count sort → n < count
below-tagged count sort n e below = subst (AreNamesBelow count) e below

pub below-inner : (count : ℕ) (sort : NameSort) (n : ℕ) → sort ≡ names.Inner n → AreNamesBelow count sort → n < count
below-inner count sort n e below = subst (AreNamesBelow count) e below

nothing-by : (y : ReadSymbol) (tags : ℕ) (sort : NameSort) → whole role.Base only done ≡ name_by y tags sort done
unfolding name_by abbreviated named
nothing-by y tags (names.Instance n m) = refl
nothing-by y tags (names.Tagged n) = refl
nothing-by y tags (names.Inner n) = refl
nothing-by y tags names.Abbreviation = refl
nothing-by y tags names.Other = refl

pub byname-nothing : (y : ReadSymbol) (tags : ℕ) (sort : NameSort) (u : Unshared) → u ≡ done → whole role.Base only u ≡ name_by y tags sort u
byname-nothing y tags sort u is = ap (whole role.Base only) is ∙ nothing-by y tags sort ∙ sym (ap (name_by y tags sort) is)

pub byname-abbreviation : (y : ReadSymbol) (tags : ℕ) (sort : NameSort) (u : Unshared) (b : List ℕ) (rest : Unshared) → sort ≡ names.Abbreviation → u ≡ bytes b rest → abbreviated (bytes b rest) ≡ name_by y tags sort u
unfolding name_by
byname-abbreviation y tags sort u b rest e is = sym (ap (λ s. name_by y tags s u) e ∙ ap (name_by y tags names.Abbreviation) is)

text-by : (y : ReadSymbol) (tags : ℕ) (sort : NameSort) (b : List ℕ) (rest : Unshared) → (sort ≡ names.Abbreviation → ⊥) → named (bytes b rest) ≡ name_by y tags sort (bytes b rest)
unfolding name_by
text-by y tags (names.Instance n m) b rest other = refl
text-by y tags (names.Tagged n) b rest other = refl
text-by y tags (names.Inner n) b rest other = refl
text-by y tags names.Abbreviation b rest other = absurd (other refl)
text-by y tags names.Other b rest other = refl

pub byname-text : (y : ReadSymbol) (tags : ℕ) (sort : NameSort) (u : Unshared) (b : List ℕ) (rest : Unshared) → (sort ≡ names.Abbreviation → ⊥) → u ≡ bytes b rest → named u ≡ name_by y tags sort u
byname-text y tags sort u b rest other is = ap named is ∙ text-by y tags sort b rest other ∙ sym (ap (name_by y tags sort) is)

-- ## Encodings

pub called-nothing : (n p : Term) (u : Unshared) → u ≡ done → plain u ≡ called n p u
unfolding called
called-nothing n p u is = ap plain is ∙ sym (ap (called n p) is)

pub called-text : (n p : Term) (u : Unshared) (b : List ℕ) (rest : Unshared) → u ≡ bytes b rest → plain u ≡ called n p u
unfolding called
called-text n p u b rest is = ap plain is ∙ sym (ap (called n p) is)

pub called-item : (n p : Term) (u one rest : Unshared) → u ≡ item one rest → name 0 n one before parameters p rest ≡ called n p u
unfolding called
called-item n p u one rest is = sym (ap (called n p) is)

pub returning-nothing : (nothing : Bool) (n p : Term) (u : Unshared) → nothing ≡ true → called n p u ≡ returning nothing n p u
unfolding returning
returning-nothing nothing n p u e = sym (ap (λ x. returning x n p u) e)

pub returning-some : (nothing : Bool) (n p : Term) (u : Unshared) → nothing ≡ false → returning false n p u ≡ returning nothing n p u
returning-some nothing n p u e = sym (ap (λ x. returning x n p u) e)

pub returning-done : (nothing : Bool) (n p : Term) (u : Unshared) → nothing ≡ false → u ≡ done → called n p u ≡ returning nothing n p u
unfolding returning
returning-done nothing n p u e is = ap (called n p) is ∙ sym (ap (λ x. returning x n p u) e ∙ ap (returning false n p) is)

pub returning-text : (nothing : Bool) (n p : Term) (u : Unshared) (b : List ℕ) (rest : Unshared) → nothing ≡ false → u ≡ bytes b rest → called n p u ≡ returning nothing n p u
unfolding returning
returning-text nothing n p u b rest e is = ap (called n p) is ∙ sym (ap (λ x. returning x n p u) e ∙ ap (returning false n p) is)

pub returning-item-done : (n p : Term) (u one rest : Unshared) → u ≡ item one rest → rest ≡ done → called n p u ≡ returning false n p u
unfolding returning
returning-item-done n p u one rest is none = ap (called n p) (is ∙ ap (item one) none) ∙ sym (ap (returning false n p) (is ∙ ap (item one) none))

pub returning-item-item : (n p : Term) (u one rest other others : Unshared) → u ≡ item one rest → rest ≡ item other others → called n p u ≡ returning false n p u
unfolding returning
returning-item-item n p u one rest other others is next = ap (called n p) (is ∙ ap (item one) next) ∙ sym (ap (returning false n p) (is ∙ ap (item one) next))

pub returning-item-text : (n p : Term) (u one rest : Unshared) (b : List ℕ) (others : Unshared) → u ≡ item one rest → rest ≡ bytes b others
    → alone role.ReturnType only (text_of one) (text b (called n p others)) ≡ returning false n p u
unfolding returning
returning-item-text n p u one rest b others is next = sym (ap (returning false n p) (is ∙ ap (item one) next))

pub special-nothing : (specials : ℕ) (u : Unshared) → u ≡ done → plain u ≡ special_name specials u
unfolding special_name
special-nothing specials u is = ap plain is ∙ sym (ap (special_name specials) is)

pub special-item : (specials : ℕ) (u one rest : Unshared) → u ≡ item one rest → plain u ≡ special_name specials u
unfolding special_name
special-item specials u one rest is = ap plain is ∙ sym (ap (special_name specials) is)

pub special-text : (specials : ℕ) (u : Unshared) (b : List ℕ) (rest : Unshared) → u ≡ bytes b rest → words specials b (whole role.Object only rest) ≡ special_name specials u
unfolding special_name
special-text specials u b rest is = sym (ap (special_name specials) is)

pub variable-nothing : (y : ReadSymbol) (specials : ℕ) (n : ℕ) (u : Unshared) → u ≡ done → special_name specials u ≡ encoding_by y specials (encodings.Variable n) u
unfolding encoding_by
variable-nothing y specials n u is = ap (special_name specials) is ∙ sym (ap (encoding_by y specials (encodings.Variable n)) is)

variable-other : (y : ReadSymbol) (specials : ℕ) (n : ℕ) (b : List ℕ) (rest : Unshared) → special_name specials (bytes b rest) ≡ encoding_by y specials (encodings.Variable n) (bytes b rest)
unfolding encoding_by
variable-other y specials n b done = refl
variable-other y specials n b (bytes c rest) = refl
variable-other y specials n b (item one rest) = refl

pub variable-text : (y : ReadSymbol) (specials : ℕ) (n : ℕ) (u : Unshared) (b : List ℕ) (rest : Unshared) → u ≡ bytes b rest → special_name specials u ≡ encoding_by y specials (encodings.Variable n) u
variable-text y specials n u b rest is = ap (special_name specials) is ∙ variable-other y specials n b rest ∙ sym (ap (encoding_by y specials (encodings.Variable n)) is)

pub variable-item : (y : ReadSymbol) (specials : ℕ) (n : ℕ) (u one rest : Unshared) → u ≡ item one rest → name 0 (plain_tree (table_of y) n) one before behind rest ≡ encoding_by y specials (encodings.Variable n) u
unfolding encoding_by
variable-item y specials n u one rest is = sym (ap (encoding_by y specials (encodings.Variable n)) is)

pub target-nothing : (y : ReadSymbol) (specials : ℕ) (n : ℕ) (u : Unshared) → u ≡ done → special_name specials u ≡ encoding_by y specials (encodings.Target n) u
unfolding encoding_by
target-nothing y specials n u is = ap (special_name specials) is ∙ sym (ap (encoding_by y specials (encodings.Target n)) is)

pub target-item : (y : ReadSymbol) (specials : ℕ) (n : ℕ) (u one rest : Unshared) → u ≡ item one rest → special_name specials u ≡ encoding_by y specials (encodings.Target n) u
unfolding encoding_by
target-item y specials n u one rest is = ap (special_name specials) is ∙ sym (ap (encoding_by y specials (encodings.Target n)) is)

pub target-text-nothing : (y : ReadSymbol) (specials : ℕ) (n : ℕ) (u : Unshared) (b : List ℕ) (rest : Unshared) → u ≡ bytes b rest → rest ≡ done → special_name specials u ≡ encoding_by y specials (encodings.Target n) u
unfolding encoding_by
target-text-nothing y specials n u b rest is none = ap (special_name specials) (is ∙ ap (bytes b) none) ∙ sym (ap (encoding_by y specials (encodings.Target n)) (is ∙ ap (bytes b) none))

pub target-text-text : (y : ReadSymbol) (specials : ℕ) (n : ℕ) (u : Unshared) (b : List ℕ) (rest : Unshared) (c : List ℕ) (others : Unshared) → u ≡ bytes b rest → rest ≡ bytes c others → special_name specials u ≡ encoding_by y specials (encodings.Target n) u
unfolding encoding_by
target-text-text y specials n u b rest c others is next = ap (special_name specials) (is ∙ ap (bytes b) next) ∙ sym (ap (encoding_by y specials (encodings.Target n)) (is ∙ ap (bytes b) next))

pub target-text-item : (y : ReadSymbol) (specials : ℕ) (n : ℕ) (u : Unshared) (b : List ℕ) (rest one others : Unshared) → u ≡ bytes b rest → rest ≡ item one others
    → words specials b (encoding (specials + 1) (plain_tree (table_of y) n) one before plain others) ≡ encoding_by y specials (encodings.Target n) u
unfolding encoding_by
target-text-item y specials n u b rest one others is next = sym (ap (encoding_by y specials (encodings.Target n)) (is ∙ ap (bytes b) next))

pub symbol-other : (t : Term) (u : Unshared) → ((fields_of t).production ≡ SYMBOL → ⊥) → plain u ≡ symbol_marked t u
unfolding symbol_marked fields_of
symbol-other (symbol e suffix) u h = absurd (h refl)
symbol-other t done h = refl
symbol-other t (bytes b rest) h = refl
symbol-other t (item one rest) h = refl

pub symbol-nothing : (t e : Term) (suffix : List ℕ) (u : Unshared) → t ≡ symbol e suffix → u ≡ done → plain u ≡ symbol_marked t u
unfolding symbol_marked
symbol-nothing t e suffix u is none = ap plain none ∙ sym (ap (symbol_marked t) none ∙ ap (λ x. symbol_marked x done) is)

pub symbol-text : (t e : Term) (suffix : List ℕ) (u : Unshared) (b : List ℕ) (rest : Unshared) → t ≡ symbol e suffix → u ≡ bytes b rest → plain u ≡ symbol_marked t u
unfolding symbol_marked
symbol-text t e suffix u b rest is next = ap plain next ∙ sym (ap (symbol_marked t) next ∙ ap (λ x. symbol_marked x (bytes b rest)) is)

pub symbol-item : (t e n : Term) (suffix : List ℕ) (u one rest : Unshared) → t ≡ symbol e suffix → e ≡ n → u ≡ item one rest → encoding 0 n one before suffixed rest ≡ symbol_marked t u
unfolding symbol_marked
symbol-item t e n suffix u one rest is same next =
    sym (ap (λ x. encoding 0 x one before suffixed rest) same) ∙ sym (ap (symbol_marked t) next ∙ ap (λ x. symbol_marked x (item one rest)) is)

pub suffix-nothing : (u : Unshared) → u ≡ done → plain u ≡ suffixed u
unfolding suffixed
suffix-nothing u is = ap plain is ∙ sym (ap suffixed is)

pub suffix-item : (u one rest : Unshared) → u ≡ item one rest → plain u ≡ suffixed u
unfolding suffixed
suffix-item u one rest is = ap plain is ∙ sym (ap suffixed is)

pub suffix-text-nothing : (u : Unshared) (b : List ℕ) (rest : Unshared) → u ≡ bytes b rest → rest ≡ done → plain u ≡ suffixed u
unfolding suffixed
suffix-text-nothing u b rest is none = ap plain (is ∙ ap (bytes b) none) ∙ sym (ap suffixed (is ∙ ap (bytes b) none))

pub suffix-text-item : (u : Unshared) (b : List ℕ) (rest one others : Unshared) → u ≡ bytes b rest → rest ≡ item one others → plain u ≡ suffixed u
unfolding suffixed
suffix-text-item u b rest one others is next = ap plain (is ∙ ap (bytes b) next) ∙ sym (ap suffixed (is ∙ ap (bytes b) next))

pub suffix-text-text : (u : Unshared) (b : List ℕ) (rest : Unshared) (c : List ℕ) (others : Unshared) → u ≡ bytes b rest → rest ≡ bytes c others → text b (alone role.Suffix only c (plain others)) ≡ suffixed u
unfolding suffixed
suffix-text-text u b rest c others is next = sym (ap suffixed (is ∙ ap (bytes b) next))
