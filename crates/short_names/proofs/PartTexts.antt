-- Short and full texts of texts that are made of parts: what they are, list by list.
use Rattle.short_names.proofs.Basics.{if◌then◌else◌, ◌≡◌, ◌==◌, ◌<◌, ◌&&◌, ◌||◌, not, nat_eq, nat_le, refl, sym, ap, ap₂, subst, ◌∙◌, ℕ, zero, suc, arith, Bool, true, false, List, [], ◌∷◌, ◌++◌, length, take, Option, None, Some, append-nil, and_parts, true≢false, pointwise, list_all, Named, Alias, Place, joined, listed, element, left, left_of, is_polymorphic, alias_in, aliases_of, filled_for, full, full_to, full_rules, with_defaults, named_in, Inner, has_default, inner_part, is_form, is_placed, is_plain_list, Parts, ends, list_then, Elements, no_more, element_then, written, each_written, as_it_is, text_from, begins_free, is_bare, is_empty, is_no_hole, has_aliases, has_some, has_usual, are_apart, each_apart, all_lists, all_lists_in, is_called, is_known, is_simple_list, is_usual, left_list, name_of, short_bytes, full_bytes, is_none_of_pmr, has_form, usual_by, usual_for, usual_instance, filled, short, text_of, Rules}
use lib.Pointwise.{bytes_decides}
use Rattle.short_names.specs.Full as of_full
use Rattle.short_names.specs.Short as of_short
use Rattle.short_names.proofs.NameSteps.{no_named}
use Rattle.short_names.proofs.PartChanges.{changed, each_changed, each-changed-apart, changed-all, each-changed-all, inner-follow, same-written}
use Rattle.short_names.proofs.PartDefaults.{IsSimple, lacks, lacks-plain, lacks-is, lacks-first, lacks-forms, left-some}
use Rattle.short_names.proofs.PartForms.{and-both, filled-more, filled-name, form-all, form-apart, form-written, in_holes}
use Rattle.short_names.proofs.PartLists.{HasAny, HasForm, HaveEach, HaveForms, added, added-all, added-apart, added-some, added-written, any-of, any_by, any_part, by-any, count, count-is, part_at, part-written, part-apart, part-all, taken, taken-written, taken-some, taken-apart, and_one, one-written, one-count, one-apart, one-all, default_part, default-written, default-apart, default-all, part_defaults, defaults-some, defaults-apart, defaults-all, form-of}
use Rattle.short_names.proofs.PartRules.{full-obeys, plain-list, plain-named, short-called, short-simple, simple-named}
use Rattle.short_names.proofs.PartWalks.{Calls, bare-calls, by-inner-parts, not-true}
use Rattle.short_names.proofs.UsualSteps.{tested}

-- ## The elements of a list, short and full

unfoldable pub short_list_of : Option Named → Elements → Elements
short_list_of None elements = elements
short_list_of (Some named) elements = taken (left named (each_written as_it_is elements)) elements

unfoldable pub short_elements : List ℕ → Elements → Elements
short_elements name elements = short_list_of (named_in name) elements

-- the usual name that a short text has for a list; empty if it has the list itself
unfoldable pub or_bare : Option (List ℕ) → List ℕ
or_bare None = []
or_bare (Some called) = called

unfoldable pub short_usual : List ℕ → Elements → List ℕ
short_usual name elements = or_bare (usual_for name (each_written as_it_is elements))

unfoldable pub full_usual : List ℕ → Elements → List ℕ
full_usual name elements = []

-- the elements of a list that is a default, in full
unfoldable pub plain_list_of : Option Named → Elements → Elements
plain_list_of None elements = elements
plain_list_of (Some named) elements = part_defaults named elements (lacks named (count elements))

unfoldable pub plain_elements : List ℕ → Elements → Elements
plain_elements name elements = plain_list_of (named_in name) elements

-- a default, as it is and in full
unfoldable pub as_default : Named → Elements → List ℕ → Parts
as_default = any_part (λ name elements. elements)

unfoldable pub full_default : Named → Elements → List ℕ → Parts
full_default = any_part plain_elements

unfoldable pub full_list_of : Option Named → Elements → Elements
full_list_of None elements = elements
full_list_of (Some named) elements = added (full_default named) elements (lacks named (count elements))

unfoldable pub full_elements : List ℕ → Elements → Elements
full_elements name elements = full_list_of (named_in name) elements

-- a list is one of the table, or has no name
pub by-name : (P : List ℕ → Type 0) → P [] → ((name : List ℕ) (named : Named) → is_simple_list name ≡ true → named_in name ≡ Some named → IsSimple named → P name)
    → (name : List ℕ) → (is_bare name || is_simple_list name) ≡ true → P name
by-name P bare simple [] is = bare
by-name P bare simple (byte ∷ name) is = let n = simple-named (byte ∷ name) is in simple (byte ∷ name) n.0 is n.1 n.2

pub bare-named : named_in [] ≡ None
bare-named = no_named [] refl

pub bare-usual : (xs : List (List ℕ)) → usual_for [] xs ≡ None
unfolding usual_for
bare-usual xs = ap (λ o. usual_by o [] xs) bare-named

pub bare-short : (usual : List ℕ) (xs : List (List ℕ)) → short_bytes usual [] xs ≡ listed xs
unfolding short_bytes
bare-short usual xs = ap (λ (o : Option Named). (of_short.for_list o [] xs []).bytes) bare-named

pub some-length : (for_list : List ℕ → List ℕ → List (List ℕ) → List ℕ) (elements : Elements) → has_some elements ≡ true → 0 < length (each_written for_list elements)
unfolding written
some-length f no_more some = absurd (true≢false (sym some))
some-length f (element_then e others) some = omega arith

pub left-positive : (named : Named) → IsSimple named → (xs : List (List ℕ)) → 0 < length xs → 0 < left named xs
left-positive named simple xs some = by (nat_le (length xs) named.template.count)
  where
    by : (b : Bool) → 0 < (if b then left_of named xs (length xs) else length xs)
    by true = left-some named simple xs (length xs) some
    by false = some

-- a list whose template has no usual names isn't written by a usual name
none-called : (name : List ℕ) (o : Option Named) (xs : List (List ℕ)) → has_aliases o ≡ false → is_bare (or_bare (usual_by o name xs)) ≡ true
unfolding or_bare alias_in
none-called name None xs none = refl
none-called name (Some named) xs none = by (aliases_of named) none
  where
    by : (rows : List Alias) → not (is_empty rows) ≡ false → is_bare (or_bare (name_of named name (alias_in rows named xs (left named xs)))) ≡ true
    by [] e = refl
    by (row ∷ rows) e = absurd (true≢false e)

pub short-plain : (name : List ℕ) (elements : Elements) → has_usual name ≡ false → is_bare (short_usual name elements) ≡ true
unfolding short_usual usual_for has_usual
short-plain name elements none = none-called name (named_in name) (each_written as_it_is elements) none

pub full-plain : (name : List ℕ) (elements : Elements) → has_usual name ≡ false → is_bare (full_usual name elements) ≡ true
unfolding full_usual
full-plain name elements none = refl

-- ## Defaults that may be lists of the table

-- a list alone
placed-alone : (name : List ℕ) → is_simple_list name ≡ true → is_placed is_simple_list [] name ends ≡ true
placed-alone [] list = refl
placed-alone (byte ∷ name) list = and-both _ _ list (by (has_usual (byte ∷ name)))
  where
    by : (b : Bool) → (if b then begins_free ends true else is_bare []) ≡ true
    by true = refl
    by false = refl

-- a pattern that is a list, with its holes filled
pub inner-filled : (named : Named) (xs : List (List ℕ)) (inner : Inner) → list_all is_no_hole inner.name ≡ true
    → filled_for named xs (text_from (inner_part inner)) ≡ filled [] [] (text_of named.whole) inner.name ++ listed (filled_for named xs (text_from inner.argument) ∷ [])
unfolding written joined filled
inner-filled named xs inner none =
    let x : List ℕ = element xs 0 in
    let y : List ℕ = element xs 1 in
    let whole : List ℕ = text_of named.whole in
    let argument : List ℕ = text_from inner.argument in
    ap (filled x y whole) (append-nil (inner.name ++ (60 ∷ argument ++ 62 ∷ [])))
    ∙ filled-more x y whole inner.name (60 ∷ argument ++ 62 ∷ [])
    ∙ ap₂ (λ s t. s ++ t) (filled-name x y whole inner.name none) (ap (λ t. 60 ∷ t) (filled-more x y whole argument (62 ∷ [])))

module _ (elements_of : List ℕ → Elements → Elements) (named : Named) (elements : Elements) (pattern : List ℕ) (has : HasAny named pattern) where
  argument_in : Inner → Parts
  argument_in inner = in_holes (part_at elements 0) (part_at elements 1) (text_of named.whole) inner.argument

  pub any-apart : ((name : List ℕ) (es : Elements) → is_plain_list name ≡ true → has_some es ≡ true → each_apart is_simple_list es ≡ true
      → (has_some (elements_of name es) ≡ true) × (each_apart is_simple_list (elements_of name es) ≡ true))
      → each_apart is_simple_list elements ≡ true → are_apart is_simple_list true (any_part elements_of named elements pattern) ≡ true
  unfolding argument_in any_by are_apart
  any-apart stay good =
      by-any elements_of named elements pattern (λ p. are_apart is_simple_list true p ≡ true) has
      (λ form is text. form-apart is_simple_list (part_at elements 0) (part_at elements 1) (text_of named.whole) (part-apart is_simple_list elements 0 good) (part-apart is_simple_list elements 1 good) form is)
      (λ inner none plain form text.
      let n : List ℕ = filled [] [] (text_of named.whole) inner.name in
      let argument = form-apart is_simple_list (part_at elements 0) (part_at elements 1) (text_of named.whole) (part-apart is_simple_list elements 0 good) (part-apart is_simple_list elements 1 good) inner.argument form in
      let s = stay n (element_then (argument_in inner) no_more) plain refl (and-both _ _ argument refl) in
      and-both _ _ (placed-alone n (plain-list n plain)) (and-both _ _ s.0 (and-both _ _ s.1 refl)))

  pub any-all : (test : List ℕ → List ℕ → Elements → Bool) → ((es : Elements) → test [] [] es ≡ true)
      → ((name : List ℕ) (es : Elements) → is_plain_list name ≡ true → all_lists_in test es ≡ true → (test [] name (elements_of name es) ≡ true) × (all_lists_in test (elements_of name es) ≡ true))
      → all_lists_in test elements ≡ true → all_lists test (any_part elements_of named elements pattern) ≡ true
  unfolding argument_in any_by all_lists
  any-all test bare ok all =
      by-any elements_of named elements pattern (λ p. all_lists test p ≡ true) has
      (λ form is text. form-all test bare (part_at elements 0) (part_at elements 1) (text_of named.whole) (part-all test elements 0 all) (part-all test elements 1 all) form is)
      (λ inner none plain form text.
      let n : List ℕ = filled [] [] (text_of named.whole) inner.name in
      let argument = form-all test bare (part_at elements 0) (part_at elements 1) (text_of named.whole) (part-all test elements 0 all) (part-all test elements 1 all) inner.argument form in
      let s = ok n (element_then (argument_in inner) no_more) plain (and-both _ _ argument refl) in
      and-both _ _ s.0 (and-both _ _ s.1 refl))

-- the text of a form with arguments
pub form-filled : (named : Named) (elements : Elements) (f : List ℕ → List ℕ → List (List ℕ) → List ℕ) → ((es : List (List ℕ)) → f [] [] es ≡ listed es) → (form : Parts) → is_form (text_of named.whole) form ≡ true
    → written f (in_holes (part_at elements 0) (part_at elements 1) (text_of named.whole) form) ≡ filled_for named (each_written f elements) (text_from form)
form-filled named elements f bare form is =
    form-written f bare (part_at elements 0) (part_at elements 1) (text_of named.whole) form is
    ∙ ap₂ (λ x y. filled x y (text_of named.whole) (text_from form)) (part-written f elements 0) (part-written f elements 1)

-- a default as it is, where rules leave its list unchanged
pub as-written : (f : List ℕ → List ℕ → List (List ℕ) → List ℕ) → ((es : List (List ℕ)) → f [] [] es ≡ listed es) → ((name x : List ℕ) → is_plain_list name ≡ true → f [] name (x ∷ []) ≡ name ++ listed (x ∷ []))
    → (named : Named) (elements : Elements) (pattern : List ℕ) → HasAny named pattern → written f (as_default named elements pattern) ≡ filled_for named (each_written f elements) pattern
unfolding as_default any_by written
as-written f bare stays named elements pattern has =
    by-any (λ name elements. elements) named elements pattern (λ p. written f p ≡ filled_for named (each_written f elements) pattern) has
    (λ form is text. form-filled named elements f bare form is ∙ ap (filled_for named (each_written f elements)) text)
    (λ inner none plain form text.
    let n : List ℕ = filled [] [] (text_of named.whole) inner.name in
    let argument : List ℕ = written f (in_holes (part_at elements 0) (part_at elements 1) (text_of named.whole) inner.argument) in
    append-nil (f [] n (argument ∷ [])) ∙ stays n argument plain
    ∙ ap (λ t. n ++ listed (t ∷ [])) (form-filled named elements f bare inner.argument form)
    ∙ sym (inner-filled named (each_written f elements) inner none)
    ∙ ap (filled_for named (each_written f elements)) text)

-- the elements of a short list stay apart
pub short-stay : (name : List ℕ) (elements : Elements) → (is_bare name || is_simple_list name) ≡ true → has_some elements ≡ true → each_apart is_simple_list elements ≡ true
    → (has_some (short_elements name elements) ≡ true) × (each_apart is_simple_list (short_elements name elements) ≡ true)
unfolding short_elements short_list_of
short-stay name elements is some good =
    by-name (λ name. (has_some (short_list_of (named_in name) elements) ≡ true) × (each_apart is_simple_list (short_list_of (named_in name) elements) ≡ true))
    (subst (λ o. (has_some (short_list_of o elements) ≡ true) × (each_apart is_simple_list (short_list_of o elements) ≡ true)) (sym bare-named) (some, good))
    (λ name named list found simple.
    subst (λ o. (has_some (short_list_of o elements) ≡ true) × (each_apart is_simple_list (short_list_of o elements) ≡ true)) (sym found) (
      taken-some (left named (each_written as_it_is elements)) elements (left-positive named simple (each_written as_it_is elements) (some-length as_it_is elements some)) some,
      taken-apart is_simple_list (left named (each_written as_it_is elements)) elements good,
    ))
    name is

-- likewise the elements of a list that is a default
plain-stay : (name : List ℕ) (elements : Elements) → is_plain_list name ≡ true → has_some elements ≡ true → each_apart is_simple_list elements ≡ true
    → (has_some (plain_elements name elements) ≡ true) × (each_apart is_simple_list (plain_elements name elements) ≡ true)
unfolding plain_elements plain_list_of
plain-stay name elements is some good =
    let n = plain-named name is in
    let named : Named = n.0 in
    subst (λ o. (has_some (plain_list_of o elements) ≡ true) × (each_apart is_simple_list (plain_list_of o elements) ≡ true)) (sym n.1)
    (defaults-some named elements (lacks named (count elements)) some, defaults-apart is_simple_list named elements (lacks named (count elements)) (lacks-plain named (count elements) n.2) good)

pub full-stay : (name : List ℕ) (elements : Elements) → (is_bare name || is_simple_list name) ≡ true → has_some elements ≡ true → each_apart is_simple_list elements ≡ true
    → (has_some (full_elements name elements) ≡ true) × (each_apart is_simple_list (full_elements name elements) ≡ true)
unfolding full_elements full_list_of full_default
full-stay name elements is some good =
    by-name (λ name. (has_some (full_list_of (named_in name) elements) ≡ true) × (each_apart is_simple_list (full_list_of (named_in name) elements) ≡ true))
    (subst (λ o. (has_some (full_list_of o elements) ≡ true) × (each_apart is_simple_list (full_list_of o elements) ≡ true)) (sym bare-named) (some, good))
    (λ name named list found simple.
    subst (λ o. (has_some (full_list_of o elements) ≡ true) × (each_apart is_simple_list (full_list_of o elements) ≡ true)) (sym found) (
      added-some (full_default named) (has_default (text_of named.whole)) elements (lacks named (count elements)) some,
      added-apart (full_default named) (has_default (text_of named.whole)) is_simple_list (λ es pattern has filled_in apart. any-apart plain_elements named es pattern (any-of named pattern has filled_in) plain-stay apart)
          elements (lacks named (count elements)) (lacks-forms named (count elements) simple) good,
    ))
    name is

-- ## Usual names of lists

-- what is known of a list with a usual name
pub called-is : (called usual name : List ℕ) (xs : List (List ℕ)) → is_called (Some called) usual name xs ≡ true
    → (is_usual called ≡ true) × (usual_instance called ≡ left_list (named_in name) name xs) × (is_bare usual ≡ false → usual ≡ called)
called-is called usual name xs is =
    let a = and_parts (is_usual called) _ is in
    let b = and_parts (pointwise nat_eq (usual_instance called) (left_list (named_in name) name xs)) _ a.1 in
    (a.0, (bytes_decides (usual_instance called) (left_list (named_in name) name xs)).0 b.0, λ some. (bytes_decides usual called).0 (by (is_bare usual) some b.1))
  where
    by : (b : Bool) → b ≡ false → (b || pointwise nat_eq usual called) ≡ true → pointwise nat_eq usual called ≡ true
    by true e h = absurd (true≢false e)
    by false e h = h

-- the usual name that a short text has for the list
short-name-of : (usual name : List ℕ) (named : Named) (xs : List (List ℕ)) → named_in name ≡ Some named → (o : Option Alias) → alias_in (aliases_of named) named xs (left named xs) ≡ o
    → is_polymorphic named xs ≡ false → (called : Option (List ℕ)) → name_of named name o ≡ called → short_bytes usual name xs ≡ elim called [ None ↦ name ++ listed (take (left named xs) xs) | Some it ↦ it ]
short-name-of usual name named xs found None is none called e = short-simple usual name named xs found is none ∙ ap (λ (c : Option (List ℕ)). elim c [ None ↦ name ++ listed (take (left named xs) xs) | Some it ↦ it ]) e
short-name-of usual name named xs found (Some alias) is none called e = short-called usual name named xs alias found is ∙ ap (λ (c : Option (List ℕ)). elim c [ None ↦ name ++ listed (take (left named xs) xs) | Some it ↦ it ]) e

usual-found : (name : List ℕ) (named : Named) (xs : List (List ℕ)) → named_in name ≡ Some named → usual_for name xs ≡ name_of named name (alias_in (aliases_of named) named xs (left named xs))
unfolding usual_for
usual-found name named xs found = ap (λ o. usual_by o name xs) found

pub short-of-named : (usual name : List ℕ) (named : Named) (xs : List (List ℕ)) → named_in name ≡ Some named → is_polymorphic named xs ≡ false
    → (called : Option (List ℕ)) → usual_for name xs ≡ called → short_bytes usual name xs ≡ elim called [ None ↦ name ++ listed (take (left named xs) xs) | Some it ↦ it ]
short-of-named usual name named xs found none called e =
    short-name-of usual name named xs found (alias_in (aliases_of named) named xs (left named xs)) refl none called (sym (usual-found name named xs found) ∙ e)

is-name : (usual name : List ℕ) (xs : List (List ℕ)) → is_bare usual ≡ false → as_it_is usual name xs ≡ usual
is-name [] name xs some = absurd (true≢false some)
is-name (byte ∷ usual) name xs some = refl

-- ## Short texts

pub short-of-list : (usual name : List ℕ) (elements : Elements) → (is_bare name || is_simple_list name) ≡ true → has_some elements ≡ true → each_apart is_simple_list elements ≡ true → is_known usual name elements ≡ true
    → all_lists_in is_known elements ≡ true → each_written as_it_is (each_changed short_elements short_usual elements) ≡ each_written short_bytes elements
    → as_it_is (short_usual name (each_changed short_elements short_usual elements)) name (each_written as_it_is (short_elements name (each_changed short_elements short_usual elements)))
    ≡ short_bytes usual name (each_written short_bytes elements)
unfolding short_elements short_list_of short_usual is_known or_bare written short_bytes
short-of-list usual name elements is some good known all same =
    by-name (λ name. (is_none_of_pmr (named_in name) zs && is_called (usual_for name zs) usual name zs) ≡ true
    → as_it_is (or_bare (usual_for name (each_written as_it_is new))) name (each_written as_it_is (short_list_of (named_in name) new)) ≡ short_bytes usual name zs)
    (λ h. bare)
    (λ name named list found simple h.
    let k = and_parts (is_none_of_pmr (named_in name) zs) _ h in
    let none : is_polymorphic named zs ≡ false = not-true (is_polymorphic named zs) (subst (λ o. is_none_of_pmr o zs ≡ true) found k.0) in
    ap (λ xs. as_it_is (or_bare (usual_for name xs)) name (each_written as_it_is (short_list_of (named_in name) new))) same
    ∙ by name named found none (usual_for name zs) refl k.1)
    name is known
  where
    new : Elements
    new = each_changed short_elements short_usual elements

    zs : List (List ℕ)
    zs = each_written short_bytes elements

    bare : as_it_is (or_bare (usual_for [] (each_written as_it_is new))) [] (each_written as_it_is (short_list_of (named_in []) new)) ≡ short_bytes usual [] zs
    bare =
        ap (λ u. as_it_is (or_bare u) [] (each_written as_it_is (short_list_of (named_in []) new))) (bare-usual (each_written as_it_is new))
        ∙ ap (λ o. 60 ∷ joined (each_written as_it_is (short_list_of o new)) ++ 62 ∷ []) bare-named ∙ ap listed same
        ∙ sym (bare-short usual zs)

    by : (name : List ℕ) (named : Named) → named_in name ≡ Some named → is_polymorphic named zs ≡ false → (called : Option (List ℕ)) → usual_for name zs ≡ called → is_called called usual name zs ≡ true
        → as_it_is (or_bare called) name (each_written as_it_is (short_list_of (named_in name) new)) ≡ short_bytes usual name zs
    by name named found none None e h =
        ap (λ o. name ++ listed (each_written as_it_is (short_list_of o new))) found
        ∙ ap (λ xs. name ++ listed xs) (taken-written as_it_is (left named (each_written as_it_is new)) new ∙ ap (λ xs. take (left named xs) xs) same)
        ∙ sym (short-of-named usual name named zs found none None e)
    by name named found none (Some called) e h =
        is-name called name (each_written as_it_is (short_list_of (named_in name) new)) (tested called (called-is called usual name zs h).0).some
        ∙ sym (short-of-named usual name named zs found none (Some called) e)

-- ## Full texts

ends_there : List Place → Bool
ends_there [] = true
ends_there (place ∷ places) = length (text_of place) == 0

full_of : Option Named → ℕ → Bool
full_of None n = true
full_of (Some named) n = ends_there (lacks named n)

-- a list lacks no default
pub is_full : List ℕ → List ℕ → Elements → Bool
is_full usual name elements = is_bare usual && full_of (named_in name) (count elements)

pub full-calls : (rules : Rules) (for_list : List ℕ → List ℕ → List (List ℕ) → List ℕ) → Calls rules for_list is_full
unfolding is_full
full-calls rules for_list = bare-calls rules for_list is_full (λ usual name elements is. (and_parts (is_bare usual) _ is).0)

pub bare-full : (elements : Elements) → is_full [] [] elements ≡ true
unfolding is_full full_of
bare-full elements = ap (λ o. full_of o (count elements)) bare-named

-- defaults that are added one after the other, whatever they are
added-up : (default : Elements → List ℕ → Parts) (named : Named) (places : List Place) (elements : Elements) → lacks named (count elements) ≡ places → ends_there (lacks named (count (added default elements places))) ≡ true
unfolding ends_there added
added-up default named [] elements is = ap ends_there is
added-up default named (place ∷ places) elements is = by (length (text_of place) == 0) refl (λ es e. added-up default named places es e)
  where
    by : (b : Bool) → (length (text_of place) == 0) ≡ b → ((es : Elements) → lacks named (count es) ≡ places → ends_there (lacks named (count (added default es places))) ≡ true)
        → ends_there (lacks named (count (if b then elements else added default (and_one elements (default elements (text_of place))) places))) ≡ true
    by true e again = ap ends_there is ∙ e
    by false e again =
        let one : Elements = and_one elements (default elements (text_of place)) in
        let next : count one ≡ suc (count elements) = omega (arith, one-count elements (default elements (text_of place))) in
        again one (ap (lacks named) next ∙ (lacks-first named (count elements) place places is).1)

filled-up : (named : Named) (places : List Place) (elements : Elements) → lacks named (count elements) ≡ places → ends_there (lacks named (count (part_defaults named elements places))) ≡ true
unfolding ends_there part_defaults
filled-up named [] elements is = ap ends_there is
filled-up named (place ∷ places) elements is = by (length (text_of place) == 0) refl (λ es e. filled-up named places es e)
  where
    by : (b : Bool) → (length (text_of place) == 0) ≡ b → ((es : Elements) → lacks named (count es) ≡ places → ends_there (lacks named (count (part_defaults named es places))) ≡ true)
        → ends_there (lacks named (count (if b then elements else part_defaults named (and_one elements (default_part named elements (text_of place))) places))) ≡ true
    by true e again = ap ends_there is ∙ e
    by false e again =
        let one : Elements = and_one elements (default_part named elements (text_of place)) in
        let next : count one ≡ suc (count elements) = omega (arith, one-count elements (default_part named elements (text_of place))) in
        again one (ap (lacks named) next ∙ (lacks-first named (count elements) place places is).1)

-- a default that is a list lacks none of its own defaults
plain-full : (name : List ℕ) (elements : Elements) → is_plain_list name ≡ true → all_lists_in is_full elements ≡ true
    → (is_full [] name (plain_elements name elements) ≡ true) × (all_lists_in is_full (plain_elements name elements) ≡ true)
unfolding plain_elements plain_list_of is_full full_of
plain-full name elements is all =
    let n = plain-named name is in
    let named : Named = n.0 in
    subst (λ o. (full_of o (count (plain_list_of o elements)) ≡ true) × (all_lists_in is_full (plain_list_of o elements) ≡ true)) (sym n.1)
    (filled-up named (lacks named (count elements)) elements refl, defaults-all is_full bare-full named elements (lacks named (count elements)) (lacks-plain named (count elements) n.2) all)

pub full-list : (name : List ℕ) (elements : Elements) → (is_bare name || is_simple_list name) ≡ true → all_lists_in is_full elements ≡ true
    → (is_full (full_usual name elements) name (full_elements name elements) ≡ true) × (all_lists_in is_full (full_elements name elements) ≡ true)
unfolding full_elements full_list_of full_default full_usual is_full full_of
full-list name elements is all =
    by-name (λ name. (full_of (named_in name) (count (full_list_of (named_in name) elements)) ≡ true) × (all_lists_in is_full (full_list_of (named_in name) elements) ≡ true))
    (subst (λ o. (full_of o (count (full_list_of o elements)) ≡ true) × (all_lists_in is_full (full_list_of o elements) ≡ true)) (sym bare-named) (refl, all))
    (λ name named list found simple.
    subst (λ o. (full_of o (count (full_list_of o elements)) ≡ true) × (all_lists_in is_full (full_list_of o elements) ≡ true)) (sym found) (
      added-up (full_default named) named (lacks named (count elements)) elements refl,
      added-all (full_default named) (has_default (text_of named.whole)) is_full
          (λ es pattern has filled_in whole. any-all plain_elements named es pattern (any-of named pattern has filled_in) is_full bare-full plain-full whole)
          elements (lacks named (count elements)) (lacks-forms named (count elements) simple) all,
    ))
    name is

full-all : (p : Parts) (in_list : Bool) → are_apart is_simple_list in_list p ≡ true → all_lists is_full (changed full_elements full_usual p) ≡ true
full-all = changed-all full_elements full_usual is_simple_list is_full full-list

pub each-full-all : (elements : Elements) → each_apart is_simple_list elements ≡ true → all_lists_in is_full (each_changed full_elements full_usual elements) ≡ true
each-full-all = each-changed-all full_elements full_usual is_simple_list is_full full-list

pub full-simple : (inner : List ℕ → List ℕ) (usual name : List ℕ) (named : Named) (elements : List (List ℕ)) → named_in name ≡ Some named
    → full_bytes inner usual name elements ≡ name ++ listed (with_defaults inner named elements (lacks named (length elements)))
unfolding full_bytes
full-simple inner usual name named elements found =
    ap (λ (o : Option Named). (of_full.for_list inner name elements o).bytes) found
    ∙ ap (λ ps. name ++ listed (with_defaults inner named elements ps)) (lacks-is named (length elements))

nothing-more : (inner : List ℕ → List ℕ) (named : Named) (elements : List (List ℕ)) (places : List Place) → ends_there places ≡ true → with_defaults inner named elements places ≡ elements
unfolding with_defaults ends_there
nothing-more inner named elements [] h = refl
nothing-more inner named elements (place ∷ places) h = rw h refl

-- parts that lack nothing stay
full-kept : (inner : List ℕ → List ℕ) (p : Parts) (in_list : Bool) → are_apart is_simple_list in_list p ≡ true → all_lists is_full p ≡ true → written (full_bytes inner) p ≡ text_from p
unfolding is_full full_of
full-kept inner = same-written is_simple_list is_full (full_bytes inner) as_it_is (λ usual name elements is whole. go usual name elements is (and_parts (is_bare usual) _ whole).0 whole)
  where
    go : (usual name : List ℕ) (elements : Elements) → (is_bare name || is_simple_list name) ≡ true → is_bare usual ≡ true → is_full usual name elements ≡ true
        → full_bytes inner usual name (each_written as_it_is elements) ≡ as_it_is usual name (each_written as_it_is elements)
    go (byte ∷ usual) name elements is bare whole = absurd (true≢false (sym bare))
    go [] name elements is bare whole =
        by-name (λ name. is_full [] name elements ≡ true → full_bytes inner [] name (each_written as_it_is elements) ≡ as_it_is [] name (each_written as_it_is elements))
        (λ h. (full-obeys inner).bare_is (each_written as_it_is elements))
        (λ name named list found simple h.
        full-simple inner [] name named (each_written as_it_is elements) found
        ∙ ap (λ xs. name ++ listed xs) (nothing-more inner named (each_written as_it_is elements) (lacks named (length (each_written as_it_is elements)))
        (ap (λ n. ends_there (lacks named n)) (count-is as_it_is elements) ∙ subst (λ o. full_of o (count elements) ≡ true) found h)))
        name is whole

full-stays : (depth : ℕ) (p : Parts) → are_apart is_simple_list true p ≡ true → all_lists is_full p ≡ true → full_to depth (text_from p) ≡ text_from p
unfolding full_to
full-stays zero p good all = refl
full-stays (suc depth) p good all =
    by-inner-parts (full_rules (full_to depth)) (full_bytes (full_to depth)) is_simple_list (full-obeys (full_to depth)) is_full (full-calls (full_rules (full_to depth)) (full_bytes (full_to depth))) p good all ∙ full-kept (full_to depth) p true good all

-- the defaults of full elements, each as a full text
pub defaults-full : (depth : ℕ) (named : Named) (places : List Place) (elements : Elements) → HaveForms named places → each_apart is_simple_list elements ≡ true → all_lists_in is_full elements ≡ true
    → with_defaults (full_to depth) named (each_written as_it_is elements) places ≡ each_written as_it_is (part_defaults named elements places)
unfolding with_defaults part_defaults
defaults-full depth named [] elements have good all = refl
defaults-full depth named (place ∷ places) elements have good all =
    let a = and_parts (has_form (text_of named.whole) (text_of place)) _ have in
    by (length (text_of place) == 0) refl a.0 (λ es g f. defaults-full depth named places es a.1 g f)
  where
    by : (b : Bool) → (length (text_of place) == 0) ≡ b → has_form (text_of named.whole) (text_of place) ≡ true
        → ((es : Elements) → each_apart is_simple_list es ≡ true → all_lists_in is_full es ≡ true → with_defaults (full_to depth) named (each_written as_it_is es) places ≡ each_written as_it_is (part_defaults named es places))
        → (if b then each_written as_it_is elements else with_defaults (full_to depth) named (each_written as_it_is elements ++ full_to depth (filled_for named (each_written as_it_is elements) (text_of place)) ∷ []) places)
        ≡ each_written as_it_is (if b then elements else part_defaults named (and_one elements (default_part named elements (text_of place))) places)
    by true e is again = refl
    by false e is again =
        let form : HasForm named (text_of place) = form-of named (text_of place) is e in
        let part : Parts = default_part named elements (text_of place) in
        let apart = default-apart named elements (text_of place) form is_simple_list good in
        let whole = default-all named elements (text_of place) form is_full bare-full all in
        let text : filled_for named (each_written as_it_is elements) (text_of place) ≡ text_from part = sym (default-written named elements (text_of place) form as_it_is (λ es. refl)) in
        ap (λ t. with_defaults (full_to depth) named (each_written as_it_is elements ++ t ∷ []) places) (ap (full_to depth) text ∙ full-stays depth part apart whole)
        ∙ ap (λ es. with_defaults (full_to depth) named es places) (sym (one-written as_it_is elements part))
        ∙ again (and_one elements part) (one-apart is_simple_list elements part good apart) (one-all is_full elements part all whole)

-- a list isn't written by its usual name
plainly : List ℕ → List ℕ → Elements → Bool
plainly usual name elements = is_bare usual

-- the full text of a default
pub full-text-of : (depth : ℕ) (named : Named) (elements : Elements) (pattern : List ℕ) → HasAny named pattern → each_apart is_simple_list elements ≡ true → all_lists_in is_full elements ≡ true
    → full_to (suc depth) (filled_for named (each_written as_it_is elements) pattern) ≡ text_from (full_default named elements pattern)
unfolding full_default any_by full_to written plain_elements plain_list_of plainly all_lists are_apart is_full count
full-text-of depth named elements pattern has good all =
    by-any plain_elements named elements pattern (λ p. full_to (suc depth) (filled_for named (each_written as_it_is elements) pattern) ≡ text_from p) has
    (λ form is text.
    ap (full_to (suc depth)) (sym (form-filled named elements as_it_is (λ es. refl) form is ∙ ap (filled_for named (each_written as_it_is elements)) text))
    ∙ full-stays (suc depth) (in_holes (part_at elements 0) (part_at elements 1) (text_of named.whole) form) (apart form is) (whole form is))
    (λ inner none plain form text.
    let n : List ℕ = filled [] [] (text_of named.whole) inner.name in
    let argument : Parts = in_holes (part_at elements 0) (part_at elements 1) (text_of named.whole) inner.argument in
    let one : Elements = element_then argument no_more in
    let list : Parts = list_then [] n one ends in
    let found = plain-named n plain in
    let inner_named : Named = found.0 in
    let one_apart : each_apart is_simple_list one ≡ true = and-both _ _ (apart inner.argument form) refl in
    let one_full : all_lists_in is_full one ≡ true = and-both _ _ (whole inner.argument form) refl in
    let written_out : filled_for named (each_written as_it_is elements) pattern ≡ text_from list =
    ap (filled_for named (each_written as_it_is elements)) (sym text) ∙ inner-filled named (each_written as_it_is elements) inner none
    ∙ ap (λ t. n ++ listed (t ∷ [])) (sym (form-filled named elements as_it_is (λ es. refl) inner.argument form))
    ∙ sym (append-nil (n ++ listed (text_from argument ∷ []))) in
    let bare : all_lists plainly list ≡ true =
    and-both _ _ (and-both _ _ (inner-follow is_simple_list is_full plainly (λ usual name es is some apart full all. (and_parts (is_bare usual) _ full).0) argument true (apart inner.argument form) (whole inner.argument form)) refl) refl in
    ap (full_to (suc depth)) written_out
    ∙ by-inner-parts (full_rules (full_to depth)) (full_bytes (full_to depth)) is_simple_list (full-obeys (full_to depth)) plainly
    (bare-calls (full_rules (full_to depth)) (full_bytes (full_to depth)) plainly (λ usual name es is. is)) list (and-both _ _ (placed-alone n (plain-list n plain)) (and-both _ _ one_apart refl)) bare
    ∙ append-nil (full_bytes (full_to depth) [] n (written (full_bytes (full_to depth)) argument ∷ []))
    ∙ ap (λ t. full_bytes (full_to depth) [] n (t ∷ [])) (full-kept (full_to depth) argument true (apart inner.argument form) (whole inner.argument form))
    ∙ full-simple (full_to depth) [] n inner_named (text_from argument ∷ []) found.1
    ∙ ap (λ xs. n ++ listed xs) (defaults-full depth inner_named (lacks inner_named 1) one (lacks-plain inner_named 1 found.2) one_apart one_full)
    ∙ ap (λ o. n ++ listed (each_written as_it_is (plain_list_of o one))) (sym found.1)
    ∙ sym (append-nil (n ++ listed (each_written as_it_is (plain_list_of (named_in n) one)))))
  where
    apart : (form : Parts) → is_form (text_of named.whole) form ≡ true → are_apart is_simple_list true (in_holes (part_at elements 0) (part_at elements 1) (text_of named.whole) form) ≡ true
    apart form is = form-apart is_simple_list (part_at elements 0) (part_at elements 1) (text_of named.whole) (part-apart is_simple_list elements 0 good) (part-apart is_simple_list elements 1 good) form is

    whole : (form : Parts) → is_form (text_of named.whole) form ≡ true → all_lists is_full (in_holes (part_at elements 0) (part_at elements 1) (text_of named.whole) form) ≡ true
    whole form is = form-all is_full bare-full (part_at elements 0) (part_at elements 1) (text_of named.whole) (part-all is_full elements 0 all) (part-all is_full elements 1 all) form is

-- all defaults of full elements, each as a full text
all-full : (depth : ℕ) (named : Named) (places : List Place) (elements : Elements) → HaveEach (has_default (text_of named.whole)) places → each_apart is_simple_list elements ≡ true → all_lists_in is_full elements ≡ true
    → each_written as_it_is (added (full_default named) elements places) ≡ with_defaults (full_to (suc depth)) named (each_written as_it_is elements) places
unfolding full_default
all-full depth named places elements have good all =
    added-written (full_default named) (has_default (text_of named.whole)) as_it_is (full_to (suc depth)) named
    (λ es. (each_apart is_simple_list es ≡ true) × (all_lists_in is_full es ≡ true))
    (λ es pattern has filled_in both.
    let any = any-of named pattern has filled_in in (
      sym (full-text-of depth named es pattern any both.0 both.1),
      (
        one-apart is_simple_list es (full_default named es pattern) both.0 (any-apart plain_elements named es pattern any plain-stay both.0),
        one-all is_full es (full_default named es pattern) both.1 (any-all plain_elements named es pattern any is_full bare-full plain-full both.1),
      ),
    ))
    elements places have (good, all)

bare-whole : (depth : ℕ) (usual : List ℕ) (xs : List (List ℕ)) → full_bytes (full_to depth) usual [] xs ≡ listed xs
unfolding full_bytes
bare-whole depth usual xs = (full-obeys (full_to depth)).bare_is xs

pub full-of-list : (depth : ℕ) (usual name : List ℕ) (elements : Elements) → (is_bare name || is_simple_list name) ≡ true → has_some elements ≡ true → each_apart is_simple_list elements ≡ true
    → is_known usual name elements ≡ true → all_lists_in is_known elements ≡ true
    → each_written as_it_is (each_changed full_elements full_usual elements) ≡ each_written (full_bytes (full_to (suc depth))) elements
    → as_it_is (full_usual name (each_changed full_elements full_usual elements)) name (each_written as_it_is (full_elements name (each_changed full_elements full_usual elements))) ≡ full_bytes (full_to (suc depth)) usual name (each_written (full_bytes (full_to (suc depth))) elements)
unfolding full_elements full_list_of full_usual
full-of-list depth usual name elements is some good known all same =
    by-name (λ name. name ++ listed (each_written as_it_is (full_list_of (named_in name) new)) ≡ full_bytes (full_to (suc depth)) usual name (each_written (full_bytes (full_to (suc depth))) elements))
    (ap (λ o. listed (each_written as_it_is (full_list_of o new))) bare-named ∙ ap listed same ∙ sym (bare-whole (suc depth) usual (each_written (full_bytes (full_to (suc depth))) elements)))
    (λ name named list found simple.
    ap (λ o. name ++ listed (each_written as_it_is (full_list_of o new))) found
    ∙ ap (λ xs. name ++ listed xs) (all-full depth named (lacks named (count new)) new (lacks-forms named (count new) simple) (each-changed-apart full_elements full_usual is_simple_list full-stay full-plain elements good) (each-full-all elements good)
    ∙ ap₂ (λ xs n. with_defaults (full_to (suc depth)) named xs (lacks named n)) same (sym (count-is as_it_is new) ∙ ap length same))
    ∙ sym (full-simple (full_to (suc depth)) usual name named (each_written (full_bytes (full_to (suc depth))) elements) found))
    name is
  where
    new : Elements
    new = each_changed full_elements full_usual elements
