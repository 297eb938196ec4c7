-- Lists of parts: the first of their elements, one more, and the defaults that they lack.
use Rattle.short_names.proofs.Basics.{◌≡◌, ◌==◌, ◌<◌, ◌+◌, refl, sym, ap, ap₂, ◌∙◌, ℕ, zero, suc, arith, Bool, true, false, List, [], ◌∷◌, ◌++◌, length, take, nat_eq, Option, None, Some, if◌then◌else◌, and_parts, true≢false, pointwise, list_all, Named, Place, listed, element, filled_for, with_defaults, Parts, ends, Elements, no_more, element_then, written, each_written, text_from, has_some, are_apart, each_apart, all_lists, all_lists_in, Inner, inner_forms, inner_in, inner_part, is_no_hole, is_plain_list, is_some_default, has_default, list_then, forms, form_in, is_form, is_some_form, has_form, filled, text_of}
use lib.Pointwise.{bytes_decides}
use Rattle.short_names.proofs.PartForms.{and-both, in_holes, form-written, form-apart, form-all}

-- ## The element in a place

pub part_at : Elements → ℕ → Parts
part_at no_more place = ends
part_at (element_then part others) zero = part
part_at (element_then part others) (suc place) = part_at others place

pub part-written : (for_list : List ℕ → List ℕ → List (List ℕ) → List ℕ) (elements : Elements) (place : ℕ) → written for_list (part_at elements place) ≡ element (each_written for_list elements) place
unfolding written part_at
part-written f no_more place = refl
part-written f (element_then part others) zero = refl
part-written f (element_then part others) (suc place) = part-written f others place

pub part-apart : (lists : List ℕ → Bool) (elements : Elements) (place : ℕ) → each_apart lists elements ≡ true → are_apart lists true (part_at elements place) ≡ true
unfolding are_apart part_at
part-apart lists no_more place good = refl
part-apart lists (element_then part others) zero good = (and_parts (are_apart lists true part) _ good).0
part-apart lists (element_then part others) (suc place) good = part-apart lists others place (and_parts (are_apart lists true part) _ good).1

pub part-all : (test : List ℕ → List ℕ → Elements → Bool) (elements : Elements) (place : ℕ) → all_lists_in test elements ≡ true → all_lists test (part_at elements place) ≡ true
unfolding all_lists part_at
part-all test no_more place good = refl
part-all test (element_then part others) zero good = (and_parts (all_lists test part) _ good).0
part-all test (element_then part others) (suc place) good = part-all test others place (and_parts (all_lists test part) _ good).1

-- ## How many elements there are, and one more

unfoldable pub count : Elements → ℕ
count no_more = 0
count (element_then part others) = suc (count others)

pub count-is : (for_list : List ℕ → List ℕ → List (List ℕ) → List ℕ) (elements : Elements) → length (each_written for_list elements) ≡ count elements
unfolding written count
count-is f no_more = refl
count-is f (element_then part others) = ap suc (count-is f others)

pub and_one : Elements → Parts → Elements
and_one no_more part = element_then part no_more
and_one (element_then first others) part = element_then first (and_one others part)

pub one-written : (for_list : List ℕ → List ℕ → List (List ℕ) → List ℕ) (elements : Elements) (part : Parts) → each_written for_list (and_one elements part) ≡ each_written for_list elements ++ written for_list part ∷ []
unfolding written and_one
one-written f no_more part = refl
one-written f (element_then first others) part = ap (λ t. written f first ∷ t) (one-written f others part)

pub one-count : (elements : Elements) (part : Parts) → count (and_one elements part) ≡ count elements + 1
unfolding count and_one
one-count no_more part = refl
one-count (element_then first others) part = ap suc (one-count others part) ∙ omega arith

pub one-some : (elements : Elements) (part : Parts) → has_some (and_one elements part) ≡ true
unfolding and_one
one-some no_more part = refl
one-some (element_then first others) part = refl

pub one-apart : (lists : List ℕ → Bool) (elements : Elements) (part : Parts) → each_apart lists elements ≡ true → are_apart lists true part ≡ true → each_apart lists (and_one elements part) ≡ true
unfolding are_apart and_one
one-apart lists no_more part good is = and-both _ _ is refl
one-apart lists (element_then first others) part good is =
    let a = and_parts (are_apart lists true first) _ good in
    and-both _ _ a.0 (one-apart lists others part a.1 is)

pub one-all : (test : List ℕ → List ℕ → Elements → Bool) (elements : Elements) (part : Parts) → all_lists_in test elements ≡ true → all_lists test part ≡ true → all_lists_in test (and_one elements part) ≡ true
unfolding all_lists and_one
one-all test no_more part good is = and-both _ _ is refl
one-all test (element_then first others) part good is =
    let a = and_parts (all_lists test first) _ good in
    and-both _ _ a.0 (one-all test others part a.1 is)

-- ## The first elements

pub taken : ℕ → Elements → Elements
taken zero elements = no_more
taken (suc n) no_more = no_more
taken (suc n) (element_then part others) = element_then part (taken n others)

pub taken-written : (for_list : List ℕ → List ℕ → List (List ℕ) → List ℕ) (n : ℕ) (elements : Elements) → each_written for_list (taken n elements) ≡ take n (each_written for_list elements)
unfolding written taken
taken-written f zero elements = refl
taken-written f (suc n) no_more = refl
taken-written f (suc n) (element_then part others) = ap (λ t. written f part ∷ t) (taken-written f n others)

pub taken-some : (n : ℕ) (elements : Elements) → 0 < n → has_some elements ≡ true → has_some (taken n elements) ≡ true
unfolding taken
taken-some zero elements some has = absurd (omega (arith, some))
taken-some (suc n) no_more some has = has
taken-some (suc n) (element_then part others) some has = refl

pub taken-apart : (lists : List ℕ → Bool) (n : ℕ) (elements : Elements) → each_apart lists elements ≡ true → each_apart lists (taken n elements) ≡ true
unfolding are_apart taken
taken-apart lists zero elements good = refl
taken-apart lists (suc n) no_more good = refl
taken-apart lists (suc n) (element_then part others) good =
    let a = and_parts (are_apart lists true part) _ good in
    and-both _ _ a.0 (taken-apart lists n others a.1)

pub taken-all : (test : List ℕ → List ℕ → Elements → Bool) (n : ℕ) (elements : Elements) → all_lists_in test elements ≡ true → all_lists_in test (taken n elements) ≡ true
unfolding all_lists taken
taken-all test zero elements all = refl
taken-all test (suc n) no_more all = refl
taken-all test (suc n) (element_then part others) all =
    let a = and_parts (all_lists test part) _ all in
    and-both _ _ a.0 (taken-all test n others a.1)

-- ## A default

form_or : Option Parts → Parts
form_or None = ends
form_or (Some form) = form

form-text : (rows : List Parts) (pattern : List ℕ) (whole : List ℕ) → is_some_form whole (form_in rows pattern) ≡ true → text_from (form_or (form_in rows pattern)) ≡ pattern
unfolding form_in form_or
form-text [] pattern whole some = absurd (true≢false (sym some))
form-text (row ∷ rows) pattern whole some = by (pointwise nat_eq (text_from row) pattern) refl some (form-text rows pattern whole)
  where
    by : (b : Bool) → pointwise nat_eq (text_from row) pattern ≡ b → is_some_form whole (if b then Some row else form_in rows pattern) ≡ true
        → (is_some_form whole (form_in rows pattern) ≡ true → text_from (form_or (form_in rows pattern)) ≡ pattern)
        → text_from (form_or (if b then Some row else form_in rows pattern)) ≡ pattern
    by true e h again = (bytes_decides (text_from row) pattern).0 e
    by false e h again = again h

some-form : (whole : List ℕ) (o : Option Parts) → is_some_form whole o ≡ true → is_form whole (form_or o) ≡ true
unfolding form_or
some-form whole None h = absurd (true≢false (sym h))
some-form whole (Some form) h = h

-- a pattern has one of the forms
abbrev pub HasForm : Named → (pattern : List ℕ) → Type 0
HasForm named pattern = is_some_form (text_of named.whole) (form_in forms pattern) ≡ true

pub default_part : Named → Elements → (pattern : List ℕ) → Parts
default_part named elements pattern = in_holes (part_at elements 0) (part_at elements 1) (text_of named.whole) (form_or (form_in forms pattern))

module _ (named : Named) (elements : Elements) (pattern : List ℕ) (has : HasForm named pattern) where
  whole : List ℕ
  whole = text_of named.whole

  form : Parts
  form = form_or (form_in forms pattern)

  pub default-written : (for_list : List ℕ → List ℕ → List (List ℕ) → List ℕ) → ((es : List (List ℕ)) → for_list [] [] es ≡ listed es)
      → written for_list (default_part named elements pattern) ≡ filled_for named (each_written for_list elements) pattern
  unfolding default_part form whole
  default-written f bare_is =
      form-written f bare_is (part_at elements 0) (part_at elements 1) whole form (some-form whole (form_in forms pattern) has)
      ∙ ap₂ (λ x y. filled x y whole (text_from form)) (part-written f elements 0) (part-written f elements 1)
      ∙ ap (filled_for named (each_written f elements)) (form-text forms pattern whole has)

  pub default-apart : (lists : List ℕ → Bool) → each_apart lists elements ≡ true → are_apart lists true (default_part named elements pattern) ≡ true
  unfolding default_part form whole
  default-apart lists good =
      form-apart lists (part_at elements 0) (part_at elements 1) whole (part-apart lists elements 0 good) (part-apart lists elements 1 good) form (some-form whole (form_in forms pattern) has)

  pub default-all : (test : List ℕ → List ℕ → Elements → Bool) → ((es : Elements) → test [] [] es ≡ true) → all_lists_in test elements ≡ true → all_lists test (default_part named elements pattern) ≡ true
  unfolding default_part form whole
  default-all test bare good =
      form-all test bare (part_at elements 0) (part_at elements 1) whole (part-all test elements 0 good) (part-all test elements 1 good) form (some-form whole (form_in forms pattern) has)

-- ## Defaults one after the other

unfoldable pub added : (default : Elements → List ℕ → Parts) → Elements → List Place → Elements
added default elements [] = elements
added default elements (place ∷ places) = if length (text_of place) == 0 then elements else added default (and_one elements (default elements (text_of place))) places

-- each pattern passes a test
abbrev pub HaveEach : (has : List ℕ → Bool) → List Place → Type 0
HaveEach has places = list_all (λ (place : Place). has (text_of place)) places ≡ true

module _ (default : Elements → List ℕ → Parts) (has : List ℕ → Bool) where
  pub added-some : (elements : Elements) (places : List Place) → has_some elements ≡ true → has_some (added default elements places) ≡ true
  unfolding added
  added-some elements [] some = some
  added-some elements (place ∷ places) some = by (length (text_of place) == 0) (added-some (and_one elements (default elements (text_of place))) places (one-some elements (default elements (text_of place))))
    where
      by : (b : Bool) → has_some (added default (and_one elements (default elements (text_of place))) places) ≡ true
          → has_some (if b then elements else added default (and_one elements (default elements (text_of place))) places) ≡ true
      by true again = some
      by false again = again

  pub added-apart : (lists : List ℕ → Bool)
      → ((es : Elements) (pattern : List ℕ) → has pattern ≡ true → (length pattern == 0) ≡ false → each_apart lists es ≡ true → are_apart lists true (default es pattern) ≡ true)
      → (elements : Elements) (places : List Place) → HaveEach has places → each_apart lists elements ≡ true → each_apart lists (added default elements places) ≡ true
  unfolding added
  added-apart lists one elements [] have good = good
  added-apart lists one elements (place ∷ places) have good =
      let a = and_parts (has (text_of place)) _ have in
      by (length (text_of place) == 0) refl a.0 (λ es is. added-apart lists one es places a.1 is)
    where
      by : (b : Bool) → (length (text_of place) == 0) ≡ b → has (text_of place) ≡ true
          → ((es : Elements) → each_apart lists es ≡ true → each_apart lists (added default es places) ≡ true)
          → each_apart lists (if b then elements else added default (and_one elements (default elements (text_of place))) places) ≡ true
      by true e is again = good
      by false e is again =
          again (and_one elements (default elements (text_of place))) (one-apart lists elements (default elements (text_of place)) good (one elements (text_of place) is e good))

  pub added-all : (test : List ℕ → List ℕ → Elements → Bool)
      → ((es : Elements) (pattern : List ℕ) → has pattern ≡ true → (length pattern == 0) ≡ false → all_lists_in test es ≡ true → all_lists test (default es pattern) ≡ true)
      → (elements : Elements) (places : List Place) → HaveEach has places → all_lists_in test elements ≡ true → all_lists_in test (added default elements places) ≡ true
  unfolding added
  added-all test one elements [] have good = good
  added-all test one elements (place ∷ places) have good =
      let a = and_parts (has (text_of place)) _ have in
      by (length (text_of place) == 0) refl a.0 (λ es is. added-all test one es places a.1 is)
    where
      by : (b : Bool) → (length (text_of place) == 0) ≡ b → has (text_of place) ≡ true
          → ((es : Elements) → all_lists_in test es ≡ true → all_lists_in test (added default es places) ≡ true)
          → all_lists_in test (if b then elements else added default (and_one elements (default elements (text_of place))) places) ≡ true
      by true e is again = good
      by false e is again =
          again (and_one elements (default elements (text_of place))) (one-all test elements (default elements (text_of place)) good (one elements (text_of place) is e good))

  pub added-written : (f : List ℕ → List ℕ → List (List ℕ) → List ℕ) (full : List ℕ → List ℕ) (named : Named) (Good : Elements → Type 0)
      → ((es : Elements) (pattern : List ℕ) → has pattern ≡ true → (length pattern == 0) ≡ false → Good es
      → (written f (default es pattern) ≡ full (filled_for named (each_written f es) pattern)) × Good (and_one es (default es pattern)))
      → (elements : Elements) (places : List Place) → HaveEach has places → Good elements
      → each_written f (added default elements places) ≡ with_defaults full named (each_written f elements) places
  unfolding added with_defaults
  added-written f full named Good one elements [] have good = refl
  added-written f full named Good one elements (place ∷ places) have good =
      let a = and_parts (has (text_of place)) _ have in
      by (length (text_of place) == 0) refl a.0 (λ es g. added-written f full named Good one es places a.1 g)
    where
      by : (b : Bool) → (length (text_of place) == 0) ≡ b → has (text_of place) ≡ true
          → ((es : Elements) → Good es → each_written f (added default es places) ≡ with_defaults full named (each_written f es) places)
          → each_written f (if b then elements else added default (and_one elements (default elements (text_of place))) places)
          ≡ (if b then each_written f elements else with_defaults full named (each_written f elements ++ full (filled_for named (each_written f elements) (text_of place)) ∷ []) places)
      by true e is again = refl
      by false e is again =
          let this = one elements (text_of place) is e good in
          again (and_one elements (default elements (text_of place))) this.1
          ∙ ap (λ es. with_defaults full named es places) (one-written f elements (default elements (text_of place)) ∙ ap (λ t. each_written f elements ++ t ∷ []) this.0)

-- ## Defaults that may be lists of the table

inner-text : (rows : List Inner) (pattern : List ℕ) (inner : Inner) → inner_in rows pattern ≡ Some inner → text_from (inner_part inner) ≡ pattern
unfolding inner_in
inner-text [] pattern inner e = absurd (nothing e)
  where
    nothing : {A : Type 0} → {x : A} → None ≡ Some x → ⊥
    nothing same = cc
inner-text (row ∷ rows) pattern inner e = by (pointwise nat_eq (text_from (inner_part row)) pattern) refl e (inner-text rows pattern inner)
  where
    by : (b : Bool) → pointwise nat_eq (text_from (inner_part row)) pattern ≡ b → (if b then Some row else inner_in rows pattern) ≡ Some inner → (inner_in rows pattern ≡ Some inner → text_from (inner_part inner) ≡ pattern) → text_from (inner_part inner) ≡ pattern
    by true h same again = let is : row ≡ inner = cc in ap (λ (i : Inner). text_from (inner_part i)) (sym is) ∙ (bytes_decides (text_from (inner_part row)) pattern).0 h
    by false h same again = again same

-- the parts of a pattern that has a form or is a list; a function may replace the list's elements
unfoldable pub any_by : (List ℕ → Elements → Elements) → Named → Elements → Option Parts → Option Inner → Parts
any_by elements_of named elements (Some form) inner = in_holes (part_at elements 0) (part_at elements 1) (text_of named.whole) form
any_by elements_of named elements None None = ends
any_by elements_of named elements None (Some inner) =
    list_then [] (filled [] [] (text_of named.whole) inner.name)
    (elements_of (filled [] [] (text_of named.whole) inner.name) (element_then (in_holes (part_at elements 0) (part_at elements 1) (text_of named.whole) inner.argument) no_more)) ends

unfoldable pub any_part : (List ℕ → Elements → Elements) → Named → Elements → (pattern : List ℕ) → Parts
any_part elements_of named elements pattern = any_by elements_of named elements (form_in forms pattern) (inner_in inner_forms pattern)

-- a pattern has one of the forms, or is a list of the table that defaults may be
abbrev pub HasAny : Named → (pattern : List ℕ) → Type 0
HasAny named pattern = is_some_default (text_of named.whole) (form_in forms pattern) (inner_in inner_forms pattern) ≡ true

pub any-of : (named : Named) (pattern : List ℕ) → has_default (text_of named.whole) pattern ≡ true → (length pattern == 0) ≡ false → HasAny named pattern
unfolding has_default
any-of named pattern has some = rw some at has

-- a default by its form
pub by-any : (elements_of : List ℕ → Elements → Elements) (named : Named) (elements : Elements) (pattern : List ℕ) (P : Parts → Type 0) → HasAny named pattern
    → ((form : Parts) → is_form (text_of named.whole) form ≡ true → text_from form ≡ pattern → P (in_holes (part_at elements 0) (part_at elements 1) (text_of named.whole) form))
    → ((inner : Inner) → list_all is_no_hole inner.name ≡ true → is_plain_list (filled [] [] (text_of named.whole) inner.name) ≡ true → is_form (text_of named.whole) inner.argument ≡ true → text_from (inner_part inner) ≡ pattern
    → P (any_by elements_of named elements None (Some inner)))
    → P (any_part elements_of named elements pattern)
unfolding any_part any_by form_or
by-any elements_of named elements pattern P has a_form an_inner = by (form_in forms pattern) (inner_in inner_forms pattern) refl refl has
  where
    by : (f : Option Parts) (i : Option Inner) → form_in forms pattern ≡ f → inner_in inner_forms pattern ≡ i → is_some_default (text_of named.whole) f i ≡ true → P (any_by elements_of named elements f i)
    by (Some form) i f-is i-is is =
        a_form form is (ap (λ f. text_from (form_or f)) (sym f-is) ∙ form-text forms pattern (text_of named.whole) (ap (is_some_form (text_of named.whole)) f-is ∙ is))
    by None None f-is i-is is = absurd (true≢false (sym is))
    by None (Some inner) f-is i-is is =
        let a = and_parts (list_all is_no_hole inner.name) _ is in
        let b = and_parts (is_plain_list (filled [] [] (text_of named.whole) inner.name)) _ a.1 in
        an_inner inner a.0 b.0 b.1 (inner-text inner_forms pattern inner i-is)

-- ## The defaults that a list lacks

unfoldable pub part_defaults : Named → Elements → List Place → Elements
part_defaults named elements [] = elements
part_defaults named elements (place ∷ places) = if length (text_of place) == 0 then elements else part_defaults named (and_one elements (default_part named elements (text_of place))) places

-- each pattern that isn't empty has a form
abbrev pub HaveForms : Named → List Place → Type 0
HaveForms named places = list_all (λ (place : Place). has_form (text_of named.whole) (text_of place)) places ≡ true

pub form-of : (named : Named) (pattern : List ℕ) → has_form (text_of named.whole) pattern ≡ true → (length pattern == 0) ≡ false → HasForm named pattern
unfolding has_form
form-of named pattern has some = rw some at has

pub defaults-written : (for_list : List ℕ → List ℕ → List (List ℕ) → List ℕ) → ((es : List (List ℕ)) → for_list [] [] es ≡ listed es)
    → (named : Named) (elements : Elements) (places : List Place) → HaveForms named places
    → each_written for_list (part_defaults named elements places) ≡ with_defaults (λ t. t) named (each_written for_list elements) places
unfolding part_defaults with_defaults
defaults-written f bare_is named elements [] have = refl
defaults-written f bare_is named elements (place ∷ places) have =
    let a = and_parts (has_form (text_of named.whole) (text_of place)) _ have in
    by (length (text_of place) == 0) refl a.0 (λ es. defaults-written f bare_is named es places a.1)
  where
    by : (b : Bool) → (length (text_of place) == 0) ≡ b → has_form (text_of named.whole) (text_of place) ≡ true
        → ((es : Elements) → each_written f (part_defaults named es places) ≡ with_defaults (λ t. t) named (each_written f es) places)
        → each_written f (if b then elements else part_defaults named (and_one elements (default_part named elements (text_of place))) places)
        ≡ (if b then each_written f elements else with_defaults (λ t. t) named (each_written f elements ++ filled_for named (each_written f elements) (text_of place) ∷ []) places)
    by true e is again = refl
    by false e is again =
        again (and_one elements (default_part named elements (text_of place)))
        ∙ ap (λ es. with_defaults (λ t. t) named es places) (one-written f elements (default_part named elements (text_of place))
        ∙ ap (λ t. each_written f elements ++ t ∷ []) (default-written named elements (text_of place) (form-of named (text_of place) is e) f bare_is))

pub defaults-some : (named : Named) (elements : Elements) (places : List Place) → has_some elements ≡ true → has_some (part_defaults named elements places) ≡ true
unfolding part_defaults
defaults-some named elements [] some = some
defaults-some named elements (place ∷ places) some = by (length (text_of place) == 0) (defaults-some named (and_one elements (default_part named elements (text_of place))) places (one-some elements (default_part named elements (text_of place))))
  where
    by : (b : Bool) → has_some (part_defaults named (and_one elements (default_part named elements (text_of place))) places) ≡ true
        → has_some (if b then elements else part_defaults named (and_one elements (default_part named elements (text_of place))) places) ≡ true
    by true again = some
    by false again = again

pub defaults-apart : (lists : List ℕ → Bool) (named : Named) (elements : Elements) (places : List Place) → HaveForms named places → each_apart lists elements ≡ true → each_apart lists (part_defaults named elements places) ≡ true
unfolding part_defaults
defaults-apart lists named elements [] have good = good
defaults-apart lists named elements (place ∷ places) have good =
    let a = and_parts (has_form (text_of named.whole) (text_of place)) _ have in
    by (length (text_of place) == 0) refl a.0 (λ es is. defaults-apart lists named es places a.1 is)
  where
    by : (b : Bool) → (length (text_of place) == 0) ≡ b → has_form (text_of named.whole) (text_of place) ≡ true
        → ((es : Elements) → each_apart lists es ≡ true → each_apart lists (part_defaults named es places) ≡ true)
        → each_apart lists (if b then elements else part_defaults named (and_one elements (default_part named elements (text_of place))) places) ≡ true
    by true e is again = good
    by false e is again =
        again (and_one elements (default_part named elements (text_of place)))
        (one-apart lists elements (default_part named elements (text_of place)) good (default-apart named elements (text_of place) (form-of named (text_of place) is e) lists good))

pub defaults-all : (test : List ℕ → List ℕ → Elements → Bool) → ((es : Elements) → test [] [] es ≡ true) → (named : Named) (elements : Elements) (places : List Place) → HaveForms named places
    → all_lists_in test elements ≡ true → all_lists_in test (part_defaults named elements places) ≡ true
unfolding part_defaults
defaults-all test bare named elements [] have good = good
defaults-all test bare named elements (place ∷ places) have good =
    let a = and_parts (has_form (text_of named.whole) (text_of place)) _ have in
    by (length (text_of place) == 0) refl a.0 (λ es is. defaults-all test bare named es places a.1 is)
  where
    by : (b : Bool) → (length (text_of place) == 0) ≡ b → has_form (text_of named.whole) (text_of place) ≡ true
        → ((es : Elements) → all_lists_in test es ≡ true → all_lists_in test (part_defaults named es places) ≡ true)
        → all_lists_in test (if b then elements else part_defaults named (and_one elements (default_part named elements (text_of place))) places) ≡ true
    by true e is again = good
    by false e is again =
        again (and_one elements (default_part named elements (text_of place)))
        (one-all test elements (default_part named elements (text_of place)) good (default-all named elements (text_of place) (form-of named (text_of place) is e) test bare good))
