-- Short texts keep full texts and full texts keep short ones, where a text is made of parts.
use Rattle.short_names.proofs.Basics.{if◌then◌else◌, ◌≡◌, ◌==◌, ◌≤◌, ◌<◌, ◌&&◌, ◌||◌, not, nat_eq, nat_le, eq-eqb, ne_eqb, refl, sym, ap, ap₂, subst, ◌∙◌, ℕ, arith, Bool, true, false, List, [], ◌∷◌, ◌++◌, length, take, Option, None, Some, append-nil, and_parts, true≢false, pointwise, list_all, Named, Alias, Place, joined, listed, element, left, left_of, is_polymorphic, alias_in, aliases_of, filled_for, default_pattern, is_given, full, full_to, full_rules, with_defaults, named_in, Inner, form_in, forms, has_default, inner_forms, inner_in, is_form, is_plain_list, is_some_default, Parts, ends, list_then, Elements, no_more, element_then, written, each_written, as_it_is, text_from, begins_free, is_bare, is_no_hole, has_some, has_usual, are_apart, are_outside, each_apart, all_lists, all_lists_in, is_called, is_known, is_simple, is_simple_list, is_usual, left_list, short_bytes, full_bytes, is_none_of_pmr, usual_by, usual_for, usual_instance, IsMade, filled, is_name_byte, short, short_rules, text_of, Opened, by_rules, written_for}
use Rattle.std.proofs.lemmas.List.{length-take-le, take_all}
use lib.Pointwise.{bytes_decides}
use Rattle.short_names.specs.Full as of_full
use Rattle.short_names.specs.Short as of_short
use Rattle.short_names.proofs.PartChanges.{changed, each_changed, changed-some, each-changed-apart, changed-outside, each-changed-written, outside-written, outside-all, outside-both, each-both, outside-follow}
use Rattle.short_names.proofs.PartDefaults.{IsPlain, IsSimple, lacks, lacks-plain, lacks-forms, left-within, defaults-taken, defaults-polymorphic, refilled}
use Rattle.short_names.proofs.PartForms.{and-both, filled-name, form-all, form-apart, in_holes}
use Rattle.short_names.proofs.PartLists.{HasAny, HaveEach, added, added-written, any-of, any_by, any_part, by-any, count, count-is, part_at, part-written, part-apart, part-all, taken, taken-written, taken-some, taken-apart, taken-all, part_defaults, defaults-written}
use Rattle.short_names.proofs.PartRules.{short-obeys, full-obeys, plain-named, short-called, short-simple}
use Rattle.short_names.proofs.PartSteps.{IsFree, at, no-sign}
use Rattle.short_names.proofs.PartWalks.{Calls, by-parts, by-inner-parts, not-true}
use Rattle.short_names.proofs.UsualSteps.{full-name, name-parts, short-name, tested}
use Rattle.short_names.proofs.PartTexts.{any-all, any-apart, short_list_of, short_elements, or_bare, short_usual, full_usual, plain_list_of, plain_elements, as_default, full_default, full_list_of, full_elements, by-name, bare-named, bare-usual, bare-short, some-length, left-positive, short-plain, full-plain, inner-filled, form-filled, as-written, short-stay, full-stay, called-is, short-of-named, short-of-list, is_full, full-calls, bare-full, full-list, each-full-all, full-simple, defaults-full, full-text-of, full-of-list}

-- ## Full texts have short ones

-- a list has the same usual name with its defaults as without them
same-alias : (named : Named) (more xs : List (List ℕ)) (k n : ℕ) → take k more ≡ take n xs → (rows : List Alias) → list_all (λ (row : Alias). list_all is_no_hole (text_of row.arguments)) rows ≡ true
    → alias_in rows named more k ≡ alias_in rows named xs n
unfolding alias_in
same-alias named more xs k n same [] holes = refl
same-alias named more xs k n same (row ∷ rows) holes =
    let a = and_parts (list_all is_no_hole (text_of row.arguments)) _ holes in
    let whole : List ℕ = text_of named.whole in
    ap₂ (λ (b : Bool) o. if b then Some row else o)
    (ap₂ (pointwise nat_eq) (ap joined same)
    (filled-name (element more 0) (element more 1) whole (text_of row.arguments) a.0 ∙ sym (filled-name (element xs 0) (element xs 1) whole (text_of row.arguments) a.0)))
    (same-alias named more xs k n same rows a.1)

-- a list of one element and its defaults has the short text of the list of that element, if its template has no usual names
one-short : (usual name x : List ℕ) (more : List (List ℕ)) → is_plain_list name ≡ true → (named : Named) → named_in name ≡ Some named → IsPlain named → more ≡ with_defaults (λ t. t) named (x ∷ []) (lacks named 1)
    → short_bytes usual name more ≡ name ++ listed (x ∷ [])
unfolding alias_in
one-short usual name x more is named found plain e =
    let xs : List (List ℕ) = x ∷ [] in
    let none : is_polymorphic named xs ≡ false =
    ap (λ b. b && is_given named xs (element xs 0) (text_of named.template.polymorphic)) (flip named.template.count plain.more) in
    let only : left named xs ≡ 1 = omega (arith, left-positive named plain.simple xs (omega arith), left-most (nat_le 1 named.template.count) (left-within named xs 1)) in
    ap (short_bytes usual name) e
    ∙ short-simple usual name named (with_defaults (λ t. t) named xs (lacks named 1)) found (ap (λ rows. alias_in rows named (with_defaults (λ t. t) named xs (lacks named 1)) (left named (with_defaults (λ t. t) named xs (lacks named 1)))) plain.no_usual)
    (defaults-polymorphic named plain.simple (lacks named 1) xs (omega arith) refl none)
    ∙ ap (λ ys. name ++ listed ys) (defaults-taken named plain.simple (lacks named 1) xs (omega arith) refl ∙ ap (λ k. take k xs) only)
  where
    flip : (count : ℕ) → (count == 1) ≡ false → (1 == count) ≡ false
    flip count isn't = ne_eqb 1 count (λ same. true≢false (sym (eq-eqb count 1 (sym same)) ∙ isn't))

    left-most : (b : Bool) → left_of named (x ∷ []) 1 ≤ 1 → (if b then left_of named (x ∷ []) 1 else 1) ≤ 1
    left-most true h = h
    left-most false h = omega arith

-- the short text of a default in full is the pattern with its holes filled
short-text-of : (named : Named) (elements : Elements) (pattern : List ℕ) → HasAny named pattern → written short_bytes (full_default named elements pattern) ≡ filled_for named (each_written short_bytes elements) pattern
unfolding full_default any_by written plain_elements plain_list_of count
short-text-of named elements pattern has =
    by-any plain_elements named elements pattern (λ p. written short_bytes p ≡ filled_for named (each_written short_bytes elements) pattern) has
    (λ form is text. form-filled named elements short_bytes short-obeys.bare_is form is ∙ ap (filled_for named (each_written short_bytes elements)) text)
    (λ inner none plain form text.
    let n : List ℕ = filled [] [] (text_of named.whole) inner.name in
    let argument : Parts = in_holes (part_at elements 0) (part_at elements 1) (text_of named.whole) inner.argument in
    let one : Elements = element_then argument no_more in
    let found = plain-named n plain in
    let inner_named : Named = found.0 in
    append-nil (short_bytes [] n (each_written short_bytes (plain_list_of (named_in n) one)))
    ∙ ap (λ o. short_bytes [] n (each_written short_bytes (plain_list_of o one))) found.1
    ∙ one-short [] n (written short_bytes argument) (each_written short_bytes (part_defaults inner_named one (lacks inner_named 1))) plain inner_named found.1 found.2
    (defaults-written short_bytes short-obeys.bare_is inner_named one (lacks inner_named 1) (lacks-plain inner_named 1 found.2))
    ∙ ap (λ t. n ++ listed (t ∷ [])) (form-filled named elements short_bytes short-obeys.bare_is inner.argument form)
    ∙ sym (inner-filled named (each_written short_bytes elements) inner none)
    ∙ ap (filled_for named (each_written short_bytes elements)) text)

all-short : (named : Named) (elements : Elements) (places : List Place) → HaveEach (has_default (text_of named.whole)) places
    → each_written short_bytes (added (full_default named) elements places) ≡ with_defaults (λ t. t) named (each_written short_bytes elements) places
all-short named elements places have =
    added-written (full_default named) (has_default (text_of named.whole)) short_bytes (λ t. t) named (λ es. Unit {0}) (λ es pattern has filled_in good. (short-text-of named es pattern (any-of named pattern has filled_in), tt)) elements places have tt

pub short-of-full : (usual name : List ℕ) (elements : Elements) → (is_bare name || is_simple_list name) ≡ true → has_some elements ≡ true → each_apart is_simple_list elements ≡ true
    → is_known usual name elements ≡ true → all_lists_in is_known elements ≡ true
    → each_written short_bytes (each_changed full_elements full_usual elements) ≡ each_written short_bytes elements
    → short_bytes (full_usual name (each_changed full_elements full_usual elements)) name (each_written short_bytes (full_elements name (each_changed full_elements full_usual elements)))
    ≡ short_bytes usual name (each_written short_bytes elements)
unfolding full_elements full_list_of full_usual is_known
short-of-full usual name elements is some good known all same =
    by-name (λ name. (is_none_of_pmr (named_in name) xs && is_called (usual_for name xs) usual name xs) ≡ true
    → short_bytes [] name (each_written short_bytes (full_list_of (named_in name) new)) ≡ short_bytes usual name xs)
    (λ h. ap (λ o. short_bytes [] [] (each_written short_bytes (full_list_of o new))) bare-named ∙ ap (short_bytes [] []) same ∙ bare-short [] xs ∙ sym (bare-short usual xs))
    (λ name named list found simple h.
    let more : List (List ℕ) = with_defaults (λ t. t) named xs (lacks named (length xs)) in
    let k = and_parts (is_none_of_pmr (named_in name) xs) _ h in
    let none : is_polymorphic named xs ≡ false = not-true (is_polymorphic named xs) (subst (λ o. is_none_of_pmr o xs ≡ true) found k.0) in
    let has : 0 < length xs = some-length short_bytes elements some in
    let front : take (left named more) more ≡ take (left named xs) xs = defaults-taken named simple (lacks named (length xs)) xs has refl in
    let alias : alias_in (aliases_of named) named more (left named more) ≡ alias_in (aliases_of named) named xs (left named xs) =
    same-alias named more xs (left named more) (left named xs) front (aliases_of named) simple.no_holes in
    ap (λ o. short_bytes [] name (each_written short_bytes (full_list_of o new))) found
    ∙ ap (short_bytes [] name) (all-short named new (lacks named (count new)) (lacks-forms named (count new) simple)
    ∙ ap₂ (λ ys n. with_defaults (λ t. t) named ys (lacks named n)) same (sym (count-is short_bytes new) ∙ ap length same))
    ∙ both name named more found none (defaults-polymorphic named simple (lacks named (length xs)) xs has refl none) front (alias_in (aliases_of named) named xs (left named xs)) alias refl)
    name is known
  where
    new : Elements
    new = each_changed full_elements full_usual elements

    xs : List (List ℕ)
    xs = each_written short_bytes elements

    both : (name : List ℕ) (named : Named) (more : List (List ℕ)) → named_in name ≡ Some named → is_polymorphic named xs ≡ false → is_polymorphic named more ≡ false → take (left named more) more ≡ take (left named xs) xs
        → (o : Option Alias) → alias_in (aliases_of named) named more (left named more) ≡ o → alias_in (aliases_of named) named xs (left named xs) ≡ o → short_bytes [] name more ≡ short_bytes usual name xs
    both name named more found none more_none front None one two =
        short-simple [] name named more found one more_none ∙ ap (λ ys. name ++ listed ys) front ∙ sym (short-simple usual name named xs found two none)
    both name named more found none more_none front (Some alias) one two = short-called [] name named more alias found one ∙ sym (short-called usual name named xs alias found two)

-- ## Short texts have full ones

take-length : (k : ℕ) (ys : List (List ℕ)) → k ≤ length ys → length (take k ys) ≡ k
take-length k ys h = length-take-le k ys h

simple-test : (name : List ℕ) → is_simple_list name ≡ true → (not (is_bare name) && (list_all is_name_byte name && is_simple (named_in name))) ≡ true
unfolding is_simple_list
simple-test name is = is

-- full texts have the same bytes for a usual name and for the list that the name denotes
pub reads : List ℕ → List ℕ → Elements → Bool
reads usual name elements = is_bare usual || (is_usual usual && pointwise nat_eq (full_to 3 (usual_instance usual)) (full_bytes (full_to 3) [] name (each_written (full_bytes (full_to 3)) elements)))

usual-bytes : (usual : List ℕ) → is_usual usual ≡ true → list_all is_name_byte usual ≡ true
usual-bytes usual is = (name-parts usual (tested usual is).is.bytes).1

or-false : (a b : Bool) → a ≡ false → (a || b) ≡ true → b ≡ true
or-false true b e h = absurd (true≢false e)
or-false false b e h = h

pub reads-calls : Calls (full_rules (full_to 3)) (full_bytes (full_to 3)) reads
unfolding reads full_bytes
reads-calls = record {
  bytes = λ usual name elements is. all usual name elements is;
  calls = λ usual name elements some is opened last rest free.
      let a = and_parts (is_usual usual) _ (or-false (is_bare usual) _ some is) in
      full-name rest free usual (full_to 3 (usual_instance usual)) (tested usual a.0).is opened last
      ∙ ap (λ t. written_for (full_rules (full_to 3)) 0 rest (at opened (last ++ t)))
      ((bytes_decides (full_to 3 (usual_instance usual)) (full_bytes (full_to 3) [] name (each_written (full_bytes (full_to 3)) elements))).0 a.1);
}
  where
    all : (usual name : List ℕ) (elements : Elements) → reads usual name elements ≡ true → list_all is_name_byte usual ≡ true
    all [] name elements is = refl
    all (byte ∷ usual) name elements is = usual-bytes (byte ∷ usual) (and_parts (is_usual (byte ∷ usual)) _ is).0

-- for a list that has a usual name, a short text has that name
short-of-usual : (usual name : List ℕ) (xs : List (List ℕ)) (called : List ℕ) → usual_for name xs ≡ Some called → is_none_of_pmr (named_in name) xs ≡ true → short_bytes usual name xs ≡ called
unfolding usual_for
short-of-usual usual name xs called e none = by (named_in name) refl
  where
    by : (o : Option Named) → named_in name ≡ o → short_bytes usual name xs ≡ called
    by None is = absurd (nothing (sym (ap (λ o. usual_by o name xs) is) ∙ e))
      where
        nothing : None ≡ Some called → ⊥
        nothing same = cc
    by (Some named) is =
        short-of-named usual name named xs is (not-true (is_polymorphic named xs) (subst (λ o. is_none_of_pmr o xs ≡ true) is none)) (Some called) e

pub known-calls : Calls short_rules short_bytes is_known
unfolding is_known
known-calls = record {
  bytes = λ usual name elements is. all usual name (each_written short_bytes elements) (usual_for name (each_written short_bytes elements)) (and_parts (is_none_of_pmr (named_in name) (each_written short_bytes elements)) _ is).1;
  calls = λ usual name elements some is opened last rest free.
      let a = and_parts (is_none_of_pmr (named_in name) (each_written short_bytes elements)) _ is in
      go usual name (each_written short_bytes elements) some a.0 (usual_for name (each_written short_bytes elements)) refl a.1 opened last rest free;
}
  where
    all : (usual name : List ℕ) (xs : List (List ℕ)) (called : Option (List ℕ)) → is_called called usual name xs ≡ true → list_all is_name_byte usual ≡ true
    all [] name xs called h = refl
    all (byte ∷ usual) name xs None h = absurd (true≢false (sym h))
    all (byte ∷ usual) name xs (Some called) h =
        let c = called-is called (byte ∷ usual) name xs h in
        ap (list_all is_name_byte) (c.2 refl) ∙ usual-bytes called c.0

    go : (usual name : List ℕ) (xs : List (List ℕ)) → is_bare usual ≡ false → is_none_of_pmr (named_in name) xs ≡ true → (called : Option (List ℕ)) → usual_for name xs ≡ called → is_called called usual name xs ≡ true
        → (opened : List Opened) (last rest : List ℕ) → IsFree rest
        → written_for short_rules 0 (usual ++ rest) (at opened last) ≡ written_for short_rules 0 rest (at opened (last ++ short_bytes usual name xs))
    go usual name xs some none None e h opened last rest free = absurd (true≢false (sym h ∙ some))
    go usual name xs some none (Some called) e h opened last rest free =
        let c = called-is called usual name xs h in
        let same : usual ≡ called = c.2 some in
        let test : is_usual usual ≡ true = ap is_usual same ∙ c.0 in
        short-name rest free usual (full_to 3 (usual_instance usual)) (tested usual test).is opened last (no-sign opened usual rest (tested usual test).quiet)
        ∙ ap (λ t. written_for short_rules 0 rest (at opened (last ++ t))) (same ∙ sym (short-of-usual usual name xs called e none))

inner : List ℕ → List ℕ
inner = full_to 3

bytes : List ℕ → List ℕ → List (List ℕ) → List ℕ
bytes = full_bytes inner

short_of : Elements → Elements
short_of elements = each_changed short_elements short_usual elements

as-apart : (named : Named) (elements : Elements) (pattern : List ℕ) → HasAny named pattern → each_apart is_simple_list elements ≡ true → are_apart is_simple_list true (as_default named elements pattern) ≡ true
unfolding as_default
as-apart named elements pattern has good = any-apart (λ name es. es) named elements pattern has (λ name es plain some apart. (some, apart)) good

as-all : (named : Named) (elements : Elements) (pattern : List ℕ) → HasAny named pattern → all_lists_in reads elements ≡ true → all_lists reads (as_default named elements pattern) ≡ true
unfolding as_default reads
as-all named elements pattern has all = any-all (λ name es. es) named elements pattern has reads (λ es. refl) (λ name es plain passes. (refl, passes)) all

-- a default has the same full text for other elements that have the same full texts
same-default : (named : Named) (one other : Elements) (pattern : List ℕ) → HasAny named pattern → each_apart is_simple_list other ≡ true → all_lists_in is_full other ≡ true
    → each_written bytes one ≡ each_written as_it_is other → written bytes (as_default named one pattern) ≡ text_from (full_default named other pattern)
unfolding bytes inner as_default full_default any_by any_part written plain_elements plain_list_of all_lists are_apart count
same-default named one other pattern has good all same =
    both (form_in forms pattern) (inner_in inner_forms pattern) has
  where
    filled-same : (form : Parts) → is_form (text_of named.whole) form ≡ true
        → written bytes (in_holes (part_at one 0) (part_at one 1) (text_of named.whole) form) ≡ text_from (in_holes (part_at other 0) (part_at other 1) (text_of named.whole) form)
    filled-same form is =
        form-filled named one bytes (full-obeys inner).bare_is form is ∙ ap (λ xs. filled_for named xs (text_from form)) same
        ∙ sym (form-filled named other as_it_is (λ es. refl) form is)

    both : (f : Option Parts) (i : Option Inner) → is_some_default (text_of named.whole) f i ≡ true
        → written bytes (any_by (λ name elements. elements) named one f i) ≡ text_from (any_by plain_elements named other f i)
    both (Some form) i is = filled-same form is
    both None None is = absurd (true≢false (sym is))
    both None (Some inner_form) is =
        let a = and_parts (list_all is_no_hole inner_form.name) _ is in
        let b = and_parts (is_plain_list (filled [] [] (text_of named.whole) inner_form.name)) _ a.1 in
        let n : List ℕ = filled [] [] (text_of named.whole) inner_form.name in
        let argument : Parts = in_holes (part_at other 0) (part_at other 1) (text_of named.whole) inner_form.argument in
        let found = plain-named n b.0 in
        let inner_named : Named = found.0 in
        let apart = form-apart is_simple_list (part_at other 0) (part_at other 1) (text_of named.whole) (part-apart is_simple_list other 0 good) (part-apart is_simple_list other 1 good) inner_form.argument b.1 in
        let whole = form-all is_full bare-full (part_at other 0) (part_at other 1) (text_of named.whole) (part-all is_full other 0 all) (part-all is_full other 1 all) inner_form.argument b.1 in
        append-nil (bytes [] n (written bytes (in_holes (part_at one 0) (part_at one 1) (text_of named.whole) inner_form.argument) ∷ []))
        ∙ ap (λ t. bytes [] n (t ∷ [])) (filled-same inner_form.argument b.1)
        ∙ full-simple inner [] n inner_named (text_from argument ∷ []) found.1
        ∙ ap (λ xs. n ++ listed xs) (defaults-full 3 inner_named (lacks inner_named 1) (element_then argument no_more) (lacks-plain inner_named 1 found.2) (and-both _ _ apart refl) (and-both _ _ whole refl))
        ∙ ap (λ o. n ++ listed (each_written as_it_is (plain_list_of o (element_then argument no_more)))) (sym found.1)
        ∙ sym (append-nil (n ++ listed (each_written as_it_is (plain_list_of (named_in n) (element_then argument no_more)))))

-- a default that was left out of a short list has the full text that it has in the list
default-again : (named : Named) → IsSimple named → (elements : Elements) → each_apart is_simple_list elements ≡ true → all_lists_in is_known elements ≡ true
    → all_lists_in reads (short_of elements) ≡ true → each_written bytes (short_of elements) ≡ each_written bytes elements
    → (k : ℕ) (pattern : List ℕ) → HasAny named pattern
    → element (each_written as_it_is (short_of elements)) k ≡ filled_for named (each_written as_it_is (short_of elements)) pattern
    → element (each_written bytes elements) k ≡ inner (filled_for named (each_written bytes elements) pattern)
unfolding bytes inner short_of reads
default-again named simple elements good known read same k pattern form is =
    let short : Elements = each_changed short_elements short_usual elements in
    let whole : Elements = each_changed full_elements full_usual elements in
    let ys : List (List ℕ) = each_written bytes elements in
    let short_apart : each_apart is_simple_list short ≡ true = each-changed-apart short_elements short_usual is_simple_list short-stay short-plain elements good in
    let whole_apart : each_apart is_simple_list whole ≡ true = each-changed-apart full_elements full_usual is_simple_list full-stay full-plain elements good in
    let part : Parts = part_at short k in
    let default : Parts = as_default named short pattern in
    let text : text_from part ≡ text_from default = part-written as_it_is short k ∙ is ∙ sym (as-written as_it_is (λ es. refl) (λ name x plain. refl) named short pattern form) in
    let rules : (p : Parts) → are_apart is_simple_list true p ≡ true → all_lists reads p ≡ true → by_rules (full_rules inner) (text_from p) ≡ written bytes p =
    by-inner-parts (full_rules inner) bytes is_simple_list (full-obeys inner) reads reads-calls in
    let whole_is : each_written as_it_is whole ≡ ys = each-changed-written full_elements full_usual is_simple_list is_known as_it_is bytes (full-of-list 2) elements good known in
    ap (λ es. element es k) (sym same) ∙ sym (part-written bytes short k)
    ∙ sym (rules part (part-apart is_simple_list short k short_apart) (part-all reads short k read)) ∙ ap (by_rules (full_rules inner)) text
    ∙ rules default (as-apart named short pattern form short_apart) (as-all named short pattern form read)
    ∙ same-default named short whole pattern form whole_apart (each-full-all elements good) (same ∙ sym whole_is)
    ∙ sym (full-text-of 2 named whole pattern form whole_apart (each-full-all elements good))
    ∙ ap (λ es. inner (filled_for named es pattern)) whole_is

full-of-short : (usual name : List ℕ) (elements : Elements) → (is_bare name || is_simple_list name) ≡ true → has_some elements ≡ true → each_apart is_simple_list elements ≡ true
    → all_lists_in is_known elements ≡ true → all_lists_in reads (short_of elements) ≡ true
    → each_written bytes (short_of elements) ≡ each_written bytes elements
    → bytes usual name (each_written bytes (short_elements name (short_of elements))) ≡ bytes usual name (each_written bytes elements)
unfolding short_elements short_list_of bytes
full-of-short usual name elements is some good all read same =
    by-name (λ name. bytes usual name (each_written bytes (short_list_of (named_in name) new)) ≡ bytes usual name (each_written bytes elements))
    (ap (λ o. bytes usual [] (each_written bytes (short_list_of o new))) bare-named ∙ ap (bytes usual []) same)
    (λ name named list found simple.
    ap (λ o. bytes usual name (each_written bytes (short_list_of o new))) found
    ∙ ap (bytes usual name) (taken-written bytes (left named xs) new ∙ ap (take (left named xs)) same)
    ∙ full-simple inner usual name named (take (left named xs) ys) found
    ∙ ap (λ zs. name ++ listed zs) (by named simple (nat_le (length xs) named.template.count))
    ∙ sym (full-simple inner usual name named ys found))
    name is
  where
    new : Elements
    new = short_of elements

    xs : List (List ℕ)
    xs = each_written as_it_is new

    ys : List (List ℕ)
    ys = each_written bytes elements

    sizes : length xs ≡ length ys
    sizes = count-is as_it_is new ∙ sym (count-is bytes new) ∙ ap length same

    some_positive : 0 < length xs
    some_positive = omega (arith, sizes, some-length bytes elements some)

    all_taken : take (length xs) ys ≡ ys
    all_taken = take_all (length xs) ys (omega (arith, sizes))

    by : (named : Named) → IsSimple named → (b : Bool)
        → with_defaults inner named (take (if b then left_of named xs (length xs) else length xs) ys) (lacks named (length (take (if b then left_of named xs (length xs) else length xs) ys)))
        ≡ with_defaults inner named ys (lacks named (length ys))
    by named simple false = ap (λ zs. with_defaults inner named zs (lacks named (length zs))) all_taken
    by named simple true =
        let k : ℕ = left_of named xs (length xs) in
        ap (λ m. with_defaults inner named (take k ys) (lacks named m)) (take-length k ys (omega (arith, left-within named xs (length xs), sizes)))
        ∙ refilled named simple inner xs ys (λ j less form is. default-again named simple elements good all read same j (default_pattern named j) form is) (length xs) some_positive (omega (arith, sizes))
        ∙ ap₂ (λ zs m. with_defaults inner named zs (lacks named m)) all_taken sizes

-- the elements that a short list keeps pass a test that all its elements pass
short-passes : (test : List ℕ → List ℕ → Elements → Bool) (name : List ℕ) (elements : Elements) → all_lists_in test elements ≡ true → all_lists_in test (short_elements name elements) ≡ true
unfolding short_elements short_list_of
short-passes test name elements all = by (named_in name)
  where
    by : (o : Option Named) → all_lists_in test (short_list_of o elements) ≡ true
    by None = all
    by (Some named) = taken-all test (left named (each_written as_it_is elements)) elements all

-- a list alone
alone : (name : List ℕ) (elements : Elements) → is_simple_list name ≡ true → has_some elements ≡ true → each_apart is_simple_list elements ≡ true → are_outside is_simple_list (list_then [] name elements ends) ≡ true
unfolding are_outside
alone name elements list some good =
    and-both _ _ (and-both _ _ (and_parts (not (is_bare name)) _ (simple-test name list)).0 (and-both _ _ list (by (has_usual name)))) (and-both _ _ some (and-both _ _ good refl))
  where
    by : (b : Bool) → (if b then begins_free ends true else is_bare []) ≡ true
    by true = refl
    by false = refl

-- The usual name that a short text has for a list has the same full text as the list.
short-reads : (usual name : List ℕ) (elements : Elements) → (is_bare name || is_simple_list name) ≡ true → has_some elements ≡ true → each_apart is_simple_list elements ≡ true
    → is_known usual name elements ≡ true → all_lists_in is_known elements ≡ true → all_lists_in reads (short_of elements) ≡ true
    → reads (short_usual name (short_of elements)) name (short_elements name (short_of elements)) ≡ true
unfolding short_elements short_list_of short_of short_usual is_known reads bytes inner full_to or_bare written all_lists
short-reads usual name elements is some good known all read =
    by-name (λ name. (is_none_of_pmr (named_in name) zs && is_called (usual_for name zs) usual name zs) ≡ true → reads (or_bare (usual_for name (each_written as_it_is new))) name (short_list_of (named_in name) new) ≡ true)
    (λ h. ap (λ u. reads (or_bare u) [] (short_list_of (named_in []) new)) (bare-usual (each_written as_it_is new)))
    (λ name named list found simple h.
    ap (λ xs. reads (or_bare (usual_for name xs)) name (short_list_of (named_in name) new)) shown
    ∙ by name named list found simple (usual_for name zs) (and_parts (is_none_of_pmr (named_in name) zs) _ h).1)
    name is known
  where
    new : Elements
    new = each_changed short_elements short_usual elements

    zs : List (List ℕ)
    zs = each_written short_bytes elements

    shown : each_written as_it_is new ≡ zs
    shown = each-changed-written short_elements short_usual is_simple_list is_known as_it_is short_bytes short-of-list elements good all

    new_apart : each_apart is_simple_list new ≡ true
    new_apart = each-changed-apart short_elements short_usual is_simple_list short-stay short-plain elements good

    by : (name : List ℕ) (named : Named) → is_simple_list name ≡ true → named_in name ≡ Some named → IsSimple named → (called : Option (List ℕ)) → is_called called usual name zs ≡ true
        → reads (or_bare called) name (short_list_of (named_in name) new) ≡ true
    by name named list found simple None h = refl
    by name named list found simple (Some called) h =
        let c = called-is called usual name zs h in
        let test = tested called c.0 in
        let left_ones : Elements = taken (left named (each_written as_it_is new)) new in
        let one : Parts = list_then [] name left_ones ends in
        let texts : each_written as_it_is left_ones ≡ take (left named zs) zs = taken-written as_it_is (left named (each_written as_it_is new)) new ∙ ap (λ xs. take (left named xs) xs) shown in
        let text : usual_instance called ≡ text_from one =
        c.1 ∙ ap (λ o. left_list o name zs) found ∙ ap (λ xs. name ++ listed xs) (sym texts) ∙ sym (append-nil (name ++ listed (each_written as_it_is left_ones))) in
        let has : has_some left_ones ≡ true = taken-some (left named (each_written as_it_is new)) new
        (left-positive named simple (each_written as_it_is new) (some-length as_it_is new (changed-some short_elements short_usual elements ∙ some))) (changed-some short_elements short_usual elements ∙ some) in
        let apart : are_outside is_simple_list one ≡ true = alone name left_ones list has (taken-apart is_simple_list (left named (each_written as_it_is new)) new new_apart) in
        let passes : all_lists reads one ≡ true = and-both _ _ (taken-all reads (left named (each_written as_it_is new)) new read) refl in
        let whole : full_to 3 (usual_instance called) ≡ full_bytes (full_to 3) [] name (each_written (full_bytes (full_to 3)) left_ones) =
        sym test.whole ∙ ap (by_rules (full_rules (full_to 3))) text
        ∙ by-parts (full_rules (full_to 3)) (full_bytes (full_to 3)) is_simple_list (full-obeys (full_to 3)) reads reads-calls one apart passes
        ∙ append-nil (full_bytes (full_to 3) [] name (each_written (full_bytes (full_to 3)) left_ones)) in
        ap (λ o. reads called name (short_list_of o new)) found
        ∙ ap (λ b. b || (is_usual called && pointwise nat_eq (full_to 3 (usual_instance called)) (full_bytes (full_to 3) [] name (each_written (full_bytes (full_to 3)) left_ones)))) test.some
        ∙ and-both _ _ c.0 ((bytes_decides (full_to 3 (usual_instance called)) (full_bytes (full_to 3) [] name (each_written (full_bytes (full_to 3)) left_ones))).1 whole)

at-list : (usual name : List ℕ) (elements : Elements) → (is_bare name || is_simple_list name) ≡ true → has_some elements ≡ true → each_apart is_simple_list elements ≡ true → is_known usual name elements ≡ true
    → all_lists_in is_known elements ≡ true → all_lists_in reads (each_changed short_elements short_usual elements) ≡ true
    → each_written (full_bytes (full_to 3)) (each_changed short_elements short_usual elements) ≡ each_written (full_bytes (full_to 3)) elements
    → (reads (short_usual name (each_changed short_elements short_usual elements)) name (short_elements name (each_changed short_elements short_usual elements)) ≡ true)
    × (all_lists_in reads (short_elements name (each_changed short_elements short_usual elements)) ≡ true)
    × (full_bytes (full_to 3) (short_usual name (each_changed short_elements short_usual elements)) name (each_written (full_bytes (full_to 3)) (short_elements name (each_changed short_elements short_usual elements)))
    ≡ full_bytes (full_to 3) usual name (each_written (full_bytes (full_to 3)) elements))
unfolding short_of bytes inner full_bytes
at-list usual name elements is some good known all read same = (
  short-reads usual name elements is some good known all read,
  short-passes reads name (each_changed short_elements short_usual elements) read,
  full-of-short usual name elements is some good all read same,
)

-- full texts have the same bytes for each usual name of a list and for the list
known-reads : (usual name : List ℕ) (elements : Elements) → (is_bare name || is_simple_list name) ≡ true → has_some elements ≡ true → each_apart is_simple_list elements ≡ true → is_known usual name elements ≡ true
    → all_lists_in is_known elements ≡ true → reads usual name elements ≡ true
unfolding reads is_known short_usual full_bytes or_bare
known-reads [] name elements is some good known all = refl
known-reads (byte ∷ usual) name elements is some good known all =
    by (usual_for name zs) (ap (λ xs. or_bare (usual_for name xs)) shown) (and_parts (is_none_of_pmr (named_in name) zs) _ known).1
  where
    zs : List (List ℕ)
    zs = each_written short_bytes elements

    new : Elements
    new = each_changed short_elements short_usual elements

    shown : each_written as_it_is new ≡ zs
    shown = each-changed-written short_elements short_usual is_simple_list is_known as_it_is short_bytes short-of-list elements good all

    both : (all_lists_in reads new ≡ true) × (each_written (full_bytes (full_to 3)) new ≡ each_written (full_bytes (full_to 3)) elements)
    both = each-both short_elements short_usual is_simple_list is_known reads (full_bytes (full_to 3)) at-list elements good all

    by : (called : Option (List ℕ)) → short_usual name new ≡ or_bare called → is_called called (byte ∷ usual) name zs ≡ true
        → (is_usual (byte ∷ usual) && pointwise nat_eq (full_to 3 (usual_instance (byte ∷ usual))) (full_bytes (full_to 3) [] name (each_written (full_bytes (full_to 3)) elements))) ≡ true
    by None e h = absurd (true≢false (sym h))
    by (Some called) e h =
        let c = called-is called (byte ∷ usual) name zs h in
        let same : byte ∷ usual ≡ called = c.2 refl in
        let at = at-list (byte ∷ usual) name elements is some good known all both.0 both.1 in
        let read : reads (byte ∷ usual) name (short_elements name new) ≡ true = ap (λ u. reads u name (short_elements name new)) (same ∙ sym e) ∙ at.0 in
        let a = and_parts (is_usual (byte ∷ usual)) _ read in
        and-both _ _ a.0 (ap (λ t. pointwise nat_eq (full_to 3 (usual_instance (byte ∷ usual))) t) (sym at.2) ∙ a.1)

-- ## Whole parts

module _ (p : Parts) (apart : are_outside is_simple_list p ≡ true) (known : all_lists is_known p ≡ true) where
  pub outside-reads : all_lists reads p ≡ true
  outside-reads = outside-follow is_simple_list is_known reads known-reads p apart known

  pub outside-full : all_lists is_full (changed full_elements full_usual p) ≡ true
  outside-full = outside-all full_elements full_usual is_simple_list is_full full-list p apart

  pub outside-short : (all_lists reads (changed short_elements short_usual p) ≡ true)
      × (written (full_bytes (full_to 3)) (changed short_elements short_usual p) ≡ written (full_bytes (full_to 3)) p)
  outside-short = outside-both short_elements short_usual is_simple_list is_known reads (full_bytes (full_to 3)) at-list p apart known

-- ## The laws

module _ (text : List ℕ) (made : IsMade text) where
  abbrev p : Parts
  p = made.parts

  abbrev brief : Parts
  brief = changed short_elements short_usual p

  abbrev long : Parts
  long = changed full_elements full_usual p

  short-here : by_rules short_rules text ≡ written short_bytes p
  short-here = ap (by_rules short_rules) made.text_is ∙ by-parts short_rules short_bytes is_simple_list short-obeys is_known known-calls p made.apart made.known

  full-here : by_rules (full_rules (full_to 3)) text ≡ written (full_bytes (full_to 3)) p
  full-here =
      ap (by_rules (full_rules (full_to 3))) made.text_is
      ∙ by-parts (full_rules (full_to 3)) (full_bytes (full_to 3)) is_simple_list (full-obeys (full_to 3)) reads reads-calls p made.apart (outside-reads p made.apart made.known)

  pub made-keeps-short : short (full text) ≡ short text
  unfolding short full full_to
  made-keeps-short =
      ap (by_rules short_rules) (full-here ∙ sym (outside-written full_elements full_usual is_simple_list is_known as_it_is (full_bytes (full_to 3)) (full-of-list 2) p made.apart made.known))
      ∙ by-parts short_rules short_bytes is_simple_list short-obeys is_full (full-calls short_rules short_bytes) long (changed-outside full_elements full_usual is_simple_list full-stay full-plain p made.apart)
      (outside-full p made.apart made.known)
      ∙ outside-written full_elements full_usual is_simple_list is_known short_bytes short_bytes short-of-full p made.apart made.known
      ∙ sym short-here

  pub made-keeps-full : full (short text) ≡ full text
  unfolding short full full_to
  made-keeps-full =
      ap (by_rules (full_rules (full_to 3))) (short-here ∙ sym (outside-written short_elements short_usual is_simple_list is_known as_it_is short_bytes short-of-list p made.apart made.known))
      ∙ by-parts (full_rules (full_to 3)) (full_bytes (full_to 3)) is_simple_list (full-obeys (full_to 3)) reads reads-calls brief (changed-outside short_elements short_usual is_simple_list short-stay short-plain p made.apart)
      (outside-short p made.apart made.known).0
      ∙ (outside-short p made.apart made.known).1
      ∙ sym full-here
