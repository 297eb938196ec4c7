-- What the rules of short and full texts do with parts whose lists are those of templates without usual names.
use Rattle.short_names.proofs.Basics.{◌≡◌, ◌==◌, ◌<◌, ◌+◌, ◌-◌, ◌&&◌, ◌||◌, ◌⊎◌, inl, inr, not, refl, sym, ap, ap₂, ◌∙◌, ne_eqb, append-nil, ℕ, zero, suc, arith, Bool, true, false, List, [], ◌∷◌, ◌++◌, length, take, drop, get_or, nat_eq, codes, Option, None, Some, is_some, if◌then◌else◌, and_parts, true≢false, get_or_append_left, list_all, starts_with, Named, Alias, ALIASES, listed, alias_in, aliases_of, left, left_of, is_polymorphic, full_rules, usual, usual_in, for_pmr, pmr_in, StdName, std_name, named_in, table_name, last_part, class_of, front_size, is_constructor, ends_name, member_in, has_aliases, has_usual, is_bare, is_empty, is_other, is_no_usual, has_no_usual, has_form, is_plain, is_plain_list, is_simple, is_simple_list, is_template, short_bytes, full_bytes, is_letter, is_name_byte, short_rules, short_list, if_read_back, is_read_back, member, text_of, Answer}
use Rattle.short_names.specs.Full as of_full
use Rattle.short_names.specs.Short as of_short
use Rattle.short_names.proofs.FrontLemmas.{differs, first-dropped}
use Rattle.short_names.proofs.NameSteps.{no_named, no_std_name}
use Rattle.short_names.proofs.PartDefaults.{IsPlain, IsSimple, plain-parts, simple-parts, template-default}
use Rattle.short_names.proofs.PartForms.{and-both}
use Rattle.short_names.proofs.PartSteps.{IsFree, free-nothing}
use Rattle.short_names.proofs.PartWalks.{Obeys, not-true}

-- ## Names without usual names

colon-no-letter : is_letter 58 ≡ false
unfolding is_letter
colon-no-letter = refl

pub letter-name : (byte : ℕ) → is_letter byte ≡ true → is_name_byte byte ≡ true
unfolding is_name_byte
letter-name byte is = by (byte == 58) (is_letter byte) is
  where
    by : (a b : Bool) → b ≡ true → (a || b) ≡ true
    by true b h = refl
    by false b h = h

letter-within : (name : List ℕ) (k : ℕ) → is_letter (get_or name k 0) ≡ true → k < length name
unfolding is_letter
letter-within [] k is = absurd (true≢false (sym is))
letter-within (byte ∷ name) zero is = omega arith
letter-within (byte ∷ name) (suc k) is = omega (arith, letter-within name k is)

module _ (name rest : List ℕ) (k : ℕ) (is : is_letter (get_or name k 0) ≡ true) where
  abbrev pub behind : List ℕ
  behind = drop k (name ++ rest)

  first-letter : is_letter (get_or behind 0 0) ≡ true
  first-letter =
      let within = letter-within name k is in
      ap is_letter (first-dropped (name ++ rest) k ∙ get_or_append_left name rest 0 k within) ∙ is

  no-colons : starts_with nat_eq behind (codes "::") ≡ false
  no-colons = differs behind (codes "::") 0 (omega arith) (λ e. true≢false (sym first-letter ∙ ap is_letter e ∙ colon-no-letter))

  pub no-constructor : (class : List ℕ) → is_constructor behind class ≡ false
  unfolding is_constructor
  no-constructor class = rw no-colons refl

  pub no-end : ends_name behind ≡ false
  unfolding ends_name is_letter
  no-end = by behind refl
    where
      by : (t : List ℕ) → behind ≡ t → ends_name t ≡ false
      by [] e = absurd (true≢false (sym (sym (ap (λ t. is_letter (get_or t 0 0)) e) ∙ first-letter)))
      by (byte ∷ t) e = rw (sym (ap (λ t. starts_with nat_eq t (codes "::")) e) ∙ no-colons, letter-name byte (sym (ap (λ t. is_letter (get_or t 0 0)) e) ∙ first-letter)) refl

-- ## Where neither a name nor a list comes first

module _ (rest : List ℕ) (free : IsFree rest) where
  colons : starts_with nat_eq rest (codes "::") ≡ false
  unfolding is_name_byte
  colons = differs rest (codes "::") 0 (omega arith) (λ e. true≢false (sym (ap is_name_byte e) ∙ free.0))

  pub free-constructor : (class : List ℕ) → is_constructor rest class ≡ false
  unfolding is_constructor
  free-constructor class = rw colons refl

  pub free-end : ends_name rest ≡ true
  unfolding ends_name
  free-end = by rest refl
    where
      by : (t : List ℕ) → rest ≡ t → ends_name t ≡ true
      by [] e = refl
      by (byte ∷ t) e =
          let other : is_name_byte byte ≡ false = sym (ap (λ t. is_name_byte (get_or t 0 0)) e) ∙ free.0 in
          let shut : (byte == 60) ≡ false = ne_eqb byte 60 (λ same. free.1 (ap (λ t. get_or t 0 0) e ∙ same)) in
          rw (sym (ap (λ t. starts_with nat_eq t (codes "::")) e) ∙ colons, other, shut) refl

none-usual : (rows : List Alias) (name rest : List ℕ) → list_all (λ (row : Alias). not (starts_with nat_eq name (text_of row.name)) || is_letter (get_or name (length (text_of row.name)) 0)) rows ≡ true
    → (usual_in rows name (name ++ rest) ≡ None) × (member_in rows name (name ++ rest) ≡ None)
unfolding usual_in member_in
none-usual [] name rest all = (refl, refl)
none-usual (row ∷ rows) name rest all =
    let a = and_parts _ (list_all (λ (row : Alias). not (starts_with nat_eq name (text_of row.name)) || is_letter (get_or name (length (text_of row.name)) 0)) rows) all in
    let again = none-usual rows name rest a.1 in
    by (starts_with nat_eq name (text_of row.name)) a.0 again.0 again.1
  where
    by : (b : Bool) → (not b || is_letter (get_or name (length (text_of row.name)) 0)) ≡ true → usual_in rows name (name ++ rest) ≡ None → member_in rows name (name ++ rest) ≡ None
        → ((if b && ends_name (drop (length (text_of row.name)) (name ++ rest)) then Some row else usual_in rows name (name ++ rest)) ≡ None)
        × ((if b && is_constructor (drop (length (text_of row.name)) (name ++ rest)) (last_part (text_of row.template)) then Some row else member_in rows name (name ++ rest)) ≡ None)
    by false h one two = (one, two)
    by true h one two =
        let k = length (text_of row.name) in
        (rw (no-end name rest k h) one, rw (no-constructor name rest k h (last_part (text_of row.template))) two)

module _ (name rest : List ℕ) (other : is_other name ≡ true) where
  parts : ((is_some (named_in name) ≡ false) × (is_some (pmr_in name) ≡ false)) × (is_no_usual (std_name name) ≡ true)
  unfolding is_other
  parts =
      let a = and_parts (not (is_bare name)) _ other in
      let b = and_parts (list_all is_name_byte name) _ a.1 in
      let c = and_parts (not (is_some (named_in name))) _ b.1 in
      let d = and_parts (not (is_some (pmr_in name))) _ c.1 in
      ((not-true (is_some (named_in name)) c.0, not-true (is_some (pmr_in name)) d.0), d.1)

  pub short-leaves : (short_rules.opens name ≡ false) × (short_rules.for_name name rest ≡ None)
  unfolding has_no_usual
  short-leaves = (parts.0.0, by (std_name name) parts.1)
    where
      by : (o : Option StdName) → is_no_usual o ≡ true → of_short.for_name name rest o ≡ None
      by None h = refl
      by (Some std) h = ap (member name rest std.name) (none-usual ALIASES std.name rest h).1

  pub full-leaves : (inner : List ℕ → List ℕ) → ((full_rules inner).opens name ≡ false) × ((full_rules inner).for_name name rest ≡ None)
  unfolding has_no_usual
  full-leaves inner = (ap₂ (λ a b. a || b) parts.0.0 parts.0.1, by (std_name name) parts.1)
    where
      by : (o : Option StdName) → is_no_usual o ≡ true → of_full.for_name inner name rest o ≡ None
      by None h = refl
      by (Some std) h = ap (usual inner std name rest) (none-usual ALIASES std.name rest h).0

-- ## Lists

named-or : (o : Option Named) → is_simple o ≡ true → (named : Named) × (o ≡ Some named) × IsSimple named
unfolding is_simple
named-or None h = absurd (true≢false (sym h))
named-or (Some named) h = (named, refl, simple-parts named h)

pub simple-named : (name : List ℕ) → is_simple_list name ≡ true → (named : Named) × (named_in name ≡ Some named) × IsSimple named
unfolding is_simple_list
simple-named name is =
    let a = and_parts (not (is_bare name)) _ is in
    let b = and_parts (list_all is_name_byte name) _ a.1 in
    named-or (named_in name) b.1

plain-or : (o : Option Named) → is_plain o ≡ true → (named : Named) × (o ≡ Some named) × IsPlain named
unfolding is_plain
plain-or None h = absurd (true≢false (sym h))
plain-or (Some named) h = (named, refl, plain-parts named h)

pub plain-named : (name : List ℕ) → is_plain_list name ≡ true → (named : Named) × (named_in name ≡ Some named) × IsPlain named
unfolding is_plain_list
plain-named name is =
    let a = and_parts (not (is_bare name)) _ is in
    let b = and_parts (list_all is_name_byte name) _ a.1 in
    plain-or (named_in name) b.1

-- the name of such a list (`is_plain_list`) is also one for `is_simple_list`
pub plain-list : (name : List ℕ) → is_plain_list name ≡ true → is_simple_list name ≡ true
unfolding is_plain_list is_simple_list is_plain is_simple
plain-list name is =
    let a = and_parts (not (is_bare name)) _ is in
    let b = and_parts (list_all is_name_byte name) _ a.1 in
    and-both _ _ a.0 (and-both _ _ b.0 (by (named_in name) b.1))
  where
    by : (o : Option Named) → is_plain o ≡ true → is_simple o ≡ true
    by None h = absurd (true≢false (sym h))
    by (Some named) h = template-default named (and_parts (is_template has_form named) _ h).0

list-name : (name : List ℕ) → is_simple_list name ≡ true → (0 < length name) × (list_all is_name_byte name ≡ true)
unfolding is_simple_list
list-name [] is = absurd (true≢false (sym is))
list-name (byte ∷ name) is =
    let a = and_parts true _ is in
    (omega arith, (and_parts (list_all is_name_byte (byte ∷ name)) _ a.1).0)

-- an answer with no bytes after the list
abbrev plain : List ℕ → Answer
plain bytes = record { bytes = bytes; size = 0 }

abbrev polymorphic_bytes : Named → List ℕ → List (List ℕ) → List ℕ
polymorphic_bytes named name elements = of_short.before_name named name ++ codes "pmr::" ++ text_of named.template.name ++ listed (take (left_of named elements (length elements - 1)) elements)

abbrev shortened_bytes : Named → List ℕ → List (List ℕ) → List ℕ
shortened_bytes named name elements = name ++ listed (take (left named elements) elements)

abbrev pub short_answer : Named → (name : List ℕ) → List (List ℕ) → Option Alias → Answer
short_answer named name elements None = if is_polymorphic named elements then plain (polymorphic_bytes named name elements) else plain (shortened_bytes named name elements)
short_answer named name elements (Some alias) = plain (of_short.before_name named name ++ text_of alias.name)

-- no usual name is looked for, or what follows doesn't matter
free-answer : (named : Named) (name : List ℕ) (elements : List (List ℕ)) (rest : List ℕ) → (aliases_of named ≡ []) ⊎ IsFree rest
    → short_list named name elements rest ≡ short_answer named name elements (alias_in (aliases_of named) named elements (left named elements))
unfolding short_list alias_in
free-answer named name elements rest (inl none) =
    ap (λ (rows : List Alias). elim (if_read_back rest (alias_in rows named elements (left named elements))) [
      | Some alias ↦ of_short.behind (of_short.before_name named name ++ text_of alias.name) (of_short.constructor alias rest)
      | None ↦ if is_polymorphic named elements then plain (polymorphic_bytes named name elements) else plain (shortened_bytes named name elements)
    ]) none
    ∙ ap (λ (rows : List Alias). short_answer named name elements (alias_in rows named elements (left named elements))) (sym none)
free-answer named name elements rest (inr free) = by (alias_in (aliases_of named) named elements (left named elements))
  where
    write : Option Alias → Answer
    write o = elim o [
      | Some alias ↦ of_short.behind (of_short.before_name named name ++ text_of alias.name) (of_short.constructor alias rest)
      | None ↦ if is_polymorphic named elements then plain (polymorphic_bytes named name elements) else plain (shortened_bytes named name elements)
    ]

    by : (o : Option Alias) → write (if_read_back rest o) ≡ short_answer named name elements o
    by None = refl
    by (Some alias) =
        let own : is_constructor rest (last_part (text_of alias.template)) ≡ false = free-constructor rest free (last_part (text_of alias.template)) in
        let before : List ℕ = of_short.before_name named name ++ text_of alias.name in
        let read : is_read_back rest alias ≡ true =
        ap (λ e. e && (is_constructor rest (last_part (text_of alias.template)) || not (is_constructor rest (class_of alias)))) (free-end rest free)
        ∙ ap₂ (λ x y. x || not y) own (free-constructor rest free (class_of alias)) in
        let none : of_short.constructor alias rest ≡ plain [] =
        ap (λ (b : Bool). if b then record {
          bytes = take (front_size rest) rest ++ class_of alias;
          size = front_size rest + length (last_part (text_of alias.template));
        } else record { bytes = []; size = 0 }) own in
        ap (λ (b : Bool). write (if b then Some alias else None)) read
        ∙ ap (of_short.behind before) none
        ∙ ap (λ t. plain t) (append-nil before)

short-here : (usual name : List ℕ) (named : Named) (elements : List (List ℕ)) → named_in name ≡ Some named
    → short_bytes usual name elements ≡ (short_answer named name elements (alias_in (aliases_of named) named elements (left named elements))).bytes
unfolding short_bytes
short-here usual name named elements is =
    ap (λ (o : Option Named). (of_short.for_list o name elements []).bytes) is ∙ ap (λ (a : Answer). a.bytes) (free-answer named name elements [] (inr free-nothing))

-- a list without a usual name, where the last argument isn't the allocator of `std::pmr`
pub short-simple : (usual name : List ℕ) (named : Named) (elements : List (List ℕ)) → named_in name ≡ Some named → alias_in (aliases_of named) named elements (left named elements) ≡ None
    → is_polymorphic named elements ≡ false → short_bytes usual name elements ≡ name ++ listed (take (left named elements) elements)
short-simple usual name named elements is none no_pmr =
    short-here usual name named elements is ∙ ap (λ o. (short_answer named name elements o).bytes) none
    ∙ ap (λ (b : Bool). (if b then plain (polymorphic_bytes named name elements) else plain (shortened_bytes named name elements)).bytes) no_pmr

-- a list with a usual name
pub short-called : (usual name : List ℕ) (named : Named) (elements : List (List ℕ)) (alias : Alias) → named_in name ≡ Some named → alias_in (aliases_of named) named elements (left named elements) ≡ Some alias
    → short_bytes usual name elements ≡ of_short.before_name named name ++ text_of alias.name
short-called usual name named elements alias is found = short-here usual name named elements is ∙ ap (λ o. (short_answer named name elements o).bytes) found

bare-named : named_in [] ≡ None
bare-named = no_named [] refl

pub short-obeys : Obeys short_rules short_bytes is_simple_list
unfolding short_bytes has_usual
short-obeys = record {
  leave = λ name rest is. short-leaves name rest is;
  open_list = λ name is. let n = simple-named name is in let l = list-name name is in (ap is_some n.1, l.0, l.1);
  answers = λ usual name elements rest is free. let n = simple-named name is in by name elements rest n.0 n.1 (none-or-free name rest n.0 n.1 free);
  bare = λ elements rest. ap (λ o. of_short.for_list o [] elements rest) bare-named ∙ ap (λ (o : Option Named). record { bytes = (of_short.for_list o [] elements []).bytes; size = 0 }) (sym bare-named);
  bare_is = λ elements. ap (λ (o : Option Named). (of_short.for_list o [] elements []).bytes) bare-named;
}
  where
    sized : (named : Named) (name : List ℕ) (elements : List (List ℕ)) (o : Option Alias) → short_answer named name elements o ≡ plain (short_answer named name elements o).bytes
    sized named name elements None = either (is_polymorphic named elements)
      where
        either : (b : Bool) → (if b then plain (polymorphic_bytes named name elements) else plain (shortened_bytes named name elements))
            ≡ plain (if b then plain (polymorphic_bytes named name elements) else plain (shortened_bytes named name elements)).bytes
        either true = refl
        either false = refl
    sized named name elements (Some alias) = refl

    none-or-free : (name rest : List ℕ) (named : Named) → named_in name ≡ Some named → (has_usual name ≡ true → IsFree rest) → (aliases_of named ≡ []) ⊎ IsFree rest
    none-or-free name rest named is free = rows (aliases_of named) refl
      where
        rows : (them : List Alias) → aliases_of named ≡ them → (aliases_of named ≡ []) ⊎ IsFree rest
        rows [] e = inl e
        rows (row ∷ others) e = inr (free (ap has_aliases is ∙ ap (λ (them : List Alias). not (is_empty them)) e))

    by : (name : List ℕ) (elements : List (List ℕ)) (rest : List ℕ) (named : Named) → named_in name ≡ Some named → (aliases_of named ≡ []) ⊎ IsFree rest
        → of_short.for_list (named_in name) name elements rest ≡ record { bytes = (of_short.for_list (named_in name) name elements []).bytes; size = 0 }
    by name elements rest named is free =
        let found : Option Alias = alias_in (aliases_of named) named elements (left named elements) in
        ap (λ o. of_short.for_list o name elements rest) is ∙ free-answer named name elements rest free ∙ sized named name elements found
        ∙ ap (λ (a : Answer). record { bytes = a.bytes; size = 0 }) (sym (ap (λ o. of_short.for_list o name elements []) is ∙ free-answer named name elements [] (inr free-nothing)))

pub full-obeys : (inner : List ℕ → List ℕ) → Obeys (full_rules inner) (full_bytes inner) is_simple_list
unfolding full_bytes
full-obeys inner = record {
  leave = λ name rest is. full-leaves name rest is inner;
  open_list = λ name is. let n = simple-named name is in let l = list-name name is in (ap (λ o. is_some o || is_some (pmr_in name)) n.1, l.0, l.1);
  answers = λ usual name elements rest is free. sized name elements (named_in name);
  bare = λ elements rest. sized [] elements (named_in []);
  bare_is = λ elements. ap (λ (o : Option Named). (of_full.for_list inner [] elements o).bytes) bare-named ∙ ap (λ (o : Option Named). (for_pmr inner [] elements o).bytes) bare-pmr;
}
  where
    pmr_sized : (name : List ℕ) (elements : List (List ℕ)) (o : Option Named) → for_pmr inner name elements o ≡ record { bytes = (for_pmr inner name elements o).bytes; size = 0 }
    pmr_sized name elements None = refl
    pmr_sized name elements (Some named) = refl

    sized : (name : List ℕ) (elements : List (List ℕ)) (o : Option Named) → of_full.for_list inner name elements o ≡ record { bytes = (of_full.for_list inner name elements o).bytes; size = 0 }
    sized name elements None = pmr_sized name elements (pmr_in name)
    sized name elements (Some named) = refl

    bare-pmr : pmr_in [] ≡ None
    bare-pmr = ap (λ std. of_full.if_polymorphic (table_name (of_full.without_pmr std))) (no_std_name [] refl)
