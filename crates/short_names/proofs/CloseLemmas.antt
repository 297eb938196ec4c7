-- A closed list after a name of the table.
use Rattle.short_names.proofs.Basics.{◌≡◌, ◌≤◌, ◌+◌, ◌-◌, ◌==◌, inl, inr, refl, sym, ap, ◌∙◌, ℕ, arith, Bool, true, false, List, [], ◌∷◌, ◌++◌, length, take, drop, Option, None, Some, is_some, append_assoc, append-nil, length-drop, length-append, length-take-le, nat_eq, codes, if◌then◌else◌, drop-drop, drop_all, take_at, drop_at, take-append-le, drop-append-le, take-add, starts_with, Named, Alias, Place, Template, TEMPLATES, WHOLES, PARTS, IsList, IsAnswered, joined, listed, left, left_of, is_polymorphic, alias_in, aliases_of, class_of, front_size, is_constructor, last_part, named_in, std_name, row_in, size_of, behind_part, behind_whole, table_name, template_in, with_template, before_name, behind, constructor, if_read_back, short_list, starts_of, AreElements, text_of, Answer}
use Rattle.std.proofs.lemmas.Bool.{true≢false, cases_order, eqb-true}
use lib.Pointwise.{pointwise, bytes_decides}
use Rattle.short_names.proofs.ElementLemmas.{front-of-joined}
use Rattle.short_names.proofs.NameLemmas.{colons-from, no-class}
use Rattle.short_names.proofs.NameSteps.{starts-within}

-- ## A name of the table ends with its template's name

template-is : (rows : List Template) (name : List ℕ) (template : Template) → template_in rows name ≡ Some template → text_of template.name ≡ name
unfolding template_in
template-is [] name template e = absurd (true≢false (sym (ap is_some e)))
template-is (row ∷ rows) name template e = by (pointwise nat_eq (text_of row.name) name) refl e (template-is rows name template)
  where
    by : (b : Bool) → pointwise nat_eq (text_of row.name) name ≡ b → (if b then Some row else template_in rows name) ≡ Some template
        → (template_in rows name ≡ Some template → text_of template.name ≡ name) → text_of template.name ≡ name
    by true f e ih =
        let pick : Option Template → Template = λ o. elim o [ None ↦ template | Some it ↦ it ] in
        ap (λ (t : Template). text_of t.name) (sym (ap pick e)) ∙ (bytes_decides (text_of row.name) name).0 f
    by false f e ih = ih e

tail-is : (name tail : List ℕ) (k : ℕ) → tail ≡ drop k name → (length tail ≤ length name) × (drop (length name - length tail) name ≡ tail)
tail-is name tail k e =
    let long : length tail ≡ length name - k = ap length e ∙ length-drop k name in
    elim (cases_order k (length name)) [
      | inl same ↦ (omega (arith, long), ap (λ n. drop n name) (omega (arith, long, same)) ∙ sym e)
      | inr other ↦ elim other [
        | inl less ↦ (omega (arith, long), ap (λ n. drop n name) (omega (arith, long, less)) ∙ sym e)
        | inr past ↦ (omega (arith, long), drop_all (length name - length tail) name (omega (arith, long, past)) ∙ sym (e ∙ drop_all k name (omega (arith, past))))
      ]
    ]

-- a name of the table ends with the name of its template
pub name-ends : (name : List ℕ) (named : Named) → named_in name ≡ Some named
    → (length (text_of named.template.name) ≤ length name) × (drop (length name - length (text_of named.template.name)) name ≡ text_of named.template.name)
unfolding named_in std_name
name-ends name named e = by_whole (row_in WHOLES name) e
  where
    by_template : (whole : Place) (k : ℕ) (o : Option Template) → template_in TEMPLATES (drop k name) ≡ o → with_template whole o ≡ Some named
        → (length (text_of named.template.name) ≤ length name) × (drop (length name - length (text_of named.template.name)) name ≡ text_of named.template.name)
    by_template whole k None f e = absurd (true≢false (sym (ap is_some e)))
    by_template whole k (Some template) f e =
        let pick : Option Named → Named = λ o. elim o [ None ↦ named | Some it ↦ it ] in
        let template_is : text_of template.name ≡ text_of named.template.name = ap (λ (n : Named). text_of n.template.name) (ap pick e) in
        tail-is name (text_of named.template.name) k (sym template_is ∙ template-is TEMPLATES (drop k name) template f)

    by_whole : (o : Option Place) → table_name (behind_whole name o) ≡ Some named
        → (length (text_of named.template.name) ≤ length name) × (drop (length name - length (text_of named.template.name)) name ≡ text_of named.template.name)
    by_whole None e = absurd (true≢false (sym (ap is_some e)))
    by_whole (Some whole) e =
        let m : List ℕ = drop (length (text_of whole)) name in
        let k : ℕ = length (text_of whole) + size_of (row_in PARTS m) in
        let behind_is : behind_part m ≡ drop k name = drop-drop (size_of (row_in PARTS m)) (length (text_of whole)) name in
        by_template whole k (template_in TEMPLATES (drop k name)) refl (ap (λ n. with_template whole (template_in TEMPLATES n)) (sym behind_is) ∙ e)

-- ## What is written

take-past : (xs ys : List ℕ) (k : ℕ) → take (length xs + k) (xs ++ ys) ≡ xs ++ take k ys
take-past xs ys k =
    take-add (length xs) k (xs ++ ys) ∙ ap (λ t. t ++ take k (drop (length xs) (xs ++ ys))) (take_at xs ys (length xs) refl) ∙ ap (λ t. xs ++ take k t) (drop_at xs ys (length xs) refl)

drop-past : (xs ys : List ℕ) (k : ℕ) → drop (length xs + k) (xs ++ ys) ≡ drop k ys
drop-past xs ys k = sym (drop-drop k (length xs) (xs ++ ys)) ∙ ap (drop k) (drop_at xs ys (length xs) refl)

-- ## A constructor after a usual name

front-some : (text : List ℕ) → 2 ≤ front_size text
front-some text = by (starts_with nat_eq text (codes "::~"))
  where
    by : (b : Bool) → 2 ≤ (if b then 3 else 2)
    by true = omega arith
    by false = omega arith

front-within : (text : List ℕ) → starts_with nat_eq text (codes "::") ≡ true → front_size text ≤ length text
front-within text colons = by (starts_with nat_eq text (codes "::~")) refl
  where
    by : (b : Bool) → starts_with nat_eq text (codes "::~") ≡ b → (if b then 3 else 2) ≤ length text
    by true h = starts-within text (codes "::~") h
    by false h = starts-within text (codes "::") colons

class-follows : (text class : List ℕ) → is_constructor text class ≡ true → starts_with nat_eq (drop (front_size text) text) class ≡ true
class-follows text class is = by (starts_with nat_eq (drop (front_size text) text) class) refl
  where
    by : (b : Bool) → starts_with nat_eq (drop (front_size text) text) class ≡ b → starts_with nat_eq (drop (front_size text) text) class ≡ true
    by true h = h
    by false h = absurd (true≢false (sym is ∙ no-class text class (colons-from text class is) h))

pub constructor-room : (text class : List ℕ) → is_constructor text class ≡ true → front_size text + length class ≤ length text
constructor-room text class is =
    omega
    (arith, front-within text (colons-from text class is), starts-within (drop (front_size text) text) class (class-follows text class is), length-drop (front_size text) text)

module _ (items rest front : List ℕ) (alias : Alias) where
  abbrev class : List ℕ
  class = last_part (text_of alias.template)

  abbrev front_for : Bool → List ℕ
  front_for b = if b then take (front_size rest) rest else []

  abbrev made : Bool → Answer
  made b =
      if b then record { bytes = take (front_size rest) rest ++ class_of alias; size = front_size rest + length class }
      else record { bytes = []; size = 0 }

  long : is_constructor rest class ≡ true → front ≡ take (front_size rest) rest → length front ≡ front_size rest
  long is e = ap length e ∙ length-take-le (front_size rest) rest (front-within rest (colons-from rest class is))

  -- where no constructor follows, nothing is written
  pub none-answered : front ≡ front_for (is_constructor rest class) → (length front == 0) ≡ true → IsAnswered items items rest (constructor alias rest) 0
  none-answered front_is empty = by (is_constructor rest class) refl
    where
      by : (b : Bool) → is_constructor rest class ≡ b → IsAnswered items items rest (made b) 0
      by true e = absurd (omega (arith, long e (front_is ∙ ap front_for e), eqb-true (length front) 0 empty, front-some rest))
      by false e = record { text_is = sym (append-nil items); size_is = refl; within = omega arith }

  -- a constructor that follows is written with the name of the class
  pub some-answered : (new : List ℕ) (size : ℕ) → front ≡ front_for (is_constructor rest class) → (length front == 0) ≡ false
      → new ≡ (items ++ front) ++ class_of alias → size ≡ length front + length class → IsAnswered new items rest (constructor alias rest) size
  some-answered new size front_is some new_is size_is = by (is_constructor rest class) refl
    where
      by : (b : Bool) → is_constructor rest class ≡ b → IsAnswered new items rest (made b) size
      by true e = record {
        text_is = new_is ∙ append_assoc items front (class_of alias) ∙ ap (λ f. items ++ (f ++ class_of alias)) (front_is ∙ ap front_for e);
        size_is = size_is ∙ ap (λ n. n + length class) (long e (front_is ∙ ap front_for e));
        within = omega (arith, size_is, long e (front_is ∙ ap front_for e), constructor-room rest class e);
      }
      by false e = absurd (true≢false (ap (λ (f : List ℕ). length f == 0) (sym (front_is ∙ ap front_for e)) ∙ some))

-- ## A list

module _ {text : List ℕ} {named : Named} {bracket : ℕ} {starts before name : List ℕ} {elements : List (List ℕ)} (is : IsList text named bracket starts before name elements) where
  abbrev t : List ℕ
  t = text_of named.template.name

  -- the elements of the list
  abbrev pub list-elements : AreElements text starts elements
  list-elements = record {
    before = before ++ name ++ 60 ∷ [];
    text_is = is.text_is ∙ sym (append_assoc (before ++ name) (60 ∷ []) (joined elements));
    starts_are = is.starts_are ∙ ap (λ n. starts_of n elements) (omega (arith, is.bracket_is, length-append (before ++ name) (60 ∷ [])));
    some = is.some;
  }

  -- the elements of the list in a slice of the text
  abbrev pub slice-elements : (slice : List ℕ) → slice ≡ text → AreElements slice starts elements
  slice-elements slice same = record {
    before = before ++ name ++ 60 ∷ [];
    text_is = same ∙ list-elements.text_is;
    starts_are = list-elements.starts_are;
    some = is.some;
  }

  ends-with : (length t ≤ length name) × (drop (length name - length t) name ≡ t)
  ends-with = name-ends name named is.named_is

  pub name-place : length t ≤ bracket
  name-place = omega (arith, ends-with.0, is.bracket_is, length-append before name)

  place-is : bracket - length t ≡ length before + (length name - length t)
  place-is = omega (arith, ends-with.0, is.bracket_is, length-append before name)

  -- the text up to the end of some of the first elements
  cut-is : (count end : ℕ) → end ≡ length (before ++ name ++ 60 ∷ []) + length (joined (take count elements)) → take end text ≡ before ++ (name ++ 60 ∷ joined (take count elements))
  cut-is count end e =
      ap (λ n. take n text) e ∙ ap (take (length (before ++ name ++ 60 ∷ []) + length (joined (take count elements)))) list-elements.text_is
      ∙ take-past (before ++ name ++ 60 ∷ []) (joined elements) (length (joined (take count elements)))
      ∙ ap (λ u. before ++ name ++ 60 ∷ [] ++ u) (front-of-joined count elements)
      ∙ append_assoc (before ++ name) (60 ∷ []) (joined (take count elements)) ∙ append_assoc before name (60 ∷ joined (take count elements))

  -- a front of the text up to the template's name
  front-is : (behind_name : List ℕ) → take (bracket - length t) (before ++ (name ++ behind_name)) ≡ before ++ before_name named name
  front-is behind_name =
      ap (λ n. take n (before ++ (name ++ behind_name))) place-is ∙ take-past before (name ++ behind_name) (length name - length t)
      ∙ ap (λ u. before ++ u) (take-append-le (length name - length t) name behind_name (omega arith))

  back-is : (behind_name : List ℕ) → drop (bracket - length t) (before ++ (name ++ behind_name)) ≡ t ++ behind_name
  back-is behind_name =
      ap (λ n. drop n (before ++ (name ++ behind_name))) place-is ∙ drop-past before (name ++ behind_name) (length name - length t)
      ∙ drop-append-le (length name - length t) name behind_name (omega arith) ∙ ap (λ u. u ++ behind_name) ends-with.1

  pub name-within : (count end : ℕ) → end ≡ length (before ++ name ++ 60 ∷ []) + length (joined (take count elements)) → bracket - length t ≤ length (take end text)
  name-within count end e =
      let behind_name : List ℕ = 60 ∷ joined (take count elements) in
      omega (arith, place-is, ap length (cut-is count end e), length-append before (name ++ behind_name), length-append name behind_name)

  -- what is written: the usual name if there is one, and otherwise the list, in `std::pmr` or in `std`
  abbrev in_pmr : ℕ → Answer
  in_pmr count = record { bytes = before_name named name ++ codes "pmr::" ++ t ++ listed (take count elements); size = 0 }

  abbrev in_std : ℕ → Answer
  in_std count = record { bytes = name ++ listed (take count elements); size = 0 }

  abbrev by_elements : Bool → Answer
  by_elements polymorphic = if polymorphic then in_pmr (left_of named elements (length elements - 1)) else in_std (left named elements)

  abbrev by_usual : (rest : List ℕ) → Option Alias → Answer
  by_usual rest usual = elim usual [
    | Some alias ↦ behind (before_name named name ++ text_of alias.name) (constructor alias rest)
    | None ↦ by_elements (is_polymorphic named elements)
  ]

  -- a list that is written by its usual name
  pub usual-answer : (rest : List ℕ) (alias : Alias) (new : List ℕ) (size : ℕ) → if_read_back rest (alias_in (aliases_of named) named elements (left named elements)) ≡ Some alias
      → new ≡ (take (bracket - length t) text ++ text_of alias.name) ++ (constructor alias rest).bytes → size ≡ (constructor alias rest).size → size ≤ length rest
      → IsAnswered new before rest (short_list named name elements rest) size
  unfolding short_list
  usual-answer rest alias new size usual new_is size_is within =
      let written : List ℕ = before_name named name ++ text_of alias.name in
      let answer_is : short_list named name elements rest ≡ behind written (constructor alias rest) = ap (by_usual rest) usual in
      record {
        text_is =
            new_is ∙ ap (λ u. take (bracket - length t) u ++ text_of alias.name ++ (constructor alias rest).bytes) (is.text_is ∙ append_assoc before name (60 ∷ joined elements))
            ∙ ap (λ u. u ++ text_of alias.name ++ (constructor alias rest).bytes) (front-is (60 ∷ joined elements))
            ∙ ap (λ u. u ++ (constructor alias rest).bytes) (append_assoc before (before_name named name) (text_of alias.name))
            ∙ append_assoc before written (constructor alias rest).bytes ∙ ap (λ (a : Answer). before ++ a.bytes) (sym answer_is);
        size_is = size_is ∙ ap (λ (a : Answer). a.size) (sym answer_is);
        within = within;
      }

  -- a list that is written in `std::pmr`
  pub polymorphic-answer : (rest new : List ℕ) (count end : ℕ) → if_read_back rest (alias_in (aliases_of named) named elements (left named elements)) ≡ None → is_polymorphic named elements ≡ true
      → count ≡ left_of named elements (length elements - 1) → end ≡ length (before ++ name ++ 60 ∷ []) + length (joined (take count elements))
      → new ≡ (take (bracket - length t) (take end text) ++ codes "pmr::" ++ drop (bracket - length t) (take end text)) ++ 62 ∷ []
      → IsAnswered new before rest (short_list named name elements rest) 0
  unfolding short_list
  polymorphic-answer rest new count end usual polymorphic count_is end_is new_is =
      let elements_left : List ℕ = 60 ∷ joined (take count elements) in
      let answer_is : short_list named name elements rest ≡ in_pmr (left_of named elements (length elements - 1)) = ap (by_usual rest) usual ∙ ap by_elements polymorphic in
      let cut = cut-is count end end_is in
      record {
        text_is =
            new_is ∙ ap (λ u. (take (bracket - length t) u ++ codes "pmr::" ++ drop (bracket - length t) u) ++ 62 ∷ []) cut
            ∙ ap (λ u. (u ++ codes "pmr::" ++ drop (bracket - length t) (before ++ (name ++ elements_left))) ++ 62 ∷ []) (front-is elements_left)
            ∙ ap (λ u. (before ++ before_name named name ++ codes "pmr::" ++ u) ++ 62 ∷ []) (back-is elements_left)
            ∙ ap (λ u. u ++ 62 ∷ []) (sym (append_assoc (before ++ before_name named name ++ codes "pmr::") t elements_left))
            ∙ append_assoc (before ++ before_name named name ++ codes "pmr::" ++ t) elements_left (62 ∷ [])
            ∙ ap (λ u. u ++ t ++ (elements_left ++ 62 ∷ [])) (append_assoc (before) (before_name named name) (codes "pmr::"))
            ∙ ap (λ u. u ++ (elements_left ++ 62 ∷ [])) (append_assoc before (before_name named name ++ codes "pmr::") t)
            ∙ append_assoc before (before_name named name ++ codes "pmr::" ++ t) (elements_left ++ 62 ∷ [])
            ∙ ap (λ n. before ++ (in_pmr n).bytes) count_is ∙ ap (λ (a : Answer). before ++ a.bytes) (sym answer_is);
        size_is = ap (λ (a : Answer). a.size) (sym answer_is);
        within = omega arith;
      }

  -- a list that is written without what its template has by default
  pub plain-answer : (rest new : List ℕ) (count end : ℕ) → if_read_back rest (alias_in (aliases_of named) named elements (left named elements)) ≡ None → is_polymorphic named elements ≡ false
      → count ≡ left named elements → end ≡ length (before ++ name ++ 60 ∷ []) + length (joined (take count elements)) → new ≡ take end text ++ 62 ∷ []
      → IsAnswered new before rest (short_list named name elements rest) 0
  unfolding short_list
  plain-answer rest new count end usual polymorphic count_is end_is new_is =
      let answer_is : short_list named name elements rest ≡ in_std (left named elements) = ap (by_usual rest) usual ∙ ap by_elements polymorphic in
      record {
        text_is =
            new_is ∙ ap (λ u. u ++ 62 ∷ []) (cut-is count end end_is)
            ∙ append_assoc before (name ++ 60 ∷ joined (take count elements)) (62 ∷ []) ∙ ap (λ u. before ++ u) (append_assoc name (60 ∷ joined (take count elements)) (62 ∷ []))
            ∙ ap (λ n. before ++ (in_std n).bytes) count_is ∙ ap (λ (a : Answer). before ++ a.bytes) (sym answer_is);
        size_is = ap (λ (a : Answer). a.size) (sym answer_is);
        within = omega arith;
      }
