-- What is written for a name, or for a name and its list, isn't longer than what it replaces.
use Rattle.short_names.proofs.Basics.{◌≡◌, ◌≤◌, ◌<◌, ◌+◌, ◌-◌, ◌==◌, ◌&&◌, ◌||◌, not, refl, sym, ap, subst, ℕ, zero, suc, arith, Bool, true, false, List, [], ◌∷◌, ◌++◌, length, take, drop, Option, None, Some, nat_eq, nat_le, codes, length-append, length-drop, length-take, if◌then◌else◌, leb-true, eqb-true, and_parts, true≢false, take-take, pointwise, list_all, flat_map, Named, Alias, Place, Template, ALIASES, TEMPLATES, WHOLES, joined, listed, element, filled_for, is_given, is_default, left, left_of, is_polymorphic, alias_in, aliases_of, StdName, std_name, named_in, row_in, behind_whole, table_name, template_in, with_template, class_of, front_size, is_constructor, last_part, member_in, bit, filled, ticks, before_name, behind, constructor, if_read_back, is_read_back, short_list, for_list, for_name, member, text_of, Answer}
use lib.Pointwise.{bytes_decides}
use Rattle.short_names.proofs.CloseLemmas.{name-ends, constructor-room}
use Rattle.short_names.proofs.ElementLemmas.{joined-before, joined-front}
use Rattle.short_names.proofs.NameLemmas.{std-end, member-is}
use Rattle.short_names.proofs.NameSteps.{starts-within}

-- ## Patterns

-- how many bytes of a pattern are no holes
literals : List ℕ → ℕ
literals [] = 0
literals (byte ∷ pattern) = (if nat_le 4 byte then 1 else 0) + literals pattern

one-byte : (first second whole : List ℕ) (byte : ℕ) → (if nat_le 4 byte then 1 else 0) ≤ length (bit first second whole byte)
one-byte first second whole byte = by (byte == 0) (byte == 1) (byte == 2) (byte == 3) (nat_le 4 byte) refl refl refl refl refl
  where
    by : (a b c d e : Bool) → (byte == 0) ≡ a → (byte == 1) ≡ b → (byte == 2) ≡ c → (byte == 3) ≡ d → nat_le 4 byte ≡ e
        → (if e then 1 else 0) ≤ length (if a then first else (if b then second else (if c then whole else (if d then ticks whole else byte ∷ []))))
    by a b c d false is-a is-b is-c is-d high = omega arith
    by true b c d true is-a is-b is-c is-d high = absurd (omega (arith, eqb-true byte 0 is-a, leb-true 4 byte high))
    by false true c d true is-a is-b is-c is-d high = absurd (omega (arith, eqb-true byte 1 is-b, leb-true 4 byte high))
    by false false true d true is-a is-b is-c is-d high = absurd (omega (arith, eqb-true byte 2 is-c, leb-true 4 byte high))
    by false false false true true is-a is-b is-c is-d high = absurd (omega (arith, eqb-true byte 3 is-d, leb-true 4 byte high))
    by false false false false true is-a is-b is-c is-d high = omega arith

filled-long : (first second whole pattern : List ℕ) → literals pattern ≤ length (filled first second whole pattern)
unfolding literals filled
filled-long first second whole [] = omega arith
filled-long first second whole (byte ∷ pattern) =
    omega (
      arith,
      one-byte first second whole byte,
      filled-long first second whole pattern,
      length-append (bit first second whole byte) (flat_map (bit first second whole) pattern),
    )

-- ## The table

-- a usual name isn't longer than the template with its arguments
fits : Template → Alias → Bool
fits template row = nat_le (length (text_of row.name)) (length (text_of template.name) + 2 + literals (text_of row.arguments))

-- no usual name is longer than its template with the arguments; and `pmr::` isn't longer than the allocator of `std::pmr`
is_fit : Template → Bool
is_fit template =
    list_all (fits template) (take (template.end_alias - template.first_alias) (drop template.first_alias ALIASES))
    && (length (text_of template.polymorphic) == 0 || nat_le 5 (literals (text_of template.polymorphic)))

all-fit : list_all is_fit TEMPLATES ≡ true
unfolding is_fit fits literals text_of
all-fit = refl

row-fits : (rows : List Template) (name : List ℕ) (template : Template) → list_all is_fit rows ≡ true → template_in rows name ≡ Some template → is_fit template ≡ true
unfolding template_in
row-fits [] name template all found = absurd (cc)
row-fits (row ∷ rows) name template all found =
    by (pointwise nat_eq (text_of row.name) name) found (and_parts (is_fit row) (list_all is_fit rows) all) (row-fits rows name template)
  where
    by : (b : Bool) → (if b then Some row else template_in rows name) ≡ Some template → (is_fit row ≡ true) × (list_all is_fit rows ≡ true)
        → (list_all is_fit rows ≡ true → template_in rows name ≡ Some template → is_fit template ≡ true) → is_fit template ≡ true
    by true e parts ih = let same : row ≡ template = cc in subst (λ t. is_fit t ≡ true) same parts.0
    by false e parts ih = ih parts.1 e

named-fits : (run : List ℕ) (named : Named) → named_in run ≡ Some named → is_fit named.template ≡ true
unfolding named_in std_name
named-fits run named is = by_whole (row_in WHOLES run) is
  where
    by_template : (whole : Place) (name : List ℕ) (o : Option Template) → template_in TEMPLATES name ≡ o → with_template whole o ≡ Some named → is_fit named.template ≡ true
    by_template whole name None found e = absurd (cc)
    by_template whole name (Some template) found e =
        let pick : Option Named → Named = λ o. elim o [ None ↦ named | Some it ↦ it ] in
        let same : template ≡ named.template = ap (λ (n : Named). n.template) (ap pick e) in
        subst (λ t. is_fit t ≡ true) same (row-fits TEMPLATES name template all-fit found)

    by_whole : (o : Option Place) → table_name (behind_whole run o) ≡ Some named → is_fit named.template ≡ true
    by_whole None e = absurd (cc)
    by_whole (Some whole) e = by_template whole _ _ refl e

alias-fits : (rows : List Alias) (named : Named) (elements : List (List ℕ)) (count : ℕ) (alias : Alias) → list_all (fits named.template) rows ≡ true → alias_in rows named elements count ≡ Some alias
    → length (text_of alias.name) ≤ length (text_of named.template.name) + 2 + length (joined (take count elements))
unfolding alias_in fits
alias-fits [] named elements count alias all found = absurd (cc)
alias-fits (row ∷ rows) named elements count alias all found =
    by (pointwise nat_eq (joined (take count elements)) (filled_for named elements (text_of row.arguments))) refl found (and_parts (fits named.template row) (list_all (fits named.template) rows) all)
    (alias-fits rows named elements count alias)
  where
    by : (b : Bool) → pointwise nat_eq (joined (take count elements)) (filled_for named elements (text_of row.arguments)) ≡ b
        → (if b then Some row else alias_in rows named elements count) ≡ Some alias → (fits named.template row ≡ true) × (list_all (fits named.template) rows ≡ true)
        → (list_all (fits named.template) rows ≡ true → alias_in rows named elements count ≡ Some alias → length (text_of alias.name) ≤ length (text_of named.template.name) + 2 + length (joined (take count elements)))
        → length (text_of alias.name) ≤ length (text_of named.template.name) + 2 + length (joined (take count elements))
    by true same e parts ih =
        let row_is : row ≡ alias = cc in
        let long = filled-long (element elements 0) (element elements 1) (text_of named.whole) (text_of row.arguments) in
        let text_is = (bytes_decides (joined (take count elements)) (filled_for named elements (text_of row.arguments))).0 same in
        subst (λ (a : Alias). length (text_of a.name) ≤ length (text_of named.template.name) + 2 + length (joined (take count elements))) row_is
        (omega (arith, leb-true _ _ parts.0, long, ap length text_is))
    by false same e parts ih = ih parts.1 e

-- ## Constructors

class-short : (alias : Alias) → length (class_of alias) ≤ length (last_part (text_of alias.template))
unfolding class_of
class-short alias = by (nat_le (length (last_part (text_of alias.name))) (length (last_part (text_of alias.template)))) refl
  where
    by : (b : Bool) → nat_le (length (last_part (text_of alias.name))) (length (last_part (text_of alias.template))) ≡ b
        → length (if b then last_part (text_of alias.name) else last_part (text_of alias.template)) ≤ length (last_part (text_of alias.template))
    by true h = leb-true _ _ h
    by false h = omega arith

abbrev made : Alias → (rest : List ℕ) → (follows : Bool) → Answer
made alias rest follows =
    if follows then record { bytes = take (front_size rest) rest ++ class_of alias; size = front_size rest + length (last_part (text_of alias.template)) }
    else record { bytes = []; size = 0 }

pub constructor-short : (alias : Alias) (rest : List ℕ) → (length (constructor alias rest).bytes ≤ (constructor alias rest).size) × ((constructor alias rest).size ≤ length rest)
constructor-short alias rest = by (is_constructor rest (last_part (text_of alias.template))) refl
  where
    by : (b : Bool) → is_constructor rest (last_part (text_of alias.template)) ≡ b → (length (made alias rest b).bytes ≤ (made alias rest b).size) × ((made alias rest b).size ≤ length rest)
    by true h = (
      omega (arith, class-short alias, length-append (take (front_size rest) rest) (class_of alias), length-take (front_size rest) rest),
      constructor-room rest (last_part (text_of alias.template)) h,
    )
    by false h = (omega arith, omega arith)

-- ## Lists

left-within : (named : Named) (elements : List (List ℕ)) (count : ℕ) → left_of named elements count ≤ count
unfolding left_of
left-within named elements zero = omega arith
left-within named elements (suc count) = by (is_default named elements count) (left-within named elements count)
  where
    by : (b : Bool) → left_of named elements count ≤ count → (if b then left_of named elements count else suc count) ≤ suc count
    by true h = omega (arith, h)
    by false h = omega arith

-- an answer for a name and its list with the text after it
pub record IsShorter (run : List ℕ) (elements : List (List ℕ)) (rest : List ℕ) (answer : Answer) : Type 0 where
  pub short : length answer.bytes ≤ length run + length (joined elements) + 2 + answer.size
  pub within : answer.size ≤ length rest

length-listed : (run : List ℕ) (elements : List (List ℕ)) → length (run ++ listed elements) ≡ length run + length (joined elements) + 2
length-listed run elements = omega (arith, length-append run (60 ∷ joined elements ++ 62 ∷ []), length-append (60 ∷ joined elements) (62 ∷ []))

first-shorter : (run rest : List ℕ) (elements : List (List ℕ)) (count : ℕ) → IsShorter run elements rest (record { bytes = run ++ listed (take count elements); size = 0 })
first-shorter run rest elements count = record {
  short = omega (arith, length-listed run (take count elements), joined-front count elements);
  within = omega arith;
}

module _ (named : Named) (run rest : List ℕ) (elements : List (List ℕ)) (is : named_in run ≡ Some named) (some : 0 < length elements) where
  abbrev t : List ℕ
  t = text_of named.template.name

  abbrev answer_by : Option Alias → Answer
  answer_by o = elim o [
    | Some alias ↦ behind (before_name named run ++ text_of alias.name) (constructor alias rest)
    | None ↦ if is_polymorphic named elements then record {
      bytes = before_name named run ++ codes "pmr::" ++ t ++ listed (take (left_of named elements (length elements - 1)) elements);
      size = 0;
    } else record { bytes = run ++ listed (take (left named elements) elements); size = 0 }
  ]

  fit-parts : (list_all (fits named.template) (aliases_of named) ≡ true) × ((length (text_of named.template.polymorphic) == 0 || nat_le 5 (literals (text_of named.template.polymorphic))) ≡ true)
  unfolding is_fit
  fit-parts =
      and_parts (list_all (fits named.template) (aliases_of named)) (length (text_of named.template.polymorphic) == 0 || nat_le 5 (literals (text_of named.template.polymorphic)))
      (named-fits run named is)

  name-size : length (before_name named run) + length t ≡ length run
  name-size = omega (arith, (name-ends run named is).0, length-take (length run - length t) run)

  usual-shorter : (alias : Alias) → alias_in (aliases_of named) named elements (left named elements) ≡ Some alias → IsShorter run elements rest (answer_by (Some alias))
  usual-shorter alias found =
      let made = constructor-short alias rest in
      record {
        short =
            omega (
              arith,
              name-size,
              alias-fits (aliases_of named) named elements (left named elements) alias fit-parts.0 found,
              joined-front (left named elements) elements,
              made.0,
              length-append (before_name named run ++ text_of alias.name) (constructor alias rest).bytes,
              length-append (before_name named run) (text_of alias.name),
            );
        within = made.1;
      }

  given-long : (text pattern : List ℕ) → (length pattern == 0 || nat_le 5 (literals pattern)) ≡ true → is_given named elements text pattern ≡ true → 5 ≤ length text
  given-long text pattern fit given =
      let parts = and_parts (not (length pattern == 0)) (pointwise nat_eq text (filled_for named elements pattern)) given in
      let text_is = (bytes_decides text (filled_for named elements pattern)).0 parts.1 in
      by (length pattern == 0) parts.0 fit (filled-long (element elements 0) (element elements 1) (text_of named.whole) pattern) (ap length text_is)
    where
      by : (b : Bool) → not b ≡ true → (b || nat_le 5 (literals pattern)) ≡ true → literals pattern ≤ length (filled_for named elements pattern)
          → length text ≡ length (filled_for named elements pattern) → 5 ≤ length text
      by true some_is fit long same = absurd (true≢false (sym some_is))
      by false some_is fit long same = omega (arith, leb-true 5 (literals pattern) fit, long, same)

  pmr-shorter : is_polymorphic named elements ≡ true
      → IsShorter run elements rest (record { bytes = before_name named run ++ codes "pmr::" ++ t ++ listed (take (left_of named elements (length elements - 1)) elements); size = 0 })
  pmr-shorter polymorphic =
      let count : ℕ = left_of named elements (length elements - 1) in
      let last : ℕ = length elements - 1 in
      let parts = and_parts (length elements == named.template.count) (is_given named elements (element elements last) (text_of named.template.polymorphic)) polymorphic in
      let long = given-long (element elements last) (text_of named.template.polymorphic) fit-parts.1 parts.1 in
      record {
        short =
            omega (
              arith,
              some,
              name-size,
              long,
              joined-before last elements (omega (arith, some)),
              shorter-front count last (left-within named elements last),
              length-listed (before_name named run ++ codes "pmr::" ++ t) (take count elements),
              length-append (before_name named run ++ codes "pmr::") t,
              length-append (before_name named run) (codes "pmr::"),
            );
        within = omega arith;
      }
    where
      shorter-front : (count last : ℕ) → count ≤ last → length (joined (take count elements)) ≤ length (joined (take last elements))
      shorter-front count last le =
          subst (λ (es : List (List ℕ)). length (joined es) ≤ length (joined (take last elements))) (take-take count last elements le) (joined-front count (take last elements))

  pub named-shorter : IsShorter run elements rest (short_list named run elements rest)
  unfolding short_list
  named-shorter = by_usual (alias_in (aliases_of named) named elements (left named elements)) refl
    where
      by_pmr : (b : Bool) → is_polymorphic named elements ≡ b → IsShorter run elements rest (if b then record {
        bytes = before_name named run ++ codes "pmr::" ++ t ++ listed (take (left_of named elements (length elements - 1)) elements);
        size = 0;
      } else record { bytes = run ++ listed (take (left named elements) elements); size = 0 })
      by_pmr true e = pmr-shorter e
      by_pmr false e = first-shorter run rest elements (left named elements)

      by_read : (alias : Alias) → alias_in (aliases_of named) named elements (left named elements) ≡ Some alias → (b : Bool) → IsShorter run elements rest (answer_by (if b then Some alias else None))
      by_read alias found true = usual-shorter alias found
      by_read alias found false = by_pmr (is_polymorphic named elements) refl

      by_usual : (o : Option Alias) → alias_in (aliases_of named) named elements (left named elements) ≡ o → IsShorter run elements rest (answer_by (if_read_back rest o))
      by_usual None found = by_pmr (is_polymorphic named elements) refl
      by_usual (Some alias) found = by_read alias found (is_read_back rest alias)

-- a name and its list
pub list-shorter : (run rest : List ℕ) (elements : List (List ℕ)) → 0 < length elements → IsShorter run elements rest (for_list (named_in run) run elements rest)
list-shorter run rest elements some = by (named_in run) refl
  where
    by : (o : Option Named) → named_in run ≡ o → IsShorter run elements rest (for_list o run elements rest)
    by None e = record { short = omega (arith, length-listed run elements); within = omega arith }
    by (Some named) e = named-shorter named run rest elements e some

-- ## Names

-- an answer for a name, by the text that begins with it
abbrev pub IsShort : (run rest : List ℕ) → Option Answer → Type 0
IsShort run rest None = Unit {0}
IsShort run rest (Some answer) = (length answer.bytes ≤ answer.size) × (answer.size ≤ length run + length rest)

pub name-short : (run rest : List ℕ) → IsShort run rest (for_name run rest (std_name run))
name-short run rest = by_std (std_name run) refl
  where
    by_member : (std : StdName) (o : Option Alias) → std_name run ≡ Some std → member_in ALIASES std.name (std.name ++ rest) ≡ o → IsShort run rest (member run rest std.name o)
    by_member std None e found = tt
    by_member std (Some alias) e found =
        let from : ℕ = length run - length std.name + length (text_of alias.name) in
        let made = constructor-short alias (drop from (run ++ rest)) in
        let name = starts-within std.name (text_of alias.name) (member-is ALIASES std.name (std.name ++ rest) alias found).0 in
        let end = (std-end run std e).1 in (
          omega (arith, made.0, length-append (take from run) (constructor alias (drop from (run ++ rest))).bytes, length-take from run),
          omega (arith, made.1, name, end, length-drop from (run ++ rest), length-append run rest),
        )

    by_std : (o : Option StdName) → std_name run ≡ o → IsShort run rest (for_name run rest o)
    by_std None e = tt
    by_std (Some std) e = by_member std (member_in ALIASES std.name (std.name ++ rest)) e refl
