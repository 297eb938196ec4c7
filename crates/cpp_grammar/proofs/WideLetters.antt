-- The table of the wide grammar is compared with it at each kind and byte, by computing.
use Rattle.cpp_grammar.proofs.Basics.{◌≡◌, ℕ, ◌+◌, ◌-◌, ◌<◌, get_or, slice_get, [], map, true, Option, Some, None, refl, ap, sym, subst, ◌∙◌, arith, inl, inr, ltb-true, leb_tells, slice_get_cases, range_with_len, letter_below, unless_blank, alike_in, WIDE_ROWS, Production, KIND_COUNT, PRODUCTION_COUNT, in_ranges, among, is_in, pick, kinds, productions, wide_alternatives, wide_choose, wide, wide_sheet, rule_taken}
use Rattle.cpp_grammar.specs.declared.wide_table.Row.{Row}
use Rattle.cpp_grammar.specs.declared.kind.Kind.{Kind}
use Rattle.cpp_grammar.proofs.Choosing.{wide_rule_at, is_wide_kind}
use Rattle.cpp_grammar.proofs.Letters.{numbered, is_number}

-- the number of the production with a letter, in a row with this base
unfoldable pub from_base : ℕ → Option ℕ → Option ℕ
from_base base None = None
from_base base (Some letter) = Some (base + letter)

-- the row of no kind
abbrev pub no_row : Row
no_row = record { base = 0; letters = [] }

-- the number of the production that a kind's row has for a byte; `row` is the default
unfoldable pub wide_number : Row → ℕ → ℕ → Option ℕ
wide_number row k byte = from_base (get_or WIDE_ROWS k row).base (letter_below (get_or WIDE_ROWS k row).letters byte)

-- the production that the grammar has
unfoldable pub chosen : Option Kind → ℕ → Option Production
chosen None byte = None
chosen (Some kind) byte = wide_choose kind byte

-- the rows have the productions of the grammar, which is shown for the first kinds and then for the others
abbrev FIRST_KINDS : ℕ
FIRST_KINDS = 88

taken_first : (row : Row) → map (λ k. map (λ byte. numbered (wide_number row k byte)) (range_with_len 0 256)) (range_with_len 0 FIRST_KINDS) ≡ map (λ k. map (chosen (slice_get kinds k)) (range_with_len 0 256)) (range_with_len 0 FIRST_KINDS)
unfolding wide_number from_base letter_below unless_blank numbered chosen wide_choose wide_alternatives pick is_in among in_ranges kinds productions
taken_first row = refl

taken_others : (row : Row) → map (λ k. map (λ byte. numbered (wide_number row (k + FIRST_KINDS) byte)) (range_with_len 0 256)) (range_with_len 0 (KIND_COUNT - FIRST_KINDS)) ≡ map (λ k. map (chosen (slice_get kinds (k + FIRST_KINDS))) (range_with_len 0 256)) (range_with_len 0 (KIND_COUNT - FIRST_KINDS))
unfolding wide_number from_base letter_below unless_blank numbered chosen wide_choose wide_alternatives pick is_in among in_ranges kinds productions
taken_others row = refl

taken : (row : Row) (k byte : ℕ) → k < KIND_COUNT → byte < 256 → numbered (wide_number row k byte) ≡ chosen (slice_get kinds k) byte
taken row k byte k_lt byte_lt = elim (leb_tells FIRST_KINDS k) [
  | inl other ↦
      subst (λ n. numbered (wide_number row n byte) ≡ chosen (slice_get kinds n) byte) (let same : k - FIRST_KINDS + FIRST_KINDS ≡ k = omega (arith, other.1) in same)
      (alike_in (λ k byte. numbered (wide_number row (k + FIRST_KINDS) byte)) (λ k. chosen (slice_get kinds (k + FIRST_KINDS))) (KIND_COUNT - FIRST_KINDS) 256 (k - FIRST_KINDS) byte (taken_others row) (omega (arith, k_lt, other.1)) byte_lt)
  | inr first ↦ alike_in (λ k byte. numbered (wide_number row k byte)) (λ k. chosen (slice_get kinds k)) FIRST_KINDS 256 k byte (taken_first row) first.1 byte_lt
]

letters : (row : Row) → map (λ k. map (λ byte. is_number (wide_number row k byte)) (range_with_len 0 256)) (range_with_len 0 KIND_COUNT) ≡ map (λ k. map (λ byte. true) (range_with_len 0 256)) (range_with_len 0 KIND_COUNT)
unfolding wide_number from_base letter_below unless_blank is_number
letters row = refl

kind_count : wide.kinds ≡ KIND_COUNT
unfolding wide wide_sheet kinds
kind_count = refl

pub below : (k : ℕ) → k < wide.kinds → k < KIND_COUNT
below k lt = omega (arith, lt, kind_count)

pub letter_range : (row : Row) (k byte l : ℕ) → k < KIND_COUNT → byte < 256 → wide_number row k byte ≡ Some l → l < PRODUCTION_COUNT
unfolding is_number
letter_range row k byte l k_lt byte_lt at =
    let is : is_number (wide_number row k byte) ≡ true = alike_in (λ k byte. is_number (wide_number row k byte)) (λ k byte. true) KIND_COUNT 256 k byte (letters row) k_lt byte_lt in
    ltb-true _ _ (sym (ap is_number at) ∙ is)

-- the rule of a kind is that of its production
rule_chosen : (k byte : ℕ) → k < wide.kinds → wide.rule k byte ≡ rule_taken (chosen (slice_get kinds k) byte)
unfolding chosen
rule_chosen k byte lt = elim (slice_get_cases kinds k).1 [
  | inl there ↦ wide_rule_at k there.0 byte there.2 ∙ ap (λ kind. rule_taken (chosen kind byte)) (sym there.2)
  | inr past ↦ absurd (is_wide_kind k lt past.1)
]

pub rule_at : (row : Row) (k byte : ℕ) → k < wide.kinds → byte < 256 → wide.rule k byte ≡ rule_taken (numbered (wide_number row k byte))
rule_at row k byte k_lt byte_lt =
    rule_chosen k byte k_lt
    ∙ ap rule_taken (sym (taken row k byte (below k k_lt) byte_lt))
