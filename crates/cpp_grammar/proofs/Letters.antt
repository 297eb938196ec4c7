-- The tables are compared with the grammar at each kind and byte, by computing.
use Rattle.cpp_grammar.proofs.Basics.{◌≡◌, ℕ, ◌+◌, ◌-◌, ◌*◌, ◌<◌, get_or, slice_get, List, length, map, ltb, Bool, true, Option, Some, None, refl, ap, sym, subst, ◌∙◌, arith, inl, inr, ltb-true, leb_tells, slice_get_cases, range_with_len, letter_below, unless_blank, counts_after, symbols_of, alike_at, alike_in, after_at, Head, LETTERS, SYMBOLS, AFTER, Production, KIND_COUNT, PRODUCTION_COUNT, in_ranges, among, is_in, pick, number_of_kind, alternatives, choose, parts_of, is_chain, kinds, productions, number_of, abi, abi_listed, listed_rule, sheet, padded, rule_of, rule_taken}
use Rattle.cpp_grammar.specs.declared.kind.Kind.{Kind}
use Rattle.cpp_grammar.proofs.Choosing.{rule_at_kind, is_kind}

-- the letter that a kind's row has for a byte: the number of a production; `row` is the default
unfoldable pub letter : List ℕ → ℕ → ℕ → Option ℕ
letter row k byte = letter_below (get_or LETTERS k row) byte

-- the production with a number
unfoldable pub numbered : Option ℕ → Option Production
numbered None = None
numbered (Some number) = slice_get productions number

-- the production that the grammar has
unfoldable pub chosen : Option Kind → ℕ → Option Production
chosen None byte = None
chosen (Some kind) byte = choose kind byte

-- whether this is the number of a production, or no number
unfoldable pub is_number : Option ℕ → Bool
is_number None = true
is_number (Some number) = ltb number PRODUCTION_COUNT

-- the rows have the productions of the grammar, which is shown for the first kinds and then for the others
abbrev FIRST_KINDS : ℕ
FIRST_KINDS = 88

taken_first : (row : List ℕ) → map (λ k. map (λ byte. numbered (letter row k byte)) (range_with_len 0 256)) (range_with_len 0 FIRST_KINDS) ≡ map (λ k. map (chosen (slice_get kinds k)) (range_with_len 0 256)) (range_with_len 0 FIRST_KINDS)
unfolding letter letter_below unless_blank numbered chosen choose alternatives pick is_in among in_ranges kinds productions
taken_first row = refl

taken_others : (row : List ℕ) → map (λ k. map (λ byte. numbered (letter row (k + FIRST_KINDS) byte)) (range_with_len 0 256)) (range_with_len 0 (KIND_COUNT - FIRST_KINDS)) ≡ map (λ k. map (chosen (slice_get kinds (k + FIRST_KINDS))) (range_with_len 0 256)) (range_with_len 0 (KIND_COUNT - FIRST_KINDS))
unfolding letter letter_below unless_blank numbered chosen choose alternatives pick is_in among in_ranges kinds productions
taken_others row = refl

taken : (row : List ℕ) (k byte : ℕ) → k < KIND_COUNT → byte < 256 → numbered (letter row k byte) ≡ chosen (slice_get kinds k) byte
taken row k byte k_lt byte_lt = elim (leb_tells FIRST_KINDS k) [
  | inl other ↦
      subst (λ n. numbered (letter row n byte) ≡ chosen (slice_get kinds n) byte) (let same : k - FIRST_KINDS + FIRST_KINDS ≡ k = omega (arith, other.1) in same)
      (alike_in (λ k byte. numbered (letter row (k + FIRST_KINDS) byte)) (λ k. chosen (slice_get kinds (k + FIRST_KINDS))) (KIND_COUNT - FIRST_KINDS) 256 (k - FIRST_KINDS) byte (taken_others row) (omega (arith, k_lt, other.1)) byte_lt)
  | inr first ↦ alike_in (λ k byte. numbered (letter row k byte)) (λ k. chosen (slice_get kinds k)) FIRST_KINDS 256 k byte (taken_first row) first.1 byte_lt
]

letters : (row : List ℕ) → map (λ k. map (λ byte. is_number (letter row k byte)) (range_with_len 0 256)) (range_with_len 0 KIND_COUNT) ≡ map (λ k. map (λ byte. true) (range_with_len 0 256)) (range_with_len 0 KIND_COUNT)
unfolding letter letter_below unless_blank is_number
letters row = refl

-- the rules are those of the productions
rules : (head : Head) → map (λ n. Some (listed_rule head n)) (range_with_len 0 PRODUCTION_COUNT) ≡ map (λ n. rule_taken (slice_get productions n)) (range_with_len 0 PRODUCTION_COUNT)
unfolding listed_rule rule_of rule_taken padded parts_of number_of_kind is_chain productions number_of
rules head = refl

kind_count : abi.kinds ≡ KIND_COUNT
unfolding abi sheet kinds
kind_count = refl

pub below : (k : ℕ) → k < abi.kinds → k < KIND_COUNT
below k lt = omega (arith, lt, kind_count)

pub letter_range : (row : List ℕ) (k byte l : ℕ) → k < KIND_COUNT → byte < 256 → letter row k byte ≡ Some l → l < PRODUCTION_COUNT
unfolding is_number
letter_range row k byte l k_lt byte_lt at =
    let is : is_number (letter row k byte) ≡ true = alike_in (λ k byte. is_number (letter row k byte)) (λ k byte. true) KIND_COUNT 256 k byte (letters row) k_lt byte_lt in
    ltb-true _ _ (sym (ap is_number at) ∙ is)

-- the rule of a kind is that of its production
rule_chosen : (k byte : ℕ) → k < abi.kinds → abi.rule k byte ≡ rule_taken (chosen (slice_get kinds k) byte)
unfolding chosen
rule_chosen k byte lt = elim (slice_get_cases kinds k).1 [
  | inl there ↦ rule_at_kind k there.0 byte there.2 ∙ ap (λ kind. rule_taken (chosen kind byte)) (sym there.2)
  | inr past ↦ absurd (is_kind k lt past.1)
]

pub rule_at : (row : List ℕ) (k byte : ℕ) → k < abi.kinds → byte < 256 → abi.rule k byte ≡ rule_taken (numbered (letter row k byte))
rule_at row k byte k_lt byte_lt =
    rule_chosen k byte k_lt
    ∙ ap rule_taken (sym (taken row k byte (below k k_lt) byte_lt))

pub rule_listed : (head : Head) (n : ℕ) → n < PRODUCTION_COUNT → Some (listed_rule head n) ≡ rule_taken (slice_get productions n)
rule_listed head n = alike_at (λ n. Some (listed_rule head n)) (λ n. rule_taken (slice_get productions n)) PRODUCTION_COUNT n (rules head)

-- each rule has six places in the list of symbols, after those of the start
places : (head : Head) → map (λ n. abi_listed (n * 6 + 6)) (range_with_len 0 PRODUCTION_COUNT) ≡ map (λ n. symbols_of (listed_rule head n)) (range_with_len 0 PRODUCTION_COUNT)
unfolding listed_rule
places head = refl

pub place_at : (head : Head) (n : ℕ) → n < PRODUCTION_COUNT → abi_listed (n * 6 + 6) ≡ symbols_of (listed_rule head n)
place_at head n = alike_at (λ n. abi_listed (n * 6 + 6)) (λ n. symbols_of (listed_rule head n)) PRODUCTION_COUNT n (places head)

-- for each place the code lists how many symbols follow it
after_each : AFTER ≡ counts_after SYMBOLS
after_each = refl

pub after_place : (place : ℕ) → get_or AFTER place 0 ≡ length (abi_listed (place + 1))
after_place place = ap (λ counts. get_or counts place 0) after_each ∙ after_at SYMBOLS place
