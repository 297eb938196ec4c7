-- The tables are compared with the grammar at each kind and byte, by computing.
use Rattle.std.proofs.Common.{◌≡◌, ℕ, ◌+◌, ◌-◌, ◌*◌, ◌<◌, ◌≤◌, get_or, List, length, map, leb, ltb, ◌&&◌, Bool, true, Option, Some, None, refl, ap, sym, ◌∙◌}
use Rattle.std.proofs.lemmas.Bool.{and_parts, leb-true, ltb-true}
use Rattle.std.specs.List.{range_with_len}
use Rattle.std.specs.Option.{option_map}
use Rattle.sym_shape.specs.declared.rule.Rule.{Rule}
use Rattle.sym_shape.specs.Listing.{listed_in, letter_below, unless_blank, counts_after}
use Rattle.sym_shape.specs.Sheet.{choice_at}
use Rattle.sym_shape.specs.Table.{symbols_of}
use Rattle.sym_shape.proofs.Listed.{alike_at, alike_in, after_at}
use Rattle.rust_grammar.specs.Listed.{listed_rule}
use Rattle.rust_grammar.specs.Rules.{kinds, no_kind}
use Rattle.rust_grammar.specs.declared.table.Head.{Head}
use Rattle.rust_grammar.specs.declared.table.TheConstants.{LETTERS, SYMBOLS, AFTER}

-- the letter that a kind's row has for a byte; `row` is the default
unfoldable pub letter : List ℕ → ℕ → ℕ → Option ℕ
letter row k byte = letter_below (get_or LETTERS k row) byte

-- the rule of a letter
unfoldable pub rule_of : Head → Option ℕ → Option Rule
rule_of head = option_map (λ letter. listed_rule head (letter - 43))

-- the rule that the grammar has for a kind at a byte
unfoldable pub choice : ℕ → ℕ → Option Rule
choice k byte = choice_at (get_or kinds k no_kind).choices byte

-- the letter is one of those of rules, or there is none
unfoldable is_letter : Option ℕ → Bool
is_letter None = true
is_letter (Some letter) = leb 43 letter && ltb letter 92

-- the letters in the rows give the rules of the grammar
rules : (head : Head) (row : List ℕ) → map (λ k. map (λ byte. rule_of head (letter row k byte)) (range_with_len 0 256)) (range_with_len 0 24) ≡ map (λ k. map (choice k) (range_with_len 0 256)) (range_with_len 0 24)
unfolding letter letter_below unless_blank rule_of listed_rule choice
rules head row = refl

letters : (row : List ℕ) → map (λ k. map (λ byte. is_letter (letter row k byte)) (range_with_len 0 256)) (range_with_len 0 24) ≡ map (λ k. map (λ byte. true) (range_with_len 0 256)) (range_with_len 0 24)
unfolding letter letter_below unless_blank is_letter
letters row = refl

pub rule_at : (head : Head) (row : List ℕ) (k byte : ℕ) → k < 24 → byte < 256 → rule_of head (letter row k byte) ≡ choice k byte
rule_at head row k byte = alike_in (λ k byte. rule_of head (letter row k byte)) choice 24 256 k byte (rules head row)

pub letter_range : (row : List ℕ) (k byte l : ℕ) → k < 24 → byte < 256 → letter row k byte ≡ Some l → (43 ≤ l) × (l < 92)
unfolding is_letter
letter_range row k byte l k_lt byte_lt at =
    let is : is_letter (letter row k byte) ≡ true = alike_in (λ k byte. is_letter (letter row k byte)) (λ k byte. true) 24 256 k byte (letters row) k_lt byte_lt in
    let both = and_parts (leb 43 l) (ltb l 92) (sym (ap is_letter at) ∙ is) in
    (leb-true _ _ both.0, ltb-true _ _ both.1)

-- in the list of symbols, each rule has six places, after those of the start kind
places : (head : Head) → map (λ n. listed_in SYMBOLS (n * 6 + 6)) (range_with_len 0 49) ≡ map (λ n. symbols_of (listed_rule head n)) (range_with_len 0 49)
unfolding listed_rule
places head = refl

pub place_at : (head : Head) (n : ℕ) → n < 49 → listed_in SYMBOLS (n * 6 + 6) ≡ symbols_of (listed_rule head n)
place_at head n = alike_at (λ n. listed_in SYMBOLS (n * 6 + 6)) (λ n. symbols_of (listed_rule head n)) 49 n (places head)

-- for each place of the list, the code lists how many symbols of its rule follow
after_each : AFTER ≡ counts_after SYMBOLS
after_each = refl

pub after_place : (place : ℕ) → get_or AFTER place 0 ≡ length (listed_in SYMBOLS (place + 1))
after_place place = ap (λ counts. get_or counts place 0) after_each ∙ after_at SYMBOLS place
