-- The reading that the linker follows gives each symbol the same meaning as C++'s reading.
use Rattle.cpp_link.proofs.Basics.{slice_get, ◌≡◌, refl, sym, ◌∙◌, ap, subst, arith, ℕ, ◌+◌, ◌-◌, ◌^◌, ◌<◌, ◌||◌, ◌⊎◌, inl, inr, List, [], ◌∷◌, ◌++◌, length, take, drop, Bool, true, false, not, Option, Some, None, Ok, Err, append-nil, Result, nat_eq, nat_lt, if◌then◌else◌, true≢false, false≢true, cases_Bool, eqb-true, take-append_seam, Refusal, BadValue, Rule, Kind as OfKind, Token, symbols_of, Tree, Forest, branch, empty, token, fixed, nothing, grown, spell, spell_all, TakesRule, IsTree, AreTrees, Found, Open, ◌>>=◌, found, alone, standing, unfold_tree, unfold_forest, Tally, tally, Makes, tallied, plain, forest_untallied, Production, SYMBOL, SUFFIX_FIRST, SUFFIX_MORE, HEX_DIGITS, HEX_MORE, parts_of, number_of_kind, kinds, productions, number_of, is_chain, pick, is_in, in_ranges, among, may_be_empty, wide_alternatives, wide_choose, wide, rule_of, rule_taken, wide_sheet, sheet_with, blank, wide_rule_at, is_wide_kind, wide_sound, last_token, production_at, byte_of, local_number, Taken, taken_rule, at_number, its_symbols, same_rule, State, Around, Value, nothing_there, text, piece, tree_of, text_of, part, list, lambda, unnamed, between, in_signature, no_items, parameters, signature_with, meaning, number_tested, opening, behind, close, cpp, first_around, first_state, is_numbered, as_generic_lambda, opening_wide, between_wide, close_wide, cpp_wide, link_opening, link_close_wide, linked_wide, in_64_bits, link_meaning, link_close, link_begin, linked}
use Rattle.cpp_grammar.specs.declared.kind.Kind.{Kind}
use Rattle.cpp_grammar.proofs.Ways.{differs}
use Rattle.cpp_term.proofs.NotedWays.{NotedWay, reading_noted_by, IsPlainNoted, abi_noted, wide_noted, abi_is_noted, wide_is_noted}
use Rattle.cpp_link.proofs.Endings.{opens_plain, last_behind}
use Rattle.cpp_link.proofs.SameReadings.{BeginsSame, ClosesSame, tree_same}

-- ## The result of a chain of readings

-- the first reading has a result, and so has the second, from the first one's value
abbrev pub Both : {A B : Type 0} → Result A Refusal → (A → Result B Refusal) → B → Type 0
Both {A = A} m f y = (x : A) × (m ≡ Ok x) × (f x ≡ Ok y)

pub both_ok : {A B : Type 0} (m : Result A Refusal) (f : A → Result B Refusal) (y : B) → (m >>= f) ≡ Ok y → Both m f y
both_ok (Ok x) f y is = (x, refl, is)
both_ok (Err e) f y is = absurd cc

ok_is : {A : Type 0} (x y : A) → ◌≡◌ {A = Result A Refusal} (Ok x) (Ok y) → x ≡ y
ok_is x y is = cc

-- ## Productions that close as C++'s reading says

unfoldable is_plain : Production → Bool
is_plain Production.Suffix = false
is_plain Production.SuffixByte = false
is_plain Production.HexDigit = false
is_plain Production.Lambda = false
is_plain Production.Unnamed = false
is_plain _ = true

plain_closes : (s : List ℕ) (p : Production) (byte : ℕ) (around : Around) (place : ℕ) (began : State) (vs : List Value) (state : State) → is_plain p ≡ true
    → link_close s p byte around place began vs state ≡ close p byte around place began vs state
unfolding is_plain link_close link_meaning close
plain_closes s Production.Suffix byte around place began vs state plain = absurd (false≢true plain)
plain_closes s Production.SuffixByte byte around place began vs state plain = absurd (false≢true plain)
plain_closes s Production.HexDigit byte around place began vs state plain = absurd (false≢true plain)
plain_closes s Production.Lambda byte around place began vs state plain = absurd (false≢true plain)
plain_closes s Production.Unnamed byte around place began vs state plain = absurd (false≢true plain)
plain_closes s _ byte around place began vs state plain = refl

-- ## Numbers

within_64 : (n : ℕ) → nat_lt n (2 ^ 64) ≡ true → in_64_bits n ≡ n
unfolding in_64_bits
within_64 n less = ap (λ b. if b then n else (2 ^ 64 - 1)) less

tested_less : (b : Bool) (place : ℕ) (state begun : State) → ◌≡◌ {A = Result State Refusal} (elim b [ true ↦ Ok state | false ↦ Err (BadValue place) ]) (Ok begun) → b ≡ true
tested_less true place state begun is = refl
tested_less false place state begun is = absurd cc

number_less : (place : ℕ) (digits : List ℕ) (state begun : State) → number_tested place digits state ≡ Ok begun → nat_lt (local_number digits) (2 ^ 64) ≡ true
unfolding number_tested
number_less place digits state begun is = tested_less (nat_lt (local_number digits) (2 ^ 64)) place state begun is

-- ## Suffixes

chosen_byte : (b : Bool) (rule : Rule) → rule_taken (if b then Some Production.SuffixByte else None) ≡ Some rule → rule ≡ rule_of Production.SuffixByte
unfolding rule_taken
chosen_byte true rule is = sym (same_rule Production.SuffixByte rule is)
chosen_byte false rule is = absurd cc

-- the kinds in a suffix
data OfSuffix : ℕ → Type 0 where
  in_front : OfSuffix 2
  behind_it : OfSuffix 3

suffix_rule : (kind : ℕ) → OfSuffix kind → (rule : Rule) (taken : List ℕ) → TakesRule wide kind rule taken → rule ≡ rule_of Production.SuffixByte
unfolding wide_choose wide_alternatives pick kinds
suffix_rule kind in_front rule taken takes = chosen_byte _ rule (sym (wide_rule_at SUFFIX_FIRST Kind.SuffixFirst takes.byte refl) ∙ takes.found)
suffix_rule kind behind_it rule taken takes = chosen_byte _ rule (sym (wide_rule_at SUFFIX_MORE Kind.SuffixMore takes.byte refl) ∙ takes.found)

takes_byte : (byte : ℕ) (rule : Rule) (taken : List ℕ) (p : Production) → rule ≡ rule_of p → is_chain p ≡ false → taken ≡ (if rule.eats then byte ∷ [] else []) → taken ≡ byte ∷ []
unfolding rule_of
takes_byte byte rule taken p is chain takes = takes ∙ ap (λ (r : Rule). if r.eats then byte ∷ [] else []) is ∙ ap (λ b. if not b then byte ∷ [] else []) chain

suffix_chain : is_chain Production.SuffixByte ≡ false
unfolding is_chain
suffix_chain = refl

suffix_parts : (rule : Rule) (parts : Forest) → rule ≡ rule_of Production.SuffixByte → AreTrees wide (symbols_of rule) parts → AreTrees wide (OfKind SUFFIX_MORE ∷ []) parts
unfolding parts_of number_of_kind
suffix_parts rule parts is trees = subst (λ ss. AreTrees wide ss parts) (ap symbols_of is ∙ its_symbols Production.SuffixByte) trees

-- ## Digits of base 16

chosen_digit : (b : Bool) (rule : Rule) → rule_taken (if b then Some Production.HexDigit else None) ≡ Some rule → rule ≡ rule_of Production.HexDigit
unfolding rule_taken
chosen_digit true rule is = sym (same_rule Production.HexDigit rule is)
chosen_digit false rule is = absurd cc

-- the kinds in digits of base 16
data OfDigits : ℕ → Type 0 where
  first_digit : OfDigits HEX_DIGITS
  more_digits : OfDigits HEX_MORE

digit_rule : (kind : ℕ) → OfDigits kind → (rule : Rule) (taken : List ℕ) → TakesRule wide kind rule taken → rule ≡ rule_of Production.HexDigit
unfolding wide_choose wide_alternatives pick kinds
digit_rule kind first_digit rule taken takes = chosen_digit _ rule (sym (wide_rule_at HEX_DIGITS Kind.HexDigits takes.byte refl) ∙ takes.found)
digit_rule kind more_digits rule taken takes = chosen_digit _ rule (sym (wide_rule_at HEX_MORE Kind.HexMore takes.byte refl) ∙ takes.found)

digit_chain : is_chain Production.HexDigit ≡ false
unfolding is_chain
digit_chain = refl

digit_parts : (rule : Rule) (parts : Forest) → rule ≡ rule_of Production.HexDigit → AreTrees wide (symbols_of rule) parts → AreTrees wide (OfKind HEX_MORE ∷ []) parts
unfolding parts_of number_of_kind
digit_parts rule parts is trees = subst (λ ss. AreTrees wide ss parts) (ap symbols_of is ∙ its_symbols Production.HexDigit) trees

-- the bytes of a suffix from its place on
suffix_there : (xs t rest : List ℕ) (byte : ℕ) → xs ≡ (byte ∷ []) ++ ((t ++ []) ++ rest) → take (length t + 1) xs ≡ byte ∷ t
suffix_there xs t rest byte is =
    let size : length t + 1 ≡ length (byte ∷ t) = omega arith in
    ap (λ n. take n xs) size ∙ ap (λ x. take (length (byte ∷ t)) x) (is ∙ ap (λ x. byte ∷ (x ++ rest)) (append-nil t)) ∙ take-append_seam (byte ∷ t) rest

-- a suffix, or one of its bytes, closes to the symbol's bytes from the rule's place on
text_closes : (s : List ℕ) (byte place : ℕ) (context : Around) (before begun : State) (inner : Found (List Value) State) (v : Value) (t rest : List ℕ)
    → inner.value ≡ v ∷ [] → text_of v ≡ t → drop place s ≡ (byte ∷ []) ++ ((t ++ []) ++ rest)
    → text (take (length (text_of (part inner.value 0)) + 1) (drop place s)) ≡ text (byte ∷ text_of (part inner.value 0))
unfolding part
text_closes s byte place context before begun inner v t rest values is at =
    rw (values, is) (ap text (suffix_there (drop place s) t rest byte at))

abbrev state_of_tally : Tally State → State
state_of_tally t = t.state

values_same : (f g : Found (List Value) State) → ◌≡◌ {A = Result (Found (List Value) State) Refusal} (Ok f) (Ok g) → g.value ≡ f.value
values_same f g is = ap (λ (h : Found (List Value) State). h.value) (sym (ok_is f g is))

-- the open rule of a lambda
abbrev lambda_open : (taken : List ℕ) (place : ℕ) → Around → State → Open State Around
lambda_open taken place context before = standing (rule_of Production.Lambda) taken place context before

fourth : (vs : List Value) (x y z : Value) (own : List ℕ) → vs ≡ x ∷ y ∷ z ∷ text own ∷ [] → text_of (part vs 3) ≡ own
unfolding part text_of
fourth vs x y z own is = ap (λ us. text_of (part us 3)) is

last_of : (a b c : Tree) (t : Token) → last_token (grown a (grown b (grown c (grown (token t) nothing)))) [] ≡ t.own
unfolding last_token
last_of a b c t =
    last_behind a (grown b (grown c (grown (token t) nothing))) t.own []
    (λ ds. last_behind b (grown c (grown (token t) nothing)) t.own ds (λ es. last_behind c (grown (token t) nothing) t.own es (λ fs. refl)))

-- the production's rule closes as it does in C++'s reading
abbrev ClosesRule : NotedWay → List ℕ → Production → Type 0
ClosesRule way s p =
    (kind : ℕ) (taken : List ℕ) (parts : Forest) (place : ℕ) (context : Around) (before begun : State) (inner : Found (List Value) State) (rest : List ℕ)
    → TakesRule wide kind (rule_of p) taken → AreTrees wide (parts_of p) parts → drop place s ≡ taken ++ (spell_all parts ++ rest)
    → cpp.begin (standing (rule_of p) taken place context before) parts ≡ Ok begun
    → unfold_forest (reading_noted_by way) (standing (rule_of p) taken place context before) [] (place + length taken) parts begun ≡ Ok inner
    → (linked s).close (standing (rule_of p) taken place context before) inner.value inner.state ≡ cpp.close (standing (rule_of p) taken place context before) inner.value inner.state

-- ## The four productions, by either reading

-- before a lambda's parts this reading does what C++'s reading does
abbrev IsPlainLambda : NotedWay → Type 0
IsPlainLambda way = (around : Around) (place : ℕ) (vs : List Value) (state : State) → way.between Production.Lambda around place vs state ≡ between Production.Lambda around place vs state

-- likewise at the beginning of a rule that the linker reads in a way of its own
abbrev OpensPlain : NotedWay → Type 0
OpensPlain way = (p : Production) → is_plain p ≡ false → (around : Around) (parts : Forest) (place : ℕ) (state : State) → way.opening p around parts place state ≡ opening p parts place state

module _ (way : NotedWay) (plain_way : IsPlainNoted way) (plain_lambda : IsPlainLambda way) (plain_opening : OpensPlain way) where
  -- if the production's steps are those of the ABI's reading, so are the steps of the production's rule
  plain_step : (rule : Open State Around) (p : Production) → production_at rule.rule.number ≡ p
      → ((around : Around) (place : ℕ) (vs : List Value) (state : State) → way.between p around place vs state ≡ between p around place vs state) → (known : List Value) (at : ℕ) (first : Tree) (rest : Forest) (state : State)
      → unfold_forest (reading_noted_by way) rule known at (grown first rest) state
      ≡ (between p rule.context rule.place known state >>= λ next. unfold_tree (reading_noted_by way) next.context at first next.state
      >>= λ one. unfold_forest (reading_noted_by way) rule (next.values ++ one.value) (at + length (spell first)) rest one.state)
  unfolding cpp reading_noted_by
  plain_step rule p number goes known at first rest state =
      ap (λ m. m >>= λ next. unfold_tree (reading_noted_by way) next.context at first next.state
      >>= λ one. unfold_forest (reading_noted_by way) rule (next.values ++ one.value) (at + length (spell first)) rest one.state)
      (ap (λ q. way.between q rule.context rule.place known state) number ∙ goes rule.context rule.place known state)

  -- the bytes of a suffix, in one value
  record SuffixRead (around : Around) (place : ℕ) (tree : Tree) (state : State) : Type 0 where
    value : Value
    is : unfold_tree (reading_noted_by way) around place tree state ≡ Ok (found (value ∷ []) state)
    text_is : text_of value ≡ spell tree

  byte_read : (byte place : ℕ) (around : Around) (inner : Tree) (state : State) (v : Value) → unfold_tree (reading_noted_by way) around (place + 1) inner state ≡ Ok (found (v ∷ []) state)
      → unfold_tree (reading_noted_by way) around place (branch (rule_of Production.SuffixByte) (byte ∷ []) (grown inner nothing)) state ≡ Ok (found (text (byte ∷ text_of v) ∷ []) state)
  unfolding is_plain differs cpp reading_noted_by opening between close behind meaning production_at productions rule_of number_of byte_of part text_of
  byte_read byte place around inner state v is =
      let closes : Found (List Value) State → Result (Found (List Value) State) Refusal = λ all. way.close Production.SuffixByte byte around place state all.value all.state >>= alone in
      ap (λ m. m >>= λ b. unfold_forest (reading_noted_by way) (standing (rule_of Production.SuffixByte) (byte ∷ []) place around state) [] (place + 1) (grown inner nothing) b >>= closes) (plain_opening Production.SuffixByte refl around (grown inner nothing) place state)
      ∙ ap (λ m. m >>= closes) (plain_step (standing (rule_of Production.SuffixByte) (byte ∷ []) place around state) Production.SuffixByte refl (plain_way.between Production.SuffixByte refl) [] (place + 1) inner nothing state)
      ∙ ap (λ m. (m >>= λ one. Ok (found one.value one.state)) >>= closes) is
      ∙ ap (λ m. m >>= alone) (plain_way.close Production.SuffixByte refl byte around place state (v ∷ []) state)

  suffix_read : (kind : ℕ) → OfSuffix kind → (tree : Tree) (around : Around) (place : ℕ) (state : State) → IsTree wide (OfKind kind) tree → SuffixRead around place tree state
  unfolding cpp reading_noted_by text_of
  suffix_read kind one empty around place state is = record { value = nothing_there; is = refl; text_is = refl }
  suffix_read kind one (token t) around place state is = absurd is
  suffix_read kind one (fixed byte) around place state is = absurd is
  suffix_read kind one (branch rule taken nothing) around place state is = absurd (suffix_parts rule nothing (suffix_rule kind one rule taken is.0) is.1)
  suffix_read kind one (branch rule taken (grown inner (grown second rest))) around place state is =
      absurd (suffix_parts rule (grown inner (grown second rest)) (suffix_rule kind one rule taken is.0) is.1).1
  suffix_read kind one (branch rule taken (grown inner nothing)) around place state is =
      let same = suffix_rule kind one rule taken is.0 in
      let eaten : taken ≡ is.0.byte ∷ [] = takes_byte is.0.byte rule taken Production.SuffixByte same suffix_chain is.0.takes in
      let read = suffix_read SUFFIX_MORE behind_it inner around (place + 1) state (suffix_parts rule (grown inner nothing) same is.1).0 in
      record {
        value = text (is.0.byte ∷ text_of read.value);
        is = ap (λ r. unfold_tree (reading_noted_by way) around place (branch r taken (grown inner nothing)) state) same
            ∙ ap (λ b. unfold_tree (reading_noted_by way) around place (branch (rule_of Production.SuffixByte) b (grown inner nothing)) state) eaten
            ∙ byte_read is.0.byte place around inner state read.value read.is;
        text_is = ap (λ x. is.0.byte ∷ x) (read.text_is ∙ sym (append-nil (spell inner))) ∙ ap (λ x. x ++ (spell inner ++ [])) (sym eaten);
      }

  suffix_forest : (p : Production) (taken : List ℕ) (place at : ℕ) (context : Around) (before begun : State) (inner : Found (List Value) State) (v : Value) (tree : Tree)
      → p ≡ Production.Suffix ⊎ p ≡ Production.SuffixByte
      → unfold_tree (reading_noted_by way) context at tree begun ≡ Ok (found (v ∷ []) begun)
      → unfold_forest (reading_noted_by way) (standing (rule_of p) taken place context before) [] at (grown tree nothing) begun ≡ Ok inner → inner.value ≡ v ∷ []
  unfolding differs cpp reading_noted_by between production_at productions rule_of number_of
  suffix_forest Production.Suffix taken place at context before begun inner v tree one read is =
      values_same (found (v ∷ []) begun) inner (sym (plain_step (standing (rule_of Production.Suffix) taken place context before) Production.Suffix refl (plain_way.between Production.Suffix refl) [] at tree nothing begun ∙ ap (λ m. m >>= λ one. Ok (found one.value one.state)) read) ∙ is)
  suffix_forest Production.SuffixByte taken place at context before begun inner v tree one read is =
      values_same (found (v ∷ []) begun) inner (sym (plain_step (standing (rule_of Production.SuffixByte) taken place context before) Production.SuffixByte refl (plain_way.between Production.SuffixByte refl) [] at tree nothing begun ∙ ap (λ m. m >>= λ one. Ok (found one.value one.state)) read) ∙ is)
  suffix_forest p taken place at context before begun inner v tree (inl same) read is = absurd cc
  suffix_forest p taken place at context before begun inner v tree (inr same) read is = absurd cc

  suffix_closes : (s : List ℕ) → ClosesRule way s Production.Suffix
  unfolding cpp reading_noted_by link_close link_meaning close behind meaning production_at productions rule_of number_of byte_of parts_of number_of_kind is_chain
  suffix_closes s kind taken (grown tree nothing) place context before begun inner rest takes trees at is_begun is_inner =
      let eaten : taken ≡ takes.byte ∷ [] = takes_byte takes.byte (rule_of Production.Suffix) taken Production.Suffix refl refl takes.takes in
      let read = suffix_read SUFFIX_FIRST in_front tree context (place + length taken) begun trees.0 in
      let values = suffix_forest Production.Suffix taken place (place + length taken) context before begun inner read.value tree (inl refl) read.is is_inner in
      let there : drop place s ≡ (takes.byte ∷ []) ++ ((spell tree ++ []) ++ rest) = at ∙ ap (λ b. b ++ ((spell tree ++ []) ++ rest)) eaten in
      let first : byte_of taken ≡ takes.byte = ap byte_of eaten in
      ap (λ v. Ok (found v inner.state)) (text_closes s takes.byte place context before begun inner read.value (spell tree) rest values read.text_is there
      ∙ ap (λ b. text (b ∷ text_of (part inner.value 0))) (sym first))
  suffix_closes s kind taken nothing place context before begun inner rest takes trees at is_begun is_inner = absurd trees
  suffix_closes s kind taken (grown tree (grown second others)) place context before begun inner rest takes trees at is_begun is_inner = absurd trees.1

  byte_closes : (s : List ℕ) → ClosesRule way s Production.SuffixByte
  unfolding cpp reading_noted_by link_close link_meaning close behind meaning production_at productions rule_of number_of byte_of parts_of number_of_kind is_chain
  byte_closes s kind taken (grown tree nothing) place context before begun inner rest takes trees at is_begun is_inner =
      let eaten : taken ≡ takes.byte ∷ [] = takes_byte takes.byte (rule_of Production.SuffixByte) taken Production.SuffixByte refl refl takes.takes in
      let read = suffix_read SUFFIX_MORE behind_it tree context (place + length taken) begun trees.0 in
      let values = suffix_forest Production.SuffixByte taken place (place + length taken) context before begun inner read.value tree (inr refl) read.is is_inner in
      let there : drop place s ≡ (takes.byte ∷ []) ++ ((spell tree ++ []) ++ rest) = at ∙ ap (λ b. b ++ ((spell tree ++ []) ++ rest)) eaten in
      let first : byte_of taken ≡ takes.byte = ap byte_of eaten in
      ap (λ v. Ok (found v inner.state)) (text_closes s takes.byte place context before begun inner read.value (spell tree) rest values read.text_is there
      ∙ ap (λ b. text (b ∷ text_of (part inner.value 0))) (sym first))
  byte_closes s kind taken nothing place context before begun inner rest takes trees at is_begun is_inner = absurd trees
  byte_closes s kind taken (grown tree (grown second others)) place context before begun inner rest takes trees at is_begun is_inner = absurd trees.1

  digit_read : (byte place : ℕ) (around : Around) (inner : Tree) (state : State) (v : Value) → unfold_tree (reading_noted_by way) around (place + 1) inner state ≡ Ok (found (v ∷ []) state)
      → unfold_tree (reading_noted_by way) around place (branch (rule_of Production.HexDigit) (byte ∷ []) (grown inner nothing)) state ≡ Ok (found (text (byte ∷ text_of v) ∷ []) state)
  unfolding is_plain differs cpp reading_noted_by opening between close behind meaning production_at productions rule_of number_of byte_of part text_of
  digit_read byte place around inner state v is =
      let closes : Found (List Value) State → Result (Found (List Value) State) Refusal = λ all. way.close Production.HexDigit byte around place state all.value all.state >>= alone in
      ap (λ m. m >>= λ b. unfold_forest (reading_noted_by way) (standing (rule_of Production.HexDigit) (byte ∷ []) place around state) [] (place + 1) (grown inner nothing) b >>= closes) (plain_opening Production.HexDigit refl around (grown inner nothing) place state)
      ∙ ap (λ m. m >>= closes) (plain_step (standing (rule_of Production.HexDigit) (byte ∷ []) place around state) Production.HexDigit refl (plain_way.between Production.HexDigit refl) [] (place + 1) inner nothing state)
      ∙ ap (λ m. (m >>= λ one. Ok (found one.value one.state)) >>= closes) is
      ∙ ap (λ m. m >>= alone) (plain_way.close Production.HexDigit refl byte around place state (v ∷ []) state)

  digits_read : (kind : ℕ) → OfDigits kind → (tree : Tree) (around : Around) (place : ℕ) (state : State) → IsTree wide (OfKind kind) tree → SuffixRead around place tree state
  unfolding cpp reading_noted_by text_of
  digits_read kind one empty around place state is = record { value = nothing_there; is = refl; text_is = refl }
  digits_read kind one (token t) around place state is = absurd is
  digits_read kind one (fixed byte) around place state is = absurd is
  digits_read kind one (branch rule taken nothing) around place state is = absurd (digit_parts rule nothing (digit_rule kind one rule taken is.0) is.1)
  digits_read kind one (branch rule taken (grown inner (grown second rest))) around place state is =
      absurd (digit_parts rule (grown inner (grown second rest)) (digit_rule kind one rule taken is.0) is.1).1
  digits_read kind one (branch rule taken (grown inner nothing)) around place state is =
      let same = digit_rule kind one rule taken is.0 in
      let eaten : taken ≡ is.0.byte ∷ [] = takes_byte is.0.byte rule taken Production.HexDigit same digit_chain is.0.takes in
      let read = digits_read HEX_MORE more_digits inner around (place + 1) state (digit_parts rule (grown inner nothing) same is.1).0 in
      record {
        value = text (is.0.byte ∷ text_of read.value);
        is = ap (λ r. unfold_tree (reading_noted_by way) around place (branch r taken (grown inner nothing)) state) same
            ∙ ap (λ b. unfold_tree (reading_noted_by way) around place (branch (rule_of Production.HexDigit) b (grown inner nothing)) state) eaten
            ∙ digit_read is.0.byte place around inner state read.value read.is;
        text_is = ap (λ x. is.0.byte ∷ x) (read.text_is ∙ sym (append-nil (spell inner))) ∙ ap (λ x. x ++ (spell inner ++ [])) (sym eaten);
      }

  digit_forest : (taken : List ℕ) (place at : ℕ) (context : Around) (before begun : State) (inner : Found (List Value) State) (v : Value) (tree : Tree)
      → unfold_tree (reading_noted_by way) context at tree begun ≡ Ok (found (v ∷ []) begun)
      → unfold_forest (reading_noted_by way) (standing (rule_of Production.HexDigit) taken place context before) [] at (grown tree nothing) begun ≡ Ok inner → inner.value ≡ v ∷ []
  unfolding differs cpp reading_noted_by between production_at productions rule_of number_of
  digit_forest taken place at context before begun inner v tree read is =
      values_same (found (v ∷ []) begun) inner (sym (plain_step (standing (rule_of Production.HexDigit) taken place context before) Production.HexDigit refl (plain_way.between Production.HexDigit refl) [] at tree nothing begun ∙ ap (λ m. m >>= λ one. Ok (found one.value one.state)) read) ∙ is)

  digit_closes : (s : List ℕ) → ClosesRule way s Production.HexDigit
  unfolding cpp reading_noted_by link_close link_meaning close behind meaning production_at productions rule_of number_of byte_of parts_of number_of_kind is_chain
  digit_closes s kind taken (grown tree nothing) place context before begun inner rest takes trees at is_begun is_inner =
      let eaten : taken ≡ takes.byte ∷ [] = takes_byte takes.byte (rule_of Production.HexDigit) taken Production.HexDigit refl refl takes.takes in
      let read = digits_read HEX_MORE more_digits tree context (place + length taken) begun trees.0 in
      let values = digit_forest taken place (place + length taken) context before begun inner read.value tree read.is is_inner in
      let there : drop place s ≡ (takes.byte ∷ []) ++ ((spell tree ++ []) ++ rest) = at ∙ ap (λ b. b ++ ((spell tree ++ []) ++ rest)) eaten in
      let first : byte_of taken ≡ takes.byte = ap byte_of eaten in
      ap (λ v. Ok (found v inner.state)) (text_closes s takes.byte place context before begun inner read.value (spell tree) rest values read.text_is there
      ∙ ap (λ b. text (b ∷ text_of (part inner.value 0))) (sym first))
  digit_closes s kind taken nothing place context before begun inner rest takes trees at is_begun is_inner = absurd trees
  digit_closes s kind taken (grown tree (grown second others)) place context before begun inner rest takes trees at is_begun is_inner = absurd trees.1

  -- an unnamed type
  unnamed_closes : (s : List ℕ) → ClosesRule way s Production.Unnamed
  unfolding differs cpp reading_noted_by opening between link_close link_meaning close behind meaning production_at productions rule_of number_of last_token part text_of parts_of
  unnamed_closes s kind taken (grown (token t) nothing) place context before begun inner rest takes trees at is_begun is_inner =
      let less : nat_lt (local_number t.own) (2 ^ 64) ≡ true = number_less (place - 1) t.own before begun is_begun in
      let values : inner.value ≡ text t.own ∷ [] = values_same (found (text t.own ∷ []) begun) inner
      (sym (plain_step (standing (rule_of Production.Unnamed) taken place context before) Production.Unnamed refl (plain_way.between Production.Unnamed refl) [] (place + length taken) (token t) nothing begun) ∙ is_inner) in
      rw values (ap (λ n. Ok (found (piece (unnamed n)) inner.state)) (within_64 (local_number t.own) less))
  unnamed_closes s kind taken (grown (branch r x i) nothing) place context before begun inner rest takes trees at is_begun is_inner = absurd trees.0
  unnamed_closes s kind taken (grown empty nothing) place context before begun inner rest takes trees at is_begun is_inner = absurd trees.0
  unnamed_closes s kind taken (grown (fixed b) nothing) place context before begun inner rest takes trees at is_begun is_inner = absurd trees.0
  unnamed_closes s kind taken nothing place context before begun inner rest takes trees at is_begun is_inner = absurd trees
  unnamed_closes s kind taken (grown tree (grown second others)) place context before begun inner rest takes trees at is_begun is_inner = absurd trees.1

  -- a tree has exactly one value
  one_value : (tree : Tree) (context : Around) (place : ℕ) (state : State) (one : Found (List Value) State) → unfold_tree (reading_noted_by way) context place tree state ≡ Ok one
      → (v : Value) × (one.value ≡ v ∷ [])
  unfolding cpp reading_noted_by
  one_value empty context place state one is = (nothing_there, values_same (found (nothing_there ∷ []) state) one is)
  one_value (fixed b) context place state one is = (nothing_there, values_same (found (nothing_there ∷ []) state) one is)
  one_value (token t) context place state one is = (text t.own, values_same (found (text t.own ∷ []) state) one is)
  one_value (branch rule taken parts) context place state one is =
      let o = standing rule taken place context state in
      let begun = both_ok ((reading_noted_by way).begin o parts) (λ b. unfold_forest (reading_noted_by way) o [] (place + length taken) parts b >>= λ inner. (reading_noted_by way).close o inner.value inner.state >>= alone) one is in
      let inner = both_ok (unfold_forest (reading_noted_by way) o [] (place + length taken) parts begun.0) (λ i. (reading_noted_by way).close o i.value i.state >>= alone) one begun.2 in
      let whole = both_ok ((reading_noted_by way).close o inner.0.value inner.0.state) alone one inner.2 in
      (whole.0.value, values_same (found (whole.0.value ∷ []) whole.0.state) one whole.2)

  -- the value of one part of a lambda, after the values of those before it
  lambda_part : (taken : List ℕ) (place : ℕ) (context : Around) (before : State) (known : List Value) (at : ℕ) (first : Tree) (rest : Forest) (state : State) (inner : Found (List Value) State)
      → unfold_forest (reading_noted_by way) (lambda_open taken place context before) known at (grown first rest) state ≡ Ok inner
      → (v : Value) × (after : State) × (unfold_forest (reading_noted_by way) (lambda_open taken place context before) (known ++ v ∷ []) (at + length (spell first)) rest after ≡ Ok inner)
  unfolding differs cpp reading_noted_by between production_at productions rule_of number_of
  lambda_part taken place context before known at first rest state inner is =
      let o = lambda_open taken place context before in
      let part_is = both_ok (unfold_tree (reading_noted_by way) (in_signature context) at first state) (λ one. unfold_forest (reading_noted_by way) o (known ++ one.value) (at + length (spell first)) rest one.state) inner
      (sym (plain_step o Production.Lambda refl plain_lambda known at first rest state) ∙ is) in
      let one = one_value first (in_signature context) at state part_is.0 part_is.1 in
      (one.0, part_is.0.state, ap (λ vs. unfold_forest (reading_noted_by way) o (known ++ vs) (at + length (spell first)) rest part_is.0.state) (sym one.1) ∙ part_is.2)

  lambda_values : (taken : List ℕ) (place : ℕ) (context : Around) (before begun : State) (at : ℕ) (a b c : Tree) (t : Token) (inner : Found (List Value) State)
      → unfold_forest (reading_noted_by way) (lambda_open taken place context before) [] at (grown a (grown b (grown c (grown (token t) nothing)))) begun ≡ Ok inner
      → text_of (part inner.value 3) ≡ t.own
  unfolding differs cpp reading_noted_by between production_at productions rule_of number_of
  lambda_values taken place context before begun at a b c t inner is =
      let x = lambda_part taken place context before [] at a (grown b (grown c (grown (token t) nothing))) begun inner is in
      let y = lambda_part taken place context before (x.0 ∷ []) (at + length (spell a)) b (grown c (grown (token t) nothing)) x.1 inner x.2 in
      let z = lambda_part taken place context before (x.0 ∷ y.0 ∷ []) (at + length (spell a) + length (spell b)) c (grown (token t) nothing) y.1 inner y.2 in
      let values : inner.value ≡ x.0 ∷ y.0 ∷ z.0 ∷ text t.own ∷ [] = values_same (found (x.0 ∷ y.0 ∷ z.0 ∷ text t.own ∷ []) z.1) inner
      (sym (plain_step (lambda_open taken place context before) Production.Lambda refl plain_lambda (x.0 ∷ y.0 ∷ z.0 ∷ []) (at + length (spell a) + length (spell b) + length (spell c)) (token t) nothing z.1) ∙ z.2) in
      fourth inner.value x.0 y.0 z.0 t.own values

  lambda_closes : (s : List ℕ) → ClosesRule way s Production.Lambda
  unfolding cpp reading_noted_by opening link_close link_meaning close behind meaning production_at productions rule_of number_of last_token parts_of number_of_kind
  lambda_closes s kind taken (grown a (grown b (grown c (grown (token t) nothing)))) place context before begun inner rest takes trees at is_begun is_inner =
      let own : text_of (part inner.value 3) ≡ t.own = lambda_values taken place context before begun (place + length taken) a b c t inner is_inner in
      let last : last_token (grown a (grown b (grown c (grown (token t) nothing)))) [] ≡ t.own = last_of a b c t in
      let less : nat_lt (local_number (text_of (part inner.value 3))) (2 ^ 64) ≡ true =
      ap (λ ds. nat_lt (local_number ds) (2 ^ 64)) (own ∙ sym last) ∙ number_less (place - 1) _ before begun is_begun in
      ap (λ n. Ok (found (piece (lambda (signature_with (part inner.value 0) (parameters (list (tree_of (part inner.value 0)) (no_items (part inner.value 1))))) n)) inner.state)) (within_64 (local_number (text_of (part inner.value 3))) less)
  lambda_closes s kind taken (grown a (grown b (grown c (grown (branch r x i) nothing)))) place context before begun inner rest takes trees at is_begun is_inner = absurd trees.1.1.1.0
  lambda_closes s kind taken (grown a (grown b (grown c (grown empty nothing)))) place context before begun inner rest takes trees at is_begun is_inner = absurd trees.1.1.1.0
  lambda_closes s kind taken (grown a (grown b (grown c (grown (fixed d) nothing)))) place context before begun inner rest takes trees at is_begun is_inner = absurd trees.1.1.1.0
  lambda_closes s kind taken (grown a (grown b (grown c (grown d (grown e others))))) place context before begun inner rest takes trees at is_begun is_inner = absurd trees.1.1.1.1
  lambda_closes s kind taken (grown a (grown b (grown c nothing))) place context before begun inner rest takes trees at is_begun is_inner = absurd trees.1.1.1
  lambda_closes s kind taken (grown a (grown b nothing)) place context before begun inner rest takes trees at is_begun is_inner = absurd trees.1.1
  lambda_closes s kind taken (grown a nothing) place context before begun inner rest takes trees at is_begun is_inner = absurd trees.1
  lambda_closes s kind taken nothing place context before begun inner rest takes trees at is_begun is_inner = absurd trees

  numbered_plain : (p : Production) → is_plain p ≡ false → (s : List ℕ) → ClosesRule way s p
  unfolding is_plain
  numbered_plain Production.Suffix other s = suffix_closes s
  numbered_plain Production.SuffixByte other s = byte_closes s
  numbered_plain Production.HexDigit other s = digit_closes s
  numbered_plain Production.Lambda other s = lambda_closes s
  numbered_plain Production.Unnamed other s = unnamed_closes s
  numbered_plain _ other s = absurd (true≢false other)

-- each rule in a symbol closes to the same in both readings
pub closes_same : (s : List ℕ) → ClosesSame wide s cpp (linked s).close
unfolding cpp reading_noted_by abi_noted
closes_same s kind rule taken parts place context before begun inner rest known is at is_begun is_inner =
    let t = taken_rule kind rule taken known is.0 in
    let number : production_at rule.number ≡ t.production = ap (λ (r : Rule). production_at r.number) t.is ∙ at_number t.production in
    elim (cases_Bool (is_plain t.production)) [
      | inl plain ↦ plain_closes s (production_at rule.number) (byte_of taken) context place before inner.value inner.state (ap is_plain number ∙ plain)
      | inr other ↦ subst (λ r. Equal r) (sym t.is)
          (numbered_plain abi_noted abi_is_noted.plain (λ around place vs state. refl) (λ p other around parts place state. refl) t.production other s kind taken parts place context before begun inner rest
          (subst (λ r. TakesRule wide kind r taken) t.is is.0) (subst (λ ss. AreTrees wide ss parts) (ap symbols_of t.is ∙ its_symbols t.production) is.1) at
          (subst (λ r. cpp.begin (standing r taken place context before) parts ≡ Ok begun) t.is is_begun)
          (subst (λ r. unfold_forest cpp (standing r taken place context before) [] (place + length taken) parts begun ≡ Ok inner) t.is is_inner))
    ]
  where
    Equal : Rule → Type 0
    Equal r = (linked s).close (standing r taken place context before) inner.value inner.state ≡ cpp.close (standing r taken place context before) inner.value inner.state

-- likewise in the wide grammar
wide_plain_closes : (s : List ℕ) (p : Production) (byte : ℕ) (around : Around) (place : ℕ) (began : State) (vs : List Value) (state : State) → is_plain p ≡ true
    → link_close_wide s p byte around place began vs state ≡ close_wide p byte around place began vs state
unfolding link_close_wide close_wide link_meaning is_plain
wide_plain_closes s Production.Substitution byte around place began vs state plain = refl
wide_plain_closes s Production.Inheriting byte around place began vs state plain = refl
wide_plain_closes s Production.Encoding byte around place began vs state plain = refl
wide_plain_closes s Production.Holder byte around place began vs state plain = refl
wide_plain_closes s Production.EncodingLiteral byte around place began vs state plain = refl
wide_plain_closes s Production.Lambda byte around place began vs state plain = absurd (false≢true plain)
wide_plain_closes s p byte around place began vs state plain = plain_closes s p byte around place began vs state plain

other_closes : (s : List ℕ) (p : Production) → is_plain p ≡ false → (byte : ℕ) (around : Around) (place : ℕ) (began : State) (vs : List Value) (state : State)
    → link_close s p byte around place began vs state ≡ close p byte around place began vs state
    → link_close_wide s p byte around place began vs state ≡ close_wide p byte around place began vs state
unfolding is_plain link_close_wide close_wide link_close close behind
other_closes s Production.Substitution other byte around place began vs state same = absurd (true≢false other)
other_closes s Production.Inheriting other byte around place began vs state same = absurd (true≢false other)
other_closes s Production.Encoding other byte around place began vs state same = absurd (true≢false other)
other_closes s Production.Holder other byte around place began vs state same = absurd (true≢false other)
other_closes s Production.EncodingLiteral other byte around place began vs state same = absurd (true≢false other)
other_closes s Production.Lambda other byte around place began vs state same = ap (λ r. r >>= λ made. Ok (found (as_generic_lambda made.value) made.state)) same
other_closes s p other byte around place began vs state same = same

wide_lambda : IsPlainLambda wide_noted
unfolding wide_noted between_wide
wide_lambda around place vs state = refl

wide_opening : OpensPlain wide_noted
unfolding is_plain wide_noted opening_wide
wide_opening Production.NestTemplate other around parts place state = absurd (true≢false other)
wide_opening Production.QualifiedPlain other around parts place state = absurd (true≢false other)
wide_opening Production.Items other around parts place state = absurd (true≢false other)
wide_opening Production.NestNext other around parts place state = absurd (true≢false other)
wide_opening Production.NestEnd other around parts place state = absurd (true≢false other)
wide_opening _ other around parts place state = refl

pub wide_closes_same : (s : List ℕ) → ClosesSame wide s cpp_wide (linked_wide s).close
unfolding cpp cpp_wide reading_noted_by wide_noted
wide_closes_same s kind rule taken parts place context before begun inner rest known is at is_begun is_inner =
    let t = taken_rule kind rule taken known is.0 in
    let number : production_at rule.number ≡ t.production = ap (λ (r : Rule). production_at r.number) t.is ∙ at_number t.production in
    elim (cases_Bool (is_plain t.production)) [
      | inl plain ↦ wide_plain_closes s (production_at rule.number) (byte_of taken) context place before inner.value inner.state (ap is_plain number ∙ plain)
      | inr other ↦ other_closes s (production_at rule.number) (ap is_plain number ∙ other) (byte_of taken) context place before inner.value inner.state
          (subst (λ r. Equal r) (sym t.is)
          (numbered_plain wide_noted wide_is_noted.plain wide_lambda wide_opening t.production other s kind taken parts place context before begun inner rest
          (subst (λ r. TakesRule wide kind r taken) t.is is.0) (subst (λ ss. AreTrees wide ss parts) (ap symbols_of t.is ∙ its_symbols t.production) is.1) at
          (subst (λ r. cpp.begin (standing r taken place context before) parts ≡ Ok begun) t.is (sym (wide_opening (production_at rule.number) (ap is_plain number ∙ other) context parts place before) ∙ is_begun))
          (subst (λ r. unfold_forest cpp_wide (standing r taken place context before) [] (place + length taken) parts begun ≡ Ok inner) t.is is_inner)))
    ]
  where
    Equal : Rule → Type 0
    Equal r = (linked s).close (standing r taken place context before) inner.value inner.state ≡ cpp.close (standing r taken place context before) inner.value inner.state

-- ## Where rules begin

-- the production that a kind takes at a byte has a number
unfoldable numbered_at : Kind → ℕ → Bool
numbered_at kind byte = elim (wide_choose kind byte) [ None ↦ false | Some p ↦ is_numbered p ]

-- no kind takes a production with a number at the byte that begins a symbol
none_numbered : (kind : Kind) → numbered_at kind 95 ≡ false
unfolding numbered_at wide_choose wide_alternatives pick is_in in_ranges among is_numbered
none_numbered Kind.Symbol = refl
none_numbered _ = refl

first_plain : (k : ℕ) (rule : Rule) → k < wide.kinds → wide.rule k 95 ≡ Some rule → is_numbered (production_at rule.number) ≡ false
unfolding rule_taken numbered_at
first_plain k rule known found_ = go (slice_get kinds k) refl
  where
    chosen : (kind : Kind) → (o : Option Production) → wide_choose kind 95 ≡ o → rule_taken o ≡ Some rule → is_numbered (production_at rule.number) ≡ false
    chosen kind None is h = let clash : ◌≡◌ {A = Option Rule} None (Some rule) = h in absurd cc
    chosen kind (Some p) is h =
        ap (λ (r : Rule). is_numbered (production_at r.number)) (sym (same_rule p rule h)) ∙ ap is_numbered (at_number p)
        ∙ sym (ap (λ (o : Option Production). elim o [ None ↦ false | Some q ↦ is_numbered q ]) is) ∙ none_numbered kind

    go : (o : Option Kind) → slice_get kinds k ≡ o → is_numbered (production_at rule.number) ≡ false
    go None none = absurd (is_wide_kind k known none)
    go (Some kind) at = chosen kind (wide_choose kind 95) refl (sym (wide_rule_at k kind 95 at) ∙ found_)

first_byte : (byte b : ℕ) (more rest : List ℕ) → (byte ∷ more) ≡ (b ∷ rest) → byte ≡ b
first_byte byte b more rest is = cc

-- the production of a symbol takes a byte
symbol_eats : is_chain Production.Symbol ≡ false
unfolding is_chain
symbol_eats = refl

-- a rule with a number takes a byte
numbered_eats : (p : Production) → is_numbered p ≡ true → is_chain p ≡ false
unfolding is_numbered is_chain
numbered_eats Production.Lambda is = refl
numbered_eats Production.Unnamed is = refl
numbered_eats _ is = absurd (false≢true is)

begins_first : (s more : List ℕ) (kind : ℕ) (rule : Rule) (taken rest : List ℕ) → s ≡ 95 ∷ more → kind < wide.kinds → TakesRule wide kind rule taken → s ≡ taken ++ rest
    → is_numbered (production_at rule.number) ≡ false
begins_first s more kind rule taken rest begins known takes at = go (is_numbered (production_at rule.number)) refl
  where
    t : Taken kind rule
    t = taken_rule kind rule taken known takes

    number : production_at rule.number ≡ t.production
    number = ap (λ (r : Rule). production_at r.number) t.is ∙ at_number t.production

    go : (b : Bool) → is_numbered (production_at rule.number) ≡ b → b ≡ false
    go false is = refl
    go true is =
        let eaten : taken ≡ takes.byte ∷ [] = takes_byte takes.byte rule taken t.production t.is (numbered_eats t.production (sym (ap is_numbered number) ∙ is)) takes.takes in
        let byte : takes.byte ≡ 95 = first_byte takes.byte 95 rest more (ap (λ x. x ++ rest) (sym eaten) ∙ sym at ∙ begins) in
        absurd (true≢false (sym is ∙ first_plain kind rule known (ap (λ b. wide.rule kind b) (sym byte) ∙ takes.found)))

pub begins_same : (s more : List ℕ) → s ≡ 95 ∷ more → BeginsSame wide s cpp link_begin
unfolding cpp link_begin
begins_same s more begins kind rule taken parts place context before rest known is at = go (nat_eq place 0) refl
  where
    go : (b : Bool) → nat_eq place 0 ≡ b
        → (if b then Ok before else opening (production_at rule.number) parts place before) ≡ opening (production_at rule.number) parts place before
    go false apart = refl
    go true first =
        let here : place ≡ 0 = eqb-true place 0 first in
        sym (opens_plain (production_at rule.number) parts place before
        (begins_first s more kind rule taken (spell_all parts ++ rest) begins known is.0 (ap (λ n. drop n s) (sym here) ∙ at)))

wide_begins_same : (s more : List ℕ) → s ≡ 95 ∷ more → BeginsSame wide s cpp_wide (linked_wide s).begin
unfolding cpp cpp_wide link_opening opening_wide
wide_begins_same s more begins kind rule taken parts place context before rest known is at = by (production_at rule.number) (begins_same s more begins kind rule taken parts place context before rest known is at)
  where
    by : (p : Production) → link_begin (standing rule taken place context before) parts ≡ opening p parts place before
        → link_opening p (standing rule taken place context before) parts ≡ opening_wide p context parts place before
    by Production.NestTemplate same = refl
    by Production.QualifiedPlain same = refl
    by Production.Items same = refl
    by Production.NestNext same = refl
    by Production.NestEnd same = refl
    by _ same = same

-- ## A symbol

or_none : (x : Bool) → x || false ≡ true → x ≡ true
or_none true is = refl
or_none false is = is

-- a symbol begins with byte 95, `_`
pub symbol_begins : (shape : Tree) → IsTree wide (OfKind SYMBOL) shape → (more : List ℕ) × (spell shape ≡ 95 ∷ more)
unfolding wide_choose wide_alternatives pick kinds is_in in_ranges among rule_taken wide wide_sheet sheet_with blank may_be_empty
symbol_begins empty is = absurd (false≢true is)
symbol_begins (token t) is = absurd is
symbol_begins (fixed b) is = absurd is
symbol_begins (branch rule taken parts) is =
    let is_rule = chosen (nat_eq is.0.byte 95 || false) (sym (wide_rule_at SYMBOL Kind.Symbol is.0.byte refl) ∙ is.0.found) in
    let eaten : taken ≡ is.0.byte ∷ [] = takes_byte is.0.byte rule taken Production.Symbol is_rule.0 symbol_eats is.0.takes in
    (spell_all parts, ap (λ x. x ++ spell_all parts) (eaten ∙ ap (λ b. b ∷ []) (eqb-true is.0.byte 95 (or_none (nat_eq is.0.byte 95) is_rule.1))))
  where
    chosen : (b : Bool) → rule_taken (if b then Some Production.Symbol else None) ≡ Some rule → (rule ≡ rule_of Production.Symbol) × (b ≡ true)
    chosen true h = (sym (same_rule Production.Symbol rule h), refl)
    chosen false h = let clash : ◌≡◌ {A = Option Rule} None (Some rule) = h in absurd cc

-- The linker's reading gives a symbol the same result as C++'s reading, even where nodes are counted.
module _ (s : List ℕ) (shape : Tree) (is : IsTree wide (OfKind SYMBOL) shape) (spelled : spell shape ≡ s) where
  abbrev more : List ℕ
  more = (symbol_begins shape is).0

  begins : s ≡ 95 ∷ more
  begins = sym spelled ∙ (symbol_begins shape is).1

  at_front : drop 0 s ≡ spell shape ++ []
  at_front = sym spelled ∙ sym (append-nil (spell shape))

  pub meaning_same : unfold_tree (linked s) first_around 0 shape first_state ≡ unfold_tree cpp first_around 0 shape first_state
  meaning_same = tree_same wide wide_sound s cpp link_begin (linked s).close (begins_same s more begins) (closes_same s) (OfKind SYMBOL) first_around 0 shape first_state [] wide_sound.start is at_front

  module _ (makes : Makes Value State Around) where
    counts_begin : BeginsSame wide s (tallied cpp makes) (tallied (linked s) makes).begin
    counts_begin kind rule taken parts place context before rest known tree at =
        ap (λ m. m >>= λ state. Ok (tally state before.nodes)) (begins_same s more begins kind rule taken parts place context before.state rest known tree at)

    counts_close : ClosesSame wide s (tallied cpp makes) (tallied (linked s) makes).close
    counts_close kind rule taken parts place context before begun inner rest known tree at is_begun is_inner =
        let o = standing rule taken place context before.state in
        let first = both_ok (cpp.begin o parts) (λ state. Ok (tally state before.nodes)) begun is_begun in
        let state_is : first.0 ≡ begun.state = ap state_of_tally (ok_is (tally first.0 before.nodes) begun first.2) in
        let all : unfold_forest cpp o [] (place + length taken) parts begun.state ≡ Ok (found inner.value inner.state.state) =
        sym (forest_untallied cpp makes (standing rule taken place context before) [] (place + length taken) parts begun) ∙ ap (λ m. m >>= plain) is_inner in
        ap (λ m. m >>= λ one. Ok (found one.value (tally one.state (inner.state.nodes + makes.at_end o inner.value inner.state.state))))
        (closes_same s kind rule taken parts place context before.state begun.state (found inner.value inner.state.state) rest known tree at (first.1 ∙ ap (λ st. Ok st) state_is) all)

    pub counted_same : unfold_tree (tallied (linked s) makes) first_around 0 shape (tally first_state 0) ≡ unfold_tree (tallied cpp makes) first_around 0 shape (tally first_state 0)
    counted_same =
        tree_same wide wide_sound s (tallied cpp makes) (tallied (linked s) makes).begin (tallied (linked s) makes).close counts_begin counts_close (OfKind SYMBOL) first_around 0 shape (tally first_state 0) []
        wide_sound.start is at_front

-- Likewise in the wide grammar.
module _ (s : List ℕ) (shape : Tree) (is : IsTree wide (OfKind SYMBOL) shape) (spelled : spell shape ≡ s) where
  abbrev wide_more : List ℕ
  wide_more = (symbol_begins shape is).0

  wide_begins : s ≡ 95 ∷ wide_more
  wide_begins = sym spelled ∙ (symbol_begins shape is).1

  wide_at_front : drop 0 s ≡ spell shape ++ []
  wide_at_front = sym spelled ∙ sym (append-nil (spell shape))

  pub wide_meaning_same : unfold_tree (linked_wide s) first_around 0 shape first_state ≡ unfold_tree cpp_wide first_around 0 shape first_state
  wide_meaning_same = tree_same wide wide_sound s cpp_wide (linked_wide s).begin (linked_wide s).close (wide_begins_same s wide_more wide_begins) (wide_closes_same s) (OfKind SYMBOL) first_around 0 shape first_state [] wide_sound.start is wide_at_front

  module _ (makes : Makes Value State Around) where
    wide_counts_begin : BeginsSame wide s (tallied cpp_wide makes) (tallied (linked_wide s) makes).begin
    wide_counts_begin kind rule taken parts place context before rest known tree at =
        ap (λ m. m >>= λ state. Ok (tally state before.nodes)) (wide_begins_same s wide_more wide_begins kind rule taken parts place context before.state rest known tree at)

    wide_counts_close : ClosesSame wide s (tallied cpp_wide makes) (tallied (linked_wide s) makes).close
    wide_counts_close kind rule taken parts place context before begun inner rest known tree at is_begun is_inner =
        let o = standing rule taken place context before.state in
        let first = both_ok (cpp_wide.begin o parts) (λ state. Ok (tally state before.nodes)) begun is_begun in
        let state_is : first.0 ≡ begun.state = ap state_of_tally (ok_is (tally first.0 before.nodes) begun first.2) in
        let all : unfold_forest cpp_wide o [] (place + length taken) parts begun.state ≡ Ok (found inner.value inner.state.state) =
        sym (forest_untallied cpp_wide makes (standing rule taken place context before) [] (place + length taken) parts begun) ∙ ap (λ m. m >>= plain) is_inner in
        ap (λ m. m >>= λ one. Ok (found one.value (tally one.state (inner.state.nodes + makes.at_end o inner.value inner.state.state))))
        (wide_closes_same s kind rule taken parts place context before.state begun.state (found inner.value inner.state.state) rest known tree at (first.1 ∙ ap (λ st. Ok st) state_is) all)

    pub wide_counted_same : unfold_tree (tallied (linked_wide s) makes) first_around 0 shape (tally first_state 0) ≡ unfold_tree (tallied cpp_wide makes) first_around 0 shape (tally first_state 0)
    wide_counted_same =
        tree_same wide wide_sound s (tallied cpp_wide makes) (tallied (linked_wide s) makes).begin (tallied (linked_wide s) makes).close wide_counts_begin wide_counts_close (OfKind SYMBOL) first_around 0 shape (tally first_state 0) []
        wide_sound.start is wide_at_front
