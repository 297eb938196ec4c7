-- The byte at an open rule's place serves as the byte that the rule takes: a rule that takes none means the same with any byte.
use Rattle.cpp_link.proofs.Basics.{◌≡◌, refl, sym, ◌∙◌, ap, subst, ℕ, zero, suc, List, [], ◌∷◌, ◌++◌, drop, Bool, true, false, not, ◌&&◌, ◌||◌, if◌then◌else◌, Result, Ok, slice_index, false≢true, and_parts, Refusal, Rule, Found, Open, found, Production, is_chain, Source, code, taken, letter_or_taken, letter_or, qualified_by, Made, of, only, extending, applying, Own, by_letters, first_of_operator, reference, character, suffix, one_digit, Form, the_byte, makes, a_piece, a_pair, own, row_of, wide, rule_of, production_at, byte_of, Taken, taken_rule, at_number, Argument, some_qualifiers, tree_in, truth_in, built, State, Value, tree, piece, Around, part, extended, applied, meaning, given, all_given, made, is_listing, meant, state_after, own_meaning, behind, close, link_meaning, link_close}
use Rattle.sym_link.specs.Threads.{IsThere}

-- ## Rows that don't mention the byte

unfoldable is_byteless : Source → Bool
is_byteless (code front) = false
is_byteless taken = false
is_byteless (letter_or_taken k) = false
is_byteless (letter_or k other) = true
is_byteless (qualified_by r v c) = is_byteless r && (is_byteless v && is_byteless c)
is_byteless _ = true

unfoldable all_byteless : List Source → Bool
all_byteless [] = true
all_byteless (x ∷ xs) = is_byteless x && all_byteless xs

unfoldable makes_byteless : Made → Bool
makes_byteless (of maker xs) = all_byteless xs
makes_byteless (only x) = is_byteless x
makes_byteless (extending m) = makes_byteless m
makes_byteless (applying m k) = makes_byteless m
makes_byteless _ = true

unfoldable own_byteless : Own → Bool
own_byteless by_letters = false
own_byteless first_of_operator = false
own_byteless reference = false
own_byteless character = false
own_byteless suffix = false
own_byteless one_digit = false
own_byteless _ = true

unfoldable means_byteless : Form → Bool
means_byteless the_byte = false
means_byteless (makes m listing) = makes_byteless m
means_byteless (a_piece m) = makes_byteless m
means_byteless (a_pair letter left right) = is_byteless letter && (makes_byteless left && makes_byteless right)
means_byteless (own o most) = own_byteless o
means_byteless _ = true

module _ (b c : ℕ) (around : Around) (vs : List Value) where
  any_given : (x : Source) → is_byteless x ≡ true → given b around vs x ≡ given c around vs x
  unfolding is_byteless given
  any_given (code front) is = absurd (false≢true is)
  any_given taken is = absurd (false≢true is)
  any_given (letter_or_taken k) is = absurd (false≢true is)
  any_given (qualified_by x y z) is =
      let one = and_parts (is_byteless x) (is_byteless y && is_byteless z) is in
      let two = and_parts (is_byteless y) (is_byteless z) one.1 in
      qualifiers (given b around vs x) (given c around vs x) (given b around vs y) (given c around vs y) (given b around vs z) (given c around vs z) (any_given x one.0) (any_given y two.0) (any_given z two.1)
    where
      qualifiers : (x u y v z w : Argument) → x ≡ u → y ≡ v → z ≡ w
          → some_qualifiers (record { restrict = truth_in x; volatile = truth_in y; const = truth_in z }) ≡ some_qualifiers (record { restrict = truth_in u; volatile = truth_in v; const = truth_in w })
      qualifiers x u y v z w e f g = rw (e, f, g) refl
  any_given _ is = refl

  all_any : (xs : List Source) → all_byteless xs ≡ true → all_given b around vs xs ≡ all_given c around vs xs
  unfolding all_byteless all_given
  all_any [] is = refl
  all_any (x ∷ xs) is =
      let both = and_parts (is_byteless x) (all_byteless xs) is in
      rw (any_given x both.0, all_any xs both.1) refl

  any_made : (m : Made) → makes_byteless m ≡ true → made b around vs m ≡ made c around vs m
  unfolding makes_byteless made
  any_made (of maker xs) is = ap (λ ys. built maker ys) (all_any xs is)
  any_made (only x) is = ap (λ y. tree_in y) (any_given x is)
  any_made (extending m) is = ap (λ t. extended around.prefix t) (any_made m is)
  any_made (applying m k) is = ap (λ t. applied t (part vs k)) (any_made m is)
  any_made _ is = refl

  any_own : (o : Own) → own_byteless o ≡ true → own_meaning o b around vs ≡ own_meaning o c around vs
  unfolding own_byteless own_meaning
  any_own by_letters is = absurd (false≢true is)
  any_own first_of_operator is = absurd (false≢true is)
  any_own reference is = absurd (false≢true is)
  any_own character is = absurd (false≢true is)
  any_own suffix is = absurd (false≢true is)
  any_own one_digit is = absurd (false≢true is)
  any_own _ is = refl

  any_meant : (form : Form) → means_byteless form ≡ true → meant form b around vs ≡ meant form c around vs
  unfolding means_byteless meant
  any_meant the_byte is = absurd (false≢true is)
  any_meant (makes m listing) is = ap (λ t. tree t (is_listing vs listing)) (any_made m is)
  any_meant (a_piece m) is = ap (λ t. piece t) (any_made m is)
  any_meant (a_pair letter left right) is =
      let one = and_parts (is_byteless letter) (makes_byteless left && makes_byteless right) is in
      let two = and_parts (makes_byteless left) (makes_byteless right) one.1 in
      rw (any_given letter one.0, any_made left two.0, any_made right two.1) refl
  any_meant (own o most) is = any_own o is
  any_meant _ is = refl

-- the row of a rule that takes no byte doesn't mention the byte
chain_byteless : (p : Production) → not (is_chain p) || means_byteless (row_of p).form ≡ true
unfolding is_chain row_of means_byteless own_byteless makes_byteless all_byteless is_byteless
chain_byteless Production.Mark = refl
chain_byteless _ = refl

or_false : (a b : Bool) → a ≡ true → not a || b ≡ true → b ≡ true
or_false true b is e = e
or_false false b is e = absurd (false≢true is)

-- a production that takes no byte means the same with any byte
any_meaning : (p : Production) (b c : ℕ) (around : Around) (vs : List Value) → is_chain p ≡ true → meaning p b around vs ≡ meaning p c around vs
unfolding meaning
any_meaning p b c around vs chain = any_meant b c around vs (row_of p).form (or_false (is_chain p) (means_byteless (row_of p).form) chain (chain_byteless p))

any_behind : (p : Production) (b c : ℕ) (around : Around) (began : State) (vs : List Value) (state : State) → is_chain p ≡ true → behind p b around began vs state ≡ behind p c around began vs state
unfolding behind
any_behind p b c around began vs state chain = ap (λ v. state_after (row_of p) around began v vs state) (any_meaning p b c around vs chain)

same_found : (u v : Value) (x y : State) → u ≡ v → x ≡ y → ◌≡◌ {A = Result (Found Value State) Refusal} (Ok (found u x)) (Ok (found v y))
same_found u v x y e f = rw (e, f) refl

any_byte : (s : List ℕ) (p : Production) (b c : ℕ) (around : Around) (place : ℕ) (began : State) (vs : List Value) (state : State) → is_chain p ≡ true
    → link_close s p b around place began vs state ≡ link_close s p c around place began vs state
unfolding is_chain link_close link_meaning close
any_byte s Production.Substitution b c around place began vs state chain = refl
any_byte s Production.Inheriting b c around place began vs state chain = refl
any_byte s Production.Suffix b c around place began vs state chain = absurd (false≢true chain)
any_byte s Production.SuffixByte b c around place began vs state chain = absurd (false≢true chain)
any_byte s Production.HexDigit b c around place began vs state chain = absurd (false≢true chain)
any_byte s Production.Lambda b c around place began vs state chain = absurd (false≢true chain)
any_byte s Production.Unnamed b c around place began vs state chain = absurd (false≢true chain)
any_byte s p b c around place began vs state chain = same_found _ _ _ _ (any_meaning p b c around vs chain) (any_behind p b c around began vs state chain)

-- ## The byte at a place

byte_there : (s : List ℕ) (place b : ℕ) (more : List ℕ) → drop place s ≡ b ∷ more → slice_index s place ≡ b
byte_there [] zero b more is = cc
byte_there [] (suc n) b more is = cc
byte_there (c ∷ s) zero b more is = cc
byte_there (c ∷ s) (suc n) b more is = byte_there s n b more is

byte_is : (s : List ℕ) (place b : ℕ) (eaten more : List ℕ) → eaten ≡ b ∷ [] → drop place s ≡ eaten ++ more → byte_of eaten ≡ slice_index s place
unfolding byte_of
byte_is s place b eaten more is at = ap byte_of is ∙ sym (byte_there s place b more (at ∙ ap (λ xs. xs ++ more) is))

by_eating : (s : List ℕ) (place b : ℕ) (eaten more : List ℕ) (p : Production) (chain : Bool) (around : Around) (began : State) (vs : List Value) (state : State) → is_chain p ≡ chain
    → eaten ≡ (if not chain then b ∷ [] else []) → drop place s ≡ eaten ++ more
    → link_close s p (byte_of eaten) around place began vs state ≡ link_close s p (slice_index s place) around place began vs state
by_eating s place b eaten more p true around began vs state chain is at = any_byte s p (byte_of eaten) (slice_index s place) around place began vs state chain
by_eating s place b eaten more p false around began vs state chain is at = ap (λ c. link_close s p c around place began vs state) (byte_is s place b eaten more is at)

pub byte_serves : (s : List ℕ) (rule : Open State Around) (known : List Value) (state : State) → IsThere wide s rule
    → link_close s (production_at rule.rule.number) (byte_of rule.taken) rule.context rule.place rule.before known state
    ≡ link_close s (production_at rule.rule.number) (slice_index s rule.place) rule.context rule.place rule.before known state
unfolding rule_of
byte_serves s rule known state there =
    let t : Taken there.kind rule.rule = taken_rule there.kind rule.rule rule.taken there.is_kind there.takes in
    let p : Production = t.production in
    let number : production_at rule.rule.number ≡ p = ap (λ (r : Rule). production_at r.number) t.is ∙ at_number p in
    let takes : rule.taken ≡ (if not (is_chain p) then there.takes.byte ∷ [] else []) = there.takes.takes ∙ ap (λ (r : Rule). if r.eats then there.takes.byte ∷ [] else []) t.is in
    subst (λ q. link_close s q (byte_of rule.taken) rule.context rule.place rule.before known state ≡ link_close s q (slice_index s rule.place) rule.context rule.place rule.before known state) (sym number)
    (by_eating s rule.place there.takes.byte rule.taken there.behind p (is_chain p) rule.context rule.before known state refl takes there.spelled)
