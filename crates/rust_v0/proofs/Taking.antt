-- Which tokens the rules of the table take, and what the tokens are as parts.
use Rattle.rust_v0.proofs.Basics.{◌≡◌, refl, ap, sym, ◌∙◌, ℕ, ◌+◌, ◌≤◌, suc, List, [], ◌∷◌, length, length-append, Bool, true, false, ◌&&◌, Option, Some, None, Result, arith, subst, false≢true, and_parts, AreDigitsOf, NumberKind, Span, Refusal, Grows, Table as TableOf, within-grown, bytes-grown, AreAll, Fails, skipped, skipped_from, Stands, joined, values_in, Open, Rule, Sym, Token, symbols_of, Forest, nothing, grown, empty, fixed, token, branch, spell_all, AreTrees, IsTree, Part, Production, production_of, v0_table, kinds, sort_of, value_as, IsOwn, HasZero, minus_before, token_of, is_minus, Value, State, Ground, IsPart}
use Rattle.sym_core.specs.Token.{AreNameBytes}
use Rattle.sym_core.specs.declared.NameClass.TheVariants as names
use Rattle.sym_core.specs.declared.refusal.Refusal.TheVariants as refusals
use Rattle.rust_grammar.specs.declared.production.Production.TheVariants as rules
use Rattle.rust_v0.specs.declared.tokens.TokenSort.{TokenSort}
use Rattle.rust_grammar.specs.Value as value
use Rattle.rust_v0.proofs.Entering.{rule_passes, all_pass, all_kinds_pass}

-- ## Tests of a rule's symbols

is_hexadecimal : Sym → Bool
is_hexadecimal (Sym.Kind k) = true
is_hexadecimal Sym.Name = false
is_hexadecimal (Sym.Number NumberKind.Hex) = true
is_hexadecimal (Sym.Number _) = false
is_hexadecimal (Sym.Byte b) = true

is_base62 : Sym → Bool
is_base62 (Sym.Kind k) = true
is_base62 Sym.Name = false
is_base62 (Sym.Number NumberKind.Base62) = true
is_base62 (Sym.Number _) = false
is_base62 (Sym.Byte b) = true

each_passes : (Sym → Bool) → List Sym → Bool
each_passes test [] = true
each_passes test (x ∷ xs) = test x && each_passes test xs

is_lone_name : List Sym → Bool
is_lone_name (Sym.Name ∷ []) = true
is_lone_name _ = false

fits_sort : TokenSort → Rule → Bool
fits_sort TokenSort.PlainName rule = true
fits_sort TokenSort.PunycodeName rule = rule.eats && is_lone_name (symbols_of rule)
fits_sort TokenSort.SignedInteger rule = each_passes is_hexadecimal (symbols_of rule)
fits_sort TokenSort.UnsignedInteger rule = each_passes is_hexadecimal (symbols_of rule)
fits_sort TokenSort.CharacterCode rule = each_passes is_hexadecimal (symbols_of rule)
fits_sort TokenSort.CountedNumber rule = each_passes is_base62 (symbols_of rule)

fits_token : Rule → Bool
fits_token rule = fits_sort (sort_of (production_of rule.number)) rule

each_fits : (kind byte : ℕ) (rule : Rule) → v0_table.rule kind byte ≡ Some rule → fits_sort (sort_of (production_of rule.number)) rule ≡ true
unfolding fits_token fits_sort each_passes is_lone_name is_base62 is_hexadecimal all_kinds_pass all_pass
each_fits kind byte rule found = rule_passes fits_token kinds kind byte rule refl found

-- ## The symbol of a token

abbrev TokenSymbol : (Sym → Bool) → Token → Type 0
TokenSymbol test t = (x : Sym) × IsTree v0_table x (token t) × (test x ≡ true)

symbol_in : (test : Sym → Bool) (xs : List Sym) (left : Forest) (t : Token) (rest : Forest) → AreTrees v0_table xs left → each_passes test xs ≡ true
    → skipped left ≡ grown (token t) rest → TokenSymbol test t
unfolding each_passes
symbol_in test xs nothing t rest trees pass is = cc
symbol_in test [] (grown tree more) t rest trees pass is = absurd trees
symbol_in test (x ∷ xs) (grown empty more) t rest trees pass is = symbol_in test xs more t rest trees.1 (and_parts _ _ pass).1 is
symbol_in test (x ∷ xs) (grown (fixed byte) more) t rest trees pass is = symbol_in test xs more t rest trees.1 (and_parts _ _ pass).1 is
symbol_in test (x ∷ xs) (grown (token u) more) t rest trees pass is =
    let same : u ≡ t = cc in
    (x, rw (← same) trees.0, (and_parts _ _ pass).0)
symbol_in test (x ∷ xs) (grown (branch rule taken parts) more) t rest trees pass is = cc

symbol_behind : (test : Sym → Bool) (xs : List Sym) (passed left : Forest) (t : Token) (rest : Forest) → AreTrees v0_table xs (joined passed left)
    → each_passes test xs ≡ true → skipped left ≡ grown (token t) rest → TokenSymbol test t
unfolding each_passes
symbol_behind test xs nothing left t rest trees pass is = symbol_in test xs left t rest trees pass is
symbol_behind test [] (grown tree more) left t rest trees pass is = absurd trees
symbol_behind test (x ∷ xs) (grown tree more) left t rest trees pass is = symbol_behind test xs more left t rest trees.1 (and_parts _ _ pass).1 is

hex_digits : (t : Token) → TokenSymbol is_hexadecimal t → AreDigitsOf NumberKind.Hex t.own
unfolding is_hexadecimal
hex_digits t (Sym.Kind k, tree, pass) = absurd tree
hex_digits t (Sym.Name, tree, pass) = absurd (false≢true pass)
hex_digits t (Sym.Number NumberKind.Hex, tree, pass) = tree.digits
hex_digits t (Sym.Number _, tree, pass) = absurd (false≢true pass)
hex_digits t (Sym.Byte b, tree, pass) = absurd tree

base62_digits : (t : Token) → TokenSymbol is_base62 t → AreDigitsOf NumberKind.Base62 t.own
unfolding is_base62
base62_digits t (Sym.Kind k, tree, pass) = absurd tree
base62_digits t (Sym.Name, tree, pass) = absurd (false≢true pass)
base62_digits t (Sym.Number NumberKind.Base62, tree, pass) = tree.digits
base62_digits t (Sym.Number _, tree, pass) = absurd (false≢true pass)
base62_digits t (Sym.Byte b, tree, pass) = absurd tree

-- ## A lone name

-- the name is the rule's only part
record IsLone (passed left : Forest) (t : Token) (from : ℕ) : Type 0 where
  none : values_in 0 passed ≡ 0
  here : length (spell_all passed) ≡ 0
  there : skipped_from from left ≡ from
  each : AreNameBytes names.Rust t.own
  before : 1 ≤ length t.before

digits_there : (digits : List ℕ) → AreDigitsOf NumberKind.Length digits → 1 ≤ length digits
digits_there [] are = absurd are.1
digits_there (d ∷ ds) are = omega arith

lone : (xs : List Sym) (passed left : Forest) (t : Token) (rest : Forest) (from : ℕ) → is_lone_name xs ≡ true → AreTrees v0_table xs (joined passed left)
    → skipped left ≡ grown (token t) rest → IsLone passed left t from
unfolding is_lone_name
lone (Sym.Name ∷ []) nothing nothing t rest from is trees left_is = cc
lone (Sym.Name ∷ []) nothing (grown (token u) more) t rest from is trees left_is =
    let same : u ≡ t = cc in
    let name = trees.0 in
    record {
      none = refl;
      here = refl;
      there = refl;
      each = rw (← same) name.each;
      before = rw (← same) (omega (arith, ap (λ l. length l) name.split, length-append name.digits name.separator, digits_there name.digits name.length_is));
    }
lone (Sym.Name ∷ []) nothing (grown tree more) t rest from is trees left_is = absurd trees.0
lone (Sym.Name ∷ []) (grown tree nothing) nothing t rest from is trees left_is = cc
lone (Sym.Name ∷ []) (grown tree nothing) (grown other more) t rest from is trees left_is = absurd trees.1
lone (Sym.Name ∷ []) (grown tree (grown other more)) left t rest from is trees left_is = absurd trees.1
lone xs passed left t rest from is trees left_is = absurd (false≢true is)

-- ## A token of a rule

own_of : (s : List ℕ) (around : Open State ℕ) (held from : ℕ) (left : Forest) (t : Token) (rest : Forest) (at : ℕ) (sort : TokenSort)
    → (stands : Stands v0_table s 0 around held from left) → skipped left ≡ grown (token t) rest → at ≡ skipped_from from left + length t.before
    → fits_sort sort around.rule ≡ true → IsOwn sort t.own held around.place at
unfolding fits_sort
own_of s around held from left t rest at TokenSort.PlainName stands left_is at_is pass = tt
own_of s around held from left t rest at TokenSort.PunycodeName stands left_is at_is pass =
    let both = and_parts around.rule.eats (is_lone_name (symbols_of around.rule)) pass in
    let alone = lone (symbols_of around.rule) stands.passed left t rest from both.1 stands.trees left_is in
    let one : length around.taken ≡ 1 = rw (stands.takes.takes, both.0) refl in
    (alone.each, stands.counted ∙ alone.none, omega (arith, at_is, alone.there, alone.here, alone.before, one, stands.starts))
own_of s around held from left t rest at TokenSort.SignedInteger stands left_is at_is pass =
    hex_digits t (symbol_behind is_hexadecimal (symbols_of around.rule) stands.passed left t rest stands.trees pass left_is)
own_of s around held from left t rest at TokenSort.UnsignedInteger stands left_is at_is pass =
    hex_digits t (symbol_behind is_hexadecimal (symbols_of around.rule) stands.passed left t rest stands.trees pass left_is)
own_of s around held from left t rest at TokenSort.CharacterCode stands left_is at_is pass =
    hex_digits t (symbol_behind is_hexadecimal (symbols_of around.rule) stands.passed left t rest stands.trees pass left_is)
own_of s around held from left t rest at TokenSort.CountedNumber stands left_is at_is pass =
    base62_digits t (symbol_behind is_base62 (symbols_of around.rule) stands.passed left t rest stands.trees pass left_is)

pub own_fits : (s : List ℕ) (around : Open State ℕ) (held from : ℕ) (left : Forest) (t : Token) (rest : Forest) (at : ℕ)
    → Stands v0_table s 0 around held from left → skipped left ≡ grown (token t) rest → at ≡ skipped_from from left + length t.before
    → IsOwn (sort_of (production_of around.rule.number)) t.own held around.place at
own_fits s around held from left t rest at stands left_is at_is =
    own_of s around held from left t rest at (sort_of (production_of around.rule.number)) stands left_is at_is
    (each_fits stands.kind stands.takes.byte around.rule stands.takes.found)

-- ## Values

pub value_is : (o : Option Production) (minus : Bool) (own : List ℕ) → value_as (sort_of o) minus own ≡ token_of o minus own
value_is None minus own = refl
value_is (Some rules.PlainName) minus own = refl
value_is (Some rules.PunycodeName) minus own = refl
value_is (Some rules.SignedConstant) minus own = refl
value_is (Some rules.UnsignedConstant) minus own = refl
value_is (Some rules.CharConstant) minus own = refl
value_is (Some _) minus own = refl

pub as_many : {P V : Type 0} (Is : P → V → Type 0) (ps : List P) (vs : List V) → AreAll Is ps vs → length ps ≡ length vs
as_many Is [] [] are = refl
as_many Is (p ∷ ps) (v ∷ vs) are = ap (λ n. suc n) (as_many Is ps vs are.1)
as_many Is [] (v ∷ vs) are = absurd are
as_many Is (p ∷ ps) [] are = absurd are

two_parts : (p q : Part) (ps : List Part) → minus_before (p ∷ q ∷ ps) ≡ false
two_parts Part.Minus q ps = refl
two_parts p q ps = refl

two_values : (v w : Value) (vs : List Value) → is_minus (v ∷ w ∷ vs) ≡ false
two_values value.minus_mark w vs = refl
two_values v w vs = refl

pub minus_is : (g : Ground) (ps : List Part) (vs : List Value) → AreAll (IsPart g) ps vs → minus_before ps ≡ is_minus vs
minus_is g [] [] are = refl
minus_is g [] (v ∷ vs) are = absurd are
minus_is g (p ∷ ps) [] are = absurd are
minus_is g (Part.Minus ∷ []) (value.minus_mark ∷ []) are = refl
minus_is g (p ∷ q ∷ ps) (v ∷ []) are = absurd are.1
minus_is g (p ∷ []) (v ∷ w ∷ vs) are = absurd are.1
minus_is g (Part.Minus ∷ []) (v ∷ []) are = absurd are.0
minus_is g (p ∷ []) (value.minus_mark ∷ []) are = absurd are.0
minus_is g (p ∷ []) (v ∷ []) are = refl
minus_is g (p ∷ q ∷ ps) (v ∷ w ∷ vs) are = two_parts p q ps ∙ sym (two_values v w vs)

-- the code takes a token in the same sense as the reading does
pub own_in_code : (g : Ground) (o : Option Production) (sort : TokenSort) (slice ps : List Part) (known : List Value) (bytes own : List ℕ) (code_place place at : ℕ)
    → slice ≡ ps → sort ≡ sort_of o → bytes ≡ own → code_place ≡ place → AreAll (IsPart g) ps known → IsOwn (sort_of o) own (length known) place at
    → IsOwn sort bytes (length slice) code_place at
own_in_code g o sort slice ps known bytes own code_place place at slice_is sort_is bytes_is place_is are fits =
    rw (slice_is, sort_is, bytes_is, place_is, as_many (IsPart g) ps known are) fits

pub value_in_code : (g : Ground) (o : Option Production) (sort : TokenSort) (slice ps : List Part) (known : List Value) (bytes own : List ℕ)
    → slice ≡ ps → sort ≡ sort_of o → bytes ≡ own → AreAll (IsPart g) ps known → value_as sort (minus_before slice) bytes ≡ token_of o (is_minus known) own
value_in_code g o sort slice ps known bytes own slice_is sort_is bytes_is are =
    ap (λ b. value_as sort (minus_before slice) b) bytes_is
    ∙ ap (λ k. value_as k (minus_before slice) own) sort_is
    ∙ ap (λ l. value_as (sort_of o) (minus_before l) own) slice_is
    ∙ ap (λ m. value_as (sort_of o) m own) (minus_is g ps known are)
    ∙ value_is o (is_minus known) own

pub zero_stays : (old new : TableOf) → Grows old new → HasZero old.text → HasZero new.text
zero_stays old new grows is =
    let span : Span = record { from = 0; to = 1 } in
    subst (λ l. HasZero l) (sym grows.text) (within-grown old.text grows.more_text span is.0, bytes-grown old.text grows.more_text span is.0 ∙ is.1)

pub fails_memory : {A : Type 0} (e : Refusal) (read : Result A Refusal) → e ≡ refusals.Memory → Fails e read
fails_memory {A} e read is = subst (λ r. Fails r read) (sym is) tt
