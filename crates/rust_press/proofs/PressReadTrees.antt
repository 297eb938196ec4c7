-- If a shape of the grammar is read as a symbol, the symbol can be spelled.
use Rattle.rust_press.proofs.Basics.{◌≡◌, ℕ, zero, suc, ◌+◌, ◌<◌, ◌≤◌, length, List, [], ◌∷◌, ◌++◌, Option, Some, None, Bool, true, false, Ok, refl, ap, arith, sym, subst, ◌∙◌, length-append, append_assoc, append-nil, same_Some, drop-append_seam, ◌==◌, if◌then◌else◌, nat_lt, codes, ◌&&◌, ◌*◌, not, Result, Err, get_or, ltb-true, and_parts, Base62, Hex, Rule, Sym, Kind, Name, Number, Byte, need, Production, production_of, v0_table, taking, Value, State, v0, At, bound_behind, is_minus, meaning, meaning_of, token_of, value62, value16, slice_index, drop, list_all, AllByRecursion, nat_tests, Refusal, Length, Rust, AreDigits, AreDigitsOf, IsLengthForm, is_digit_of, digit_value, value_onto, value_of, Token, ByteRange, Choice, KindSheet, classes_of, in_ranges, are_covered, choice_at, are_covered_in, symbols_of, IsToken, Found, Open, ◌>>=◌, unfold_tree, unfold_forest, standing, alone, kinds, no_kind, suffix_bytes, each, Meaning, path_part, other_path_part, suffix_part, at_rule, at_first, symbol_of, unfolded, most62, IsSpellable, IsSpellableName, IsSpellableSuffix, IsSpellableSymbol, IsClosedOther}
use Rattle.rust_tree.specs.Symbol as tree
use Rattle.rust_grammar.specs.declared.production.Production.TheVariants as rules
use Rattle.rust_grammar.specs.Value as value
use Rattle.sym_shape.specs.Tree.{Tree as Shape, Forest, branch, empty, token, fixed, grown, spell, spell_all, IsTree, AreTrees}
use Rattle.sym_shape.specs.Tree as shape
use Rattle.rust_press.proofs.PressParts.{byte-in}
use Rattle.rust_press.proofs.PressRead.{Holds, holds-then, IsGood, HasGoodEndings, AllGood, FunctionGood, DynGood, AreGood, MadeGood, is_inner, expected, FitsByte, made}

-- ## Tokens

abbrev after10 : ℕ → ℕ → ℕ
after10 w zero = w
after10 w (suc n) = after10 (w * 10 + 9) n

after10-least : (w m : ℕ) → w ≤ after10 w m
after10-least w zero = omega arith
after10-least w (suc m) = omega (arith, after10-least (w * 10 + 9) m)

after10-grows : (n m w : ℕ) → n ≤ m → after10 w n ≤ after10 w m
after10-grows zero m w le = after10-least w m
after10-grows (suc n) zero w le = absurd (omega (arith, le))
after10-grows (suc n) (suc m) w le = after10-grows n m (w * 10 + 9) (omega (arith, le))

pub digit10 : (d : ℕ) → is_digit_of Length d ≡ true → digit_value Length d ≤ 9
digit10 d h = grind (arith, nat_tests)

value-after10 : (v w : ℕ) (ds : List ℕ) → v ≤ w → AreDigits Length ds → value_onto Length v ds ≤ after10 w (length ds)
value-after10 v w [] le are = le
value-after10 v w (d ∷ ds) le are = value-after10 (v * 10 + digit_value Length d) (w * 10 + 9) ds (omega (arith, le, digit10 d are.0)) are.1

form-few : (ds : List ℕ) → IsLengthForm ds → length ds ≤ 9
form-few [] form = absurd form
form-few (d ∷ []) form = omega arith
form-few (d ∷ e ∷ ds) form = omega (arith, form.1)

length-few : (ds : List ℕ) → AreDigitsOf Length ds → value_of Length ds ≤ 999999999
length-few ds (are, form) = omega (arith, value-after10 0 0 ds (omega arith) are, after10-grows (length ds) 9 0 (form-few ds form), nine)
  where
    nine : after10 0 9 ≡ 999999999
    nine = refl

abbrev after62 : ℕ → ℕ → ℕ
after62 w zero = w
after62 w (suc n) = after62 (w * 62 + 61) n

after62-least : (w m : ℕ) → w ≤ after62 w m
after62-least w zero = omega arith
after62-least w (suc m) = omega (arith, after62-least (w * 62 + 61) m)

after62-grows : (n m w : ℕ) → n ≤ m → after62 w n ≤ after62 w m
after62-grows zero m w le = after62-least w m
after62-grows (suc n) zero w le = absurd (omega (arith, le))
after62-grows (suc n) (suc m) w le = after62-grows n m (w * 62 + 61) (omega (arith, le))

pub digit62 : (d : ℕ) → is_digit_of Base62 d ≡ true → digit_value Base62 d ≤ 61
digit62 d h = grind (arith, nat_tests)

value-after62 : (v w : ℕ) (ds : List ℕ) → v ≤ w → AreDigits Base62 ds → value_onto Base62 v ds ≤ after62 w (length ds)
value-after62 v w [] le are = le
value-after62 v w (d ∷ ds) le are = value-after62 (v * 62 + digit_value Base62 d) (w * 62 + 61) ds (omega (arith, le, digit62 d are.0)) are.1

counted-few : (ds : List ℕ) → AreDigitsOf Base62 ds → value62 ds ≤ most62
counted-few [] (are, few) = omega arith
counted-few (d ∷ ds) (are, few) = omega (arith, value-after62 0 0 (d ∷ ds) (omega arith) are, after62-grows (length (d ∷ ds)) 11 0 few, eleven)
  where
    eleven : after62 0 11 ≡ 52036560683837093887
    eleven = refl

-- the kinds inside a symbol: all but those of a whole symbol and of its suffix
abbrev inner_kind : ℕ → Bool
inner_kind k = not (k == 0) && not (k == 3)

abbrev is_name : Sym → Bool
is_name (Number kind) = false
is_name (Kind k) = inner_kind k
is_name _ = true

abbrev is_hex : Sym → Bool
is_hex (Number Hex) = true
is_hex (Number _) = false
is_hex Name = false
is_hex (Kind k) = inner_kind k
is_hex _ = true

abbrev is_counted : Sym → Bool
is_counted (Number Base62) = true
is_counted (Number _) = false
is_counted Name = false
is_counted (Kind k) = inner_kind k
is_counted _ = true

abbrev pub takes_token : Production → Sym → Bool
takes_token rules.PlainName x = is_name x
takes_token rules.PunycodeName x = is_name x
takes_token rules.SignedConstant x = is_hex x
takes_token rules.UnsignedConstant x = is_hex x
takes_token rules.CharConstant x = is_hex x
takes_token _ x = is_counted x

name-good : (x : Sym) (t : Token) → is_name x ≡ true → IsToken Rust x t → (b : Bool) → IsSpellableName (record { punycode = b; bytes = t.own })
name-good Name t fits is b = (is.each, omega (arith, is.counted, length-few is.digits is.length_is))
name-good (Kind k) t fits is b = absurd is
name-good (Byte c) t fits is b = absurd is
name-good (Number kind) t fits is b = cc

number-good : (x : Sym) (t : Token) → is_counted x ≡ true → IsToken Rust x t → value62 t.own ≤ most62
number-good (Number Base62) t fits is = counted-few t.own is.digits
number-good (Number _) t fits is = cc
number-good Name t fits is = cc
number-good (Kind k) t fits is = absurd is
number-good (Byte c) t fits is = absurd is

and-second : (a b : Bool) → (a && b) ≡ true → b ≡ true
and-second true b h = h
and-second false b h = cc

-- the value of a token is good
token-good : (p : Production) (b : ℕ) (x : Sym) (t : Token) (minus : Bool) → takes_token p x ≡ true → IsToken Rust x t → IsGood p b (token_of (Some p) minus t.own)
token-good rules.PlainName b x t minus fits is = name-good x t fits is false
token-good rules.PunycodeName b x t minus fits is = name-good x t fits is true
token-good rules.SignedConstant b x t minus fits is = λ h. ltb-true 0 (value16 t.own) (and-second minus (nat_lt 0 (value16 t.own)) h)
token-good rules.UnsignedConstant b x t minus fits is = refl
token-good rules.CharConstant b x t minus fits is = tt
token-good _ b x t minus fits is = number-good x t fits is

-- ## The table

abbrev fits_bytes : Option (List ByteRange) → Choice → Bool
fits_bytes None c = true
fits_bytes (Some ranges) c = c.rule.eats && are_covered (classes_of c) ranges

abbrev fits_choice : Option Production → Choice → Bool
fits_choice None c = false
fits_choice (Some p) c = is_inner p && (fits_bytes (expected p) c && list_all (takes_token p) (symbols_of c.rule))

unfoldable fit_choices : List Choice → Bool
fit_choices [] = true
fit_choices (c ∷ cs) = fits_choice (production_of c.rule.number) c && fit_choices cs

unfoldable fit_kinds : ℕ → List KindSheet → Bool
fit_kinds n [] = true
fit_kinds n (k ∷ ks) = elim (inner_kind n) [ true ↦ fit_choices k.choices | false ↦ true ] && fit_kinds (n + 1) ks

kinds-fit : fit_kinds 0 kinds ≡ true
unfolding fit_kinds fit_choices
kinds-fit = refl

-- what holds of each rule of the table, at each byte that chooses it
pub record IsFitting (byte : ℕ) (rule : Rule) : Type 0 where
  pub production : Production
  pub is : production_of rule.number ≡ Some production
  pub inner : is_inner production ≡ true
  pub bytes : (ranges : List ByteRange) → expected production ≡ Some ranges → (rule.eats ≡ true) × (in_ranges ranges byte ≡ true)
  pub tokens : list_all (takes_token production) (symbols_of rule) ≡ true

fitting : (byte : ℕ) (c : Choice) (p : Option Production) → production_of c.rule.number ≡ p → fits_choice p c ≡ true → in_ranges (classes_of c) byte ≡ true → IsFitting byte c.rule
fitting byte c None is fits inside = cc
fitting byte c (Some p) is fits inside =
    let both = and_parts (is_inner p) (fits_bytes (expected p) c && list_all (takes_token p) (symbols_of c.rule)) fits in
    let more = and_parts (fits_bytes (expected p) c) (list_all (takes_token p) (symbols_of c.rule)) both.1 in
    record { production = p; is = is; inner = both.0; bytes = λ ranges h. go (expected p) h ranges refl more.0; tokens = more.1 }
  where
    go : (o : Option (List ByteRange)) → {ranges : List ByteRange} → o ≡ Some ranges → (others : List ByteRange) → ranges ≡ others → fits_bytes o c ≡ true → (c.rule.eats ≡ true) × (in_ranges others byte ≡ true)
    go None h others same pass = cc
    go (Some rs) h others same pass =
        let both = and_parts c.rule.eats (are_covered (classes_of c) rs) pass in
        (both.0, subst (λ l. in_ranges l byte ≡ true) (same_Some _ _ h ∙ same) (are_covered_in (classes_of c) rs byte both.1 inside))

choice-fits : (cs : List Choice) (byte : ℕ) (rule : Rule) → fit_choices cs ≡ true → choice_at cs byte ≡ Some rule → IsFitting byte rule
unfolding fit_choices
choice-fits [] byte rule fits is = cc
choice-fits (c ∷ cs) byte rule fits is =
    let both = and_parts (fits_choice (production_of c.rule.number) c) (fit_choices cs) fits in
    go (in_ranges (classes_of c) byte) refl is both.0 (λ h. choice-fits cs byte rule both.1 h)
  where
    go : (t : Bool) → in_ranges (classes_of c) byte ≡ t → (if t then Some c.rule else choice_at cs byte) ≡ Some rule → fits_choice (production_of c.rule.number) c ≡ true
        → (choice_at cs byte ≡ Some rule → IsFitting byte rule) → IsFitting byte rule
    go true inside is pass more = subst (IsFitting byte) (same_Some _ _ is) (fitting byte c (production_of c.rule.number) refl pass inside)
    go false inside is pass more = more is

kind-fits : (n : ℕ) (ks : List KindSheet) (k byte : ℕ) (rule : Rule) → fit_kinds n ks ≡ true → inner_kind (n + k) ≡ true → choice_at (get_or ks k no_kind).choices byte ≡ Some rule → IsFitting byte rule
unfolding fit_kinds
kind-fits n [] k byte rule fits inner is = cc
kind-fits n (s ∷ ks) zero byte rule fits inner is =
    go (inner_kind n) (subst (λ m. inner_kind m ≡ true) none inner) (and_parts (elim (inner_kind n) as (λ _. Bool) [ true ↦ fit_choices s.choices | false ↦ true ]) (fit_kinds (n + 1) ks) fits).0
  where
    none : n + 0 ≡ n
    none = omega arith

    go : (t : Bool) → t ≡ true → elim t as (λ _. Bool) [ true ↦ fit_choices s.choices | false ↦ true ] ≡ true → IsFitting byte rule
    go true same pass = choice-fits s.choices byte rule pass is
    go false same pass = cc
kind-fits n (s ∷ ks) (suc k) byte rule fits inner is =
    let next : n + suc k ≡ n + 1 + k = omega arith in
    kind-fits (n + 1) ks k byte rule (and_parts (elim (inner_kind n) as (λ _. Bool) [ true ↦ fit_choices s.choices | false ↦ true ]) (fit_kinds (n + 1) ks) fits).1 (subst (λ m. inner_kind m ≡ true) next inner) is

rule-fits : (k byte : ℕ) (rule : Rule) → inner_kind k ≡ true → v0_table.rule k byte ≡ Some rule → IsFitting byte rule
rule-fits k byte rule inner is = kind-fits 0 kinds k byte rule kinds-fit (subst (λ m. inner_kind m ≡ true) none inner) is
  where
    none : k ≡ 0 + k
    none = omega arith

-- ## Parts

abbrev AtMostOne : Production → ℕ → List Value → Type 0
AtMostOne p b [] = Unit {0}
AtMostOne p b (v ∷ []) = IsGood p b v
AtMostOne p b (v ∷ w ∷ vs) = ⊥

all-append : (p : Production) (b : ℕ) (known vs : List Value) → AllGood p b known → AtMostOne p b vs → AllGood p b (known ++ vs)
all-append p b [] [] good one = tt
all-append p b [] (v ∷ []) good one = (one, tt)
all-append p b [] (v ∷ w ∷ vs) good one = absurd one
all-append p b (k ∷ known) vs good one = (good.0, all-append p b known vs good.1 one)

function-append : (outer : ℕ) (known vs : List Value) → FunctionGood outer known → AtMostOne rules.Function (bound_behind (Some rules.Function) outer known) vs → FunctionGood outer (known ++ vs)
function-append outer [] [] good one = tt
function-append outer [] (value.a_binder n ∷ []) good one = (one, tt)
function-append outer [] (v ∷ []) good one = (one, tt)
function-append outer [] (v ∷ w ∷ vs) good one = absurd one
function-append outer (value.a_binder n ∷ rest) vs good one = (good.0, all-append rules.Function (outer + n) rest vs good.1 one)
function-append outer (w ∷ rest) vs good one = all-append rules.Function outer (w ∷ rest) vs good one

dyn-append : (outer : ℕ) (known vs : List Value) → DynGood outer known → AtMostOne rules.Dyn (bound_behind (Some rules.Dyn) outer known) vs → DynGood outer (known ++ vs)
dyn-append outer [] [] good one = tt
dyn-append outer [] (value.a_binder n ∷ []) good one = (one, tt)
dyn-append outer [] (v ∷ []) good one = (one, tt)
dyn-append outer [] (v ∷ w ∷ vs) good one = absurd one
dyn-append outer (value.a_binder n ∷ []) [] good one = good
dyn-append outer (value.a_binder n ∷ []) (v ∷ []) good one = (good.0, (one, tt))
dyn-append outer (value.a_binder n ∷ []) (v ∷ w ∷ vs) good one = absurd one
dyn-append outer (value.a_binder n ∷ v ∷ rest) vs good one = (good.0, (good.1.0, all-append rules.Dyn outer rest vs good.1.1 one))
dyn-append outer (w ∷ rest) vs good one = all-append rules.Dyn outer (w ∷ rest) vs good one

are-append : (p : Production) (outer : ℕ) (known vs : List Value) → AreGood p outer known → AtMostOne p (bound_behind (Some p) outer known) vs → AreGood p outer (known ++ vs)
are-append rules.Function outer known vs good one = function-append outer known vs good one
are-append rules.Dyn outer known vs good one = dyn-append outer known vs good one
are-append p outer known vs good one = all-append p outer known vs good one

abbrev GoodTree : Production → ℕ → Result (Found (List Value) State) Refusal → Type 0
GoodTree p b m = Holds (λ f. AtMostOne p b f.value × HasGoodEndings f.state.ended) m

abbrev GoodParts : Production → ℕ → Result (Found (List Value) State) Refusal → Type 0
GoodParts p b m = Holds (λ f. AreGood p b f.value × HasGoodEndings f.state.ended) m

byte-fits : (o : Option (List ByteRange)) (b c : ℕ) → c < 256 → ((ranges : List ByteRange) → o ≡ Some ranges → (b ≡ c) × (in_ranges ranges c ≡ true)) → FitsByte o b
byte-fits None b c small fits = tt
byte-fits (Some ranges) b c small fits =
    let f = fits ranges refl in
    (subst (λ d. d < 256) (sym f.0) small, subst (λ d. in_ranges ranges d ≡ true) (sym f.0) f.1)

-- if a part is of a kind, the kind is one inside a symbol
abbrev plain_symbol : Sym → Bool
plain_symbol (Kind k) = inner_kind k
plain_symbol _ = true

plain-token : (p : Production) (x : Sym) → takes_token p x ≡ true → plain_symbol x ≡ true
plain-token rules.PlainName (Kind k) h = h
plain-token _ (Kind k) h = h
plain-token p Name h = refl
plain-token p (Number kind) h = refl
plain-token p (Byte b) h = refl

none-good : (p : Production) (b : ℕ) → AreGood p b []
none-good rules.Function b = tt
none-good rules.Dyn b = tt
none-good _ b = tt

-- what a rule makes of good parts is good
close-good : (s : List ℕ) (q : Production) (rule : Rule) (taken : List ℕ) (context place byte : ℕ) (before : State) (fit : IsFitting byte rule) → byte < 256
    → (rule.eats ≡ true → slice_index s place ≡ byte) → (m : Result (Found (List Value) State) Refusal) → GoodParts fit.production context m
    → GoodTree q context (m >>= λ inner. meaning_of (production_of rule.number) (at_rule s (standing rule taken place context before) inner.state) inner.value >>= alone)
close-good s q rule taken context place byte before fit small there m good =
    holds-then _ _ m _ good (λ inner g.
    let at : At = at_rule s (standing rule taken place context before) inner.state in
    holds-then (λ f. ((r : Production) → IsGood r context f.value) × HasGoodEndings f.state.ended) _ (meaning_of (production_of rule.number) at inner.value) alone
    (subst (λ o. MadeGood context (meaning_of o at inner.value)) (sym fit.is)
    (made fit.production at inner.value fit.inner
    (byte-fits (expected fit.production) (slice_index s place) byte small (λ ranges h. let f = fit.bytes ranges h in (there f.0, f.1))) g.0 g.1))
    (λ f h. (h.0 q, h.1)))

taken-byte : (eats : Bool) (taken : List ℕ) (byte : ℕ) → taken ≡ (if eats then byte ∷ [] else []) → eats ≡ true → taken ≡ byte ∷ []
taken-byte true taken byte is same = is
taken-byte false taken byte is same = cc

module _ (s : List ℕ) where
  mutual
    tree-good : (p : Production) (x : Sym) (context place : ℕ) (tree : Shape) (state : State) (front back : List ℕ) → place ≡ length front → s ≡ front ++ (spell tree ++ back)
        → state.inside ≡ Some p → takes_token p x ≡ true → plain_symbol x ≡ true → IsTree v0_table x tree → HasGoodEndings state.ended → GoodTree p context (unfold_tree (v0 s) context place tree state)
    tree-good p (Kind k) context place (branch rule taken parts) state front back is-at is inside fits inner (takes, are) endings =
        let fit = rule-fits k takes.byte rule inner takes.found in
        let split : s ≡ front ++ taken ++ (spell_all parts ++ back) = is ∙ ap (λ l. front ++ l) (append_assoc taken (spell_all parts) back) ∙ sym (append_assoc front taken (spell_all parts ++ back)) in
        close-good s p rule taken context place takes.byte state fit takes.is_byte
        (λ eats. byte-in s front (spell_all parts ++ back) takes.byte place
        (is ∙ ap (λ l. front ++ l) (append_assoc taken (spell_all parts) back) ∙ ap (λ l. front ++ (l ++ (spell_all parts ++ back))) (taken-byte rule.eats taken takes.byte takes.takes eats)) is-at)
        (unfold_forest (v0 s) (standing rule taken place context state) [] (place + length taken) parts state)
        (forest-good fit.production (symbols_of rule) (standing rule taken place context state) [] (place + length taken) parts state (front ++ taken) back
        (omega (arith, is-at, length-append front taken)) split fit.is are fit.tokens (none-good fit.production context) endings)
    tree-good p (Kind k) context place empty state front back is-at is inside fits inner tree endings = (tt, endings)
    tree-good p Name context place (token t) state front back is-at is inside fits inner tree endings =
        (subst (λ o. IsGood p context (token_of o state.minus t.own)) (sym inside) (token-good p context Name t state.minus fits tree), endings)
    tree-good p (Number kind) context place (token t) state front back is-at is inside fits inner tree endings =
        (subst (λ o. IsGood p context (token_of o state.minus t.own)) (sym inside) (token-good p context (Number kind) t state.minus fits tree), endings)
    tree-good p (Byte b) context place (fixed c) state front back is-at is inside fits inner tree endings = (tt, endings)
    tree-good p x context place tree state front back is-at is inside fits inner bad endings = absurd bad

    forest-good : (p : Production) (xs : List Sym) (rule : Open State ℕ) (known : List Value) (place : ℕ) (parts : Forest) (state : State) (front back : List ℕ) → place ≡ length front
        → s ≡ front ++ (spell_all parts ++ back) → production_of rule.rule.number ≡ Some p → AreTrees v0_table xs parts → list_all (takes_token p) xs ≡ true
        → AreGood p rule.context known → HasGoodEndings state.ended → GoodParts p rule.context (unfold_forest (v0 s) rule known place parts state)
    forest-good p [] rule known place shape.nothing state front back is-at is made-is are fits good endings = (good, endings)
    forest-good p (x ∷ xs) rule known place (grown first rest) state front back is-at is made-is (tree, trees) fits good endings =
        let next : State = record { ended = state.ended; inside = production_of rule.rule.number; minus = is_minus known } in
        let both = and_parts (takes_token p x) (list_all (takes_token p) xs) fits in
        let split : s ≡ front ++ (spell first ++ (spell_all rest ++ back)) = is ∙ ap (λ l. front ++ l) (append_assoc (spell first) (spell_all rest) back) in
        holds-then (λ f. AtMostOne p (bound_behind (production_of rule.rule.number) rule.context known) f.value × HasGoodEndings f.state.ended) _
        (unfold_tree (v0 s) (bound_behind (production_of rule.rule.number) rule.context known) place first next)
        (λ part. unfold_forest (v0 s) rule (known ++ part.value) (place + length (spell first)) rest part.state)
        (tree-good p x (bound_behind (production_of rule.rule.number) rule.context known) place first next front (spell_all rest ++ back) is-at split made-is both.0 (plain-token p x both.0) tree endings)
        (λ part g. forest-good p xs rule (known ++ part.value) (place + length (spell first)) rest part.state (front ++ spell first) back
        (omega (arith, is-at, length-append front (spell first))) (split ∙ sym (append_assoc front (spell first) (spell_all rest ++ back))) made-is trees both.1
        (are-append p rule.context known part.value good (subst (λ o. AtMostOne p (bound_behind o rule.context known) part.value) made-is g.0)) g.1)
    forest-good p xs rule known place parts state front back is-at is made-is are fits good endings = absurd are

-- ## A suffix

abbrev AreSuffixBytes : List ℕ → Type 0
AreSuffixBytes bytes = AllByRecursion (λ c. (c < 256) × (in_ranges suffix_bytes c ≡ true)) bytes

none-spelled : (rest : Forest) → AreTrees v0_table [] rest → spell_all rest ≡ []
none-spelled shape.nothing are = refl
none-spelled (grown first rest) are = absurd are

-- the rest of a suffix has only bytes that suffixes may have
suffix-rest : (tree : Shape) → IsTree v0_table (Kind 5) tree → AreSuffixBytes (spell tree)
suffix-rest empty is = tt
suffix-rest (token t) is = absurd is
suffix-rest (fixed c) is = absurd is
suffix-rest (branch rule taken shape.nothing) (takes, are) = go (in_ranges suffix_bytes takes.byte) takes.found
  where
    go : (t : Bool) → (if t then Some (taking rules.SuffixByte (Kind 5 ∷ [])) else None) ≡ Some rule → AreSuffixBytes (taken ++ [])
    go true is = absurd (subst (λ r. AreTrees v0_table (symbols_of r) shape.nothing) (sym (same_Some _ _ is)) are)
    go false is = cc
suffix-rest (branch rule taken (grown first rest)) (takes, are) = go (in_ranges suffix_bytes takes.byte) refl takes.found (λ is. suffix-rest first is)
  where
    go : (t : Bool) → in_ranges suffix_bytes takes.byte ≡ t → (if t then Some (taking rules.SuffixByte (Kind 5 ∷ [])) else None) ≡ Some rule → (IsTree v0_table (Kind 5) first → AreSuffixBytes (spell first))
        → AreSuffixBytes (taken ++ (spell first ++ spell_all rest))
    go false inside is more = cc
    go true inside is more =
        let trees : AreTrees v0_table (Kind 5 ∷ []) (grown first rest) = subst (λ r. AreTrees v0_table (symbols_of r) (grown first rest)) (sym (same_Some _ _ is)) are in
        let eats : rule.eats ≡ true = ap (λ r. r.eats) (sym (same_Some _ _ is)) in
        rw (taken-byte rule.eats taken takes.byte takes.takes eats, none-spelled rest trees.1, append-nil (spell first)) ((takes.is_byte, inside), more trees.0)

-- the first piece of a suffix is one byte that suffixes may have
suffix-first : (tree : Shape) → IsTree v0_table (Kind 4) tree → (b : ℕ) × (spell tree ≡ b ∷ []) × (b < 256) × (in_ranges suffix_bytes b ≡ true)
suffix-first empty is = cc
suffix-first (token t) is = absurd is
suffix-first (fixed c) is = absurd is
suffix-first (branch rule taken parts) (takes, are) = go (in_ranges suffix_bytes takes.byte) refl takes.found
  where
    go : (t : Bool) → in_ranges suffix_bytes takes.byte ≡ t → (if t then Some (taking rules.SuffixByte []) else None) ≡ Some rule
        → (b : ℕ) × (taken ++ spell_all parts ≡ b ∷ []) × (b < 256) × (in_ranges suffix_bytes b ≡ true)
    go false inside is = cc
    go true inside is =
        let trees : AreTrees v0_table [] parts = subst (λ r. AreTrees v0_table (symbols_of r) parts) (sym (same_Some _ _ is)) are in
        let eats : rule.eats ≡ true = ap (λ r. r.eats) (sym (same_Some _ _ is)) in
        (takes.byte, rw (taken-byte rule.eats taken takes.byte takes.takes eats, none-spelled parts trees) refl, takes.is_byte, inside)

dot-alone : (b : ℕ) → in_ranges (each (codes ".")) b ≡ true → b ≡ 46
dot-alone b h = grind (arith, nat_tests)

two-parts : (x y : Sym) (parts : Forest) → AreTrees v0_table (x ∷ y ∷ []) parts → (a b : Shape) × (parts ≡ grown a (grown b shape.nothing)) × IsTree v0_table x a × IsTree v0_table y b
two-parts x y (grown a (grown b shape.nothing)) (first, (second, none)) = (a, b, refl, first, second)
two-parts x y shape.nothing are = absurd are
two-parts x y (grown a shape.nothing) are = absurd are.1
two-parts x y (grown a (grown b (grown c rest))) are = absurd are.1.1

suffix-spelled : (tree : Shape) → IsTree v0_table (Kind 3) tree → IsSpellableSuffix (spell tree)
suffix-spelled empty is = tt
suffix-spelled (token t) is = absurd is
suffix-spelled (fixed c) is = absurd is
suffix-spelled (branch rule taken parts) (takes, are) = go (in_ranges (each (codes ".")) takes.byte) refl takes.found
  where
    go : (t : Bool) → in_ranges (each (codes ".")) takes.byte ≡ t → (if t then Some (taking rules.Suffix (Kind 4 ∷ Kind 5 ∷ [])) else None) ≡ Some rule → IsSpellableSuffix (taken ++ spell_all parts)
    go false inside is = cc
    go true inside is =
        let trees : AreTrees v0_table (Kind 4 ∷ Kind 5 ∷ []) parts = subst (λ r. AreTrees v0_table (symbols_of r) parts) (sym (same_Some _ _ is)) are in
        let eats : rule.eats ≡ true = ap (λ r. r.eats) (sym (same_Some _ _ is)) in
        let two = two-parts (Kind 4) (Kind 5) parts trees in
        let first = suffix-first two.0 two.3 in
        rw (taken-byte rule.eats taken takes.byte takes.takes eats, two.2, first.1, append-nil (spell two.1)) (dot-alone takes.byte inside, ((first.2, first.3), suffix-rest two.1 two.4))

-- ## A whole symbol

abbrev WithSuffix : List Value → Type 0
WithSuffix [] = Unit {0}
WithSuffix (value.a_suffix x ∷ rest) = IsSpellableSuffix x
WithSuffix (v ∷ rest) = IsGood rules.Symbol 0 v × WithSuffix rest

abbrev MaybeSuffix : List Value → Type 0
MaybeSuffix [] = Unit {0}
MaybeSuffix (value.a_suffix x ∷ []) = IsSpellableSuffix x
MaybeSuffix _ = ⊥

with-append : (known vs : List Value) → AllGood rules.Symbol 0 known → MaybeSuffix vs → WithSuffix (known ++ vs)
with-append [] [] good last = tt
with-append [] (value.a_suffix x ∷ []) good last = last
with-append [] (v ∷ vs) good last = absurd last
with-append (value.a_suffix x ∷ known) vs good last = absurd good.0
with-append (v ∷ known) vs good last = (good.0, with-append known vs good.1 last)

path-with : (Q : Found Value State → Type 0) (parts : List Value) (f : tree.Path × List Value → Meaning) → WithSuffix parts
    → ((x : tree.Path) (rest : List Value) → (IsSpellable x × (need x ≤ 0)) → WithSuffix rest → Holds Q (f (x, rest))) → Holds Q (path_part parts >>= f)
path-with Q (value.a_path x ∷ rest) f good more = more x rest good.0 good.1
path-with Q parts f good more = tt

other-with : (Q : Found Value State → Type 0) (parts : List Value) (f : Option tree.Path × List Value → Meaning) → WithSuffix parts
    → ((x : Option tree.Path) (rest : List Value) → IsClosedOther x → WithSuffix rest → Holds Q (f (x, rest))) → Holds Q (other_path_part parts >>= f)
other-with Q (value.a_path x ∷ rest) f good more = more (Some x) rest good.0 good.1
other-with Q parts f good more = more None parts tt good

suffix-with : (Q : Found Value State → Type 0) (parts : List Value) (f : List ℕ × List Value → Meaning) → WithSuffix parts
    → ((x : List ℕ) (rest : List Value) → IsSpellableSuffix x → Holds Q (f (x, rest))) → Holds Q (suffix_part parts >>= f)
suffix-with Q (value.a_suffix x ∷ rest) f good more = more x rest good
suffix-with Q parts f good more = more [] parts tt

abbrev IsWhole : Value → Type 0
IsWhole (value.a_symbol x) = IsSpellableSymbol x
IsWhole _ = ⊥

made-whole : (at : At) (parts : List Value) → WithSuffix parts → Holds (λ f. IsWhole f.value) (meaning rules.Symbol at parts)
made-whole at parts good =
    path-with _ parts _ good (λ x r0 x-is g0. other-with _ r0 _ g0 (λ y r1 y-is g1. suffix-with _ r1 _ g1 (λ z r2 z-is. record { path = x-is; other = y-is; suffix = z-is })))

whole-symbol : (values : List Value) (v : Value) → values ≡ v ∷ [] → IsWhole v → Holds IsSpellableSymbol (symbol_of values)
whole-symbol values (value.a_symbol x) is good = rw is good
whole-symbol values _ is good = absurd good

-- a suffix that is read at the end of a symbol can be spelled, or is empty
suffix-read : (s : List ℕ) (place : ℕ) (tree : Shape) (state : State) (front : List ℕ) → place ≡ length front → s ≡ front ++ spell tree → IsTree v0_table (Kind 3) tree
    → Holds (λ f. MaybeSuffix f.value) (unfold_tree (v0 s) 0 place tree state)
suffix-read s place empty state front is-at is tree = tt
suffix-read s place (token t) state front is-at is tree = absurd tree
suffix-read s place (fixed c) state front is-at is tree = absurd tree
suffix-read s place (branch rule taken parts) state front is-at is (takes, are) = go (in_ranges (each (codes ".")) takes.byte) takes.found
  where
    go : (t : Bool) → (if t then Some (taking rules.Suffix (Kind 4 ∷ Kind 5 ∷ [])) else None) ≡ Some rule → Holds (λ f. MaybeSuffix f.value) (unfold_tree (v0 s) 0 place (branch rule taken parts) state)
    go false found-it = cc
    go true found-it =
        let there : drop place s ≡ spell (branch rule taken parts) = rw (is, is-at) (drop-append_seam front (taken ++ spell_all parts)) in
        let good : IsSpellableSuffix (drop place s) = subst IsSpellableSuffix (sym there) (suffix-spelled (branch rule taken parts) (takes, are)) in
        holds-then (λ f. Unit {0}) _ (unfold_forest (v0 s) (standing rule taken place 0 state) [] (place + length taken) parts state) _ (anything _)
        (λ inner g. subst (λ r. Holds (λ f. MaybeSuffix f.value) (meaning_of (production_of r.number) (at_rule s (standing rule taken place 0 state) inner.state) inner.value >>= alone)) (same_Some _ _ found-it) good)
      where
        anything : {A : Type 0} (m : Result A Refusal) → Holds (λ x. Unit {0}) m
        anything (Ok x) = tt
        anything (Err e) = tt

abbrev pub symbol_rule : Rule
symbol_rule = taking rules.Symbol (Byte 82 ∷ Kind 1 ∷ Kind 2 ∷ Kind 3 ∷ [])

-- if the one rule of symbols is read as a symbol, the symbol can be spelled
rule-read : (byte : ℕ) (a b d : Shape) → IsTree v0_table (Kind 1) a → IsTree v0_table (Kind 2) b → IsTree v0_table (Kind 3) d
    → Holds IsSpellableSymbol (unfolded (branch symbol_rule (byte ∷ []) (grown (fixed 82) (grown a (grown b (grown d shape.nothing))))))
rule-read byte a b d a-is b-is d-is =
    let s : List ℕ = byte ∷ 82 ∷ (spell a ++ (spell b ++ (spell d ++ []))) in
    let rule : Open State ℕ = standing symbol_rule (byte ∷ []) 0 0 at_first in
    let pa : ℕ = 2 + length (spell a) in
    let pb : ℕ = pa + length (spell b) in
    holds-then (λ f. (v : Value) × (f.value ≡ v ∷ []) × IsWhole v) _ (unfold_tree (v0 s) 0 0 (branch symbol_rule (byte ∷ []) (grown (fixed 82) (grown a (grown b (grown d shape.nothing))))) at_first) _
    (holds-then (λ f. WithSuffix f.value) _ (unfold_forest (v0 s) rule [] 1 (grown (fixed 82) (grown a (grown b (grown d shape.nothing)))) at_first) _
    (holds-then (λ f. AtMostOne rules.Symbol 0 f.value × HasGoodEndings f.state.ended) _ (unfold_tree (v0 s) 0 2 a (record { ended = []; inside = Some rules.Symbol; minus = false })) _
    (tree-good s rules.Symbol (Kind 1) 0 2 a (record { ended = []; inside = Some rules.Symbol; minus = false }) (byte ∷ 82 ∷ []) (spell b ++ (spell d ++ [])) refl refl refl refl refl a-is tt)
    (λ one g. holds-then (λ f. AtMostOne rules.Symbol 0 f.value × HasGoodEndings f.state.ended) _ (unfold_tree (v0 s) 0 pa b (record { ended = one.state.ended; inside = Some rules.Symbol; minus = is_minus one.value })) _
    (tree-good s rules.Symbol (Kind 2) 0 pa b (record { ended = one.state.ended; inside = Some rules.Symbol; minus = is_minus one.value }) (byte ∷ 82 ∷ spell a) (spell d ++ []) (omega arith) refl refl refl refl b-is g.1)
    (λ two h. holds-then (λ f. MaybeSuffix f.value) _ (unfold_tree (v0 s) 0 pb d (record { ended = two.state.ended; inside = Some rules.Symbol; minus = is_minus (one.value ++ two.value) })) _
    (suffix-read s pb d (record { ended = two.state.ended; inside = Some rules.Symbol; minus = is_minus (one.value ++ two.value) }) (byte ∷ 82 ∷ (spell a ++ spell b))
    (omega (arith, length-append (spell a) (spell b))) (ap (λ l. byte ∷ 82 ∷ l) (ap (λ l. spell a ++ (spell b ++ l)) (append-nil (spell d)) ∙ sym (append_assoc (spell a) (spell b) (spell d)))) d-is)
    (λ three k. with-append (one.value ++ two.value) three.value (all-append rules.Symbol 0 one.value two.value (all-append rules.Symbol 0 [] one.value tt g.0) h.0) k))))
    (λ inner g. holds-then (λ f. IsWhole f.value) _ (meaning rules.Symbol (at_rule s rule inner.state) inner.value) _ (made-whole (at_rule s rule inner.state) inner.value g) (λ f w. (f.value, refl, w))))
    (λ whole w. whole-symbol whole.value w.0 w.1 w.2)

four-parts : (parts : Forest) → AreTrees v0_table (Byte 82 ∷ Kind 1 ∷ Kind 2 ∷ Kind 3 ∷ []) parts
    → (a b d : Shape) × (parts ≡ grown (fixed 82) (grown a (grown b (grown d shape.nothing)))) × IsTree v0_table (Kind 1) a × IsTree v0_table (Kind 2) b × IsTree v0_table (Kind 3) d
four-parts (grown (fixed c) (grown a (grown b (grown d shape.nothing)))) (first, (second, (third, (fourth, none)))) =
    (a, b, d, ap (λ n. grown (fixed n) (grown a (grown b (grown d shape.nothing)))) (sym first), second, third, fourth)
four-parts shape.nothing are = absurd are
four-parts (grown (branch r t p) rest) are = absurd are.0
four-parts (grown empty rest) are = absurd are.0
four-parts (grown (token t) rest) are = absurd are.0
four-parts (grown (fixed c) shape.nothing) are = absurd are.1
four-parts (grown (fixed c) (grown a shape.nothing)) are = absurd are.1.1
four-parts (grown (fixed c) (grown a (grown b shape.nothing))) are = absurd are.1.1.1
four-parts (grown (fixed c) (grown a (grown b (grown d (grown e rest))))) are = absurd are.1.1.1.1

-- a whole symbol is its one rule over a path, perhaps another path, and a suffix or nothing
pub record IsWholeShape (tree : Shape) : Type 0 where
  pub byte : ℕ
  pub path : Shape
  pub other : Shape
  pub suffix : Shape
  pub is : tree ≡ branch symbol_rule (byte ∷ []) (grown (fixed 82) (grown path (grown other (grown suffix shape.nothing))))
  pub path_is : IsTree v0_table (Kind 1) path
  pub other_is : IsTree v0_table (Kind 2) other
  pub suffix_is : IsTree v0_table (Kind 3) suffix

whole-is : (rule : Rule) (taken : List ℕ) (parts : Forest) (byte : ℕ) (a b d : Shape) → rule ≡ symbol_rule → taken ≡ byte ∷ [] → parts ≡ grown (fixed 82) (grown a (grown b (grown d shape.nothing)))
    → branch rule taken parts ≡ branch symbol_rule (byte ∷ []) (grown (fixed 82) (grown a (grown b (grown d shape.nothing))))
whole-is rule taken parts byte a b d one two three = rw (one, two, three) refl

pub whole-shape : (tree : Shape) → IsTree v0_table (Kind 0) tree → IsWholeShape tree
whole-shape empty is = cc
whole-shape (token t) is = absurd is
whole-shape (fixed c) is = absurd is
whole-shape (branch rule taken parts) (takes, are) = go (in_ranges (each (codes "_")) takes.byte) takes.found
  where
    go : (t : Bool) → (if t then Some symbol_rule else None) ≡ Some rule → IsWholeShape (branch rule taken parts)
    go false is = cc
    go true is =
        let trees : AreTrees v0_table (Byte 82 ∷ Kind 1 ∷ Kind 2 ∷ Kind 3 ∷ []) parts = subst (λ r. AreTrees v0_table (symbols_of r) parts) (sym (same_Some _ _ is)) are in
        let eats : rule.eats ≡ true = ap (λ r. r.eats) (sym (same_Some _ _ is)) in
        let four = four-parts parts trees in
        record {
          byte = takes.byte;
          path = four.0;
          other = four.1;
          suffix = four.2;
          is = whole-is rule taken parts takes.byte four.0 four.1 four.2 (sym (same_Some _ _ is)) (taken-byte rule.eats taken takes.byte takes.takes eats) four.3;
          path_is = four.4;
          other_is = four.5;
          suffix_is = four.6;
        }

-- if a shape of the grammar is read as a symbol, the symbol can be spelled
pub read-spellable : (tree : Shape) → IsTree v0_table (Kind 0) tree → Holds IsSpellableSymbol (unfolded tree)
read-spellable tree is =
    let whole = whole-shape tree is in
    rw whole.is (rule-read whole.byte whole.path whole.other whole.suffix whole.path_is whole.other_is whole.suffix_is)
