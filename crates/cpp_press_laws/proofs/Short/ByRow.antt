-- What is paid for a production that does nothing before its parts. Its row says what its value is, so only one claim has to
-- be shown: the value needs no more than what its parts and the byte of the production pay.
use Rattle.cpp_press_laws.proofs.Basics.{◌≡◌, ℕ, ◌+◌, ◌*◌, ◌≤◌, length, List, [], ◌∷◌, ◌++◌, Bool, true, false, cond, Option, Some, None, Ok, refl, ap, sym, subst, ◌∙◌, arith, suc, zero, not, ◌&&◌, ◌||◌, nat_eq, slice_get, eqb-true, and_parts, false≢true, Sym, Found, found, Kind, Production, kinds, number_of_kind, number_of, parts_of, is_chain, Term, State, Prefix, Around, Value, tree, row_of, all_pass, step_passes, made, meant, done, around_part, gained, packs_within, replaced, state_after, between, next, after, meaning, close, same_production}
use Rattle.sym_shape.specs.declared.rule.Sym.TheVariants.{Kind as OfKind, Name, Number, Byte}
use Rattle.cpp_grammar.specs.Row.{Made, Form, Action, quiet, goes, becomes, as_before, nothing, Row, before_part}
use Rattle.cpp_grammar.specs.Unfolding as unfolding_
use Rattle.cpp_press_laws.proofs.ByKind.Rules.{OnGoing}
use Rattle.cpp_press_laws.proofs.Short.Gains.{wealth, AllSmall, Class, class_of, need, loan, returned, grant, SmallPrefix, lent, ready_for, Ready, IsKnown, Gains, Gained, type, bare, whole, items, rest, after_mark, operands, unread}
use Rattle.cpp_press_laws.proofs.Short.Paid.{NamePaid, NumberPaid, SymGains, PaidPart, Paid, Ended, comes-to}

-- ## Kinds by number

unfoldable pub are_numbered : List Kind → ℕ → Bool
are_numbered [] n = true
are_numbered (k ∷ ks) n = nat_eq (number_of_kind k) n && are_numbered ks (n + 1)

number-at : (ks : List Kind) (n k : ℕ) (kind : Kind) → are_numbered ks n ≡ true → slice_get ks k ≡ Some kind → number_of_kind kind ≡ n + k
unfolding are_numbered
number-at [] n k kind all at = cc
number-at (j ∷ ks) n zero kind all at =
    let same : j ≡ kind = cc in
    sym (ap number_of_kind same) ∙ omega (arith, eqb-true (number_of_kind j) n (and_parts (nat_eq (number_of_kind j) n) (are_numbered ks (n + 1)) all).0)
number-at (j ∷ ks) n (suc k) kind all at =
    omega (arith, number-at ks (n + 1) k kind (and_parts (nat_eq (number_of_kind j) n) (are_numbered ks (n + 1)) all).1 at)

kind-number : (k : ℕ) (kind : Kind) → slice_get kinds k ≡ Some kind → number_of_kind kind ≡ k
unfolding are_numbered kinds number_of_kind
kind-number k kind at = omega (arith, number-at kinds 0 k kind refl at)

-- ## Parts

unfoldable pub is_read : Class → Bool
is_read unread = false
is_read _ = true

-- Whether values of a class may be read anywhere, or only where no name comes before. Values of the class for the rest of a name
-- may be read in neither case.
unfoldable pub may_read : (anywhere : Bool) → Class → Bool
may_read anywhere unread = false
may_read anywhere type = not anywhere
may_read anywhere bare = not anywhere
may_read anywhere whole = not anywhere
may_read anywhere items = not anywhere
may_read anywhere rest = not anywhere
may_read anywhere after_mark = not anywhere
may_read anywhere operands = not anywhere
may_read anywhere _ = true

unfoldable pub may_be_part : (anywhere : Bool) → Kind → Bool
may_be_part anywhere Kind.NestTail = false
may_be_part anywhere Kind.NestRest = false
may_be_part anywhere Kind.NestRestAlone = false
may_be_part anywhere Kind.NestRestOrEnd = false
may_be_part anywhere Kind.NestMoreOrEnd = false
may_be_part anywhere Kind.Abbreviation = true
may_be_part anywhere Kind.Encoding = true
may_be_part anywhere kind = may_read anywhere (class_of kind)

abbrev pub Standing : (anywhere : Bool) → Prefix → Type 0
Standing true prefix = Unit {0}
Standing false prefix = lent prefix ≡ 0

class-ready : (anywhere : Bool) (c : Class) (prefix : Prefix) → may_read anywhere c ≡ true → Standing anywhere prefix
    → (is_read c ≡ true) × ready_for c prefix
unfolding ready_for may_read is_read
class-ready true unread prefix is h = absurd (false≢true is)
class-ready true type prefix is h = absurd (false≢true is)
class-ready true bare prefix is h = absurd (false≢true is)
class-ready true whole prefix is h = absurd (false≢true is)
class-ready true items prefix is h = absurd (false≢true is)
class-ready true rest prefix is h = absurd (false≢true is)
class-ready true after_mark prefix is h = absurd (false≢true is)
class-ready true operands prefix is h = absurd (false≢true is)
class-ready true _ prefix is h = (refl, tt)
class-ready false unread prefix is h = absurd (false≢true is)
class-ready false type prefix is h = (refl, h)
class-ready false bare prefix is h = (refl, h)
class-ready false whole prefix is h = (refl, h)
class-ready false items prefix is h = (refl, h)
class-ready false rest prefix is h = (refl, h)
class-ready false after_mark prefix is h = (refl, h)
class-ready false operands prefix is h = (refl, h)
class-ready false _ prefix is h = (refl, tt)

part-ready : (anywhere : Bool) (kind : Kind) (prefix : Prefix) → may_be_part anywhere kind ≡ true → Standing anywhere prefix
    → (is_read (class_of kind) ≡ true) × Ready kind prefix
unfolding may_be_part Ready class_of is_read
part-ready anywhere Kind.NestTail prefix is h = absurd (false≢true is)
part-ready anywhere Kind.NestRest prefix is h = absurd (false≢true is)
part-ready anywhere Kind.NestRestAlone prefix is h = absurd (false≢true is)
part-ready anywhere Kind.NestRestOrEnd prefix is h = absurd (false≢true is)
part-ready anywhere Kind.NestMoreOrEnd prefix is h = absurd (false≢true is)
part-ready anywhere Kind.Abbreviation prefix is h = (refl, tt)
part-ready anywhere Kind.Encoding prefix is h = (refl, tt)
part-ready anywhere kind prefix is h = class-ready anywhere (class_of kind) prefix is h

read-gains : (c : Class) (granted : ℕ) (around : Around) (v : Value) (old new : State) (bytes : ℕ) → is_read c ≡ true
    → Gained c granted around v old new bytes → Gains c granted around v old new bytes
unfolding is_read Gained
read-gains unread granted around v old new bytes is g = absurd (false≢true is)
read-gains _ granted around v old new bytes is g = g

-- a part passes a test of its kind; a part without a kind always passes
unfoldable pub part_passes : (Kind → Bool) → Sym → Bool
part_passes test (OfKind k) = elim (slice_get kinds k) [ None ↦ false | Some kind ↦ test kind ]
part_passes test _ = true

unfoldable pub parts_pass : (Kind → Bool) → List Sym → Bool
parts_pass test [] = true
parts_pass test (x ∷ xs) = part_passes test x && parts_pass test xs

-- a part may be read after this prefix
abbrev ReadyPart : Sym → Prefix → Type 0
ReadyPart (OfKind k) prefix =
    elim (slice_get kinds k) as (λ _. Type 0) [ None ↦ ⊥ | Some kind ↦ (is_read (class_of kind) ≡ true) × Ready kind prefix ]
ReadyPart _ prefix = Unit {0}

abbrev AllReady : List Sym → Prefix → Type 0
AllReady [] prefix = Unit {0}
AllReady (x ∷ xs) prefix = ReadyPart x prefix × AllReady xs prefix

ready-by : (test : Kind → Bool) (prefix : Prefix) → ((kind : Kind) → test kind ≡ true → (is_read (class_of kind) ≡ true) × Ready kind prefix)
    → (xs : List Sym) → parts_pass test xs ≡ true → AllReady xs prefix
unfolding parts_pass part_passes
ready-by test prefix each [] is = tt
ready-by test prefix each (x ∷ xs) is =
    let two = and_parts (part_passes test x) (parts_pass test xs) is in (one x two.0, ready-by test prefix each xs two.1)
  where
    one : (x : Sym) → part_passes test x ≡ true → ReadyPart x prefix
    one Name h = tt
    one (Number kind) h = tt
    one (Byte c) h = tt
    one (OfKind k) h = go (slice_get kinds k) h
      where
        go : (o : Option Kind) → elim o as (λ _. Bool) [ None ↦ false | Some kind ↦ test kind ] ≡ true
            → elim o as (λ _. Type 0) [ None ↦ ⊥ | Some kind ↦ (is_read (class_of kind) ≡ true) × Ready kind prefix ]
        go None h = absurd (false≢true h)
        go (Some kind) h = each kind h

-- what the value of a part needs, and how much of its loan the part gives back
unfoldable pub cost_of : Sym → Around → Value → State → (bytes : ℕ) → ℕ
cost_of (OfKind k) around v s bytes =
    elim (slice_get kinds k) [ None ↦ 0 | Some kind ↦ need (class_of kind) around v s + returned (class_of kind) around v ]
cost_of x around v s bytes = 8 * bytes

unfoldable pub credit_of : Sym → Around → ℕ
credit_of (OfKind k) around = elim (slice_get kinds k) [ None ↦ 0 | Some kind ↦ loan (class_of kind) around + grant kind ]
credit_of x around = 0

-- what is known of the value of a part
unfoldable pub Knows : Sym → Around → Value → State → (bytes : ℕ) → Type 0
Knows (OfKind k) around v s bytes = elim (slice_get kinds k) as (λ _. Type 0) [ None ↦ Unit {0} | Some kind ↦ IsKnown (class_of kind) around v s ]
Knows Name around v s bytes = NamePaid bytes v
Knows (Number kind) around v s bytes = NumberPaid kind bytes v
Knows (Byte c) around v s bytes = bytes ≡ 1

-- a part is paid for
pub record Known (x : Sym) (around : Around) (v : Value) (old new : State) (bytes : ℕ) : Type 0 where
  pub few : wealth new + cost_of x around v new bytes ≤ wealth old + credit_of x around + 8 * bytes
  pub known : Knows x around v new bytes
  pub small : AllSmall new.candidates

token-known : (x : Sym) (around : Around) (v : Value) (old new : State) (bytes : ℕ) → new ≡ old → AllSmall old.candidates → Knows x around v new bytes
    → cost_of x around v new bytes ≡ 8 * bytes → Known x around v old new bytes
token-known x around v old new bytes same all known cost = record {
  few = omega (arith, ap (λ s. wealth s) same, cost);
  known = known;
  small = subst (λ s. AllSmall s.candidates) (sym same) all;
}

part-known : (x : Sym) (around : Around) (v : Value) (old new : State) (bytes : ℕ) → ReadyPart x around.prefix
    → SmallPrefix around.prefix → AllSmall old.candidates → SymGains x around v old new bytes → Known x around v old new bytes
unfolding cost_of credit_of Knows
part-known Name around v old new bytes is small all g = token-known Name around v old new bytes g.0 all g.1 refl
part-known (Number kind) around v old new bytes is small all g = token-known (Number kind) around v old new bytes g.0 all g.1 refl
part-known (Byte c) around v old new bytes is small all g = token-known (Byte c) around v old new bytes g.0 all g.1 refl
part-known (OfKind k) around v old new bytes is small all g = go (slice_get kinds k) refl is
  where
    go : (o : Option Kind) → slice_get kinds k ≡ o
        → elim o as (λ _. Type 0) [ None ↦ ⊥ | Some kind ↦ (is_read (class_of kind) ≡ true) × Ready kind around.prefix ]
        → Known (OfKind k) around v old new bytes
    go None at is = absurd is
    go (Some kind) at is =
        let one = read-gains (class_of kind) (grant kind) around v old new bytes is.0
        (g kind (kind-number k kind at) is.1 small all) in
        record {
          few = omega (
            arith,
            one.few,
            ap (λ o. elim o as (λ _. ℕ) [ None ↦ 0 | Some kind ↦ need (class_of kind) around v new + returned (class_of kind) around v ]) at,
            ap (λ o. elim o as (λ _. ℕ) [ None ↦ 0 | Some kind ↦ loan (class_of kind) around + grant kind ]) at,
          );
          known = subst (λ o. elim o as (λ _. Type 0) [ None ↦ Unit {0} | Some kind ↦ IsKnown (class_of kind) around v new ]) (sym at) one.known;
          small = one.small;
        }

-- The claim about the parts that follow. The parts before them need `cost` and were lent `credit`.
abbrev pub Claim : Around → (P : List Value → State → (cost credit : ℕ) → Type 0) → List Sym → List Value → State → (cost credit : ℕ) → Type 0
Claim around P [] vs s cost credit = P vs s cost credit
Claim around P (x ∷ xs) vs s cost credit =
    (v : Value) (after : State) (bytes : ℕ) → Knows x around v after bytes
    → Claim around P xs (vs ++ v ∷ []) after (cost_of x around v after bytes + cost) (credit_of x around + credit)

-- ## Productions

-- an action does nothing, so the next part has the surroundings of the production
unfoldable pub is_idle : Action → Bool
is_idle quiet = true
is_idle (goes nothing as_before) = true
is_idle _ = false

unfoldable pub all_quiet : Row → Bool
all_quiet row = all_pass is_idle row.before row.onward

idle-step : (b : Action) (around : Around) (place : ℕ) (vs : List Value) (s : State) → is_idle b ≡ true → done b around place vs s ≡ next vs around s
unfolding is_idle done around_part packs_within gained
idle-step quiet around place vs s is = refl
idle-step (goes nothing as_before) around place vs s is = refl
idle-step _ around place vs s is = absurd (false≢true is)

quiet-between : (p : Production) (around : Around) (place : ℕ) (vs : List Value) (s : State) → all_quiet (row_of p) ≡ true
    → between p around place vs s ≡ next vs around s
unfolding between all_quiet
quiet-between p around place vs s still = idle-step (before_part (row_of p) (length vs)) around place vs s (step_passes is_idle (row_of p) still (length vs))

-- the productions that may be refused after their parts: a reference may be, and an inherited constructor always is
unfoldable pub refers : Production → Bool
refers Production.Substitution = true
refers Production.Inheriting = true
refers _ = false

closes-as : (p : Production) → refers p ≡ false → (byte : ℕ) (around : Around) (at : ℕ) (began : State) (vs : List Value) (s : State)
    → close p byte around at began vs s ≡ Ok (found (meaning p byte around vs) (unfolding_.behind p byte around began vs s))
unfolding refers close
closes-as Production.Substitution is byte around at began vs s = absurd (false≢true (sym is))
closes-as Production.Inheriting is byte around at began vs s = absurd (false≢true (sym is))
closes-as _ is byte around at began vs s = refl

record End (P : List Value → State → (cost credit : ℕ) → Type 0) (inner : Found (List Value) State) (limit : ℕ) : Type 0 where
  values : List Value
  state : State
  cost : ℕ
  credit : ℕ
  same : found values state ≡ inner
  small : AllSmall state.candidates
  few : wealth state + cost ≤ limit + credit
  holds : P values state cost credit

each-part : (p : Production) (around : Around) (place : ℕ) (inner : Found (List Value) State) (P : List Value → State → (cost credit : ℕ) → Type 0)
    (limit : ℕ) → all_quiet (row_of p) ≡ true → SmallPrefix around.prefix → (xs : List Sym) → AllReady xs around.prefix
    → (bytes : ℕ) (vs : List Value) (s : State) (cost credit : ℕ) → Paid p around place inner xs bytes vs s → AllSmall s.candidates
    → wealth s + cost + 8 * bytes ≤ limit + credit → Claim around P xs vs s cost credit → End P inner limit
each-part p around place inner P limit still small [] is bytes vs s cost credit paid all few claim = record {
  values = vs;
  state = s;
  cost = cost;
  credit = credit;
  same = paid.0;
  small = all;
  few = omega (arith, few, paid.1);
  holds = claim;
}
each-part p around place inner P limit still small (x ∷ xs) is bytes vs s cost credit paid all few claim =
    let one : PaidPart x bytes (record { values = vs; context = around; state = s }) (Paid p around place inner xs) =
    subst (λ g. OnGoing g (λ n. PaidPart x bytes n (Paid p around place inner xs)))
    (quiet-between p around place vs s still) paid in
    let known = part-known x around one.value s one.after one.own is.0 small all one.gains in
    each-part p around place inner P limit still small xs is.1 one.others (vs ++ one.value ∷ []) one.after
    (cost_of x around one.value one.after one.own + cost) (credit_of x around + credit) one.onward known.small
    (omega (arith, few, known.few, one.sum)) (claim one.value one.after one.own known.known)

-- The claim about a production: what pays for its parts, together with its own byte, pays for its value.
abbrev pub Pays : (ready : Prefix → Type 0) → Production → Class → (granted : ℕ) → Type 0
Pays ready p c granted =
    (byte : ℕ) (around : Around) (old : State) → ready around.prefix → SmallPrefix around.prefix
    → Claim around (λ vs s cost credit. AllSmall s.candidates → (b : ℕ) → wealth s + cost + 8 * cond (is_chain p) 0 1 ≤ wealth old + 8 * b + credit
    → Gains c granted around (meaning p byte around vs) old (unfolding_.behind p byte around old vs s) b) (parts_of p) [] old 0 0

-- nothing is done before the parts of a production, nothing is refused, and its parts are of kinds that pass a test
unfoldable pub row_goes : (Kind → Bool) → Production → Bool
row_goes test p = all_quiet (row_of p) && (not (refers p) && parts_pass test (parts_of p))

paid-for : (ready : Prefix → Type 0) (p : Production) (c : Class) (granted : ℕ) → all_quiet (row_of p) ≡ true → not (refers p) ≡ true
    → Pays ready p c granted → (around : Around) (at : ℕ) (old : State) (v : Value) (new : State) (b : ℕ) → AllReady (parts_of p) around.prefix → ready around.prefix
    → SmallPrefix around.prefix → AllSmall old.candidates → Ended p around at old v new b → Gains c granted around v old new b
paid-for ready p c granted still closed pays around at old v new b each here small all o =
    let e = each-part p around at o.inner _ (wealth old + 8 * o.others) still small (parts_of p) each o.others [] old 0 0 o.paid all
    (omega arith) (pays o.byte around old here small) in
    comes-to (λ w s. Gains c granted around w old s b) o e.values e.state (meaning p o.byte around e.values)
    (unfolding_.behind p o.byte around old e.values e.state) e.same (closes-as p (shut (refers p) closed) o.byte around at old e.values e.state)
    (e.holds e.small b (omega (arith, e.few, o.sum)))
  where
    shut : (z : Bool) → not z ≡ true → z ≡ false
    shut true h = absurd (false≢true h)
    shut false h = refl

-- a production that passes `row_goes` pays for its value: anywhere, or only where no name comes before it
pub by-row : (anywhere : Bool) (p : Production) (c : Class) (granted : ℕ) → row_goes (may_be_part anywhere) p ≡ true
    → Pays (Standing anywhere) p c granted
    → (around : Around) (at : ℕ) (old : State) (v : Value) (new : State) (b : ℕ) → Standing anywhere around.prefix → SmallPrefix around.prefix
    → AllSmall old.candidates → Ended p around at old v new b → Gains c granted around v old new b
unfolding row_goes
by-row anywhere p c granted good pays around at old v new b here =
    let one = and_parts (all_quiet (row_of p)) (not (refers p) && parts_pass (may_be_part anywhere) (parts_of p)) good in
    let two = and_parts (not (refers p)) (parts_pass (may_be_part anywhere) (parts_of p)) one.1 in
    paid-for (Standing anywhere) p c granted one.0 two.0 pays around at old v new b
    (ready-by (may_be_part anywhere) around.prefix (λ kind one. part-ready anywhere kind around.prefix one here) (parts_of p) two.1) here

-- a production is in the list
unfoldable pub is_listed_in : List Production → Production → Bool
is_listed_in [] p = false
is_listed_in (q ∷ qs) p = nat_eq (number_of p) (number_of q) || is_listed_in qs p

unfoldable pub each_goes : (Kind → Bool) → List Production → Bool
each_goes test [] = true
each_goes test (p ∷ ps) = row_goes test p && each_goes test ps

pub one-goes : (test : Kind → Bool) (ps : List Production) (p : Production) → each_goes test ps ≡ true → is_listed_in ps p ≡ true
    → row_goes test p ≡ true
unfolding is_listed_in each_goes
one-goes test [] p each is = absurd (false≢true is)
one-goes test (q ∷ qs) p each is =
    let two = and_parts (row_goes test q) (each_goes test qs) each in go (nat_eq (number_of p) (number_of q)) refl is two.0 (one-goes test qs p two.1)
  where
    go : (z : Bool) → nat_eq (number_of p) (number_of q) ≡ z → z || is_listed_in qs p ≡ true → row_goes test q ≡ true
        → (is_listed_in qs p ≡ true → row_goes test p ≡ true) → row_goes test p ≡ true
    go true same is one more = subst (λ r. row_goes test r ≡ true) (sym (same_production p q same)) one
    go false same is one more = more is

-- ## Productions whose first part becomes the name so far

abbrev pub naming : Made → Form → Row
naming m form = record { before = quiet ∷ becomes m false true false ∷ []; onward = quiet; form = form; gain = nothing; restores_packs = false; tests_number = false }

pub closes-naming : (p : Production) (m : Made) (form : Form) → row_of p ≡ naming m form → refers p ≡ false → (byte : ℕ) (around : Around) (at : ℕ)
    (began : State) (vs : List Value) (s : State) → close p byte around at began vs s ≡ Ok (found (meant form byte around vs) s)
unfolding meaning unfolding_.behind state_after gained
closes-naming p m form row closed byte around at began vs s =
    closes-as p closed byte around at began vs s
    ∙ ap (λ r. Ok (found (meant r.form byte around vs) (state_after r around began (meant r.form byte around vs) vs s))) row

-- a production whose first part becomes the name so far: its first part, and its second part, which is read after this
-- name
pub record Named (p : Production) (m : Made) (x y : Sym) (around : Around) (place : ℕ) (inner : Found (List Value) State) (old : State) (bytes : ℕ)
    : Type 0 where
  pub value : Value
  pub after_it : State
  pub own : ℕ
  pub others : ℕ
  pub sum : bytes ≡ own + others
  pub first : Known x around value old after_it own
  pub second : PaidPart y others
      (record { values = tree (made 0 around (value ∷ []) m) false ∷ []; context = after (made 0 around (value ∷ []) m) false around; state = after_it })
      (Paid p around place inner [])

pub named-first : (p : Production) (m : Made) (form : Form) (x y : Sym) → row_of p ≡ naming m form → parts_of p ≡ x ∷ y ∷ []
    → part_passes (may_be_part true) x ≡ true → (around : Around) (place : ℕ) (inner : Found (List Value) State) (old : State) (bytes : ℕ)
    → SmallPrefix around.prefix → AllSmall old.candidates → Paid p around place inner (parts_of p) bytes [] old → Named p m x y around place inner old bytes
unfolding between done before_part packs_within replaced part_passes parts_pass
named-first p m form x y row parts is around place inner old bytes small all paid =
    let whole : Paid p around place inner (x ∷ y ∷ []) bytes [] old = subst (λ xs. Paid p around place inner xs bytes [] old) parts paid in
    let still : between p around place [] old ≡ next [] around old = ap (λ r. done (before_part r 0) around place [] old) row in
    let one : PaidPart x bytes (record { values = []; context = around; state = old }) (Paid p around place inner (y ∷ [])) =
    subst (λ g. OnGoing g (λ n. PaidPart x bytes n (Paid p around place inner (y ∷ [])))) still whole in
    let t : Term = made 0 around (one.value ∷ []) m in
    let becomes_ : between p around place (one.value ∷ []) one.after ≡ next (tree t false ∷ []) (after t false around) one.after =
    ap (λ r. done (before_part r 1) around place (one.value ∷ []) one.after) row in
    record {
      value = one.value;
      after_it = one.after;
      own = one.own;
      others = one.others;
      sum = one.sum;
      first = part-known x around one.value old one.after one.own (ready x is) small all one.gains;
      second = subst (λ g. OnGoing g (λ n. PaidPart y one.others n (Paid p around place inner []))) becomes_ one.onward;
    }
  where
    ready : (x : Sym) → part_passes (may_be_part true) x ≡ true → ReadyPart x around.prefix
    ready x h = (ready-by (may_be_part true) around.prefix (λ kind one. part-ready true kind around.prefix one tt) (x ∷ [])
        (alone (part_passes (may_be_part true) x) h)).0
      where
        alone : (z : Bool) → z ≡ true → z && true ≡ true
        alone true h = refl
        alone false h = h
