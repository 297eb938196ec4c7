-- The moves of a reader that goes from left to right: a rule opens, its next part is expected, and the rule closes.
use Rattle.cpp_direct.proofs.Basics.{cpp_by, close_by, ◌≡◌, ℕ, ◌+◌, ◌<◌, List, [], ◌∷◌, ◌++◌, length, slice_get, true, not, Some, Result, Ok, Err, refl, ap, subst, ◌∙◌, Bool, false, ◌&&◌, Option, sym, arith, if◌then◌else◌, after, alone, alternatives, among, AreTrees, between, byte_of, choose, Continuation, extended, Forest, Found, found, grown, in_ranges, is_chain, is_in, IsTree, Kind, kinds, may_be_empty, named_so_far, Next, nothing, number_of, number_of_kind, NumberKind, opening, parts_of, pick, Production, Refusal, rule_of, spell_all, standing, Sym, symbols_of, TakesRule, Term, Tree, unfold_forest, unfold_tree, wide_alternatives, wide_choose, ◌>>=◌, State, Around, Value, nothing_there, tree, outermost, Symbol, table_by, cpp_language, Awaits, Opened, opened, ReadsRest, StandsAt, Comes, Needs, ExpectsSym, Expects, IsNameAt, IsNumberAt, false≢true, and_parts, not-true, Token, bytes_of, IsNumberToken}
use Rattle.cpp_grammar.specs.Values.{text}
use Rattle.cpp_grammar.proofs.ClosedTrees.{at_number, its_symbols}
use Rattle.cpp_short_reading.proofs.Tables.{takes-by, empty-by, names-by, arguments-by, tails-by, item-by, first-by}
use Rattle.cpp_direct.proofs.LettersTested.{is_small, small, takes, taken}
use Rattle.sym_shape.specs.declared.rule.Sym.TheVariants.{Kind as OfKind, Name, Number, Byte}
use Rattle.cpp_short_reading.proofs.Tables as tables
use Rattle.sym_direct.specs.Holes as direct
use Rattle.sym_direct.proofs.Moves as moves
pub use Rattle.sym_direct.proofs.Moves.{stands-join, stands-none, stands-split}

-- ## Kinds

-- each kind is at its number
pub kind-at : (kind : Kind) → slice_get kinds (number_of_kind kind) ≡ Some kind
unfolding kinds number_of_kind
kind-at Kind.Symbol = refl
kind-at _ = refl

-- a kind takes a production at its byte
pub takes-it : (s : Symbol) (kind : Kind) (p : Production) (byte : ℕ) (taken : List ℕ) → choose kind byte ≡ Some p → byte < 256
    → taken ≡ (if not (is_chain p) then byte ∷ [] else []) → TakesRule (table_by s.is_wide) (number_of_kind kind) (rule_of p) taken
takes-it s kind p byte taken chosen small takes = takes-by s.is_wide kind (number_of_kind kind) byte p taken (kind-at kind) chosen small takes

-- a kind takes a production that only the wide grammar has
pub takes-wide : (s : Symbol) (kind : Kind) (p : Production) (byte : ℕ) (taken : List ℕ) → s.is_wide ≡ true → wide_choose kind byte ≡ Some p → byte < 256
    → taken ≡ (if not (is_chain p) then byte ∷ [] else []) → TakesRule (table_by s.is_wide) (number_of_kind kind) (rule_of p) taken
takes-wide s kind p byte taken wide chosen small takes = tables.takes-wide s.is_wide kind (number_of_kind kind) byte p taken wide (kind-at kind) chosen small takes

-- ## Bytes at a place

-- bytes at a place are at an equal place
pub stands-moved : (s : List ℕ) (at to : ℕ) (bytes : List ℕ) → at ≡ to → StandsAt s at bytes → StandsAt s to bytes
stands-moved s at to bytes same = subst (λ k. StandsAt s k bytes) same

pub comes-moved : (s : Symbol) (os : List Opened) (v : Value) (at to : ℕ) (st : State) → at ≡ to → Comes s os v at st → Comes s os v to st
comes-moved s os v at to st same = subst (λ k. Comes s os v k st) same

-- ## Rules

begins-so : (s : Symbol) (p : Production) (taken : List ℕ) (around : Around) (at : ℕ) (st : State) → ((f : Forest) → opening p f at st ≡ Ok st) → (f : Forest)
    → (cpp_by s.is_wide).begin (standing (rule_of p) taken at around st) f ≡ Ok st
unfolding cpp_by
begins-so s p taken around at st begins f = ap (λ q. opening q f at st) (at_number p) ∙ begins f

-- a kind takes a production: the production's rule is open
pub opens-by : (s : Symbol) (kind : Kind) (p : Production) (taken : List ℕ) (around : Around) (os : List Opened) (at : ℕ) (st : State)
    → TakesRule (table_by s.is_wide) (number_of_kind kind) (rule_of p) taken → ((f : Forest) → opening p f at st ≡ Ok st)
    → Expects s kind around os at st → StandsAt s.bytes at taken → Needs s os (standing (rule_of p) taken at around st) [] (parts_of p) (at + length taken) st
opens-by s kind p taken around os at st takes begins expects stands =
    subst (λ l. Needs s os (standing (rule_of p) taken at around st) [] l (at + length taken) st) (its_symbols p)
    (moves.opens (cpp_language s) s.bytes (number_of_kind kind) (rule_of p) taken around os at st st takes (begins-so s p taken around at st begins) expects stands)

-- likewise where the opening of the production succeeds, whatever parts are in the symbol
pub opens-where : (s : Symbol) (kind : Kind) (p : Production) (byte : ℕ) (taken : List ℕ) (around : Around) (os : List Opened) (at : ℕ) (st : State)
    → choose kind byte ≡ Some p → byte < 256 → taken ≡ (if not (is_chain p) then byte ∷ [] else [])
    → ((f : Forest) → AreTrees (table_by s.is_wide) (parts_of p) f → StandsAt s.bytes (at + length taken) (spell_all f) → opening p f at st ≡ Ok st)
    → Expects s kind around os at st → StandsAt s.bytes at taken → Needs s os (standing (rule_of p) taken at around st) [] (parts_of p) (at + length taken) st
unfolding cpp_by
opens-where s kind p byte taken around os at st chosen small takes begins expects stands =
    subst (λ l. Needs s os (standing (rule_of p) taken at around st) [] l (at + length taken) st) (its_symbols p)
    (moves.opens-where (cpp_language s) s.bytes (number_of_kind kind) (rule_of p) taken around os at st st (takes-it s kind p byte taken chosen small takes)
    (λ f shaped there. ap (λ q. opening q f at st) (at_number p) ∙ begins f (subst (λ l. AreTrees (table_by s.is_wide) l f) (its_symbols p) shaped) there) expects stands)

-- a kind takes a production at its byte, and the production's parts are read
unfoldable pub reads-rule : (s : Symbol) (kind : Kind) (p : Production) (byte : ℕ) (taken : List ℕ) (around : Around) (at : ℕ) (st inner after : State)
    (bytes : List ℕ) (vs : List Value) (w : Value)
    → choose kind byte ≡ Some p → byte < 256 → taken ≡ (if not (is_chain p) then byte ∷ [] else [])
    → (rest : ReadsRest s (standing (rule_of p) taken at around st) [] (symbols_of (rule_of p)) (at + length taken) bytes st vs inner)
    → opening p rest.forest at st ≡ Ok st → close_by p s.is_wide (byte_of taken) around at st vs inner ≡ Ok (found w after)
    → direct.Reads (cpp_language s) s.bytes (OfKind (number_of_kind kind)) around at (taken ++ bytes) st (w ∷ []) after
unfolding cpp_by
reads-rule s kind p byte taken around at st inner after bytes vs w chosen small takes rest begins closes =
    moves.reads-rule (cpp_language s) s.bytes (number_of_kind kind) (rule_of p) taken around at st st inner after bytes vs w
    (takes-it s kind p byte taken chosen small takes) rest (ap (λ q. opening q rest.forest at st) (at_number p) ∙ begins)
    (ap (λ q. close_by q s.is_wide (byte_of taken) around at st vs inner) (at_number p) ∙ closes)

pub goes-so : (s : Symbol) (p : Production) (taken : List ℕ) (at0 : ℕ) (around : Around) (before : State) (known : List Value) (st : State) (next : Next Value State Around)
    → ◌≡◌ {A = Continuation} (between p around at0 known st) (Ok next) → (cpp_by s.is_wide).between (standing (rule_of p) taken at0 around before) known st ≡ Ok next
unfolding cpp_by
goes-so s p taken at0 around before known st next goes = ap (λ q. between q around at0 known st) (at_number p) ∙ goes

-- a part of a production is read, and then the parts after it
unfoldable pub joins : (s : Symbol) (p : Production) (taken : List ℕ) (at0 : ℕ) (around : Around) (before : State) (known : List Value) (x : Sym)
    (todo : List Sym) (at : ℕ) (st : State) (context : Around) (values : List Value) (state after inner : State) (v : List Value)
    (first more : List ℕ) (vs : List Value)
    → ◌≡◌ {A = Continuation} (between p around at0 known st) (Ok (record { context = context; values = values; state = state }))
    → direct.Reads (cpp_language s) s.bytes x context at first state v after
    → ReadsRest s (standing (rule_of p) taken at0 around before) (values ++ v) todo (at + length first) more after vs inner
    → ReadsRest s (standing (rule_of p) taken at0 around before) known (x ∷ todo) at (first ++ more) st vs inner
joins s p taken at0 around before known x todo at st context values state after inner v first more vs goes one rest =
    moves.joins (cpp_language s) s.bytes (standing (rule_of p) taken at0 around before) known x todo at st
    (record { context = context; values = values; state = state }) after inner v first more vs
    (goes-so s p taken at0 around before known st (record { context = context; values = values; state = state }) goes) one rest

-- no part of the rule remains to be read
unfoldable pub none-left : (s : Symbol) (p : Production) (taken : List ℕ) (at0 : ℕ) (around : Around) (before : State) (known : List Value) (at : ℕ) (st : State)
    → ReadsRest s (standing (rule_of p) taken at0 around before) known [] at [] st known st
none-left s p taken at0 around before known at st = moves.none-left (cpp_language s) s.bytes (standing (rule_of p) taken at0 around before) known at st

-- the next part of a rule is expected
pub needs-next : (s : Symbol) (p : Production) (taken : List ℕ) (at0 : ℕ) (around : Around) (before : State) (known : List Value) (x : Sym)
    (todo : List Sym) (os : List Opened) (at : ℕ) (st : State) (context : Around) (values : List Value) (state : State)
    → ◌≡◌ {A = Continuation} (between p around at0 known st) (Ok (record { context = context; values = values; state = state }))
    → Needs s os (standing (rule_of p) taken at0 around before) known (x ∷ todo) at st
    → ExpectsSym s x context (opened (standing (rule_of p) taken at0 around before) values todo ∷ os) at state
needs-next s p taken at0 around before known x todo os at st context values state goes needs =
    moves.needs-next (cpp_language s) s.bytes (standing (rule_of p) taken at0 around before) known x todo os at st
    (record { context = context; values = values; state = state })
    (goes-so s p taken at0 around before known st (record { context = context; values = values; state = state }) goes) needs

closed-so : (s : Symbol) (p : Production) (taken : List ℕ) (at0 : ℕ) (around : Around) (before : State) (known : List Value) (st : State) (w : Value)
    (after : State)
    → close_by p s.is_wide (byte_of taken) around at0 before known st ≡ Ok (found w after)
    → (cpp_by s.is_wide).close (standing (rule_of p) taken at0 around before) known st ≡ Ok (found w after)
unfolding cpp_by
closed-so s p taken at0 around before known st w after e = ap (λ q. close_by q s.is_wide (byte_of taken) around at0 before known st) (at_number p) ∙ e

-- a rule whose parts are all known closes
pub ends : (s : Symbol) (p : Production) (taken : List ℕ) (at0 : ℕ) (around : Around) (before : State) (known : List Value) (os : List Opened)
    (at : ℕ) (st : State) (w : Value) (after : State)
    → Needs s os (standing (rule_of p) taken at0 around before) known [] at st
    → close_by p s.is_wide (byte_of taken) around at0 before known st ≡ Ok (found w after) → Comes s os w at after
ends s p taken at0 around before known os at st w after needs closes =
    moves.ends (cpp_language s) s.bytes (standing (rule_of p) taken at0 around before) known os at st w after needs
    (closed-so s p taken at0 around before known st w after closes)

-- Two rules that continue alike are closed alike: the reader handles both rules the same way up to the last part, and then closes
-- them.
pub comes-alike : (s : Symbol) (os : List Opened) (p q : Production) (taken : List ℕ) (at0 : ℕ) (around : Around) (before : State) (x : Sym) (v w : Value) (at : ℕ)
    (st now : State) (context : Around) (vs ws : List Value) (state : State)
    → ◌≡◌ {A = Continuation} (between p around at0 (v ∷ []) st) (Ok (record { context = context; values = vs; state = state }))
    → ◌≡◌ {A = Continuation} (between q around at0 (w ∷ []) now) (Ok (record { context = context; values = ws; state = state }))
    → ((more : List Value) (end : State) → close_by p s.is_wide (byte_of taken) around at0 before (vs ++ more) end ≡ close_by q s.is_wide (byte_of taken) around at0 before (ws ++ more) end)
    → Comes s (opened (standing (rule_of p) taken at0 around before) [] (x ∷ []) ∷ os) v at st
    → Comes s (opened (standing (rule_of q) taken at0 around before) [] (x ∷ []) ∷ os) w at now
unfolding cpp_by
comes-alike s os p q taken at0 around before x v w at st now context vs ws state goes on closes comes bytes known end u later rest there closed =
    go rest.forest rest.shaped rest.spelled rest.unfolds
  where
    part_of : (y : Tree) → IsTree (table_by s.is_wide) x y → spell_all (grown y nothing) ≡ bytes → (r : Result (Found (List Value) State) Refusal)
        → unfold_tree (cpp_by s.is_wide) context at y state ≡ r
        → ◌≡◌ {A = Result (Found (List Value) State) Refusal} (r >>= λ z. Ok (found (ws ++ z.value) z.state)) (Ok (found known end))
        → Comes s os u (at + length bytes) later
    part_of y shaped spelled (Err e) is same = cc same
    part_of y shaped spelled (Ok z) is same = comes bytes (vs ++ z.value) z.state u later
        (record { forest = grown y nothing; shaped = (shaped, tt); spelled = spelled; unfolds = rw (at_number p, goes, is) refl }) there
        (ap (λ k. close_by k s.is_wide (byte_of taken) around at0 before (vs ++ z.value) z.state) (at_number p) ∙ closes z.value z.state
        ∙ sym (ap (λ k. close_by k s.is_wide (byte_of taken) around at0 before (ws ++ z.value) z.state) (at_number q))
        ∙ ap (λ (f : Found (List Value) State). (cpp_by s.is_wide).close (standing (rule_of q) taken at0 around before) f.value f.state) (cc same) ∙ closed)

    go : (f : Forest) → AreTrees (table_by s.is_wide) (x ∷ []) f → spell_all f ≡ bytes
        → unfold_forest (cpp_by s.is_wide) (standing (rule_of q) taken at0 around before) (w ∷ []) at f now ≡ Ok (found known end) → Comes s os u (at + length bytes) later
    go nothing shaped spelled e = absurd shaped
    go (grown y nothing) shaped spelled e =
        part_of y shaped.0 spelled (unfold_tree (cpp_by s.is_wide) context at y state) refl (sym (rw (at_number q, on) refl) ∙ e)
    go (grown y (grown z more)) shaped spelled e = absurd shaped.1

-- a kind that may be empty denotes nothing
pub expects-empty : (s : Symbol) (kind : Kind) (around : Around) (os : List Opened) (at : ℕ) (st : State)
    → Expects s kind around os at st → may_be_empty kind ≡ true → Comes s os nothing_there at st
unfolding cpp_by
expects-empty s kind around os at st expects may =
    moves.expects-empty (cpp_language s) s.bytes (number_of_kind kind) around os at st expects
    (empty-by s.is_wide (number_of_kind kind) kind (kind-at kind) ∙ may)

-- ## Holes

-- Moves take their rule, their place and their state from the types of these records, which say where a hole is and what filled
-- it.

-- Expects a part here.
pub record Hole (s : Symbol) (x : Sym) (around : Around) (os : List Opened) (at : ℕ) (st : State) : Type 0 where
  pub expects : ExpectsSym s x around os at st

-- A value was accepted here.
pub record Filled (s : Symbol) (os : List Opened) (v : Value) (at : ℕ) (st : State) : Type 0 where
  pub comes : Comes s os v at st

-- a kind that is expected is a hole
pub hole : (s : Symbol) (kind : Kind) (around : Around) (os : List Opened) (at : ℕ) (st : State) → Expects s kind around os at st
    → Hole s (OfKind (number_of_kind kind)) around os at st
hole s kind around os at st expects = record { expects = expects }

-- an accepted value has filled a hole
pub came : (s : Symbol) (os : List Opened) (v : Value) (at : ℕ) (st : State) → Comes s os v at st → Filled s os v at st
came s os v at st comes = record { comes = comes }

-- what is expected is a hole
pub hole-of : {s : Symbol} {kind : Kind} {around : Around} {at : ℕ} {st : State} {Onward : List Opened → Type 0} (a : Awaits s kind around at st Onward)
    → Hole s (OfKind (number_of_kind kind)) around a.inner at st
hole-of a = record { expects = a.awaits }

-- a hole expects its part, if the reader's continuation after this part is known
pub awaited : {s : Symbol} {kind : Kind} {around : Around} {os : List Opened} {at : ℕ} {st : State} {Onward : List Opened → Type 0}
    → Hole s (OfKind (number_of_kind kind)) around os at st → Onward os → Awaits s kind around at st Onward
awaited {os = os} h onward = record { inner = os; awaits = h.expects; onward = onward }

-- what is open around a hole
abbrev pub open_at : {s : Symbol} {x : Sym} {around : Around} {os : List Opened} {at : ℕ} {st : State} → Hole s x around os at st → List Opened
open_at {os = os} h = os

-- a value fills a hole
pub fill : {s : Symbol} {x : Sym} {around : Around} {os : List Opened} {at : ℕ} {st : State} → Hole s x around os at st → (v : Value) (to : ℕ)
    (now : State) → Comes s os v to now → Filled s os v to now
fill h v to now comes = record { comes = comes }

-- a hole that is filled up to a place is filled up to an equal place
pub filled-at : {s : Symbol} {os : List Opened} {v : Value} {at : ℕ} {st : State} (to : ℕ) → Filled s os v at st → at ≡ to → Filled s os v to st
filled-at {s = s} {os = os} {v = v} {st = st} to f same = subst (λ k. Filled s os v k st) same f

pub hole-at : {s : Symbol} {x : Sym} {around : Around} {os : List Opened} {at : ℕ} {st : State} (to : ℕ) → Hole s x around os at st → at ≡ to
    → Hole s x around os to st
hole-at {s = s} {x = x} {around = around} {os = os} {st = st} to h same = subst (λ k. Hole s x around os k st) same h

-- ## Productions that are chosen

-- A kind takes a production, which consumes these bytes: one byte or none.
pub record Taken (s : Symbol) (kind : Kind) (p : Production) (bytes : List ℕ) : Type 0 where
  pub takes_rule : TakesRule (table_by s.is_wide) (number_of_kind kind) (rule_of p) bytes
  pub begins : (f : Forest) (at : ℕ) (st : State) → opening p f at st ≡ Ok st

-- a production begins without a test of its last number
unfoldable pub is_untested : Production → Bool
is_untested Production.Lambda = false
is_untested Production.Unnamed = false
is_untested _ = true

begins-untested : (p : Production) → is_untested p ≡ true → (f : Forest) (at : ℕ) (st : State) → opening p f at st ≡ Ok st
unfolding is_untested opening
begins-untested Production.Lambda is f at st = absurd (false≢true is)
begins-untested Production.Unnamed is f at st = absurd (false≢true is)
begins-untested _ is f at st = refl

-- a production is taken at a byte, which it consumes
unfoldable pub is_eater : Option Production → Production → ℕ → Bool
is_eater choice p byte = takes p choice && (is_small byte && (not (is_chain p) && is_untested p))

-- a production is taken at a byte, which it doesn't consume
unfoldable pub is_leaver : Option Production → Production → ℕ → Bool
is_leaver choice p byte = takes p choice && (is_small byte && (is_chain p && is_untested p))

-- by the ABI's grammar, a production is taken at a byte, which it consumes
unfoldable pub is_eaten : Kind → Production → ℕ → Bool
unfolding is_eater takes is_small is_untested choose alternatives pick is_in in_ranges among is_chain number_of
is_eaten kind p byte = is_eater (choose kind byte) p byte

unfoldable pub is_left : Kind → Production → ℕ → Bool
unfolding is_leaver takes is_small is_untested choose alternatives pick is_in in_ranges among is_chain number_of
is_left kind p byte = is_leaver (choose kind byte) p byte

-- a kind takes a production, if the byte selects it and its opening succeeds
pub chosen-byte : (s : Symbol) (kind : Kind) (p : Production) (byte : ℕ) → choose kind byte ≡ Some p → byte < 256 → is_chain p ≡ false
    → ((f : Forest) (at : ℕ) (st : State) → opening p f at st ≡ Ok st) → Taken s kind p (byte ∷ [])
chosen-byte s kind p byte chosen below chain begun = record { takes_rule = takes-it s kind p byte (byte ∷ []) chosen below (rw chain refl); begins = begun }

-- a production is taken, and its byte is consumed
pub eats : (s : Symbol) (kind : Kind) (p : Production) (byte : ℕ) → is_eaten kind p byte ≡ true → Taken s kind p (byte ∷ [])
unfolding is_eaten is_eater takes is_small is_untested choose alternatives pick is_in in_ranges among is_chain number_of
eats s kind p byte is =
    let first = and_parts (takes p (choose kind byte)) (is_small byte && (not (is_chain p) && is_untested p)) is in
    let second = and_parts (is_small byte) (not (is_chain p) && is_untested p) first.1 in
    let third = and_parts (not (is_chain p)) (is_untested p) second.1 in
    chosen-byte s kind p byte (taken p (choose kind byte) first.0) (small byte second.0) (not-true (is_chain p) third.0) (begins-untested p third.1)

-- a production is taken, and its byte isn't consumed
pub leaves : (s : Symbol) (kind : Kind) (p : Production) (byte : ℕ) → is_left kind p byte ≡ true → Taken s kind p []
unfolding is_left is_leaver takes is_small is_untested choose alternatives pick is_in in_ranges among is_chain number_of
leaves s kind p byte is =
    let first = and_parts (takes p (choose kind byte)) (is_small byte && (is_chain p && is_untested p)) is in
    let second = and_parts (is_small byte) (is_chain p && is_untested p) first.1 in
    let third = and_parts (is_chain p) (is_untested p) second.1 in
    record {
      takes_rule = takes-it s kind p byte [] (taken p (choose kind byte) first.0) (small byte second.0) (rw third.0 refl);
      begins = begins-untested p third.1;
    }

-- by the wide grammar, a production is taken at a byte, which it consumes
unfoldable pub is_eaten_widely : Kind → Production → ℕ → Bool
unfolding is_eater takes is_small is_untested wide_choose wide_alternatives pick is_in in_ranges among is_chain number_of
is_eaten_widely kind p byte = is_eater (wide_choose kind byte) p byte

pub eats-widely : (s : Symbol) (kind : Kind) (p : Production) (byte : ℕ) → s.is_wide ≡ true → is_eaten_widely kind p byte ≡ true → Taken s kind p (byte ∷ [])
unfolding is_eaten_widely is_eater takes is_small is_untested wide_choose wide_alternatives pick is_in in_ranges among is_chain number_of
eats-widely s kind p byte wide is =
    let first = and_parts (takes p (wide_choose kind byte)) (is_small byte && (not (is_chain p) && is_untested p)) is in
    let second = and_parts (is_small byte) (not (is_chain p) && is_untested p) first.1 in
    let third = and_parts (not (is_chain p)) (is_untested p) second.1 in
    record {
      takes_rule = takes-wide s kind p byte (byte ∷ []) wide (taken p (wide_choose kind byte) first.0) (small byte second.0)
          (rw (not-true (is_chain p) third.0) refl);
      begins = begins-untested p third.1;
    }

-- ## Moves

-- expects the first part of a production that consumes its byte
pub byte-opens : {s : Symbol} {kind : Kind} {p : Production} {byte : ℕ} {around : Around} {os : List Opened} {at : ℕ} {st : State} {x : Sym} {todo : List Sym}
    {context : Around} {values : List Value} {state : State}
    → Taken s kind p (byte ∷ []) → Hole s (OfKind (number_of_kind kind)) around os at st → StandsAt s.bytes at (byte ∷ [])
    → parts_of p ≡ x ∷ todo → ◌≡◌ {A = Continuation} (between p around at [] st) (Ok (record { context = context; values = values; state = state }))
    → Hole s x context (opened (standing (rule_of p) (byte ∷ []) at around st) values todo ∷ os) (at + 1) state
byte-opens {s = s} {kind = kind} {p = p} {byte = byte} {around = around} {os = os} {at = at} {st = st} {x = x} {todo = todo} {context = context} {values = values} {state = state} t h stands parts goes =
    record {
      expects = needs-next s p (byte ∷ []) at around st [] x todo os (at + 1) st context values state goes
          (subst (λ l. Needs s os (standing (rule_of p) (byte ∷ []) at around st) [] l (at + 1) st) parts
          (opens-by s kind p (byte ∷ []) around os at st t.takes_rule (λ f. t.begins f at st) h.expects stands));
    }

-- expects the first part of a production that doesn't take its byte
pub chain-opens : {s : Symbol} {kind : Kind} {p : Production} {around : Around} {os : List Opened} {at : ℕ} {st : State} {x : Sym} {todo : List Sym}
    {context : Around} {values : List Value} {state : State}
    → Taken s kind p [] → Hole s (OfKind (number_of_kind kind)) around os at st
    → parts_of p ≡ x ∷ todo → ◌≡◌ {A = Continuation} (between p around at [] st) (Ok (record { context = context; values = values; state = state }))
    → Hole s x context (opened (standing (rule_of p) [] at around st) values todo ∷ os) at state
chain-opens {s = s} {kind = kind} {p = p} {around = around} {os = os} {at = at} {st = st} {x = x} {todo = todo} {context = context} {values = values} {state = state} t h parts goes =
    record {
      expects = needs-next s p [] at around st [] x todo os at st context values state goes
          (subst (λ l. Needs s os (standing (rule_of p) [] at around st) [] l at st) parts
          (subst (λ k. Needs s os (standing (rule_of p) [] at around st) [] (parts_of p) k st) (omega arith)
          (opens-by s kind p [] around os at st t.takes_rule (λ f. t.begins f at st) h.expects (stands-none s.bytes at))));
    }

-- a production without parts that takes its byte denotes a value
pub byte-fills : {s : Symbol} {kind : Kind} {p : Production} {byte : ℕ} {around : Around} {os : List Opened} {at : ℕ} {st : State} {w : Value} {after : State}
    → Taken s kind p (byte ∷ []) → Hole s (OfKind (number_of_kind kind)) around os at st → StandsAt s.bytes at (byte ∷ [])
    → parts_of p ≡ [] → close_by p s.is_wide byte around at st [] st ≡ Ok (found w after) → Filled s os w (at + 1) after
unfolding byte_of
byte-fills {s = s} {kind = kind} {p = p} {byte = byte} {around = around} {os = os} {at = at} {st = st} {w = w} {after = after} t h stands parts closes =
    record {
      comes = ends s p (byte ∷ []) at around st [] os (at + 1) st w after
          (subst (λ l. Needs s os (standing (rule_of p) (byte ∷ []) at around st) [] l (at + 1) st) parts
          (opens-by s kind p (byte ∷ []) around os at st t.takes_rule (λ f. t.begins f at st) h.expects stands)) closes;
    }

-- a part was read, and the next one is expected
pub next-part : {s : Symbol} (p : Production) {taken : List ℕ} {at0 : ℕ} {around : Around} {before : State} {known : List Value} {v : Value} {x : Sym}
    {todo : List Sym} {os : List Opened} {at : ℕ} {st : State} {context : Around} {values : List Value} {state : State}
    → Filled s (opened (standing (rule_of p) taken at0 around before) known (x ∷ todo) ∷ os) v at st
    → ◌≡◌ {A = Continuation} (between p around at0 (known ++ v ∷ []) st) (Ok (record { context = context; values = values; state = state }))
    → Hole s x context (opened (standing (rule_of p) taken at0 around before) values todo ∷ os) at state
next-part {s = s} p {taken = taken} {at0 = at0} {around = around} {before = before} {known = known} {v = v} {x = x} {todo = todo} {os = os} {at = at} {st = st} {context = context} {values = values} {state = state} f goes =
    record { expects = needs-next s p taken at0 around before (known ++ v ∷ []) x todo os at st context values state goes f.comes }

-- the last part was read, and the rule closes
pub closes : {s : Symbol} (p : Production) {taken : List ℕ} {at0 : ℕ} {around : Around} {before : State} {known : List Value} {v : Value}
    {os : List Opened} {at : ℕ} {st : State} {w : Value} {after : State}
    → Filled s (opened (standing (rule_of p) taken at0 around before) known [] ∷ os) v at st
    → close_by p s.is_wide (byte_of taken) around at0 before (known ++ v ∷ []) st ≡ Ok (found w after) → Filled s os w at after
closes {s = s} p {taken = taken} {at0 = at0} {around = around} {before = before} {known = known} {v = v} {os = os} {at = at} {st = st} {w = w} {after = after} f is =
    record { comes = ends s p taken at0 around before (known ++ v ∷ []) os at st w after f.comes is }

-- ## Parts without a row, and tokens

-- a kind that may be empty denotes nothing
pub none-fills : {s : Symbol} {around : Around} {os : List Opened} {at : ℕ} {st : State} (kind : Kind) → Hole s (OfKind (number_of_kind kind)) around os at st
    → may_be_empty kind ≡ true → Filled s os nothing_there at st
none-fills {s = s} {around = around} {os = os} {at = at} {st = st} kind h may = record { comes = expects-empty s kind around os at st h.expects may }

-- a fixed byte fills its hole
pub fixed-fills : {s : Symbol} {b : ℕ} {around : Around} {os : List Opened} {at : ℕ} {st : State} → Hole s (Byte b) around os at st
    → StandsAt s.bytes at (b ∷ []) → Filled s os nothing_there (at + 1) st
unfolding cpp_by
fixed-fills {s = s} {b = b} {around = around} {os = os} {at = at} {st = st} h stands =
    record { comes = moves.expects-byte (cpp_language s) s.bytes b around os at st h.expects stands }

-- a name fills its hole
pub name-fills : {s : Symbol} {around : Around} {os : List Opened} {at : ℕ} {st : State} (name : List ℕ) (end : ℕ) → Hole s Name around os at st
    → IsNameAt s.bytes at name end → Filled s os (text name) end st
unfolding cpp_by
name-fills {s = s} {around = around} {os = os} {at = at} {st = st} name end h is =
    let came : Filled s os (text is.token.own) (at + length (bytes_of is.token)) st = record {
      comes = moves.expects-token (cpp_language s) s.bytes Name around os at st is.token (text is.token.own) st h.expects
          (names-by s.is_wide Name is.token is.is_name) refl is.stands;
    } in
    subst (λ l. Filled s os (text l) end st) is.own (filled-at end came (sym is.ends))

-- a number of a kind fills its hole
pub number-fills : {s : Symbol} {kind : NumberKind} {around : Around} {os : List Opened} {at : ℕ} {st : State} (t : Token) → Hole s (Number kind) around os at st
    → IsNumberToken kind t → StandsAt s.bytes at (bytes_of t) → Filled s os (text t.own) (at + length (bytes_of t)) st
unfolding cpp_by
number-fills {s = s} {kind = kind} {around = around} {os = os} {at = at} {st = st} t h is stands = record {
  comes = moves.expects-token (cpp_language s) s.bytes (Number kind) around os at st t (text t.own) st h.expects
      (names-by s.is_wide (Number kind) t is) refl stands;
}

-- a number that has these digits fills its hole
pub digits-fill : {s : Symbol} {kind : NumberKind} {around : Around} {os : List Opened} {at : ℕ} {st : State} (digits : List ℕ) (end : ℕ)
    → Hole s (Number kind) around os at st → IsNumberAt kind s.bytes at digits end → Filled s os (text digits) end st
digits-fill {s = s} {os = os} {st = st} digits end h is =
    subst (λ l. Filled s os (text l) end st) is.own (filled-at end (number-fills is.token h is.is_number is.stands) (sym is.ends))

-- ## Names

-- the first piece of a name is the name so far
pub first-named : (around : Around) (piece : Term) (st : State) → around.prefix ≡ outermost
    → ◌≡◌ {A = Continuation} (named_so_far around (extended around.prefix piece) [] st)
    (Ok (record { context = after (alone piece) false around; values = tree (alone piece) false ∷ []; state = st }))
unfolding named_so_far extended after
first-named around piece st first = ap (λ x. named_so_far around (extended x piece) [] st) first

-- ## Kinds with more alternatives

-- where a kind with more trees is expected, a kind with fewer trees is expected, too
pub fewer : {s : Symbol} {x y : Sym} {around : Around} {os : List Opened} {at : ℕ} {st : State}
    → ((t : Tree) → IsTree (table_by s.is_wide) y t → IsTree (table_by s.is_wide) x t) → Hole s x around os at st → Hole s y around os at st
fewer same h = record {
  expects = λ bytes vs after read stands. h.expects bytes vs after
      (record { shape = read.shape; shaped = same read.shape read.shaped; spelled = read.spelled; unfolds = read.unfolds }) stands;
}

pub alone-arguments : (s : Symbol) (around : Around) (os : List Opened) (at : ℕ) (st : State) → Expects s Kind.MaybeArguments around os at st → Expects s Kind.ArgumentsAlone around os at st
unfolding number_of_kind
alone-arguments s around os at st expects = (fewer (arguments-by s.is_wide) (hole s Kind.MaybeArguments around os at st expects)).expects

-- in the wide grammar a nested name may end after the arguments of a substituted name
pub any-tail : (s : Symbol) (around : Around) (os : List Opened) (at : ℕ) (st : State) → s.is_wide ≡ true → Expects s Kind.NestMoreOrEnd around os at st → Expects s Kind.NestTail around os at st
unfolding number_of_kind
any-tail s around os at st wide expects = (fewer (tails-by s.is_wide wide) (hole s Kind.NestMoreOrEnd around os at st expects)).expects

-- a type is an argument
pub any-argument : (s : Symbol) (around : Around) (os : List Opened) (at : ℕ) (st : State) → Expects s Kind.Argument around os at st → Expects s Kind.Item around os at st
unfolding number_of_kind
any-argument s around os at st expects bytes vs after read stands =
    let argument = item-by s.is_wide read.shape read.shaped in
    expects bytes vs after (record { shape = argument.tree; shaped = argument.is; spelled = argument.spells ∙ read.spelled; unfolds = argument.says s.is_wide around at st ∙ read.unfolds }) stands

-- a type is the first type of a lambda
pub any-first : (s : Symbol) (around : Around) (os : List Opened) (at : ℕ) (st : State) → Expects s Kind.FirstOfLambda around os at st → Expects s Kind.Item around os at st
unfolding number_of_kind
any-first s around os at st expects bytes vs after read stands =
    let first = first-by s.is_wide read.shape read.shaped in
    expects bytes vs after (record { shape = first.tree; shaped = first.is; spelled = first.spells ∙ read.spelled; unfolds = first.says s.is_wide around at st ∙ read.unfolds }) stands
