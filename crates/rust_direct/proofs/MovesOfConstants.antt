-- The moves of constants, among arguments and as the sizes of arrays.
use Rattle.rust_direct.proofs.Basics.{◌≡◌, ◌≢◌, ℕ, ◌+◌, ◌<◌, ◌≤◌, List, [], ◌∷◌, inl, inr, Bool, true, false, Some, Ok, refl, ap, sym, subst, arith, ◌&&◌, nat_lt, if◌then◌else◌, le-leb, cases_eq, ne_eqb, false≢true, Hex, Rule, Kind, Byte, Number, TakesRule, standing, opened, StandsAt, Production, TYPE, ARGUMENTS, CONSTANT, MINUS, TRUTH, v0_table, taking, Value, State, a_truth, minus_mark, a_type, a_constant, some_arguments, token_of, value16, an_integer_of, greatest_u64, greatest_u128, rust_language, Opened, Comes, Expects, within, behind, with_ended, ArgumentsGoOn, one_of, is_signed, is_unsigned, IsHexAt, IsConstantAt, BeginsInteger, ArrayGoesOn}
use Rattle.sym_direct.specs.Holes as direct
use Rattle.sym_direct.proofs.Moves as moves
use Rattle.rust_tree.specs.Symbol as tree
use Rattle.rust_grammar.specs.BasicLetters.{signed_letters, unsigned_letters}
use Rattle.rust_direct.proofs.Moves.{byte-there}
use Rattle.rust_direct.proofs.MovesOfArguments.{type-part, no-minus}

-- ## Letters of integers

EachTakes : Rule → List ℕ → Type 0
EachTakes rule [] = Unit {0}
EachTakes rule (l ∷ ls) = TakesRule v0_table CONSTANT rule (l ∷ []) × EachTakes rule ls

found-in : (rule : Rule) (ls : List ℕ) (b : ℕ) → EachTakes rule ls → one_of ls b ≡ true → TakesRule v0_table CONSTANT rule (b ∷ [])
unfolding EachTakes
found-in rule [] b each is = absurd (false≢true is)
found-in rule (l ∷ ls) b each is = elim (cases_eq l b) [
  | inl same ↦ subst (λ k. TakesRule v0_table CONSTANT rule (k ∷ [])) same each.0
  | inr apart ↦ found-in rule ls b each.1 (subst (λ t. (if t then true else one_of ls b) ≡ true) (ne_eqb l b apart) is)
]

one-takes : (rule : Rule) (l : ℕ) → l < 256 → rule.eats ≡ true → v0_table.rule CONSTANT l ≡ Some rule → TakesRule v0_table CONSTANT rule (l ∷ [])
one-takes rule l small eats found = record { byte = l; is_byte = small; found = found; takes = ap (λ e. if e then l ∷ [] else []) (sym eats) }

abbrev unsigned_rule : Rule
unsigned_rule = taking Production.UnsignedConstant (Number Hex ∷ [])

abbrev signed_rule : Rule
signed_rule = taking Production.SignedConstant (Kind MINUS ∷ Number Hex ∷ [])

takes-unsigned : (b : ℕ) → is_unsigned b ≡ true → TakesRule v0_table CONSTANT unsigned_rule (b ∷ [])
unfolding EachTakes is_unsigned
takes-unsigned b is = found-in unsigned_rule unsigned_letters b (
  one-takes unsigned_rule 104 (omega arith) refl refl,
  (
    one-takes unsigned_rule 106 (omega arith) refl refl,
    (
      one-takes unsigned_rule 109 (omega arith) refl refl,
      (
        one-takes unsigned_rule 111 (omega arith) refl refl,
        (one-takes unsigned_rule 116 (omega arith) refl refl, (one-takes unsigned_rule 121 (omega arith) refl refl, tt)),
      ),
    ),
  ),
) is

takes-signed : (b : ℕ) → is_signed b ≡ true → TakesRule v0_table CONSTANT signed_rule (b ∷ [])
unfolding EachTakes is_signed
takes-signed b is = found-in signed_rule signed_letters b (
  one-takes signed_rule 97 (omega arith) refl refl,
  (
    one-takes signed_rule 105 (omega arith) refl refl,
    (
      one-takes signed_rule 108 (omega arith) refl refl,
      (
        one-takes signed_rule 110 (omega arith) refl refl,
        (one-takes signed_rule 115 (omega arith) refl refl, (one-takes signed_rule 120 (omega arith) refl refl, tt)),
      ),
    ),
  ),
) is

-- the letter of an integer type without a sign isn't 0
pub unsigned-there : (b : ℕ) → is_unsigned b ≡ true → b ≢ 0
unfolding is_unsigned
unsigned-there b is none = false≢true (subst (λ k. is_unsigned k ≡ true) none is)

pub signed-there : (b : ℕ) → is_signed b ≡ true → b ≢ 0
unfolding is_signed
signed-there b is none = false≢true (subst (λ k. is_signed k ≡ true) none is)

-- ## Integers

-- a number in base 16 is read
hex-comes : (s : List ℕ) (os : List Opened) (at : ℕ) (st : State) (n end : ℕ) (v : ℕ → Value) → ((own : List ℕ) → token_of st.inside st.minus own ≡ v (value16 own))
    → direct.Expects rust_language s (Number Hex) 0 os at st → IsHexAt s at n end → Comes s os (v n) end st
hex-comes s os at st n end v means expects is =
    subst (λ k. Comes s os (v k) end st) is.counts
    (subst (λ k. Comes s os (v (value16 is.token.own)) k st) (sym is.ends)
    (moves.expects-token rust_language s (Number Hex) 0 os at st is.token (v (value16 is.token.own)) st expects is.is_number
    (ap (λ w. Ok (record { value = w; state = st })) (means is.token.own)) is.stands))

fits-both : (n : ℕ) → n ≤ greatest_u64 → n ≤ greatest_u128
fits-both n small = omega (arith, small)

-- an integer of a type without a sign begins
pub unsigned-begins : (s : List ℕ) (at b : ℕ) → is_unsigned b ≡ true → StandsAt s at (b ∷ []) → BeginsInteger s at (at + 1) false
unsigned-begins s at b is stands = (b, λ n end hex os st expects. comes n end hex os st expects)
  where
    closes : (st now : State) (n : ℕ) → n ≤ greatest_u64
        → (rust_language.reading s).close (standing unsigned_rule (b ∷ []) at 0 st) (an_integer_of false n ∷ []) now
        ≡ Ok (record { value = a_constant (tree.integer b false n); state = with_ended at (a_constant (tree.integer b false n)) now })
    closes st now n small = rw (le-leb n greatest_u128 (fits-both n small), byte-there s at b stands) refl

    comes : (n end : ℕ) (hex : IsHexAt s (at + 1) n end) (os : List Opened) (st : State) → Expects s CONSTANT os at st
        → Comes s os (a_constant (tree.integer b false n)) end (with_ended at (a_constant (tree.integer b false n)) st)
    comes n end hex os st expects =
        let p = Production.UnsignedConstant in
        let rule = standing unsigned_rule (b ∷ []) at 0 st in
        let awaits = moves.first-of rust_language s CONSTANT unsigned_rule (b ∷ []) 0 os at st st (Number Hex) []
        (record { context = 0; values = []; state = within p st }) (takes-unsigned b is) (λ f. refl) refl refl expects stands in
        let counted = hex-comes s (opened rule [] [] ∷ os) (at + 1) (within p st) n end (λ k. an_integer_of false k) (λ own. refl) awaits hex in
        let w = a_constant (tree.integer b false n) in
        moves.last-of rust_language s rule [] (an_integer_of false n ∷ []) os end (within p st) w (with_ended at w st)
        (closes st (within p st) n hex.small) counted

-- an integer of a type with a sign begins, without a minus
pub signed-begins : (s : List ℕ) (at b : ℕ) → is_signed b ≡ true → StandsAt s at (b ∷ []) → BeginsInteger s at (at + 1) false
signed-begins s at b is stands = (b, λ n end hex os st expects. comes n end hex os st expects)
  where
    closes : (st now : State) (n : ℕ) → n ≤ greatest_u64
        → (rust_language.reading s).close (standing signed_rule (b ∷ []) at 0 st) (an_integer_of false n ∷ []) now
        ≡ Ok (record { value = a_constant (tree.integer b false n); state = with_ended at (a_constant (tree.integer b false n)) now })
    closes st now n small = rw (le-leb n greatest_u128 (fits-both n small), byte-there s at b stands) refl

    comes : (n end : ℕ) (hex : IsHexAt s (at + 1) n end) (os : List Opened) (st : State) → Expects s CONSTANT os at st
        → Comes s os (a_constant (tree.integer b false n)) end (with_ended at (a_constant (tree.integer b false n)) st)
    comes n end hex os st expects =
        let p = Production.SignedConstant in
        let rule = standing signed_rule (b ∷ []) at 0 st in
        let todo = Number Hex ∷ [] in
        let awaits = moves.first-of rust_language s CONSTANT signed_rule (b ∷ []) 0 os at st st (Kind MINUS) todo
        (record { context = 0; values = []; state = within p st }) (takes-signed b is) (λ f. refl) refl refl expects stands in
        let bare = moves.next-of rust_language s rule [] [] (Number Hex) [] os (at + 1) (within p st)
        (record { context = 0; values = []; state = within p st }) refl
        (moves.expects-empty rust_language s MINUS 0 (opened rule [] todo ∷ os) (at + 1) (within p st) awaits refl) in
        let counted = hex-comes s (opened rule [] [] ∷ os) (at + 1) (within p st) n end (λ k. an_integer_of false k) (λ own. refl) bare hex in
        let w = a_constant (tree.integer b false n) in
        moves.last-of rust_language s rule [] (an_integer_of false n ∷ []) os end (within p st) w (with_ended at w st)
        (closes st (within p st) n hex.small) counted

abbrev minus_rule : Rule
minus_rule = taking Production.Minus []

takes-minus : TakesRule v0_table MINUS minus_rule (110 ∷ [])
takes-minus = record { byte = 110; is_byte = omega arith; found = refl; takes = refl }

-- the state before the digits after a minus
abbrev negative : State → State
negative st = record { ended = st.ended; inside = Some Production.SignedConstant; minus = true }

-- an integer of a type with a sign begins, with a minus
pub negative-begins : (s : List ℕ) (at b : ℕ) → is_signed b ≡ true → StandsAt s at (b ∷ []) → StandsAt s (at + 1) (110 ∷ [])
    → BeginsInteger s at (at + 1 + 1) true
negative-begins s at b is stands there = (b, λ n end hex os st expects. comes n end hex os st expects)
  where
    closes : (st now : State) (n : ℕ) → n ≤ greatest_u64
        → (rust_language.reading s).close (standing signed_rule (b ∷ []) at 0 st) (minus_mark ∷ an_integer_of true n ∷ []) now
        ≡ Ok (record { value = a_constant (tree.integer b (true && nat_lt 0 n) n); state = with_ended at (a_constant (tree.integer b (true && nat_lt 0 n) n)) now })
    closes st now n small = rw (le-leb n greatest_u128 (fits-both n small), byte-there s at b stands) refl

    comes : (n end : ℕ) (hex : IsHexAt s (at + 1 + 1) n end) (os : List Opened) (st : State) → Expects s CONSTANT os at st
        → Comes s os (a_constant (tree.integer b (true && nat_lt 0 n) n)) end (with_ended at (a_constant (tree.integer b (true && nat_lt 0 n) n)) st)
    comes n end hex os st expects =
        let p = Production.SignedConstant in
        let rule = standing signed_rule (b ∷ []) at 0 st in
        let todo = Number Hex ∷ [] in
        let awaits = moves.first-of rust_language s CONSTANT signed_rule (b ∷ []) 0 os at st st (Kind MINUS) todo
        (record { context = 0; values = []; state = within p st }) (takes-signed b is) (λ f. refl) refl refl expects stands in
        let minus = moves.letter-comes rust_language s MINUS minus_rule (110 ∷ []) 0 (opened rule [] todo ∷ os) (at + 1) (within p st) (within p st)
        minus_mark (behind st) takes-minus (λ f. refl) refl refl awaits there in
        let signed = moves.next-of rust_language s rule [] (minus_mark ∷ []) (Number Hex) [] os (at + 1 + 1) (behind st)
        (record { context = 0; values = minus_mark ∷ []; state = negative st }) refl minus in
        let counted = hex-comes s (opened rule (minus_mark ∷ []) [] ∷ os) (at + 1 + 1) (negative st) n end (λ k. an_integer_of true k) (λ own. refl) signed hex in
        let w = a_constant (tree.integer b (true && nat_lt 0 n) n) in
        moves.last-of rust_language s rule (minus_mark ∷ []) (an_integer_of true n ∷ []) os end (negative st) w (with_ended at w st)
        (closes st (negative st) n hex.small) counted

-- ## Truth values and unknown constants

abbrev bool_rule : Rule
bool_rule = taking Production.BoolConstant (Kind TRUTH ∷ Byte 95 ∷ [])

takes-bool : TakesRule v0_table CONSTANT bool_rule (98 ∷ [])
takes-bool = record { byte = 98; is_byte = omega arith; found = refl; takes = refl }

truth : (s : List ℕ) (at digit : ℕ) (p : Production) (is : Bool) → TakesRule v0_table TRUTH (taking p []) (digit ∷ [])
    → ((place : ℕ) (st now : State) → (rust_language.reading s).close (standing (taking p []) (digit ∷ []) place 0 st) [] now ≡ Ok (record { value = a_truth is; state = behind now }))
    → StandsAt s at (98 ∷ []) → StandsAt s (at + 1) (digit ∷ []) → StandsAt s (at + 1 + 1) (95 ∷ [])
    → IsConstantAt s at (tree.boolean is) (at + 1 + 1 + 1)
truth s at digit q is takes closes stands there mark os st expects =
    let p = Production.BoolConstant in
    let rule = standing bool_rule (98 ∷ []) at 0 st in
    let todo = Byte 95 ∷ [] in
    let awaits = moves.first-of rust_language s CONSTANT bool_rule (98 ∷ []) 0 os at st st (Kind TRUTH) todo
    (record { context = 0; values = []; state = within p st }) takes-bool (λ f. refl) refl refl expects stands in
    let value = moves.letter-comes rust_language s TRUTH (taking q []) (digit ∷ []) 0 (opened rule [] todo ∷ os) (at + 1) (within p st) (within p st)
    (a_truth is) (behind st) takes (λ f. refl) refl (closes (at + 1) (within p st) (within p st)) awaits there in
    let byte = moves.next-of rust_language s rule [] (a_truth is ∷ []) (Byte 95) [] os (at + 1 + 1) (behind st)
    (record { context = 0; values = a_truth is ∷ []; state = within p st }) refl value in
    let w = a_constant (tree.boolean is) in
    moves.last-of rust_language s rule (a_truth is ∷ []) [] os (at + 1 + 1 + 1) (within p st) w (with_ended at w st) refl
    (moves.expects-byte rust_language s 95 0 (opened rule (a_truth is ∷ []) [] ∷ os) (at + 1 + 1) (within p st) byte mark)

pub false-comes : (s : List ℕ) (at : ℕ) → StandsAt s at (98 ∷ []) → StandsAt s (at + 1) (48 ∷ []) → StandsAt s (at + 1 + 1) (95 ∷ [])
    → IsConstantAt s at (tree.boolean false) (at + 1 + 1 + 1)
false-comes s at = truth s at 48 Production.False false (record { byte = 48; is_byte = omega arith; found = refl; takes = refl }) (λ place st now. refl)

pub true-comes : (s : List ℕ) (at : ℕ) → StandsAt s at (98 ∷ []) → StandsAt s (at + 1) (49 ∷ []) → StandsAt s (at + 1 + 1) (95 ∷ [])
    → IsConstantAt s at (tree.boolean true) (at + 1 + 1 + 1)
true-comes s at = truth s at 49 Production.True true (record { byte = 49; is_byte = omega arith; found = refl; takes = refl }) (λ place st now. refl)

abbrev placeholder_rule : Rule
placeholder_rule = taking Production.Placeholder []

takes-placeholder : TakesRule v0_table CONSTANT placeholder_rule (112 ∷ [])
takes-placeholder = record { byte = 112; is_byte = omega arith; found = refl; takes = refl }

pub placeholder-comes : (s : List ℕ) (at : ℕ) → StandsAt s at (112 ∷ []) → IsConstantAt s at tree.placeholder (at + 1)
placeholder-comes s at stands os st expects =
    moves.letter-comes rust_language s CONSTANT placeholder_rule (112 ∷ []) 0 os at st st (a_constant tree.placeholder)
    (with_ended at (a_constant tree.placeholder) st) takes-placeholder (λ f. refl) refl refl expects stands

-- ## Constants among arguments

abbrev constant_rule : Rule
constant_rule = taking Production.ConstantArgument (Kind CONSTANT ∷ Kind ARGUMENTS ∷ [])

takes-constant : TakesRule v0_table ARGUMENTS constant_rule (75 ∷ [])
takes-constant = record { byte = 75; is_byte = omega arith; found = refl; takes = refl }

-- a constant is read among arguments, and the arguments continue
pub constant-goes-on : (s : List ℕ) (outer : List Opened) (place : ℕ) (p : tree.Path) (made : tree.Arguments → tree.Arguments) (at : ℕ) (st : State)
    (c : tree.Constant) (end : ℕ) → ArgumentsGoOn s outer place p made at st → StandsAt s at (75 ∷ []) → IsConstantAt s (at + 1) c end
    → ArgumentsGoOn s outer place p (λ r. made (tree.constant_argument c r)) end (with_ended (at + 1) (a_constant c) st)
constant-goes-on s outer place p made at st c end goes stands is =
    let first = within goes.production st in
    let rule = standing constant_rule (75 ∷ []) at 0 first in
    let inner = opened rule [] (Kind ARGUMENTS ∷ []) ∷ goes.inner in
    let q = Production.ConstantArgument in
    let now = with_ended (at + 1) (a_constant c) st in
    let awaits = moves.first-of rust_language s ARGUMENTS constant_rule (75 ∷ []) 0 goes.inner at first first (Kind CONSTANT) (Kind ARGUMENTS ∷ [])
    (record { context = 0; values = []; state = within q st }) takes-constant (λ f. refl) refl refl goes.awaits stands in
    let comes = is inner (within q st) awaits in
    record {
      inner = opened rule (a_constant c ∷ []) [] ∷ goes.inner;
      production = q;
      awaits = moves.next-of rust_language s rule [] (a_constant c ∷ []) (Kind ARGUMENTS) [] goes.inner end now
          (record { context = 0; values = a_constant c ∷ []; state = within q now }) refl comes;
      closes = λ vs a last then_ are came there.
          let w = some_arguments (tree.constant_argument c a) in
          goes.closes (w ∷ []) (tree.constant_argument c a) last (behind then_) refl
          (moves.last-of rust_language s rule (a_constant c ∷ []) vs goes.inner last then_ w (behind then_) (rw are refl) came) there;
    }

-- ## Arrays

abbrev array_rule : Rule
array_rule = taking Production.Array (Kind TYPE ∷ Kind CONSTANT ∷ [])

takes-array : TakesRule v0_table TYPE array_rule (65 ∷ [])
takes-array = record { byte = 65; is_byte = omega arith; found = refl; takes = refl }

-- the type of an array is expected
pub array-opens : (s : List ℕ) (os : List Opened) (at : ℕ) (st : State) → Expects s TYPE os at st → StandsAt s at (65 ∷ []) → ArrayGoesOn s os at (at + 1) st
array-opens s os at st expects stands =
    let p = Production.Array in
    let rule = standing array_rule (65 ∷ []) at 0 st in
    record {
      inner = opened rule [] (Kind CONSTANT ∷ []) ∷ os;
      production = p;
      awaits = moves.first-of rust_language s TYPE array_rule (65 ∷ []) 0 os at st st (Kind TYPE) (Kind CONSTANT ∷ [])
          (record { context = 0; values = []; state = within p st }) takes-array (λ f. refl) refl refl expects stands;
      onward = λ v t here now is came. record {
        inner = opened rule (v ∷ []) [] ∷ os;
        production = p;
        awaits = moves.next-of rust_language s rule [] (v ∷ []) (Kind CONSTANT) [] os here now
            (record { context = 0; values = v ∷ []; state = within p now }) (rw (no-minus v t is) refl) came;
        passes = λ c end then_ sized.
            let w = a_type (tree.array t c) in
            moves.last-of rust_language s rule (v ∷ []) (a_constant c ∷ []) os end then_ w (with_ended at w then_)
            (rw (type-part v t (a_constant c ∷ []) is) refl) sized;
      };
    }
