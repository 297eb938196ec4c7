-- The moves of arguments and of the types of a tuple.
use Rattle.rust_direct.proofs.Basics.{◌≡◌, ℕ, ◌+◌, List, [], ◌∷◌, false, Ok, refl, ap, arith, append-nil, Base62, Rule, Kind, Byte, Number, TakesRule, standing, opened, StandsAt, Production, PATH, TYPE, TYPES, ARGUMENTS, LIFETIME, v0_table, taking, chaining, Value, State, number, a_path, a_type, a_lifetime, some_arguments, some_types, type_part, is_minus, rust_language, Opened, Comes, Expects, within, behind, with_ended, Wanted, path, other_path, type, kind_of, IsNumberAt, IsType, Ends, ArgumentsGoOn, TypesGoOn}
use Rattle.sym_direct.proofs.Moves as moves
use Rattle.rust_tree.specs.Symbol as tree
use Rattle.rust_direct.proofs.Moves.{TakesAll, expects-moved, number-comes}

-- ## Types as parts

pub type-part : (v : Value) (t : tree.Ty) (rest : List Value) → IsType v t → type_part (v ∷ rest) ≡ Ok (t, rest)
type-part (a_path p) t rest is = let same : tree.path_type p ≡ t = cc is in ap (λ x. Ok (x, rest)) same
type-part (a_type u) t rest is = let same : u ≡ t = cc is in ap (λ x. Ok (x, rest)) same
type-part _ t rest is = cc is

pub no-minus : (v : Value) (t : tree.Ty) → IsType v t → is_minus (v ∷ []) ≡ false
no-minus (a_path p) t is = refl
no-minus (a_type u) t is = refl
no-minus _ t is = cc is

-- ## Arguments

abbrev generic_rule : Rule
generic_rule = taking Production.Generic (Kind PATH ∷ Kind ARGUMENTS ∷ Byte 69 ∷ [])

takes-generic : TakesAll generic_rule (73 ∷ [])
takes-generic path = record { byte = 73; is_byte = omega arith; found = refl; takes = refl }
takes-generic other_path = record { byte = 73; is_byte = omega arith; found = refl; takes = refl }
takes-generic type = record { byte = 73; is_byte = omega arith; found = refl; takes = refl }

-- the entries that are open while the path before arguments is read
abbrev pub generic_awaits : (place : ℕ) → State → List Opened → List Opened
generic_awaits place st os = opened (standing generic_rule (73 ∷ []) place 0 st) [] (Kind ARGUMENTS ∷ Byte 69 ∷ []) ∷ os

-- the path before arguments is expected
pub generic-opens : (s : List ℕ) (w : Wanted) (os : List Opened) (at : ℕ) (st : State) → Expects s (kind_of w) os at st → StandsAt s at (73 ∷ [])
    → Expects s PATH (generic_awaits at st os) (at + 1) (within Production.Generic st)
generic-opens s w os at st expects stands =
    moves.first-of rust_language s (kind_of w) generic_rule (73 ∷ []) 0 os at st st (Kind PATH) (Kind ARGUMENTS ∷ Byte 69 ∷ [])
    (record { context = 0; values = []; state = within Production.Generic st }) (takes-generic w) (λ f. refl) refl refl expects stands

-- the path before arguments is read, and arguments are expected
pub generic-goes-on : (s : List ℕ) (os : List Opened) (place : ℕ) (before : State) (p : tree.Path) (at : ℕ) (st : State)
    → Comes s (generic_awaits place before os) (a_path p) at st → ArgumentsGoOn s os place p (λ a. a) at st
generic-goes-on s os place before p at st comes =
    let rule = standing generic_rule (73 ∷ []) place 0 before in
    record {
      inner = opened rule (a_path p ∷ []) (Byte 69 ∷ []) ∷ os;
      production = Production.Generic;
      awaits = moves.next-of rust_language s rule [] (a_path p ∷ []) (Kind ARGUMENTS) (Byte 69 ∷ []) os at st
          (record { context = 0; values = a_path p ∷ []; state = within Production.Generic st }) refl comes;
      closes = λ vs a here now are came there.
          let w = a_path (tree.generic p a) in
          let byte = moves.next-of rust_language s rule (a_path p ∷ []) vs (Byte 69) [] os here now
          (record { context = 0; values = a_path p ∷ vs; state = within Production.Generic now }) refl came in
          moves.last-of rust_language s rule (a_path p ∷ vs) [] os (here + 1) (within Production.Generic now) w (with_ended place w now)
          (rw (append-nil vs, are) refl)
          (moves.expects-byte rust_language s 69 0 (opened rule (a_path p ∷ vs) [] ∷ os) here (within Production.Generic now) byte there);
    }

abbrev type_rule : Rule
type_rule = chaining Production.TypeArgument (Kind TYPE ∷ Kind ARGUMENTS ∷ [])

takes-type : TakesRule v0_table ARGUMENTS type_rule []
takes-type = record { byte = 97; is_byte = omega arith; found = refl; takes = refl }

-- the entries that are open while a type among arguments is read
abbrev pub type_awaits : (place : ℕ) → State → List Opened → List Opened
type_awaits place st os = opened (standing type_rule [] place 0 st) [] (Kind ARGUMENTS ∷ []) ∷ os

none-more : (n : ℕ) → n + 0 ≡ n
none-more n = omega arith

-- a type is expected among arguments
pub argument-opens : (s : List ℕ) (os : List Opened) (at : ℕ) (st : State) → Expects s ARGUMENTS os at st
    → Expects s TYPE (type_awaits at st os) at (within Production.TypeArgument st)
argument-opens s os at st expects =
    expects-moved s TYPE (type_awaits at st os) (at + 0) at (within Production.TypeArgument st) (none-more at)
    (moves.first-of rust_language s ARGUMENTS type_rule [] 0 os at st st (Kind TYPE) (Kind ARGUMENTS ∷ [])
    (record { context = 0; values = []; state = within Production.TypeArgument st }) takes-type (λ f. refl) refl refl expects (moves.stands-none s at))

-- a type is read among arguments, and the arguments continue
pub argument-goes-on : (s : List ℕ) (outer : List Opened) (place : ℕ) (p : tree.Path) (made : tree.Arguments → tree.Arguments) (here : ℕ) (now : State)
    (goes : ArgumentsGoOn s outer place p made here now) (place0 : ℕ) (before : State) (v : Value) (t : tree.Ty) (at : ℕ) (st : State)
    → IsType v t → Comes s (type_awaits place0 before goes.inner) v at st
    → ArgumentsGoOn s outer place p (λ r. made (tree.type_argument t r)) at st
argument-goes-on s outer place p made here now goes place0 before v t at st is comes =
    let rule = standing type_rule [] place0 0 before in
    record {
      inner = opened rule (v ∷ []) [] ∷ goes.inner;
      production = Production.TypeArgument;
      awaits = moves.next-of rust_language s rule [] (v ∷ []) (Kind ARGUMENTS) [] goes.inner at st
          (record { context = 0; values = v ∷ []; state = within Production.TypeArgument st }) (rw (no-minus v t is) refl) comes;
      closes = λ vs a end then_ are came there.
          let w = some_arguments (tree.type_argument t a) in
          goes.closes (w ∷ []) (tree.type_argument t a) end (behind then_) refl
          (moves.last-of rust_language s rule (v ∷ []) vs goes.inner end then_ w (behind then_) (rw (type-part v t vs is, are) refl) came) there;
    }

-- ## Lifetimes among arguments

abbrev lifetime_rule : Rule
lifetime_rule = chaining Production.LifetimeArgument (Kind LIFETIME ∷ Kind ARGUMENTS ∷ [])

takes-lifetime : TakesRule v0_table ARGUMENTS lifetime_rule []
takes-lifetime = record { byte = 76; is_byte = omega arith; found = refl; takes = refl }

abbrev pub number_rule : Rule
number_rule = taking Production.Lifetime (Number Base62 ∷ [])

pub takes-number : TakesRule v0_table LIFETIME number_rule (76 ∷ [])
takes-number = record { byte = 76; is_byte = omega arith; found = refl; takes = refl }

-- an erased lifetime is a number without digits
pub no-digits : (s : List ℕ) (at : ℕ) → StandsAt s at (95 ∷ []) → IsNumberAt s at 0 (at + 1)
no-digits s at stands = record {
  token = record { before = []; own = []; behind = 95 ∷ [] };
  is_number = record { bare = refl; digits = (tt, omega arith); ends = refl };
  counts = refl;
  stands = stands;
  ends = refl;
}

-- an erased lifetime is read among arguments, and the arguments continue
pub lifetime-goes-on : (s : List ℕ) (outer : List Opened) (place : ℕ) (p : tree.Path) (made : tree.Arguments → tree.Arguments) (at : ℕ) (st : State)
    → ArgumentsGoOn s outer place p made at st → StandsAt s at (76 ∷ 95 ∷ [])
    → ArgumentsGoOn s outer place p (λ r. made (tree.lifetime_argument 0 r)) (at + 1 + 1) st
lifetime-goes-on s outer place p made at st goes stands =
    let places = moves.stands-split s at (76 ∷ []) (95 ∷ []) stands in
    let first = within goes.production st in
    let rule = standing lifetime_rule [] at 0 first in
    let own = standing number_rule (76 ∷ []) at 0 (within Production.LifetimeArgument st) in
    let inner = opened rule [] (Kind ARGUMENTS ∷ []) ∷ goes.inner in
    let awaits : Expects s LIFETIME inner at (within Production.LifetimeArgument st) =
    expects-moved s LIFETIME inner (at + 0) at (within Production.LifetimeArgument st) (none-more at)
    (moves.first-of rust_language s ARGUMENTS lifetime_rule [] 0 goes.inner at first first (Kind LIFETIME) (Kind ARGUMENTS ∷ [])
    (record { context = 0; values = []; state = within Production.LifetimeArgument st }) takes-lifetime (λ f. refl) refl refl goes.awaits
    (moves.stands-none s at)) in
    let digits = moves.first-of rust_language s LIFETIME number_rule (76 ∷ []) 0 inner at (within Production.LifetimeArgument st)
    (within Production.LifetimeArgument st) (Number Base62) []
    (record { context = 0; values = []; state = within Production.Lifetime st }) takes-number (λ f. refl) refl refl awaits places.0 in
    let counted = number-comes s Production.Lifetime (opened own [] [] ∷ inner) (at + 1) st 0 (at + 1 + 1) (λ o. refl) digits (no-digits s (at + 1) places.1) in
    let comes = moves.last-of rust_language s own [] (number 0 ∷ []) inner (at + 1 + 1) (within Production.Lifetime st) (a_lifetime 0) (behind st) refl counted in
    record {
      inner = opened rule (a_lifetime 0 ∷ []) [] ∷ goes.inner;
      production = Production.LifetimeArgument;
      awaits = moves.next-of rust_language s rule [] (a_lifetime 0 ∷ []) (Kind ARGUMENTS) [] goes.inner (at + 1 + 1) (behind st)
          (record { context = 0; values = a_lifetime 0 ∷ []; state = within Production.LifetimeArgument st }) refl comes;
      closes = λ vs a end then_ are came there.
          let w = some_arguments (tree.lifetime_argument 0 a) in
          goes.closes (w ∷ []) (tree.lifetime_argument 0 a) end (behind then_) refl
          (moves.last-of rust_language s rule (a_lifetime 0 ∷ []) vs goes.inner end then_ w (behind then_) (rw are refl) came) there;
    }

-- arguments end at an E
pub arguments-close : (s : List ℕ) (outer : List Opened) (place : ℕ) (p : tree.Path) (made : tree.Arguments → tree.Arguments) (at : ℕ) (st : State)
    → ArgumentsGoOn s outer place p made at st → StandsAt s at (69 ∷ [])
    → Ends s outer place (a_path (tree.generic p (made tree.no_arguments))) (at + 1) st
arguments-close s outer place p made at st goes stands =
    goes.closes [] tree.no_arguments at (within goes.production st) refl
    (moves.expects-empty rust_language s ARGUMENTS 0 goes.inner at (within goes.production st) goes.awaits refl) stands

-- ## Tuples

abbrev tuple_rule : Rule
tuple_rule = taking Production.Tuple (Kind TYPES ∷ [])

takes-tuple : TakesRule v0_table TYPE tuple_rule (84 ∷ [])
takes-tuple = record { byte = 84; is_byte = omega arith; found = refl; takes = refl }

-- the types of a tuple are expected
pub tuple-opens : (s : List ℕ) (os : List Opened) (at : ℕ) (st : State) → Expects s TYPE os at st → StandsAt s at (84 ∷ [])
    → TypesGoOn s os at (λ ts. ts) (at + 1) st
tuple-opens s os at st expects stands =
    let rule = standing tuple_rule (84 ∷ []) at 0 st in
    record {
      inner = opened rule [] [] ∷ os;
      production = Production.Tuple;
      awaits = moves.first-of rust_language s TYPE tuple_rule (84 ∷ []) 0 os at st st (Kind TYPES) []
          (record { context = 0; values = []; state = within Production.Tuple st }) takes-tuple (λ f. refl) refl refl expects stands;
      closes = λ ts end now came.
          let w = a_type (tree.tuple ts) in
          moves.last-of rust_language s rule [] (some_types ts ∷ []) os end now w (with_ended at w now) refl came;
    }

abbrev more_rule : Rule
more_rule = chaining Production.TypesMore (Kind TYPE ∷ Kind TYPES ∷ [])

takes-more : TakesRule v0_table TYPES more_rule []
takes-more = record { byte = 97; is_byte = omega arith; found = refl; takes = refl }

abbrev end_rule : Rule
end_rule = taking Production.TypesEnd []

takes-end : TakesRule v0_table TYPES end_rule (69 ∷ [])
takes-end = record { byte = 69; is_byte = omega arith; found = refl; takes = refl }

-- the entries that are open while a type of a tuple is read
abbrev pub more_awaits : (place : ℕ) → State → List Opened → List Opened
more_awaits place st os = opened (standing more_rule [] place 0 st) [] (Kind TYPES ∷ []) ∷ os

-- a type of a tuple is expected
pub element-opens : (s : List ℕ) (os : List Opened) (at : ℕ) (st : State) → Expects s TYPES os at st
    → Expects s TYPE (more_awaits at st os) at (within Production.TypesMore st)
element-opens s os at st expects =
    expects-moved s TYPE (more_awaits at st os) (at + 0) at (within Production.TypesMore st) (none-more at)
    (moves.first-of rust_language s TYPES more_rule [] 0 os at st st (Kind TYPE) (Kind TYPES ∷ [])
    (record { context = 0; values = []; state = within Production.TypesMore st }) takes-more (λ f. refl) refl refl expects (moves.stands-none s at))

-- a type of a tuple is read, and the tuple's types continue
pub element-goes-on : (s : List ℕ) (outer : List Opened) (place : ℕ) (made : tree.Tys → tree.Tys) (here : ℕ) (now : State)
    (goes : TypesGoOn s outer place made here now) (place0 : ℕ) (before : State) (v : Value) (t : tree.Ty) (at : ℕ) (st : State)
    → IsType v t → Comes s (more_awaits place0 before goes.inner) v at st
    → TypesGoOn s outer place (λ r. made (tree.more_types t r)) at st
element-goes-on s outer place made here now goes place0 before v t at st is comes =
    let rule = standing more_rule [] place0 0 before in
    record {
      inner = opened rule (v ∷ []) [] ∷ goes.inner;
      production = Production.TypesMore;
      awaits = moves.next-of rust_language s rule [] (v ∷ []) (Kind TYPES) [] goes.inner at st
          (record { context = 0; values = v ∷ []; state = within Production.TypesMore st }) (rw (no-minus v t is) refl) comes;
      closes = λ ts end then_ came.
          let w = some_types (tree.more_types t ts) in
          goes.closes (tree.more_types t ts) end (behind then_)
          (moves.last-of rust_language s rule (v ∷ []) (some_types ts ∷ []) goes.inner end then_ w (behind then_)
          (rw (type-part v t (some_types ts ∷ []) is) refl) came);
    }

-- the types of a tuple end at an E
pub types-close : (s : List ℕ) (outer : List Opened) (place : ℕ) (made : tree.Tys → tree.Tys) (at : ℕ) (st : State)
    → TypesGoOn s outer place made at st → StandsAt s at (69 ∷ []) → Ends s outer place (a_type (tree.tuple (made tree.no_types))) (at + 1) st
types-close s outer place made at st goes stands =
    let first = within goes.production st in
    goes.closes tree.no_types (at + 1) (behind st)
    (moves.letter-comes rust_language s TYPES end_rule (69 ∷ []) 0 goes.inner at first first (some_types tree.no_types) (behind st) takes-end
    (λ f. refl) refl refl goes.awaits stands)
