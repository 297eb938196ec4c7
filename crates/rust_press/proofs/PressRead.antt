-- What is read can be spelled: its numbers, letters and names are in the ranges of the grammar, and what it needs is bound.
use Rattle.rust_press.proofs.Basics.{◌≡◌, ℕ, ◌+◌, ◌<◌, ◌≤◌, inl, inr, List, [], ◌∷◌, Option, Some, None, Bool, true, false, Ok, refl, arith, subst, same_Some, ◌==◌, if◌then◌else◌, nat_le, Result, Err, leb-true, need, need_of_type, need_of_arguments, need_of_types, need_of_bounds, need_of_bindings, Production, Value, State, Ended, ended_at, At, byte_at, meaning, plain, as_path, as_type, as_constant, greatest_u64, greatest_u128, is_scalar, Refusal, BadValue, BadReference, nat_tests, ByteRange, in_ranges, Found, ◌>>=◌, basic_letters, signed_letters, unsigned_letters, letters, each, Integer, most62, is_signed, is_unsigned, IsSpellableName, IsSpellableIdentifier, IsSpellableAbi, IsSpellableInteger, IsSpellableConstant, IsSpellable, AreSpellableArguments, IsSpellableType, AreSpellableTypes, AreSpellableBounds, AreSpellableBindings}
use Rattle.rust_tree.specs.Symbol as tree
use Rattle.rust_grammar.specs.declared.production.Production.TheVariants as rules
use Rattle.rust_grammar.specs.Value as value
use Rattle.rust_grammar.specs.Unfold.{Meaning, number_part, integer_part, letter_part, name_part, identifier_part, path_part, type_part, constant_part, lifetime_part, truth_part, abi_value_part, types_part, disambiguator_part, binder_part, some_lifetime_part, unsafe_part, minus_part, abi_part, arguments_part, bounds_part, bindings_part, refers_to_path, refers_to_type, refers_to_constant, bounded, referred, ends_path, ends_type, ends_constant}

-- a fact holds of what is found, or there is a refusal
abbrev pub Holds : {A : Type 0} → (A → Type 0) → Result A Refusal → Type 0
Holds P (Ok x) = P x
Holds P (Err e) = Unit {0}

pub holds-then : {A B : Type 0} (P : A → Type 0) (Q : B → Type 0) (m : Result A Refusal) (f : A → Result B Refusal)
    → Holds P m → ((x : A) → P x → Holds Q (f x)) → Holds Q (m >>= f)
holds-then P Q (Ok x) f is more = more x is
holds-then P Q (Err e) f is more = tt

-- ## Good values

-- a number has at most eleven digits in base 62, unless it is the code of a char
abbrev pub IsGoodNumber : Production → ℕ → Type 0
IsGoodNumber rules.CharConstant n = Unit {0}
IsGoodNumber _ n = n ≤ most62

-- zero has no minus, and neither does an unsigned integer
abbrev pub IsGoodInteger : Production → Integer → Type 0
IsGoodInteger rules.UnsignedConstant i = i.minus ≡ false
IsGoodInteger _ i = i.minus ≡ true → 0 < i.magnitude

abbrev pub IsGoodOther : (bound : ℕ) → Option tree.Path → Type 0
IsGoodOther b None = Unit {0}
IsGoodOther b (Some x) = IsSpellable x × (need x ≤ b)

-- what holds of each value as a part of a production, where `bound` lifetimes are bound
abbrev pub IsGood : Production → (bound : ℕ) → Value → Type 0
IsGood p b (value.number n) = IsGoodNumber p n
IsGood p b (value.an_integer i) = IsGoodInteger p i
IsGood p b (value.letter c) = (c < 256) × (in_ranges letters c ≡ true)
IsGood p b (value.a_name name) = IsSpellableName name
IsGood p b (value.an_identifier i) = IsSpellableIdentifier i
IsGood p b (value.a_disambiguator d) = d ≤ greatest_u64
IsGood p b (value.a_binder n) = n ≤ 1000
IsGood p b (value.a_lifetime l) = (l ≤ most62) × (l ≤ b)
IsGood p b value.unsafe_mark = Unit {0}
IsGood p b (value.an_abi a) = IsSpellableAbi a
IsGood p b (value.a_truth t) = Unit {0}
IsGood p b value.minus_mark = Unit {0}
IsGood p b (value.a_path x) = IsSpellable x × (need x ≤ b)
IsGood p b (value.a_type x) = IsSpellableType x × (need_of_type x ≤ b)
IsGood p b (value.a_constant x) = IsSpellableConstant x
IsGood p b (value.some_arguments x) = AreSpellableArguments x × (need_of_arguments x ≤ b)
IsGood p b (value.some_types x) = AreSpellableTypes x × (need_of_types x ≤ b)
IsGood p b (value.some_bounds x) = AreSpellableBounds x × (need_of_bounds x ≤ b)
IsGood p b (value.some_bindings x) = AreSpellableBindings x × (need_of_bindings x ≤ b)
IsGood p b (value.a_suffix x) = ⊥
IsGood p b value.suffix_rest = Unit {0}
IsGood p b (value.a_symbol x) = (IsSpellable x.path × (need x.path ≤ b)) × IsGoodOther b x.instantiating

-- what has ended can be spelled
abbrev pub IsGoodEnding : Value → Type 0
IsGoodEnding (value.a_path x) = IsSpellable x
IsGoodEnding (value.a_type x) = IsSpellableType x
IsGoodEnding (value.a_constant x) = IsSpellableConstant x
IsGoodEnding _ = Unit {0}

abbrev pub HasGoodEndings : List Ended → Type 0
HasGoodEndings [] = Unit {0}
HasGoodEndings (e ∷ es) = IsGoodEnding e.value × HasGoodEndings es

abbrev pub AllGood : Production → (bound : ℕ) → List Value → Type 0
AllGood p b [] = Unit {0}
AllGood p b (v ∷ vs) = IsGood p b v × AllGood p b vs

-- The parts of a rule whose first part may be a binder. In a function, the binder's lifetimes are bound in all parts after the
-- binder; in a `dyn`, they are bound in the bounds.
abbrev pub FunctionGood : (outer : ℕ) → List Value → Type 0
FunctionGood outer (value.a_binder n ∷ rest) = (n ≤ 1000) × AllGood rules.Function (outer + n) rest
FunctionGood outer known = AllGood rules.Function outer known

abbrev pub DynRest : (outer n : ℕ) → List Value → Type 0
DynRest outer n [] = Unit {0}
DynRest outer n (v ∷ rest) = IsGood rules.Dyn (outer + n) v × AllGood rules.Dyn outer rest

abbrev pub DynGood : (outer : ℕ) → List Value → Type 0
DynGood outer (value.a_binder n ∷ rest) = (n ≤ 1000) × DynRest outer n rest
DynGood outer known = AllGood rules.Dyn outer known

abbrev pub AreGood : Production → (outer : ℕ) → List Value → Type 0
AreGood rules.Function outer known = FunctionGood outer known
AreGood rules.Dyn outer known = DynGood outer known
AreGood p outer known = AllGood p outer known

-- what good parts make is good as a part of any production, and so is what has ended
abbrev pub MadeGood : (bound : ℕ) → Meaning → Type 0
MadeGood b m = Holds (λ f. ((q : Production) → IsGood q b f.value) × HasGoodEndings f.state.ended) m

found-good : (es : List Ended) (place : ℕ) (v : Value) → HasGoodEndings es → ended_at es place ≡ Some v → IsGoodEnding v
found-good [] place v good is = cc
found-good (e ∷ es) place v good is = go (e.place == place) is (found-good es place v good.1)
  where
    go : (b : Bool) → (if b then Some e.value else ended_at es place) ≡ Some v → (ended_at es place ≡ Some v → IsGoodEnding v) → IsGoodEnding v
    go true is more = subst IsGoodEnding (same_Some _ _ is) good.0
    go false is more = more is

plus-none : (outer : ℕ) → outer ≡ outer + 0
plus-none outer = omega arith

-- ## Reading the next part

-- Generated by tools/rust_productions.py.
letter-then : (p : Production) (b : ℕ) (Q : Found Value State → Type 0) (parts : List Value) (f : ℕ × List Value → Meaning) → AllGood p b parts
    → ((x : ℕ) (rest : List Value) → ((x < 256) × (in_ranges letters x ≡ true)) → AllGood p b rest → Holds Q (f (x, rest))) → Holds Q (letter_part parts >>= f)
letter-then p b Q (value.letter n ∷ rest) f good more = more n rest good.0 good.1
letter-then p b Q parts f good more = tt

-- Generated by tools/rust_productions.py.
name-then : (p : Production) (b : ℕ) (Q : Found Value State → Type 0) (parts : List Value) (f : tree.Name × List Value → Meaning) → AllGood p b parts
    → ((x : tree.Name) (rest : List Value) → IsSpellableName x → AllGood p b rest → Holds Q (f (x, rest))) → Holds Q (name_part parts >>= f)
name-then p b Q (value.a_name n ∷ rest) f good more = more n rest good.0 good.1
name-then p b Q parts f good more = tt

-- Generated by tools/rust_productions.py.
identifier-then : (p : Production) (b : ℕ) (Q : Found Value State → Type 0) (parts : List Value) (f : tree.Identifier × List Value → Meaning) → AllGood p b parts
    → ((x : tree.Identifier) (rest : List Value) → IsSpellableIdentifier x → AllGood p b rest → Holds Q (f (x, rest))) → Holds Q (identifier_part parts >>= f)
identifier-then p b Q (value.an_identifier n ∷ rest) f good more = more n rest good.0 good.1
identifier-then p b Q (value.a_name n ∷ rest) f good more = more (record { disambiguator = 0; name = n }) rest (omega arith, good.0) good.1
identifier-then p b Q parts f good more = tt

-- Generated by tools/rust_productions.py.
path-then : (p : Production) (b : ℕ) (Q : Found Value State → Type 0) (parts : List Value) (f : tree.Path × List Value → Meaning) → AllGood p b parts
    → ((x : tree.Path) (rest : List Value) → (IsSpellable x × (need x ≤ b)) → AllGood p b rest → Holds Q (f (x, rest))) → Holds Q (path_part parts >>= f)
path-then p b Q (value.a_path n ∷ rest) f good more = more n rest good.0 good.1
path-then p b Q parts f good more = tt

-- Generated by tools/rust_productions.py.
type-then : (p : Production) (b : ℕ) (Q : Found Value State → Type 0) (parts : List Value) (f : tree.Ty × List Value → Meaning) → AllGood p b parts
    → ((x : tree.Ty) (rest : List Value) → (IsSpellableType x × (need_of_type x ≤ b)) → AllGood p b rest → Holds Q (f (x, rest))) → Holds Q (type_part parts >>= f)
unfolding need_of_type
type-then p b Q (value.a_path n ∷ rest) f good more = more (tree.path_type n) rest good.0 good.1
type-then p b Q (value.a_type n ∷ rest) f good more = more n rest good.0 good.1
type-then p b Q parts f good more = tt

-- Generated by tools/rust_productions.py.
constant-then : (p : Production) (b : ℕ) (Q : Found Value State → Type 0) (parts : List Value) (f : tree.Constant × List Value → Meaning) → AllGood p b parts
    → ((x : tree.Constant) (rest : List Value) → IsSpellableConstant x → AllGood p b rest → Holds Q (f (x, rest))) → Holds Q (constant_part parts >>= f)
constant-then p b Q (value.a_constant n ∷ rest) f good more = more n rest good.0 good.1
constant-then p b Q parts f good more = tt

-- Generated by tools/rust_productions.py.
lifetime-then : (p : Production) (b : ℕ) (Q : Found Value State → Type 0) (parts : List Value) (f : ℕ × List Value → Meaning) → AllGood p b parts
    → ((x : ℕ) (rest : List Value) → ((x ≤ most62) × (x ≤ b)) → AllGood p b rest → Holds Q (f (x, rest))) → Holds Q (lifetime_part parts >>= f)
lifetime-then p b Q (value.a_lifetime n ∷ rest) f good more = more n rest good.0 good.1
lifetime-then p b Q parts f good more = tt

-- Generated by tools/rust_productions.py.
truth-then : (p : Production) (b : ℕ) (Q : Found Value State → Type 0) (parts : List Value) (f : Bool × List Value → Meaning) → AllGood p b parts
    → ((x : Bool) (rest : List Value) → Unit {0} → AllGood p b rest → Holds Q (f (x, rest))) → Holds Q (truth_part parts >>= f)
truth-then p b Q (value.a_truth n ∷ rest) f good more = more n rest good.0 good.1
truth-then p b Q parts f good more = tt

-- Generated by tools/rust_productions.py.
abi-value-then : (p : Production) (b : ℕ) (Q : Found Value State → Type 0) (parts : List Value) (f : tree.Abi × List Value → Meaning) → AllGood p b parts
    → ((x : tree.Abi) (rest : List Value) → IsSpellableAbi x → AllGood p b rest → Holds Q (f (x, rest))) → Holds Q (abi_value_part parts >>= f)
abi-value-then p b Q (value.an_abi n ∷ rest) f good more = more n rest good.0 good.1
abi-value-then p b Q (value.a_name n ∷ rest) f good more = more (tree.named_abi n) rest good.0 good.1
abi-value-then p b Q parts f good more = tt

-- Generated by tools/rust_productions.py.
bounds-then : (p : Production) (b : ℕ) (Q : Found Value State → Type 0) (parts : List Value) (f : tree.Bounds × List Value → Meaning) → AllGood p b parts
    → ((x : tree.Bounds) (rest : List Value) → (AreSpellableBounds x × (need_of_bounds x ≤ b)) → AllGood p b rest → Holds Q (f (x, rest))) → Holds Q (bounds_part parts >>= f)
bounds-then p b Q (value.some_bounds n ∷ rest) f good more = more n rest good.0 good.1
bounds-then p b Q parts f good more = tt

-- Generated by tools/rust_productions.py.
types-then : (p : Production) (b : ℕ) (Q : Found Value State → Type 0) (parts : List Value) (f : tree.Tys × List Value → Meaning) → AllGood p b parts
    → ((x : tree.Tys) (rest : List Value) → (AreSpellableTypes x × (need_of_types x ≤ b)) → AllGood p b rest → Holds Q (f (x, rest))) → Holds Q (types_part parts >>= f)
types-then p b Q (value.some_types n ∷ rest) f good more = more n rest good.0 good.1
types-then p b Q parts f good more = tt

-- Generated by tools/rust_productions.py.
number-then : (p : Production) (b : ℕ) (Q : Found Value State → Type 0) (parts : List Value) (f : ℕ × List Value → Meaning) → AllGood p b parts
    → ((x : ℕ) (rest : List Value) → IsGoodNumber p x → AllGood p b rest → Holds Q (f (x, rest))) → Holds Q (number_part parts >>= f)
number-then p b Q (value.number n ∷ rest) f good more = more n rest good.0 good.1
number-then p b Q parts f good more = tt

-- Generated by tools/rust_productions.py.
integer-then : (p : Production) (b : ℕ) (Q : Found Value State → Type 0) (parts : List Value) (f : value.Integer × List Value → Meaning) → AllGood p b parts
    → ((x : value.Integer) (rest : List Value) → IsGoodInteger p x → AllGood p b rest → Holds Q (f (x, rest))) → Holds Q (integer_part parts >>= f)
integer-then p b Q (value.an_integer n ∷ rest) f good more = more n rest good.0 good.1
integer-then p b Q parts f good more = tt

-- Generated by tools/rust_productions.py.
disambiguator-then : (p : Production) (b : ℕ) (Q : Found Value State → Type 0) (parts : List Value) (f : ℕ × List Value → Meaning) → AllGood p b parts
    → ((x : ℕ) (rest : List Value) → (x ≤ greatest_u64) → AllGood p b rest → Holds Q (f (x, rest))) → Holds Q (disambiguator_part parts >>= f)
disambiguator-then p b Q (value.a_disambiguator n ∷ rest) f good more = more n rest good.0 good.1
disambiguator-then p b Q parts f good more = more 0 parts (omega arith) good

-- Generated by tools/rust_productions.py.
some-lifetime-then : (p : Production) (b : ℕ) (Q : Found Value State → Type 0) (parts : List Value) (f : ℕ × List Value → Meaning) → AllGood p b parts
    → ((x : ℕ) (rest : List Value) → ((x ≤ most62) × (x ≤ b)) → AllGood p b rest → Holds Q (f (x, rest))) → Holds Q (some_lifetime_part parts >>= f)
some-lifetime-then p b Q (value.a_lifetime n ∷ rest) f good more = more n rest good.0 good.1
some-lifetime-then p b Q parts f good more = more 0 parts (omega arith, omega arith) good

-- Generated by tools/rust_productions.py.
unsafe-then : (p : Production) (b : ℕ) (Q : Found Value State → Type 0) (parts : List Value) (f : Bool × List Value → Meaning) → AllGood p b parts
    → ((x : Bool) (rest : List Value) → Unit {0} → AllGood p b rest → Holds Q (f (x, rest))) → Holds Q (unsafe_part parts >>= f)
unsafe-then p b Q (value.unsafe_mark ∷ rest) f good more = more true rest good.0 good.1
unsafe-then p b Q parts f good more = more false parts tt good

-- Generated by tools/rust_productions.py.
minus-then : (p : Production) (b : ℕ) (Q : Found Value State → Type 0) (parts : List Value) (f : Bool × List Value → Meaning) → AllGood p b parts
    → ((x : Bool) (rest : List Value) → Unit {0} → AllGood p b rest → Holds Q (f (x, rest))) → Holds Q (minus_part parts >>= f)
minus-then p b Q (value.minus_mark ∷ rest) f good more = more true rest good.0 good.1
minus-then p b Q parts f good more = more false parts tt good

-- Generated by tools/rust_productions.py.
abi-then : (p : Production) (b : ℕ) (Q : Found Value State → Type 0) (parts : List Value) (f : tree.Abi × List Value → Meaning) → AllGood p b parts
    → ((x : tree.Abi) (rest : List Value) → IsSpellableAbi x → AllGood p b rest → Holds Q (f (x, rest))) → Holds Q (abi_part parts >>= f)
abi-then p b Q (value.an_abi n ∷ rest) f good more = more n rest good.0 good.1
abi-then p b Q parts f good more = more tree.rust_abi parts tt good

-- Generated by tools/rust_productions.py.
arguments-then : (p : Production) (b : ℕ) (Q : Found Value State → Type 0) (parts : List Value) (f : tree.Arguments × List Value → Meaning) → AllGood p b parts
    → ((x : tree.Arguments) (rest : List Value) → (AreSpellableArguments x × (need_of_arguments x ≤ b)) → AllGood p b rest → Holds Q (f (x, rest))) → Holds Q (arguments_part parts >>= f)
unfolding need_of_arguments
arguments-then p b Q (value.some_arguments n ∷ rest) f good more = more n rest good.0 good.1
arguments-then p b Q parts f good more = more tree.no_arguments parts (tt, omega arith) good

-- Generated by tools/rust_productions.py.
bindings-then : (p : Production) (b : ℕ) (Q : Found Value State → Type 0) (parts : List Value) (f : tree.Bindings × List Value → Meaning) → AllGood p b parts
    → ((x : tree.Bindings) (rest : List Value) → (AreSpellableBindings x × (need_of_bindings x ≤ b)) → AllGood p b rest → Holds Q (f (x, rest))) → Holds Q (bindings_part parts >>= f)
unfolding need_of_bindings
bindings-then p b Q (value.some_bindings n ∷ rest) f good more = more n rest good.0 good.1
bindings-then p b Q parts f good more = more tree.no_bindings parts (tt, omega arith) good

function-binder-then : (outer : ℕ) (Q : Found Value State → Type 0) (parts : List Value) (f : ℕ × List Value → Meaning) → FunctionGood outer parts
    → ((n : ℕ) (rest : List Value) → n ≤ 1000 → AllGood rules.Function (outer + n) rest → Holds Q (f (n, rest))) → Holds Q (binder_part parts >>= f)
function-binder-then outer Q (value.a_binder n ∷ rest) f good more = more n rest good.0 good.1
function-binder-then outer Q parts f good more = more 0 parts (omega arith) (subst (λ b. AllGood rules.Function b parts) (plus-none outer) good)

dyn-rest : (outer : ℕ) (parts : List Value) → AllGood rules.Dyn outer parts → DynRest outer 0 parts
dyn-rest outer [] good = tt
dyn-rest outer (v ∷ rest) good = (subst (λ b. IsGood rules.Dyn b v) (plus-none outer) good.0, good.1)

dyn-binder-then : (outer : ℕ) (Q : Found Value State → Type 0) (parts : List Value) (f : ℕ × List Value → Meaning) → DynGood outer parts
    → ((n : ℕ) (rest : List Value) → n ≤ 1000 → DynRest outer n rest → Holds Q (f (n, rest))) → Holds Q (binder_part parts >>= f)
dyn-binder-then outer Q (value.a_binder n ∷ rest) f good more = more n rest good.0 good.1
dyn-binder-then outer Q parts f good more = more 0 parts (omega arith) (dyn-rest outer parts good)

dyn-bounds-then : (outer n : ℕ) (Q : Found Value State → Type 0) (parts : List Value) (f : tree.Bounds × List Value → Meaning) → DynRest outer n parts
    → ((x : tree.Bounds) (rest : List Value) → (AreSpellableBounds x × (need_of_bounds x ≤ outer + n)) → AllGood rules.Dyn outer rest → Holds Q (f (x, rest))) → Holds Q (bounds_part parts >>= f)
dyn-bounds-then outer n Q (value.some_bounds i ∷ rest) f good more = more i rest good.0 good.1
dyn-bounds-then outer n Q parts f good more = tt

pub bounded-then : (Q : Found Value State → Type 0) (at : At) (limit n : ℕ) (f : ℕ → Meaning) → (n ≤ limit → Holds Q (f n)) → Holds Q (bounded at limit n >>= f)
bounded-then Q at limit n f more = go (nat_le n limit) refl
  where
    go : (t : Bool) → nat_le n limit ≡ t → Holds Q ((if t then Ok n else Err (BadValue at.place)) >>= f)
    go true is = more (leb-true n limit is)
    go false is = tt

-- ## What each production makes

made-Lifetime : (at : At) (parts : List Value) → AllGood rules.Lifetime at.bound parts → HasGoodEndings at.ended → MadeGood at.bound (meaning rules.Lifetime at parts)
made-Lifetime at parts good endings = number-then rules.Lifetime at.bound _ parts _ good (λ n r0 n-is g0. go n n-is (nat_le n at.bound) refl)
  where
    go : (n : ℕ) → n ≤ most62 → (t : Bool) → nat_le n at.bound ≡ t → MadeGood at.bound (if t then plain at (value.a_lifetime n) else Err (BadReference at.place))
    go n few true is = (λ q. (few, leb-true n at.bound is), endings)
    go n few false is = tt

path-referred : (at : At) (o : Option Value) → ((v : Value) → o ≡ Some v → IsGoodEnding v) → HasGoodEndings at.ended → MadeGood at.bound (refers_to_path at (as_path o))
path-referred at None known endings = tt
path-referred at (Some (value.a_path x)) known endings = go (nat_le (need x) at.bound) refl
  where
    go : (t : Bool) → nat_le (need x) at.bound ≡ t → MadeGood at.bound (if t then ends_path at x else Err (BadReference at.place))
    go true is = (λ q. (known (value.a_path x) refl, leb-true (need x) at.bound is), (known (value.a_path x) refl, endings))
    go false is = tt
path-referred at (Some (value.a_type (tree.path_type x))) known endings = go (nat_le (need x) at.bound) refl
  where
    go : (t : Bool) → nat_le (need x) at.bound ≡ t → MadeGood at.bound (if t then ends_path at x else Err (BadReference at.place))
    go true is = (λ q. (known (value.a_type (tree.path_type x)) refl, leb-true (need x) at.bound is), (known (value.a_type (tree.path_type x)) refl, endings))
    go false is = tt
path-referred at (Some (value.a_type _)) known endings = tt
path-referred at (Some _) known endings = tt

type-tested : (at : At) (x : tree.Ty) → IsSpellableType x → HasGoodEndings at.ended → MadeGood at.bound (refers_to_type at (Some x))
type-tested at x good endings = go (nat_le (need_of_type x) at.bound) refl
  where
    go : (t : Bool) → nat_le (need_of_type x) at.bound ≡ t → MadeGood at.bound (if t then ends_type at x else Err (BadReference at.place))
    go true is = (λ q. (good, leb-true (need_of_type x) at.bound is), (good, endings))
    go false is = tt

type-referred : (at : At) (o : Option Value) → ((v : Value) → o ≡ Some v → IsGoodEnding v) → HasGoodEndings at.ended → MadeGood at.bound (refers_to_type at (as_type o))
type-referred at None known endings = tt
type-referred at (Some (value.a_path x)) known endings = type-tested at (tree.path_type x) (known (value.a_path x) refl) endings
type-referred at (Some (value.a_type x)) known endings = type-tested at x (known (value.a_type x) refl) endings
type-referred at (Some _) known endings = tt

constant-referred : (at : At) (o : Option Value) → ((v : Value) → o ≡ Some v → IsGoodEnding v) → HasGoodEndings at.ended → MadeGood at.bound (refers_to_constant at (as_constant o))
constant-referred at None known endings = tt
constant-referred at (Some (value.a_constant x)) known endings = (λ q. known (value.a_constant x) refl, (known (value.a_constant x) refl, endings))
constant-referred at (Some _) known endings = tt

-- an integer that its letter allows, and that has at most 128 bits, can be spelled
integer-good : (c : ℕ) (i : Integer) → c < 256 → i.magnitude ≤ greatest_u128 → IsSpellableInteger c i.minus i.magnitude → IsSpellableConstant (tree.integer c i.minus i.magnitude)
integer-good c i byte few good = (byte, few, good)

signed-good : (c : ℕ) (b : Bool) (n : ℕ) → is_signed c ≡ true → (b ≡ true → 0 < n) → IsSpellableInteger c b n
signed-good c true n signed some = (signed, some refl)
signed-good c false n signed some = inl signed

made-SignedConstant : (at : At) (parts : List Value) → byte_at at < 256 → is_signed (byte_at at) ≡ true → AllGood rules.SignedConstant at.bound parts → HasGoodEndings at.ended → MadeGood at.bound (meaning rules.SignedConstant at parts)
made-SignedConstant at parts byte signed good endings =
    minus-then rules.SignedConstant at.bound _ parts _ good (λ m r0 m-is g0.
    integer-then rules.SignedConstant at.bound _ r0 _ g0 (λ i r1 i-is g1.
    bounded-then _ at greatest_u128 i.magnitude _ (λ few.
    let whole = integer-good (byte_at at) i byte few (signed-good (byte_at at) i.minus i.magnitude signed i-is) in (λ q. whole, (whole, endings)))))

unsigned-not-signed : (c : ℕ) → is_unsigned c ≡ true → is_signed c ≡ false
unsigned-not-signed c h = grind (arith, nat_tests)

unsigned-good : (c : ℕ) (b : Bool) (n : ℕ) → is_unsigned c ≡ true → b ≡ false → IsSpellableInteger c b n
unsigned-good c true n unsigned none = cc
unsigned-good c false n unsigned none = inr (unsigned-not-signed c unsigned, unsigned)

-- the bytes that a production allows, if it allows only some
abbrev pub expected : Production → Option (List ByteRange)
expected rules.Namespace = Some letters
expected rules.BasicType = Some basic_letters
expected rules.SignedConstant = Some (each (signed_letters))
expected rules.UnsignedConstant = Some (each (unsigned_letters))
expected _ = None

abbrev pub FitsByte : Option (List ByteRange) → ℕ → Type 0
FitsByte None b = Unit {0}
FitsByte (Some ranges) b = (b < 256) × (in_ranges ranges b ≡ true)

made-CharConstant : (at : At) (parts : List Value) → AllGood rules.CharConstant at.bound parts → HasGoodEndings at.ended → MadeGood at.bound (meaning rules.CharConstant at parts)
made-CharConstant at parts good endings = number-then rules.CharConstant at.bound _ parts _ good (λ n r0 n-is g0. go n (is_scalar n) refl)
  where
    go : (n : ℕ) (t : Bool) → is_scalar n ≡ t → MadeGood at.bound (if t then ends_constant at (tree.character n) else Err (BadValue at.place))
    go n true is = (λ q. is, (is, endings))
    go n false is = tt

made-UnsignedConstant : (at : At) (parts : List Value) → byte_at at < 256 → is_unsigned (byte_at at) ≡ true → AllGood rules.UnsignedConstant at.bound parts → HasGoodEndings at.ended → MadeGood at.bound (meaning rules.UnsignedConstant at parts)
made-UnsignedConstant at parts byte unsigned good endings =
    integer-then rules.UnsignedConstant at.bound _ parts _ good (λ i r0 i-is g0.
    bounded-then _ at greatest_u128 i.magnitude _ (λ few.
    let whole = integer-good (byte_at at) i byte few (unsigned-good (byte_at at) i.minus i.magnitude unsigned i-is) in (λ q. whole, (whole, endings))))

-- the productions inside a symbol
abbrev pub is_inner : Production → Bool
is_inner rules.Symbol = false
is_inner rules.Suffix = false
is_inner _ = true

-- each production makes something good of good parts
pub made : (p : Production) (at : At) (parts : List Value) → is_inner p ≡ true → FitsByte (expected p) (byte_at at) → AreGood p at.bound parts → HasGoodEndings at.ended → MadeGood at.bound (meaning p at parts)
unfolding need need_of_arguments need_of_type need_of_types need_of_bounds need_of_bindings
made rules.DisambiguatedIdentifier at parts inner byte good endings =
    number-then rules.DisambiguatedIdentifier at.bound _ parts _ good (λ n r0 n-is g0.
    name-then rules.DisambiguatedIdentifier at.bound _ r0 _ g0 (λ m r1 m-is g1. bounded-then _ at greatest_u64 (n + 1) _ (λ few. (λ q. (few, m-is), endings))))
made rules.Disambiguator at parts inner byte good endings =
    number-then rules.Disambiguator at.bound _ parts _ good (λ n r0 n-is g0. bounded-then _ at greatest_u64 (n + 1) _ (λ few. (λ q. few, endings)))
made rules.Binder at parts inner byte good endings =
    number-then rules.Binder at.bound _ parts _ good (λ n r0 n-is g0. bounded-then _ at 1000 (n + 1) _ (λ few. (λ q. few, endings)))
made rules.PunycodeName at parts inner byte good endings =
    name-then rules.PunycodeName at.bound _ parts _ good (λ m r0 m-is g0. (λ q. m-is, endings))
made rules.PlainName at parts inner byte good endings =
    name-then rules.PlainName at.bound _ parts _ good (λ m r0 m-is g0. (λ q. m-is, endings))
made rules.Abi at parts inner byte good endings =
    abi-value-then rules.Abi at.bound _ parts _ good (λ a r0 a-is g0. (λ q. a-is, endings))
made rules.Function at parts inner byte good endings =
    function-binder-then at.bound _ parts _ good (λ n r0 n-is g0.
    unsafe-then rules.Function (at.bound + n) _ r0 _ g0 (λ u r1 u-is g1.
    abi-then rules.Function (at.bound + n) _ r1 _ g1 (λ a r2 a-is g2.
    types-then rules.Function (at.bound + n) _ r2 _ g2 (λ ts r3 ts-is g3.
    type-then rules.Function (at.bound + n) _ r3 _ g3 (λ t r4 t-is g4.
    (λ q. ((n-is, a-is, ts-is.0, t-is.0), omega (arith, ts-is.1, t-is.1)), ((n-is, a-is, ts-is.0, t-is.0), endings)))))))
made rules.Dyn at parts inner byte good endings =
    dyn-binder-then at.bound _ parts _ good (λ n r0 n-is g0.
    dyn-bounds-then at.bound n _ r0 _ g0 (λ x r1 x-is g1.
    lifetime-then rules.Dyn at.bound _ r1 _ g1 (λ l r2 l-is g2.
    (λ q. ((n-is, x-is.0, l-is.0), omega (arith, x-is.1, l-is.1)), ((n-is, x-is.0, l-is.0), endings)))))
made rules.Lifetime at parts inner byte good endings = made-Lifetime at parts good endings
made rules.PathReference at parts inner byte good endings =
    number-then rules.PathReference at.bound _ parts _ good (λ n r0 n-is g0. path-referred at (referred at n) (λ v is. found-good at.ended (n + 2) v endings is) endings)
made rules.TypeReference at parts inner byte good endings =
    number-then rules.TypeReference at.bound _ parts _ good (λ n r0 n-is g0. type-referred at (referred at n) (λ v is. found-good at.ended (n + 2) v endings is) endings)
made rules.ConstantReference at parts inner byte good endings =
    number-then rules.ConstantReference at.bound _ parts _ good (λ n r0 n-is g0. constant-referred at (referred at n) (λ v is. found-good at.ended (n + 2) v endings is) endings)
made rules.CharConstant at parts inner byte good endings = made-CharConstant at parts good endings
made rules.Symbol at parts inner byte good endings = cc
made rules.SignedConstant at parts inner byte good endings = made-SignedConstant at parts byte.0 byte.1 good endings
made rules.UnsignedConstant at parts inner byte good endings = made-UnsignedConstant at parts byte.0 byte.1 good endings
made rules.Suffix at parts inner byte good endings = cc
made rules.SuffixByte at parts inner byte good endings = (λ q. tt, endings)
made rules.Namespace at parts inner byte good endings = (λ q. byte, endings)
made rules.BasicType at parts inner byte good endings = (λ q. (byte, omega arith), (byte, endings))
made rules.TypesEnd at parts inner byte good endings = (λ q. (tt, omega arith), endings)
made rules.Unsafe at parts inner byte good endings = (λ q. tt, endings)
made rules.AbiC at parts inner byte good endings = (λ q. tt, endings)
made rules.BoundsEnd at parts inner byte good endings = (λ q. (tt, omega arith), endings)
made rules.Placeholder at parts inner byte good endings = (λ q. tt, (tt, endings))
made rules.Minus at parts inner byte good endings = (λ q. tt, endings)
made rules.False at parts inner byte good endings = (λ q. tt, endings)
made rules.True at parts inner byte good endings = (λ q. tt, endings)
-- Generated by tools/rust_productions.py.
made rules.Crate at parts inner byte good endings =
    identifier-then rules.Crate at.bound _ parts _ good (λ x0 r0 x0-is g0.
    (λ q. (x0-is, omega arith), (x0-is, endings)))
made rules.InherentImpl at parts inner byte good endings =
    disambiguator-then rules.InherentImpl at.bound _ parts _ good (λ x0 r0 x0-is g0.
    path-then rules.InherentImpl at.bound _ r0 _ g0 (λ x1 r1 x1-is g1.
    type-then rules.InherentImpl at.bound _ r1 _ g1 (λ x2 r2 x2-is g2.
    (λ q. ((x0-is, x1-is.0, x2-is.0), omega (arith, x1-is.1, x2-is.1)), ((x0-is, x1-is.0, x2-is.0), endings)))))
made rules.TraitImpl at parts inner byte good endings =
    disambiguator-then rules.TraitImpl at.bound _ parts _ good (λ x0 r0 x0-is g0.
    path-then rules.TraitImpl at.bound _ r0 _ g0 (λ x1 r1 x1-is g1.
    type-then rules.TraitImpl at.bound _ r1 _ g1 (λ x2 r2 x2-is g2.
    path-then rules.TraitImpl at.bound _ r2 _ g2 (λ x3 r3 x3-is g3.
    (λ q. ((x0-is, x1-is.0, x2-is.0, x3-is.0), omega (arith, x1-is.1, x2-is.1, x3-is.1)), ((x0-is, x1-is.0, x2-is.0, x3-is.0), endings))))))
made rules.TraitDefinition at parts inner byte good endings =
    type-then rules.TraitDefinition at.bound _ parts _ good (λ x0 r0 x0-is g0.
    path-then rules.TraitDefinition at.bound _ r0 _ g0 (λ x1 r1 x1-is g1.
    (λ q. ((x0-is.0, x1-is.0), omega (arith, x0-is.1, x1-is.1)), ((x0-is.0, x1-is.0), endings))))
made rules.Nested at parts inner byte good endings =
    letter-then rules.Nested at.bound _ parts _ good (λ x0 r0 x0-is g0.
    path-then rules.Nested at.bound _ r0 _ g0 (λ x1 r1 x1-is g1.
    identifier-then rules.Nested at.bound _ r1 _ g1 (λ x2 r2 x2-is g2.
    (λ q. ((x0-is, x1-is.0, x2-is), omega (arith, x1-is.1)), ((x0-is, x1-is.0, x2-is), endings)))))
made rules.Generic at parts inner byte good endings =
    path-then rules.Generic at.bound _ parts _ good (λ x0 r0 x0-is g0.
    arguments-then rules.Generic at.bound _ r0 _ g0 (λ x1 r1 x1-is g1.
    (λ q. ((x0-is.0, x1-is.0), omega (arith, x0-is.1, x1-is.1)), ((x0-is.0, x1-is.0), endings))))
made rules.LifetimeArgument at parts inner byte good endings =
    lifetime-then rules.LifetimeArgument at.bound _ parts _ good (λ x0 r0 x0-is g0.
    arguments-then rules.LifetimeArgument at.bound _ r0 _ g0 (λ x1 r1 x1-is g1.
    (λ q. ((x0-is.0, x1-is.0), omega (arith, x0-is.1, x1-is.1)), endings)))
made rules.ConstantArgument at parts inner byte good endings =
    constant-then rules.ConstantArgument at.bound _ parts _ good (λ x0 r0 x0-is g0.
    arguments-then rules.ConstantArgument at.bound _ r0 _ g0 (λ x1 r1 x1-is g1.
    (λ q. ((x0-is, x1-is.0), omega (arith, x1-is.1)), endings)))
made rules.TypeArgument at parts inner byte good endings =
    type-then rules.TypeArgument at.bound _ parts _ good (λ x0 r0 x0-is g0.
    arguments-then rules.TypeArgument at.bound _ r0 _ g0 (λ x1 r1 x1-is g1.
    (λ q. ((x0-is.0, x1-is.0), omega (arith, x0-is.1, x1-is.1)), endings)))
made rules.Array at parts inner byte good endings =
    type-then rules.Array at.bound _ parts _ good (λ x0 r0 x0-is g0.
    constant-then rules.Array at.bound _ r0 _ g0 (λ x1 r1 x1-is g1.
    (λ q. ((x0-is.0, x1-is), omega (arith, x0-is.1)), ((x0-is.0, x1-is), endings))))
made rules.Slice at parts inner byte good endings =
    type-then rules.Slice at.bound _ parts _ good (λ x0 r0 x0-is g0.
    (λ q. (x0-is.0, omega (arith, x0-is.1)), (x0-is.0, endings)))
made rules.Tuple at parts inner byte good endings =
    types-then rules.Tuple at.bound _ parts _ good (λ x0 r0 x0-is g0.
    (λ q. (x0-is.0, omega (arith, x0-is.1)), (x0-is.0, endings)))
made rules.SharedReference at parts inner byte good endings =
    some-lifetime-then rules.SharedReference at.bound _ parts _ good (λ x0 r0 x0-is g0.
    type-then rules.SharedReference at.bound _ r0 _ g0 (λ x1 r1 x1-is g1.
    (λ q. ((x0-is.0, x1-is.0), omega (arith, x0-is.1, x1-is.1)), ((x0-is.0, x1-is.0), endings))))
made rules.MutableReference at parts inner byte good endings =
    some-lifetime-then rules.MutableReference at.bound _ parts _ good (λ x0 r0 x0-is g0.
    type-then rules.MutableReference at.bound _ r0 _ g0 (λ x1 r1 x1-is g1.
    (λ q. ((x0-is.0, x1-is.0), omega (arith, x0-is.1, x1-is.1)), ((x0-is.0, x1-is.0), endings))))
made rules.ConstPointer at parts inner byte good endings =
    type-then rules.ConstPointer at.bound _ parts _ good (λ x0 r0 x0-is g0.
    (λ q. (x0-is.0, omega (arith, x0-is.1)), (x0-is.0, endings)))
made rules.MutPointer at parts inner byte good endings =
    type-then rules.MutPointer at.bound _ parts _ good (λ x0 r0 x0-is g0.
    (λ q. (x0-is.0, omega (arith, x0-is.1)), (x0-is.0, endings)))
made rules.TypesMore at parts inner byte good endings =
    type-then rules.TypesMore at.bound _ parts _ good (λ x0 r0 x0-is g0.
    types-then rules.TypesMore at.bound _ r0 _ g0 (λ x1 r1 x1-is g1.
    (λ q. ((x0-is.0, x1-is.0), omega (arith, x0-is.1, x1-is.1)), endings)))
made rules.BoundsMore at parts inner byte good endings =
    path-then rules.BoundsMore at.bound _ parts _ good (λ x0 r0 x0-is g0.
    bindings-then rules.BoundsMore at.bound _ r0 _ g0 (λ x1 r1 x1-is g1.
    bounds-then rules.BoundsMore at.bound _ r1 _ g1 (λ x2 r2 x2-is g2.
    (λ q. ((x0-is.0, x1-is.0, x2-is.0), omega (arith, x0-is.1, x1-is.1, x2-is.1)), endings))))
made rules.Binding at parts inner byte good endings =
    name-then rules.Binding at.bound _ parts _ good (λ x0 r0 x0-is g0.
    type-then rules.Binding at.bound _ r0 _ g0 (λ x1 r1 x1-is g1.
    bindings-then rules.Binding at.bound _ r1 _ g1 (λ x2 r2 x2-is g2.
    (λ q. ((x0-is, x1-is.0, x2-is.0), omega (arith, x1-is.1, x2-is.1)), endings))))
made rules.BoolConstant at parts inner byte good endings =
    truth-then rules.BoolConstant at.bound _ parts _ good (λ x0 r0 x0-is g0.
    (λ q. tt, (tt, endings)))
