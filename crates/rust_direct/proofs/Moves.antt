-- The moves of a writer of Rust symbols, over those of any language: names, numbers and paths.
use Rattle.rust_direct.proofs.Basics.{◌≡◌, ℕ, zero, suc, ◌+◌, ◌<◌, ◌≤◌, List, [], ◌∷◌, length, inl, inr, true, false, nat_le, Some, None, Ok, refl, ap, sym, subst, arith, slice_index, if◌then◌else◌, le-leb, leb-true, and_parts, or_cases, false≢true, Base62, bytes_of, Rule, Kind, Number, Name, TakesRule, standing, opened, StandsAt, Production, PATH, NAMESPACE, IDENTIFIER, NAME, v0_table, taking, chaining, Value, State, number, letter, a_name, an_identifier, a_path, token_of, value62, identifier_part, greatest_u64, rust_language, Opened, Comes, ComesAll, Expects, within, behind, with_ended, Wanted, path, other_path, type, kind_of, IsNumberAt, IsNameAt, IsDisambiguatorAt, identifier, is_namespace, NameGoesOn}
use Rattle.sym_shape.specs.Sheet.{range, in_range, in_ranges}
use Rattle.sym_direct.specs.Holes as direct
use Rattle.sym_direct.proofs.Moves as moves
use Rattle.rust_tree.specs.Symbol as tree

pub comes-moved : (s : List ℕ) (os : List Opened) (vs : List Value) (at to : ℕ) (st : State) → at ≡ to → ComesAll s os vs at st → ComesAll s os vs to st
comes-moved s os vs at to st same = subst (λ k. ComesAll s os vs k st) same

pub expects-moved : (s : List ℕ) (kind : ℕ) (os : List Opened) (at to : ℕ) (st : State) → at ≡ to → Expects s kind os at st → Expects s kind os to st
expects-moved s kind os at to st same = subst (λ k. Expects s kind os k st) same

-- ## Names and numbers

abbrev plain_rule : Rule
plain_rule = chaining Production.PlainName (Name ∷ [])

abbrev a_plain : List ℕ → Value
a_plain name = a_name (record { punycode = false; bytes = name })

none-more : (n : ℕ) → n + 0 ≡ n
none-more n = omega arith

-- a name is accepted where a kind that takes a name is expected
plain-comes : (s : List ℕ) (kind : ℕ) (os : List Opened) (at : ℕ) (st : State) (name : List ℕ) (end : ℕ) → TakesRule v0_table kind plain_rule []
    → Expects s kind os at st → IsNameAt s at name end → Comes s os (a_plain name) end (behind st)
plain-comes s kind os at st name end takes expects is =
    let rule = standing plain_rule [] at 0 st in
    let awaits : direct.Expects rust_language s Name 0 (opened rule [] [] ∷ os) (at + 0) (within Production.PlainName st) =
    moves.first-of rust_language s kind plain_rule [] 0 os at st st Name []
    (record { context = 0; values = []; state = within Production.PlainName st }) takes (λ f. refl) refl refl expects (moves.stands-none s at) in
    let there : direct.Expects rust_language s Name 0 (opened rule [] [] ∷ os) at (within Production.PlainName st) =
    subst (λ k. direct.Expects rust_language s Name 0 (opened rule [] [] ∷ os) k (within Production.PlainName st)) (none-more at) awaits in
    subst (λ l. Comes s os (a_plain l) end (behind st)) is.own
    (subst (λ k. Comes s os (a_plain is.token.own) k (behind st)) (sym is.ends)
    (moves.last-of rust_language s rule [] (a_plain is.token.own ∷ []) os (at + length (bytes_of is.token)) (within Production.PlainName st)
    (a_plain is.token.own) (behind st) refl
    (moves.expects-token rust_language s Name 0 (opened rule [] [] ∷ os) at (within Production.PlainName st) is.token (a_plain is.token.own)
    (within Production.PlainName st) there is.is_name refl is.stands)))

takes-name : TakesRule v0_table NAME plain_rule []
takes-name = record { byte = 48; is_byte = omega arith; found = refl; takes = refl }

takes-plain : TakesRule v0_table IDENTIFIER plain_rule []
takes-plain = record { byte = 48; is_byte = omega arith; found = refl; takes = refl }

-- a number in base 62 is a part of these productions
pub number-comes : (s : List ℕ) (p : Production) (os : List Opened) (at : ℕ) (st : State) (n end : ℕ)
    → ((own : List ℕ) → token_of (Some p) false own ≡ number (value62 own))
    → direct.Expects rust_language s (Number Base62) 0 os at (within p st) → IsNumberAt s at n end → Comes s os (number n) end (within p st)
number-comes s p os at st n end means expects is =
    subst (λ k. Comes s os (number k) end (within p st)) is.counts
    (subst (λ k. Comes s os (number (value62 is.token.own)) k (within p st)) (sym is.ends)
    (moves.expects-token rust_language s (Number Base62) 0 os at (within p st) is.token (number (value62 is.token.own))
    (within p st) expects is.is_number (ap (λ v. Ok (record { value = v; state = within p st })) (means is.token.own)) is.stands))

-- ## Identifiers

abbrev counted_rule : Rule
counted_rule = taking Production.DisambiguatedIdentifier (Number Base62 ∷ Kind NAME ∷ [])

takes-counted : TakesRule v0_table IDENTIFIER counted_rule (115 ∷ [])
takes-counted = record { byte = 115; is_byte = omega arith; found = refl; takes = refl }

-- an identifier comes
pub identifier-comes : (s : List ℕ) (os : List Opened) (at : ℕ) (st : State) (count middle : ℕ) (name : List ℕ) (end : ℕ)
    → IsDisambiguatorAt s at count middle → IsNameAt s middle name end → Expects s IDENTIFIER os at st
    → (v : Value) × (identifier_part (v ∷ []) ≡ Ok (identifier count name, [])) × Comes s os v end (behind st)
identifier-comes s os at st count middle name end (inl none) is expects = (
  a_plain name,
  ap (λ c. Ok (identifier c name, [])) (sym none.0),
  plain-comes s IDENTIFIER os at st name end takes-plain expects (subst (λ k. IsNameAt s k name end) none.1 is),
)
identifier-comes s os at st count middle name end (inr some) is expects =
    let n = some.0 in
    let p = Production.DisambiguatedIdentifier in
    let rule = standing counted_rule (115 ∷ []) at 0 st in
    let awaits = moves.first-of rust_language s IDENTIFIER counted_rule (115 ∷ []) 0 os at st st (Number Base62) (Kind NAME ∷ [])
    (record { context = 0; values = []; state = within p st }) takes-counted (λ f. refl) refl refl expects some.1 in
    let counted = number-comes s p (opened rule [] (Kind NAME ∷ []) ∷ os) (at + 1) st n middle (λ own. refl) awaits some.2 in
    let named = moves.next-of rust_language s rule [] (number n ∷ []) (Kind NAME) [] os middle (within p st)
    (record { context = 0; values = number n ∷ []; state = within p st }) refl counted in
    let comes = plain-comes s NAME (opened rule (number n ∷ []) [] ∷ os) middle (within p st) name end takes-name named is in (
      an_identifier (identifier count name),
      refl,
      moves.last-of rust_language s rule (number n ∷ []) (a_plain name ∷ []) os end (behind st) (an_identifier (identifier count name)) (behind st)
          (closes n count (behind st) at some.3 some.4) comes,
    )
  where
    closes : (n count : ℕ) (now : State) (place : ℕ) → count ≡ n + 1 → count ≤ greatest_u64
        → (rust_language.reading s).close (standing counted_rule (115 ∷ []) place 0 st) (number n ∷ a_plain name ∷ []) now
        ≡ Ok (record { value = an_identifier (identifier count name); state = behind now })
    closes n count now place is few = rw (is, le-leb (n + 1) greatest_u64 (omega (arith, is, few))) refl

-- ## Paths

-- a rule takes the byte where a path is expected
abbrev pub TakesAll : Rule → List ℕ → Type 0
TakesAll rule taken = (w : Wanted) → TakesRule v0_table (kind_of w) rule taken

abbrev crate_rule : Rule
crate_rule = taking Production.Crate (Kind IDENTIFIER ∷ [])

takes-crate : TakesAll crate_rule (67 ∷ [])
takes-crate path = record { byte = 67; is_byte = omega arith; found = refl; takes = refl }
takes-crate other_path = record { byte = 67; is_byte = omega arith; found = refl; takes = refl }
takes-crate type = record { byte = 67; is_byte = omega arith; found = refl; takes = refl }

-- a crate comes
pub crate-comes : (s : List ℕ) (w : Wanted) (os : List Opened) (at : ℕ) (st : State) (count middle : ℕ) (name : List ℕ) (end : ℕ)
    → Expects s (kind_of w) os at st → StandsAt s at (67 ∷ []) → IsDisambiguatorAt s (at + 1) count middle → IsNameAt s middle name end
    → Comes s os (a_path (tree.crate_root (identifier count name))) end (with_ended at (a_path (tree.crate_root (identifier count name))) st)
crate-comes s w os at st count middle name end expects stands counted named =
    let p = Production.Crate in
    let rule = standing crate_rule (67 ∷ []) at 0 st in
    let awaits = moves.first-of rust_language s (kind_of w) crate_rule (67 ∷ []) 0 os at st st (Kind IDENTIFIER) []
    (record { context = 0; values = []; state = within p st }) (takes-crate w) (λ f. refl) refl refl expects stands in
    let is = identifier-comes s (opened rule [] [] ∷ os) (at + 1) (within p st) count middle name end counted named awaits in
    let made = a_path (tree.crate_root (identifier count name)) in
    moves.last-of rust_language s rule [] (is.0 ∷ []) os end (behind st) made (with_ended at made st) (rw is.1 refl) is.2

-- ## Paths in a namespace

-- the byte that is at a place is found there
pub byte-there : (s : List ℕ) (at b : ℕ) → StandsAt s at (b ∷ []) → slice_index s at ≡ b
byte-there [] zero b stands = cc stands.1
byte-there [] (suc at) b stands = cc stands.1
byte-there (c ∷ cs) zero b stands = cc stands.1
byte-there (c ∷ cs) (suc at) b stands = byte-there cs at b (stands.0, stands.1)

abbrev namespace_rule : Rule
namespace_rule = taking Production.Namespace []

in-range : (low high b : ℕ) → in_range (range low high) b ≡ true → b ≤ high
in-range low high b is = leb-true b high (and_parts (nat_le low b) (nat_le b high) is).1

namespace-small : (b : ℕ) → is_namespace b ≡ true → b < 256
unfolding is_namespace
namespace-small b is = elim (or_cases (in_range (range 65 90) b) (in_ranges (range 97 122 ∷ []) b) is) [
  | inl upper ↦ omega (arith, in-range 65 90 b upper)
  | inr other ↦ elim (or_cases (in_range (range 97 122) b) false other) [
    | inl lower ↦ omega (arith, in-range 97 122 b lower)
    | inr none ↦ absurd (false≢true none)
  ]
]

takes-namespace : (b : ℕ) → is_namespace b ≡ true → TakesRule v0_table NAMESPACE namespace_rule (b ∷ [])
unfolding is_namespace
takes-namespace b is = record {
  byte = b;
  is_byte = namespace-small b is;
  found = ap (λ x. if x then Some namespace_rule else None) is;
  takes = refl;
}

abbrev nest_rule : Rule
nest_rule = taking Production.Nested (Kind NAMESPACE ∷ Kind PATH ∷ Kind IDENTIFIER ∷ [])

takes-nest : TakesAll nest_rule (78 ∷ [])
takes-nest path = record { byte = 78; is_byte = omega arith; found = refl; takes = refl }
takes-nest other_path = record { byte = 78; is_byte = omega arith; found = refl; takes = refl }
takes-nest type = record { byte = 78; is_byte = omega arith; found = refl; takes = refl }

-- what is open while the parent of a path in a namespace is read
abbrev pub nest_awaits : (letter place : ℕ) → State → List Opened → List Opened
nest_awaits b place st os = opened (standing nest_rule (78 ∷ []) place 0 st) (letter b ∷ []) (Kind IDENTIFIER ∷ []) ∷ os

-- the parent of a path in a namespace is expected
pub nest-opens : (s : List ℕ) (w : Wanted) (os : List Opened) (at b : ℕ) (st : State) → Expects s (kind_of w) os at st → StandsAt s at (78 ∷ [])
    → StandsAt s (at + 1) (b ∷ []) → is_namespace b ≡ true → Expects s PATH (nest_awaits b at st os) (at + 1 + 1) (within Production.Nested st)
nest-opens s w os at b st expects stands there is =
    let p = Production.Nested in
    let rule = standing nest_rule (78 ∷ []) at 0 st in
    let todo = Kind PATH ∷ Kind IDENTIFIER ∷ [] in
    let awaits = moves.first-of rust_language s (kind_of w) nest_rule (78 ∷ []) 0 os at st st (Kind NAMESPACE) todo
    (record { context = 0; values = []; state = within p st }) (takes-nest w) (λ f. refl) refl refl expects stands in
    let comes = moves.letter-comes rust_language s NAMESPACE namespace_rule (b ∷ []) 0 (opened rule [] todo ∷ os) (at + 1) (within p st) (within p st)
    (letter b) (behind st) (takes-namespace b is) (λ f. refl) refl
    (ap (λ c. Ok (record { value = letter c; state = behind st })) (byte-there s (at + 1) b there)) awaits there in
    moves.next-of rust_language s rule [] (letter b ∷ []) (Kind PATH) (Kind IDENTIFIER ∷ []) os (at + 1 + 1) (behind st)
    (record { context = 0; values = letter b ∷ []; state = within p st }) refl comes

-- the parent of a path in a namespace is read
pub nest-goes-on : (s : List ℕ) (os : List Opened) (b place : ℕ) (before : State) (p : tree.Path) (at : ℕ) (st : State)
    → Comes s (nest_awaits b place before os) (a_path p) at st → NameGoesOn s os b place p at st
nest-goes-on s os b place before p at st comes =
    let rule = standing nest_rule (78 ∷ []) place 0 before in
    let known = letter b ∷ a_path p ∷ [] in
    record {
      inner = opened rule known [] ∷ os;
      awaits = moves.next-of rust_language s rule (letter b ∷ []) (a_path p ∷ []) (Kind IDENTIFIER) [] os at st
          (record { context = 0; values = known; state = within Production.Nested st }) refl comes;
      onward = λ v name here now is named.
          moves.last-of rust_language s rule known (v ∷ []) os here now (a_path (tree.nested b p name))
          (with_ended place (a_path (tree.nested b p name)) now) (rw is refl) named;
    }
