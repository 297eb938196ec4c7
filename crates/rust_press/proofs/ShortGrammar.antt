-- How the result of each rule of the grammar is pressed, if the rule's parts are pressed in given ways.
use Rattle.rust_press.proofs.Basics.{◌≡◌, ℕ, zero, suc, ◌+◌, ◌*◌, ◌≤◌, inl, inr, length, List, [], ◌∷◌, ◌++◌, Option, Some, None, Bool, true, false, Ok, refl, ap, arith, sym, ◌∙◌, get_or, if◌then◌else◌, nat_le, nat_lt, ◌&&◌, Result, Err, Base62, Hex, Refusal, BadReference, BadValue, Rule, Kind, Name, Number, Byte, Choice, KindSheet, Found, ◌>>=◌, ◌and◌, text, nothing, nothing-and, Tree, of_path, of_constant, path_forms, path_rules, type_rules, type_forms, constant_rules, symbol_rules, namespace_rules, disambiguator_rules, binder_rules, unsafe_rules, abi_rules, minus_rules, truth_rules, identifier_rules, name_rules, abi_name_rules, arguments_rules, types_rules, lifetime_rules, some_lifetime_rules, bounds_rules, bindings_rules, kinds, no_kind, production_of, symbols_of, most_bound, Value, State, At, Meaning, byte_at, plain, ends, value62, value16, meaning_of, referred, as_path, as_type, as_constant, refers_to_path, refers_to_type, refers_to_constant, meaning, token_of, is_scalar, greatest_u64, greatest_u128, bounded, Pressing, number16, number62, press_constant, IsTypeValue, need, need_of_type}
use Rattle.rust_tree.specs.Symbol as tree
use Rattle.rust_tree.specs.Fields as part_of
use Rattle.rust_grammar.specs.declared.production.Production.TheVariants as rules
use Rattle.rust_grammar.specs.Value as value
use Rattle.rust_grammar.specs.Unfold as reading
use Rattle.rust_press.proofs.PressTokens.{minus_values}
use Rattle.rust_press.proofs.PressRead.{Holds, bounded-then}
use Rattle.rust_press.proofs.PressKept.{crate-root-means, inherent-impl-means, trait-impl-means, trait-definition-means, nested-means, generic-means, lifetime-argument-means, constant-argument-means, type-argument-means, array-means, slice-means, const-pointer-means, mut-pointer-means, function-means, dyn-means, tuple-means, more-types-means, more-bounds-means, more-bindings-means}
use Rattle.rust_press.proofs.ShortParts.{ended_tree, spelled, is_compared, pressed_as, type-pressed, found-listed}
use Rattle.rust_press.proofs.ShortRules.{Sort, Part, unsaid_part, path_part, other_part, namespace_part, disambiguator_part, identifier_part, name_part, arguments_part, type_part, types_part, some_lifetime_part, lifetime_part, binder_part, unsafe_part, abi_part, abi_name_part, bounds_part, bindings_part, constant_part, minus_part, truth_part, parts, sort_of, some_lifetime_values, known_lifetime, Made, makes_plain, makes_text, makes_tree, makes_again, Closes, AllClose, own_of, least_all, closes-0, closes-1, closes-2, closes-3, closes-4, closes-5}

-- a fact, and the facts after it
infixr 4 ◌then◌
abbrev ◌then◌ : {A B : Type 0} → A → B → A × B
one then rest = (one, rest)

-- ## What a rule makes

pub holds-as : {A : Type 0} (P Q : A → Type 0) (m : Result A Refusal) → ((x : A) → P x → Q x) → Holds P m → Holds Q m
holds-as P Q (Ok x) more is = more x is
holds-as P Q (Err e) more is = tt

-- a rule makes something that doesn't end and is pressed as these bytes and its parts
plain-made : (S : Sort) (own few_parts : ℕ) (at : At) (h : Pressing) (v : Value) (thing : S.thing) (bytes : List ℕ)
    → v ∷ [] ≡ S.values thing → length bytes ≤ 4 * own → ◌≡◌ {A = Pressing} (S.press thing) (text bytes and h) → (m : Meaning) → m ≡ plain at v → Holds (Made S own few_parts at h) m
plain-made S own few_parts at h v thing bytes values few press m means =
    rw means (makes_plain (record { thing = thing; values = values; bytes = bytes; few = few; press = press; ended = refl }))

-- a rule without a byte of its own makes something that doesn't end
chain-made : (S : Sort) (few_parts : ℕ) (at : At) (h : Pressing) (v : Value) (thing : S.thing)
    → v ∷ [] ≡ S.values thing → ◌≡◌ {A = Pressing} (S.press thing) h → (m : Meaning) → m ≡ plain at v → Holds (Made S 0 few_parts at h) m
chain-made S few_parts at h v thing values press m means = plain-made S 0 few_parts at h v thing [] values (omega arith) (press ∙ sym (nothing-and h)) m means

-- a rule makes something that ends and is pressed as these bytes and its parts
tree-made : (S : Sort) (few_parts : ℕ) (at : At) (h : Pressing) (v : Value) (own : Tree) (thing : S.thing) (bytes : List ℕ)
    → v ∷ [] ≡ S.values thing → ended_tree v ≡ Some own → ◌≡◌ {A = Pressing} (S.press thing) (pressed_as own) → length bytes ≤ 4 → ◌≡◌ {A = Pressing} (spelled own) (text bytes and h)
    → (is_compared own ≡ true → 1 ≤ few_parts) → (m : Meaning) → m ≡ ends at v → Holds (Made S 1 few_parts at h) m
tree-made S few_parts at h v own thing bytes values is press few out big m means =
    rw means (makes_tree (record { thing = thing; values = values; tree = own; is = is; press = press; bytes = bytes; few = few; out = out; big = λ compared. omega (arith, big compared); ended = refl }))

-- a reference makes what it names, which ends once more
again-made : (S : Sort) (at : At) (n : ℕ) (old : List ℕ) (v w : Value) (own : Tree) (thing : S.thing)
    → v ∷ [] ≡ S.values thing → ended_tree v ≡ Some own → ◌≡◌ {A = Pressing} (S.press thing) (pressed_as own) → referred at n ≡ Some w → ended_tree w ≡ Some own
    → Holds (Made S 1 1 at (text old)) (ends at v)
again-made S at n old v w own thing values is press there made =
    makes_again (record { thing = thing; values = values; tree = own; is = is; press = press; old = old; old_is = refl; listed = found-listed at.ended (n + 2) w own there made; big = omega arith; ended = refl })

-- a claim about what a rule makes stays true if a test may refuse the rule
if-made : (S : Sort) (own few_parts : ℕ) (at : At) (h : Pressing) (b : Bool) (m : Meaning) (e : Refusal) → Holds (Made S own few_parts at h) m → Holds (Made S own few_parts at h) (if b then m else Err e)
if-made S own few_parts at h true m e is = is
if-made S own few_parts at h false m e is = tt

-- a rule that makes a thing of one sort also makes one of a sort that has the same values and spellings
closes-as : (S T : Sort) (f : S.thing → T.thing) → ((t : S.thing) → T.values (f t) ≡ S.values t) → ((t : S.thing) → ◌≡◌ {A = Pressing} (T.press (f t)) (S.press t))
    → (cs : List Choice) → AllClose S cs → AllClose T cs
closes-as S T f values press [] are = tt
closes-as S T f values press (c ∷ cs) (one, rest) = (
  record {
    production = one.production;
    is = one.is;
    symbols = one.symbols;
    are = one.are;
    solid = one.solid;
    made = λ at vs h row. holds-as (Made S (own_of c.rule) (least_all one.symbols) at h) (Made T (own_of c.rule) (least_all one.symbols) at h) (meaning_of one.production at vs) (λ r made. as-other (own_of c.rule) (least_all one.symbols) at h r made) (one.made at vs h row);
  },
  closes-as S T f values press cs rest,
)
  where
    as-other : (own few_parts : ℕ) (at : At) (h : Pressing) (r : Found Value State) → Made S own few_parts at h r → Made T own few_parts at h r
    as-other own few_parts at h r (makes_plain m) =
        makes_plain (record { thing = f m.thing; values = m.values ∙ sym (values m.thing); bytes = m.bytes; few = m.few; press = press m.thing ∙ m.press; ended = m.ended })
    as-other own few_parts at h r (makes_text m) =
        makes_text (record { thing = f m.thing; values = m.values ∙ sym (values m.thing); bytes = m.bytes; few = m.few; press = press m.thing ∙ m.press; old = m.old; old_is = m.old_is; ended = m.ended })
    as-other own few_parts at h r (makes_tree m) =
        makes_tree (record { thing = f m.thing; values = m.values ∙ sym (values m.thing); tree = m.tree; is = m.is; press = press m.thing ∙ m.press; bytes = m.bytes; few = m.few; out = m.out; big = m.big; ended = m.ended })
    as-other own few_parts at h r (makes_again m) =
        makes_again (record { thing = f m.thing; values = m.values ∙ sym (values m.thing); tree = m.tree; is = m.is; press = press m.thing ∙ m.press; old = m.old; old_is = m.old_is; listed = m.listed; big = m.big; ended = m.ended })

all-append : (S : Sort) (cs ds : List Choice) → AllClose S cs → AllClose S ds → AllClose S (cs ++ ds)
all-append S [] ds first rest = rest
all-append S (c ∷ cs) ds (one, more) rest = (one, all-append S cs ds more rest)

-- ## Paths

abbrev a_path : Sort
a_path = sort_of path_part

path-made : (few_parts : ℕ) (at : At) (h : Pressing) (path : tree.Path) (byte : ℕ) → ◌≡◌ {A = Pressing} (spelled (of_path path)) (text (byte ∷ []) and h) → 1 ≤ few_parts
    → (m : Meaning) → m ≡ ends at (value.a_path path) → Holds (Made a_path 1 few_parts at h) m
path-made few_parts at h path byte out big m means =
    tree-made a_path few_parts at h (value.a_path path) (of_path path) path (byte ∷ []) refl refl refl (omega arith) out (λ _. big) m means

forms-close : AllClose a_path path_forms
forms-close =
    closes-1 a_path _ (Some rules.Crate) (Kind 8) refl refl (omega arith) (λ at i. path-made 1 at _ (tree.crate_root i) 67 refl (omega arith) _ (crate-root-means i.disambiguator i.name at))
    then closes-3 a_path _ (Some rules.InherentImpl) (Kind 7) (Kind 1) (Kind 11) refl refl (omega arith) (λ at d p t. path-made 2 at _ (tree.inherent_impl d p t.0) 77 refl (omega arith) _ (inherent-impl-means d p t.0 t.1 t.2 at))
    then closes-4 a_path _ (Some rules.TraitImpl) (Kind 7) (Kind 1) (Kind 11) (Kind 1) refl refl (omega arith) (λ at d p t r. path-made 3 at _ (tree.trait_impl d p t.0 r) 88 refl (omega arith) _ (trait-impl-means d p t.0 r t.1 t.2 at))
    then closes-2 a_path _ (Some rules.TraitDefinition) (Kind 11) (Kind 1) refl refl (omega arith) (λ at t r. path-made 2 at _ (tree.trait_definition t.0 r) 89 refl (omega arith) _ (trait-definition-means t.0 r t.1 t.2 at))
    then closes-3 a_path _ (Some rules.Nested) (Kind 6) (Kind 1) (Kind 8) refl refl (omega arith) (λ at n p i. path-made 3 at _ (tree.nested n p i) 78 refl (omega arith) _ (nested-means n p i.disambiguator i.name at))
    then closes-3 a_path _ (Some rules.Generic) (Kind 1) (Kind 10) (Byte 69) refl refl (omega arith) (λ at p a none. path-made 2 at _ (tree.generic p a) 73 refl (omega arith) _ (generic-means p a at))
    then tt

path-again : (at : At) (n : ℕ) (old : List ℕ) (o : Option Value) → referred at n ≡ o → Holds (Made a_path 1 1 at (text old)) (refers_to_path at (as_path o))
path-again at n old (Some (value.a_path path)) there =
    if-made a_path 1 1 at (text old) (nat_le (need path) at.bound) (ends at (value.a_path path)) (BadReference at.place)
    (again-made a_path at n old (value.a_path path) (value.a_path path) (of_path path) path refl refl refl there refl)
path-again at n old (Some (value.a_type (tree.path_type path))) there =
    if-made a_path 1 1 at (text old) (nat_le (need path) at.bound) (ends at (value.a_path path)) (BadReference at.place)
    (again-made a_path at n old (value.a_path path) (value.a_type (tree.path_type path)) (of_path path) path refl refl refl there refl)
path-again at n old _ there = tt

paths-close : AllClose a_path path_rules
paths-close = closes-1 a_path _ (Some rules.PathReference) (Number Base62) refl refl (omega arith) (λ at t. path-again at (value62 t.0) _ (referred at (value62 t.0)) refl) then forms-close

-- ## Types

abbrev a_type : Sort
a_type = sort_of type_part

type-made : (few_parts : ℕ) (at : At) (h : Pressing) (type : tree.Ty) (byte : ℕ) → ◌≡◌ {A = Pressing} (spelled (part_of.type_part type)) (text (byte ∷ []) and h) → (is_compared (part_of.type_part type) ≡ true → 1 ≤ few_parts)
    → (m : Meaning) → m ≡ ends at (value.a_type type) → Holds (Made a_type 1 few_parts at h) m
type-made few_parts at h type byte out big m means =
    tree-made a_type few_parts at h (value.a_type type) (part_of.type_part type) (type, value.a_type type ∷ [], inl refl) (byte ∷ []) refl refl (type-pressed type) (omega arith) out big m means

shared-known : (l : Option ℕ) (t : tree.Ty) (vs : List Value) → IsTypeValue t vs → (at : At) → meaning rules.SharedReference at (some_lifetime_values l ++ vs) ≡ ends at (value.a_type (tree.shared_reference (known_lifetime l) t))
shared-known None t vs (inl e) at = rw e refl
shared-known None t vs (inr p) at = rw (p.1, p.2) refl
shared-known (Some l) t vs (inl e) at = rw e refl
shared-known (Some l) t vs (inr p) at = rw (p.1, p.2) refl

mutable-known : (l : Option ℕ) (t : tree.Ty) (vs : List Value) → IsTypeValue t vs → (at : At) → meaning rules.MutableReference at (some_lifetime_values l ++ vs) ≡ ends at (value.a_type (tree.mutable_reference (known_lifetime l) t))
mutable-known None t vs (inl e) at = rw e refl
mutable-known None t vs (inr p) at = rw (p.1, p.2) refl
mutable-known (Some l) t vs (inl e) at = rw e refl
mutable-known (Some l) t vs (inr p) at = rw (p.1, p.2) refl

own-types-close : AllClose a_type type_forms
own-types-close =
    closes-2 a_type _ (Some rules.Array) (Kind 11) (Kind 21) refl refl (omega arith) (λ at t k. type-made 2 at _ (tree.array t.0 k) 65 refl (λ _. omega arith) _ (array-means t.0 k t.1 t.2 at))
    then closes-1 a_type _ (Some rules.Slice) (Kind 11) refl refl (omega arith) (λ at t. type-made 1 at _ (tree.slice t.0) 83 refl (λ _. omega arith) _ (slice-means t.0 t.1 t.2 at))
    then closes-1 a_type _ (Some rules.Tuple) (Kind 12) refl refl (omega arith) (λ at ts. type-made 1 at _ (tree.tuple ts) 84 refl (λ _. omega arith) _ (tuple-means ts at))
    then closes-2 a_type _ (Some rules.SharedReference) (Kind 13) (Kind 11) refl refl (omega arith) (λ at l t. type-made 1 at _ (tree.shared_reference (known_lifetime l) t.0) 82 refl (λ _. omega arith) _ (shared-known l t.0 t.1 t.2 at))
    then closes-2 a_type _ (Some rules.MutableReference) (Kind 13) (Kind 11) refl refl (omega arith) (λ at l t. type-made 1 at _ (tree.mutable_reference (known_lifetime l) t.0) 81 refl (λ _. omega arith) _ (mutable-known l t.0 t.1 t.2 at))
    then closes-1 a_type _ (Some rules.ConstPointer) (Kind 11) refl refl (omega arith) (λ at t. type-made 1 at _ (tree.const_pointer t.0) 80 refl (λ _. omega arith) _ (const-pointer-means t.0 t.1 t.2 at))
    then closes-1 a_type _ (Some rules.MutPointer) (Kind 11) refl refl (omega arith) (λ at t. type-made 1 at _ (tree.mut_pointer t.0) 79 refl (λ _. omega arith) _ (mut-pointer-means t.0 t.1 t.2 at))
    then closes-5 a_type _ (Some rules.Function) (Kind 15) (Kind 16) (Kind 17) (Kind 12) (Kind 11) refl refl (omega arith) (λ at n u a ts t. type-made 2 at _ (tree.function n u a ts t.0) 70 refl (λ _. omega arith) _ (function-means n u a ts t.0 t.1 t.2 at))
    then closes-3 a_type _ (Some rules.Dyn) (Kind 15) (Kind 19) (Kind 14) refl refl (omega arith) (λ at n bs l. type-made 2 at _ (tree.dyn n bs l) 68 refl (λ _. omega arith) _ (dyn-means n bs l at))
    then tt

type-again : (at : At) (n : ℕ) (old : List ℕ) (o : Option Value) → referred at n ≡ o → Holds (Made a_type 1 1 at (text old)) (refers_to_type at (as_type o))
type-again at n old (Some (value.a_path path)) there =
    if-made a_type 1 1 at (text old) (nat_le (need_of_type (tree.path_type path)) at.bound) (ends at (value.a_type (tree.path_type path))) (BadReference at.place)
    (again-made a_type at n old (value.a_type (tree.path_type path)) (value.a_path path) (of_path path) (tree.path_type path, value.a_type (tree.path_type path) ∷ [], inl refl) refl refl refl there refl)
type-again at n old (Some (value.a_type type)) there =
    if-made a_type 1 1 at (text old) (nat_le (need_of_type type) at.bound) (ends at (value.a_type type)) (BadReference at.place)
    (again-made a_type at n old (value.a_type type) (value.a_type type) (part_of.type_part type) (type, value.a_type type ∷ [], inl refl) refl refl (type-pressed type) there refl)
type-again at n old _ there = tt

types-close : AllClose a_type type_rules
types-close =
    closes-0 a_type _ (Some rules.BasicType) refl refl (omega arith) (λ at. type-made 0 at _ (tree.basic (byte_at at)) (byte_at at) refl (λ compared. cc) _ refl)
    then closes-1 a_type _ (Some rules.TypeReference) (Number Base62) refl refl (omega arith) (λ at t. type-again at (value62 t.0) _ (referred at (value62 t.0)) refl)
    then all-append a_type path_forms type_forms (closes-as a_path a_type (λ path. (tree.path_type path, value.a_path path ∷ [], inr (path, refl, refl))) (λ path. refl) (λ path. refl) path_forms forms-close) own-types-close

-- ## Constants

abbrev a_constant : Sort
a_constant = sort_of constant_part

constant-pressed : (constant : tree.Constant) → ◌≡◌ {A = Pressing} (press_constant constant) (pressed_as (of_constant constant))
constant-pressed tree.placeholder = refl
constant-pressed _ = refl

constant-made : (few_parts : ℕ) (at : At) (h : Pressing) (constant : tree.Constant) (bytes : List ℕ) → length bytes ≤ 4 → ◌≡◌ {A = Pressing} (spelled (of_constant constant)) (text bytes and h)
    → (is_compared (of_constant constant) ≡ true → 1 ≤ few_parts) → Holds (Made a_constant 1 few_parts at h) (ends at (value.a_constant constant))
constant-made few_parts at h constant bytes few out big =
    tree-made a_constant few_parts at h (value.a_constant constant) (of_constant constant) constant bytes refl refl (constant-pressed constant) few out big _ refl

integer-made : (at : At) (negative : Bool) (n : ℕ) → Holds (Made a_constant 1 1 at (number16 n)) (ends at (value.a_constant (tree.integer (byte_at at) negative n)))
integer-made at true n = constant-made 1 at (number16 n) (tree.integer (byte_at at) true n) (byte_at at ∷ 110 ∷ []) (omega arith) refl (λ _. omega arith)
integer-made at false n = constant-made 1 at (number16 n) (tree.integer (byte_at at) false n) (byte_at at ∷ []) (omega arith) refl (λ _. omega arith)

signed-made : (at : At) (mark : Bool) (t : List ℕ × Bool) → Holds (Made a_constant 1 1 at (number16 (value16 t.0))) (meaning rules.SignedConstant at (minus_values mark ++ token_of (Some rules.SignedConstant) t.1 t.0 ∷ []))
signed-made at true t = bounded-then (Made a_constant 1 1 at (number16 (value16 t.0))) at greatest_u128 (value16 t.0) _ (λ few. integer-made at (t.1 && nat_lt 0 (value16 t.0)) (value16 t.0))
signed-made at false t = bounded-then (Made a_constant 1 1 at (number16 (value16 t.0))) at greatest_u128 (value16 t.0) _ (λ few. integer-made at (t.1 && nat_lt 0 (value16 t.0)) (value16 t.0))

constant-again : (at : At) (n : ℕ) (old : List ℕ) (o : Option Value) → referred at n ≡ o → Holds (Made a_constant 1 1 at (text old)) (refers_to_constant at (as_constant o))
constant-again at n old (Some (value.a_constant constant)) there =
    again-made a_constant at n old (value.a_constant constant) (value.a_constant constant) (of_constant constant) constant refl refl (constant-pressed constant) there refl
constant-again at n old _ there = tt

constants-close : AllClose a_constant constant_rules
constants-close =
    closes-2 a_constant _ (Some rules.SignedConstant) (Kind 22) (Number Hex) refl refl (omega arith) (λ at mark t. signed-made at mark t)
    then closes-1 a_constant _ (Some rules.UnsignedConstant) (Number Hex) refl refl (omega arith) (λ at t. bounded-then (Made a_constant 1 1 at (number16 (value16 t.0))) at greatest_u128 (value16 t.0) _ (λ few. integer-made at (false && nat_lt 0 (value16 t.0)) (value16 t.0)))
    then closes-2 a_constant _ (Some rules.BoolConstant) (Kind 23) (Byte 95) refl refl (omega arith) (λ at b none. constant-made 2 at _ (tree.boolean b) (98 ∷ []) (omega arith) refl (λ _. omega arith))
    then closes-1 a_constant _ (Some rules.CharConstant) (Number Hex) refl refl (omega arith) (λ at t. if-made a_constant 1 1 at (number16 (value16 t.0)) (is_scalar (value16 t.0)) (ends at (value.a_constant (tree.character (value16 t.0)))) (BadValue at.place) (constant-made 1 at _ (tree.character (value16 t.0)) (99 ∷ []) (omega arith) refl (λ _. omega arith)))
    then closes-0 a_constant _ (Some rules.Placeholder) refl refl (omega arith) (λ at. constant-made 0 at _ tree.placeholder (112 ∷ []) (omega arith) refl (λ compared. cc))
    then closes-1 a_constant _ (Some rules.ConstantReference) (Number Base62) refl refl (omega arith) (λ at t. constant-again at (value62 t.0) _ (referred at (value62 t.0)) refl)
    then tt

-- ## Names and numbers

plus-one : (n : ℕ) → n + 1 ≡ suc n
plus-one n = omega arith

names-close : AllClose (sort_of name_part) name_rules
names-close =
    closes-1 (sort_of name_part) _ (Some rules.PunycodeName) Name refl refl (omega arith) (λ at t. plain-made (sort_of name_part) 1 1 at _ (value.a_name (record { punycode = true; bytes = t.0 })) (record { punycode = true; bytes = t.0 }) (117 ∷ []) refl (omega arith) refl _ refl)
    then closes-1 (sort_of name_part) _ (Some rules.PlainName) Name refl refl (omega arith) (λ at t. chain-made (sort_of name_part) 1 at _ (value.a_name (record { punycode = false; bytes = t.0 })) (record { punycode = false; bytes = t.0 }) refl refl _ refl)
    then tt

identifiers-close : AllClose (sort_of identifier_part) identifier_rules
identifiers-close =
    closes-2 (sort_of identifier_part) _ (Some rules.DisambiguatedIdentifier) (Number Base62) (Kind 9) refl refl (omega arith) (λ at t m. bounded-then (Made (sort_of identifier_part) 1 2 at _) at greatest_u64 (value62 t.0 + 1) _ (λ few. plain-made (sort_of identifier_part) 1 2 at _ (value.an_identifier (record { disambiguator = value62 t.0 + 1; name = m })) (record { disambiguator = suc (value62 t.0); name = m }) (115 ∷ []) (ap (λ d. value.an_identifier (record { disambiguator = d; name = m }) ∷ []) (plus-one (value62 t.0))) (omega arith) refl _ refl))
    then closes-as (sort_of name_part) (sort_of identifier_part) (λ m. record { disambiguator = 0; name = m }) (λ m. refl) (λ m. refl) name_rules names-close

-- a rule of a letter and a number: its value is one more than the number
count-made : (S : Sort) (at : At) (limit n : ℕ) (v : ℕ → Value) (thing : S.thing) (byte : ℕ) → v (suc n) ∷ [] ≡ S.values thing → ◌≡◌ {A = Pressing} (S.press thing) (text (byte ∷ []) and number62 n)
    → Holds (Made S 1 1 at (number62 n)) (bounded at limit (n + 1) >>= λ m. plain at (v m))
count-made S at limit n v thing byte values press =
    bounded-then (Made S 1 1 at (number62 n)) at limit (n + 1) _ (λ few.
    plain-made S 1 1 at (number62 n) (v (n + 1)) thing (byte ∷ []) (ap (λ m. v m ∷ []) (plus-one n) ∙ values) (omega arith) press _ refl)

disambiguators-close : AllClose (sort_of disambiguator_part) disambiguator_rules
disambiguators-close =
    closes-1 (sort_of disambiguator_part) _ (Some rules.Disambiguator) (Number Base62) refl refl (omega arith)
    (λ at t. count-made (sort_of disambiguator_part) at greatest_u64 (value62 t.0) value.a_disambiguator (suc (value62 t.0)) 115 refl refl)
    then tt

binders-close : AllClose (sort_of binder_part) binder_rules
binders-close =
    closes-1 (sort_of binder_part) _ (Some rules.Binder) (Number Base62) refl refl (omega arith)
    (λ at t. count-made (sort_of binder_part) at most_bound (value62 t.0) value.a_binder (suc (value62 t.0)) 71 refl refl)
    then tt

lifetimes-close : AllClose (sort_of lifetime_part) lifetime_rules
lifetimes-close =
    closes-1 (sort_of lifetime_part) _ (Some rules.Lifetime) (Number Base62) refl refl (omega arith) (λ at t. if-made (sort_of lifetime_part) 1 1 at (number62 (value62 t.0)) (nat_le (value62 t.0) at.bound) (plain at (value.a_lifetime (value62 t.0))) (BadReference at.place) (plain-made (sort_of lifetime_part) 1 1 at _ (value.a_lifetime (value62 t.0)) (value62 t.0) (76 ∷ []) refl (omega arith) refl _ refl))
    then tt

-- an erased lifetime isn't written
some-lifetime-made : (at : At) (n : ℕ) → Holds (Made (sort_of some_lifetime_part) 1 1 at (number62 n)) (plain at (value.a_lifetime n))
some-lifetime-made at zero = makes_text (record { thing = Some 0; values = refl; bytes = []; few = omega arith; press = refl; old = 95 ∷ []; old_is = refl; ended = refl })
some-lifetime-made at (suc n) = plain-made (sort_of some_lifetime_part) 1 1 at (number62 (suc n)) (value.a_lifetime (suc n)) (Some (suc n)) (76 ∷ []) refl (omega arith) refl _ refl

some-lifetimes-close : AllClose (sort_of some_lifetime_part) some_lifetime_rules
some-lifetimes-close =
    closes-1 (sort_of some_lifetime_part) _ (Some rules.Lifetime) (Number Base62) refl refl (omega arith) (λ at t. if-made (sort_of some_lifetime_part) 1 1 at (number62 (value62 t.0)) (nat_le (value62 t.0) at.bound) (plain at (value.a_lifetime (value62 t.0))) (BadReference at.place) (some-lifetime-made at (value62 t.0)))
    then tt

-- ## Lists

arguments-close : AllClose (sort_of arguments_part) arguments_rules
arguments-close =
    closes-2 (sort_of arguments_part) _ (Some rules.LifetimeArgument) (Kind 14) (Kind 10) refl refl (omega arith) (λ at l a. chain-made (sort_of arguments_part) 1 at _ (value.some_arguments (tree.lifetime_argument l a)) (tree.lifetime_argument l a) refl refl _ (lifetime-argument-means l a at))
    then closes-2 (sort_of arguments_part) _ (Some rules.ConstantArgument) (Kind 21) (Kind 10) refl refl (omega arith) (λ at k a. plain-made (sort_of arguments_part) 1 1 at _ (value.some_arguments (tree.constant_argument k a)) (tree.constant_argument k a) (75 ∷ []) refl (omega arith) refl _ (constant-argument-means k a at))
    then closes-2 (sort_of arguments_part) _ (Some rules.TypeArgument) (Kind 11) (Kind 10) refl refl (omega arith) (λ at t a. chain-made (sort_of arguments_part) 1 at _ (value.some_arguments (tree.type_argument t.0 a)) (tree.type_argument t.0 a) refl refl _ (type-argument-means t.0 a t.1 t.2 at))
    then tt

type-lists-close : AllClose (sort_of types_part) types_rules
type-lists-close =
    closes-0 (sort_of types_part) _ (Some rules.TypesEnd) refl refl (omega arith) (λ at. plain-made (sort_of types_part) 1 0 at _ (value.some_types tree.no_types) tree.no_types (69 ∷ []) refl (omega arith) refl _ refl)
    then closes-2 (sort_of types_part) _ (Some rules.TypesMore) (Kind 11) (Kind 12) refl refl (omega arith) (λ at t ts. chain-made (sort_of types_part) 2 at _ (value.some_types (tree.more_types t.0 ts)) (tree.more_types t.0 ts) refl refl _ (more-types-means t.0 ts t.1 t.2 at))
    then tt

bounds-close : AllClose (sort_of bounds_part) bounds_rules
bounds-close =
    closes-0 (sort_of bounds_part) _ (Some rules.BoundsEnd) refl refl (omega arith) (λ at. plain-made (sort_of bounds_part) 1 0 at _ (value.some_bounds tree.no_bounds) tree.no_bounds (69 ∷ []) refl (omega arith) refl _ refl)
    then closes-3 (sort_of bounds_part) _ (Some rules.BoundsMore) (Kind 1) (Kind 20) (Kind 19) refl refl (omega arith) (λ at p b bs. chain-made (sort_of bounds_part) 2 at _ (value.some_bounds (tree.more_bounds p b bs)) (tree.more_bounds p b bs) refl refl _ (more-bounds-means p b bs at))
    then tt

bindings-close : AllClose (sort_of bindings_part) bindings_rules
bindings-close =
    closes-3 (sort_of bindings_part) _ (Some rules.Binding) (Kind 9) (Kind 11) (Kind 20) refl refl (omega arith) (λ at m t b. plain-made (sort_of bindings_part) 1 2 at _ (value.some_bindings (tree.more_bindings m t.0 b)) (tree.more_bindings m t.0 b) (112 ∷ []) refl (omega arith) refl _ (more-bindings-means m t.0 b t.1 t.2 at))
    then tt

-- ## Marks

mark-made : (S : Sort) (v : Value) (thing : S.thing) (byte : ℕ) → v ∷ [] ≡ S.values thing → ◌≡◌ {A = Pressing} (S.press thing) (text (byte ∷ [])) → (at : At) → Holds (Made S 1 0 at nothing) (plain at v)
mark-made S v thing byte values press at = plain-made S 1 0 at nothing v thing (byte ∷ []) values (omega arith) press _ refl

abi-made : (at : At) (named : Option tree.Name) → Holds (Made (sort_of abi_part) 1 1 at ((sort_of abi_name_part).press named)) (meaning rules.Abi at ((sort_of abi_name_part).values named))
abi-made at None = plain-made (sort_of abi_part) 1 1 at _ (value.an_abi tree.c_abi) tree.c_abi (75 ∷ []) refl (omega arith) refl _ refl
abi-made at (Some m) = plain-made (sort_of abi_part) 1 1 at _ (value.an_abi (tree.named_abi m)) (tree.named_abi m) (75 ∷ []) refl (omega arith) refl _ refl

abi-names-close : AllClose (sort_of abi_name_part) abi_name_rules
abi-names-close =
    closes-0 (sort_of abi_name_part) _ (Some rules.AbiC) refl refl (omega arith) (mark-made (sort_of abi_name_part) (value.an_abi tree.c_abi) None 67 refl refl)
    then closes-as (sort_of name_part) (sort_of abi_name_part) (λ m. Some m) (λ m. refl) (λ m. refl) name_rules names-close

namespaces-close : AllClose (sort_of namespace_part) namespace_rules
namespaces-close = closes-0 (sort_of namespace_part) _ (Some rules.Namespace) refl refl (omega arith) (λ at. mark-made (sort_of namespace_part) (value.letter (byte_at at)) (byte_at at) (byte_at at) refl refl at) then tt

unsafe-close : AllClose (sort_of unsafe_part) unsafe_rules
unsafe-close = closes-0 (sort_of unsafe_part) _ (Some rules.Unsafe) refl refl (omega arith) (mark-made (sort_of unsafe_part) value.unsafe_mark true 85 refl refl) then tt

abis-close : AllClose (sort_of abi_part) abi_rules
abis-close = closes-1 (sort_of abi_part) _ (Some rules.Abi) (Kind 18) refl refl (omega arith) (λ at named. abi-made at named) then tt

minus-close : AllClose (sort_of minus_part) minus_rules
minus-close = closes-0 (sort_of minus_part) _ (Some rules.Minus) refl refl (omega arith) (λ at. plain-made (sort_of minus_part) 1 0 at nothing value.minus_mark true [] refl (omega arith) refl _ refl) then tt

truths-close : AllClose (sort_of truth_part) truth_rules
truths-close =
    closes-0 (sort_of truth_part) _ (Some rules.False) refl refl (omega arith) (mark-made (sort_of truth_part) (value.a_truth false) false 48 refl refl)
    then closes-0 (sort_of truth_part) _ (Some rules.True) refl refl (omega arith) (mark-made (sort_of truth_part) (value.a_truth true) true 49 refl refl)
    then tt

-- ## The table

-- nothing is claimed here of symbols and of suffixes
unsaid-closes : (rule : Rule) → 1 ≤ own_of rule → ((at : At) (values : List Value) → Holds (λ r. r.state.ended ≡ at.ended) (meaning_of (production_of rule.number) at values)) → Closes (sort_of unsaid_part) rule
unsaid-closes rule solid same = record {
  production = production_of rule.number;
  is = refl;
  symbols = symbols_of rule;
  are = refl;
  solid = omega (arith, solid);
  made = λ at values h row.
      holds-as (λ r. r.state.ended ≡ at.ended) _ (meaning_of (production_of rule.number) at values)
      (λ r is. makes_plain (record { thing = (r.value ∷ [], text [] and h); values = refl; bytes = []; few = omega arith; press = refl; ended = is })) (same at values);
}

holds-after : {A : Type 0} (Q : Found Value State → Type 0) (m : Result A Refusal) (f : A → Meaning) → ((x : A) → Holds Q (f x)) → Holds Q (m >>= f)
holds-after Q (Ok x) f is = is x
holds-after Q (Err e) f is = tt

symbol-same : (at : At) (values : List Value) → Holds (λ r. r.state.ended ≡ at.ended) (meaning rules.Symbol at values)
symbol-same at values =
    holds-after (λ r. r.state.ended ≡ at.ended) (reading.path_part values) _ (λ one.
    holds-after (λ r. r.state.ended ≡ at.ended) (reading.other_path_part one.1) _ (λ two. holds-after (λ r. r.state.ended ≡ at.ended) (reading.suffix_part two.1) _ (λ three. refl)))

symbols-close : AllClose (sort_of unsaid_part) symbol_rules
symbols-close = unsaid-closes _ (omega arith) symbol-same then tt

-- what the rules of a kind make, and what the kind denotes if it is empty
abbrev pub KindCloses : Part → KindSheet → Type 0
KindCloses part sheet =
    (sheet.may_be_empty ≡ true → (t : (sort_of part).thing) × ((sort_of part).values t ≡ []) × (◌≡◌ {A = Pressing} ((sort_of part).press t) nothing))
    × AllClose (sort_of part) sheet.choices

abbrev AllKinds : List Part → List KindSheet → Type 0
AllKinds [] [] = Unit {0}
AllKinds (part ∷ ps) (sheet ∷ sheets) = KindCloses part sheet × AllKinds ps sheets
AllKinds _ _ = ⊥

kinds-close : AllKinds parts kinds
kinds-close =
    ((λ empty. cc) then symbols-close)
    then ((λ empty. cc) then paths-close)
    then ((λ empty. (None, refl, refl)) then closes-as a_path (sort_of other_part) (λ p. Some p) (λ p. refl) (λ p. refl) path_rules paths-close)
    then ((λ empty. (([], nothing), refl, refl)) then unsaid-closes _ (omega arith) (λ at values. refl) then tt)
    then ((λ empty. cc) then unsaid-closes _ (omega arith) (λ at values. refl) then tt)
    then ((λ empty. (([], nothing), refl, refl)) then unsaid-closes _ (omega arith) (λ at values. refl) then tt)
    then ((λ empty. cc) then namespaces-close)
    then ((λ empty. (0, refl, refl)) then disambiguators-close)
    then ((λ empty. cc) then identifiers-close)
    then ((λ empty. cc) then names-close)
    then ((λ empty. (tree.no_arguments, refl, refl)) then arguments-close)
    then ((λ empty. cc) then types-close)
    then ((λ empty. cc) then type-lists-close)
    then ((λ empty. (None, refl, refl)) then some-lifetimes-close)
    then ((λ empty. cc) then lifetimes-close)
    then ((λ empty. (0, refl, refl)) then binders-close)
    then ((λ empty. (false, refl, refl)) then unsafe-close)
    then ((λ empty. (tree.rust_abi, refl, refl)) then abis-close)
    then ((λ empty. cc) then abi-names-close)
    then ((λ empty. cc) then bounds-close)
    then ((λ empty. (tree.no_bindings, refl, refl)) then bindings-close)
    then ((λ empty. cc) then constants-close)
    then ((λ empty. (false, refl, refl)) then minus-close)
    then ((λ empty. cc) then truths-close)
    then tt

no-kind : KindCloses unsaid_part no_kind
no-kind = ((λ empty. cc), tt)

kind-closes : (ps : List Part) (sheets : List KindSheet) (k : ℕ) → AllKinds ps sheets → KindCloses (get_or ps k unsaid_part) (get_or sheets k no_kind)
kind-closes [] [] k are = no-kind
kind-closes (part ∷ ps) (sheet ∷ sheets) zero are = are.0
kind-closes (part ∷ ps) (sheet ∷ sheets) (suc k) are = kind-closes ps sheets k are.1
kind-closes _ _ k are = absurd are

pub each-kind : (k : ℕ) → KindCloses (get_or parts k unsaid_part) (get_or kinds k no_kind)
each-kind k = kind-closes parts kinds k kinds-close
