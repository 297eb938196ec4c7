-- What the parts of a rule may be, what the rule makes of them, and how both are pressed.
use Rattle.rust_press.proofs.Basics.{◌≡◌, ℕ, ◌+◌, ◌*◌, ◌≤◌, length, List, [], ◌∷◌, ◌++◌, Option, Some, None, Bool, true, arith, if◌then◌else◌, get_or, Base62, Hex, Rule, Sym, Kind, Name, Number, Byte, Choice, symbols_of, Found, ◌and◌, text, letter, nothing, and-nothing, Tree, Production, production_of, v0_table, Value, State, At, meaning_of, token_of, value62, value16, Pressing, number62, number16, counted, mark_if, press_name, press_disambiguator, press_binder, press_identifier, press_lifetime, press_abi, press_constant, press_path, press_other, press_arguments, press_types, press_bounds, press_bindings, type_or_reference, spell_type, IsTypeValue}
use Rattle.rust_tree.specs.Symbol as tree
use Rattle.rust_grammar.specs.Value as value
use Rattle.rust_press.specs.Pressing as pressing
use Rattle.rust_press.proofs.PressRead.{Holds}
use Rattle.rust_press.proofs.PressTokens.{disambiguator_values, binder_values, identifier_values, unsafe_values, minus_values, abi_values}
use Rattle.rust_press.proofs.PressKept.{arguments_values, bindings_values}
use Rattle.rust_press.proofs.PressSymbol.{other_values}
use Rattle.rust_press.proofs.ShortParts.{ended_tree, Listed, spelled, is_compared, pressed_as}

-- ## What a part of a rule may be

-- a sort of things: the values that each thing is read as, and how the thing is pressed
pub record Sort : Type 1 where
  pub thing : Type 0
  pub values : thing → List Value
  pub press : thing → Pressing

-- what the kinds denote; `unsaid_part` claims nothing
pub data Part : Type 0 where
  unsaid_part : Part
  path_part : Part
  other_part : Part
  namespace_part : Part
  disambiguator_part : Part
  identifier_part : Part
  name_part : Part
  arguments_part : Part
  type_part : Part
  types_part : Part
  some_lifetime_part : Part
  lifetime_part : Part
  binder_part : Part
  unsafe_part : Part
  abi_part : Part
  abi_name_part : Part
  bounds_part : Part
  bindings_part : Part
  constant_part : Part
  minus_part : Part
  truth_part : Part

-- a lifetime that may be missing
abbrev pub some_lifetime_values : Option ℕ → List Value
some_lifetime_values None = []
some_lifetime_values (Some lifetime) = value.a_lifetime lifetime ∷ []

abbrev pub known_lifetime : Option ℕ → ℕ
known_lifetime None = 0
known_lifetime (Some lifetime) = lifetime

-- an ABI after its letter: that of C, or a name
abbrev pub abi_name_values : Option tree.Name → List Value
abi_name_values None = value.an_abi tree.c_abi ∷ []
abi_name_values (Some name) = value.a_name name ∷ []

abbrev press_abi_name : Option tree.Name → Pressing
press_abi_name None = letter 67
press_abi_name (Some name) = press_name name

abbrev HasTypeValues : Type 0
HasTypeValues = (type : tree.Ty) × (values : List Value) × IsTypeValue type values

-- The sort of each part. A minus is pressed with the letter before it.
abbrev pub sort_of : Part → Sort
sort_of unsaid_part = record { thing = List Value × Pressing; values = λ t. t.0; press = λ t. t.1 }
sort_of path_part = record { thing = tree.Path; values = λ p. value.a_path p ∷ []; press = press_path }
sort_of other_part = record { thing = Option tree.Path; values = other_values; press = press_other }
sort_of namespace_part = record { thing = ℕ; values = λ c. value.letter c ∷ []; press = letter }
sort_of disambiguator_part = record { thing = ℕ; values = disambiguator_values; press = press_disambiguator }
sort_of identifier_part = record { thing = tree.Identifier; values = λ i. identifier_values i.disambiguator i.name; press = press_identifier }
sort_of name_part = record { thing = tree.Name; values = λ n. value.a_name n ∷ []; press = press_name }
sort_of arguments_part = record { thing = tree.Arguments; values = arguments_values; press = press_arguments }
sort_of type_part = record { thing = HasTypeValues; values = λ t. t.1; press = λ t. type_or_reference t.0 (spell_type t.0) }
sort_of types_part = record { thing = tree.Tys; values = λ ts. value.some_types ts ∷ []; press = press_types }
sort_of some_lifetime_part = record { thing = Option ℕ; values = some_lifetime_values; press = λ l. pressing.some_lifetime (known_lifetime l) }
sort_of lifetime_part = record { thing = ℕ; values = λ l. value.a_lifetime l ∷ []; press = press_lifetime }
sort_of binder_part = record { thing = ℕ; values = binder_values; press = press_binder }
sort_of unsafe_part = record { thing = Bool; values = unsafe_values; press = λ b. mark_if b 85 }
sort_of abi_part = record { thing = tree.Abi; values = abi_values; press = press_abi }
sort_of abi_name_part = record { thing = Option tree.Name; values = abi_name_values; press = press_abi_name }
sort_of bounds_part = record { thing = tree.Bounds; values = λ bs. value.some_bounds bs ∷ []; press = press_bounds }
sort_of bindings_part = record { thing = tree.Bindings; values = bindings_values; press = press_bindings }
sort_of constant_part = record { thing = tree.Constant; values = λ c. value.a_constant c ∷ []; press = press_constant }
sort_of minus_part = record { thing = Bool; values = minus_values; press = λ b. nothing }
sort_of truth_part = record { thing = Bool; values = λ b. value.a_truth b ∷ []; press = λ b. letter (if b then 49 else 48) }

-- the kinds by number
abbrev pub parts : List Part
parts =
    unsaid_part ∷ path_part ∷ other_part ∷ unsaid_part ∷ unsaid_part ∷ unsaid_part ∷ namespace_part ∷ disambiguator_part ∷ identifier_part ∷ name_part ∷ arguments_part ∷ type_part ∷ types_part ∷ some_lifetime_part ∷ lifetime_part
    ∷ binder_part ∷ unsafe_part ∷ abi_part ∷ abi_name_part ∷ bounds_part ∷ bindings_part ∷ constant_part ∷ minus_part ∷ truth_part ∷ []

-- a sort for tokens: a token's own bytes, and whether a minus precedes it
abbrev token_sort : Option Production → (List ℕ → Pressing) → Sort
token_sort production press = record { thing = List ℕ × Bool; values = λ t. token_of production t.1 t.0 ∷ []; press = λ t. press t.0 }

abbrev pub sort_at : Option Production → Sym → Sort
sort_at production (Kind k) = sort_of (get_or parts k unsaid_part)
sort_at production Name = token_sort production counted
sort_at production (Number Base62) = token_sort production (λ own. number62 (value62 own))
sort_at production (Number Hex) = token_sort production (λ own. number16 (value16 own))
sort_at production (Number kind) = token_sort production (λ own. nothing)
sort_at production (Byte b) = record { thing = Unit {0}; values = λ _. []; press = λ _. letter b }

-- the least number of bytes of a symbol of the grammar
abbrev pub least : Sym → ℕ
least (Kind k) = if v0_table.may_be_empty k then 0 else 1
least Name = 1
least (Number Base62) = 1
least (Number Hex) = 1
least (Number kind) = 0
least (Byte b) = 1

abbrev pub least_all : List Sym → ℕ
least_all [] = 0
least_all (x ∷ xs) = least x + least_all xs

-- The known values, followed by those of the parts that are left of a rule, are `values`; these parts are pressed as
-- `h`.
abbrev pub Row : Option Production → List Sym → (known values : List Value) → Pressing → Type 0
Row o [] known values h = (values ≡ known) × (◌≡◌ {A = Pressing} h nothing)
Row o (x ∷ xs) known values h =
    (t : (sort_at o x).thing) × (g : Pressing) × (◌≡◌ {A = Pressing} h ((sort_at o x).press t and g)) × Row o xs (known ++ (sort_at o x).values t) values g

-- ## What a rule makes

-- a rule makes something that isn't added to what has ended; its spelling is the rule's own bytes, and then the rule's
-- parts
pub record MakesPlain (S : Sort) (own : ℕ) (at : At) (h : Pressing) (r : Found Value State) : Type 0 where
  pub thing : S.thing
  pub values : r.value ∷ [] ≡ S.values thing
  pub bytes : List ℕ
  pub few : length bytes ≤ 4 * own
  pub press : ◌≡◌ {A = Pressing} (S.press thing) (text bytes and h)
  pub ended : r.state.ended ≡ at.ended

-- a rule makes something with a text of its own, in place of the texts of its parts
pub record MakesText (S : Sort) (own : ℕ) (at : At) (h : Pressing) (r : Found Value State) : Type 0 where
  pub thing : S.thing
  pub values : r.value ∷ [] ≡ S.values thing
  pub bytes : List ℕ
  pub few : length bytes ≤ 4 * own
  pub press : ◌≡◌ {A = Pressing} (S.press thing) (text bytes)
  pub old : List ℕ
  pub old_is : ◌≡◌ {A = Pressing} h (text old)
  pub ended : r.state.ended ≡ at.ended

-- a rule makes a path, a type or a constant, which is added to what has ended
pub record MakesTree (S : Sort) (own few_parts : ℕ) (at : At) (h : Pressing) (r : Found Value State) : Type 0 where
  pub thing : S.thing
  pub values : r.value ∷ [] ≡ S.values thing
  pub tree : Tree
  pub is : ended_tree r.value ≡ Some tree
  pub press : ◌≡◌ {A = Pressing} (S.press thing) (pressed_as tree)
  pub bytes : List ℕ
  pub few : length bytes ≤ 4 * own
  pub out : ◌≡◌ {A = Pressing} (spelled tree) (text bytes and h)
  pub big : is_compared tree ≡ true → 2 ≤ own + few_parts
  pub ended : r.state.ended ≡ record { place = at.place; value = r.value } ∷ at.ended

-- a rule makes a path, a type or a constant whose tree is already among those that have ended, and adds it to them once
-- more
pub record MakesAgain (S : Sort) (own few_parts : ℕ) (at : At) (h : Pressing) (r : Found Value State) : Type 0 where
  pub thing : S.thing
  pub values : r.value ∷ [] ≡ S.values thing
  pub tree : Tree
  pub is : ended_tree r.value ≡ Some tree
  pub press : ◌≡◌ {A = Pressing} (S.press thing) (pressed_as tree)
  pub old : List ℕ
  pub old_is : ◌≡◌ {A = Pressing} h (text old)
  pub listed : Listed tree at.ended
  pub big : 2 ≤ own + few_parts
  pub ended : r.state.ended ≡ record { place = at.place; value = r.value } ∷ at.ended

pub data Made (S : Sort) (own few_parts : ℕ) (at : At) (h : Pressing) (r : Found Value State) : Type 0 where
  makes_plain : MakesPlain S own at h r → Made S own few_parts at h r
  makes_text : MakesText S own at h r → Made S own few_parts at h r
  makes_tree : MakesTree S own few_parts at h r → Made S own few_parts at h r
  makes_again : MakesAgain S own few_parts at h r → Made S own few_parts at h r

abbrev pub own_of : Rule → ℕ
own_of rule = if rule.eats then 1 else 0

-- a rule makes a thing of the sort
pub record Closes (S : Sort) (rule : Rule) : Type 0 where
  pub production : Option Production
  pub is : production_of rule.number ≡ production
  pub symbols : List Sym
  pub are : symbols_of rule ≡ symbols
  pub solid : 1 ≤ own_of rule + least_all symbols
  pub made : (at : At) (values : List Value) (h : Pressing) → Row production symbols [] values h → Holds (Made S (own_of rule) (least_all symbols) at h) (meaning_of production at values)

abbrev pub AllClose : Sort → List Choice → Type 0
AllClose S [] = Unit {0}
AllClose S (c ∷ cs) = Closes S c.rule × AllClose S cs

-- ## Rules by the number of their parts

last-of : (o : Option Production) (x : Sym) (known : List Value) (P : List Value → Pressing → Type 0)
    → ((t : (sort_at o x).thing) → P (known ++ (sort_at o x).values t) ((sort_at o x).press t)) → (values : List Value) (h : Pressing) → Row o (x ∷ []) known values h → P values h
last-of o x known P is values h (t, g, joined, (same, none)) =
    rw (same, joined, none, and-nothing ((sort_at o x).press t)) (is t)

first-of : (o : Option Production) (x : Sym) (xs : List Sym) (known : List Value) (P : List Value → Pressing → Type 0)
    → ((t : (sort_at o x).thing) (values : List Value) (g : Pressing) → Row o xs (known ++ (sort_at o x).values t) values g → P values ((sort_at o x).press t and g))
    → (values : List Value) (h : Pressing) → Row o (x ∷ xs) known values h → P values h
first-of o x xs known P is values h (t, g, joined, row) = rw joined (is t values g row)

-- a rule of this production makes a thing of the sort from these values, if the values are pressed as `h`
abbrev Goal : Sort → Rule → Option Production → (few_parts : ℕ) → At → List Value → Pressing → Type 0
Goal S rule o few_parts at values h = Holds (Made S (own_of rule) few_parts at h) (meaning_of o at values)

pub closes-0 : (S : Sort) (rule : Rule) (o : Option Production) → production_of rule.number ≡ o → symbols_of rule ≡ [] → 1 ≤ own_of rule → ((at : At) → Goal S rule o 0 at [] nothing) → Closes S rule
closes-0 S rule o is are solid made = record { production = o; is = is; symbols = []; are = are; solid = omega (arith, solid); made = λ at values h row. rw (row.0, row.1) (made at) }

pub closes-1 : (S : Sort) (rule : Rule) (o : Option Production) (x : Sym) → production_of rule.number ≡ o → symbols_of rule ≡ x ∷ [] → 1 ≤ own_of rule + least_all (x ∷ [])
    → ((at : At) (a : (sort_at o x).thing) → Goal S rule o (least_all (x ∷ [])) at ((sort_at o x).values a) ((sort_at o x).press a)) → Closes S rule
closes-1 S rule o x is are solid made = record { production = o; is = is; symbols = x ∷ []; are = are; solid = solid; made = λ at. last-of o x [] (Goal S rule o (least_all (x ∷ [])) at) (made at) }

pub closes-2 : (S : Sort) (rule : Rule) (o : Option Production) (x y : Sym) → production_of rule.number ≡ o → symbols_of rule ≡ x ∷ y ∷ [] → 1 ≤ own_of rule + least_all (x ∷ y ∷ [])
    → ((at : At) (a : (sort_at o x).thing) (b : (sort_at o y).thing)
    → Goal S rule o (least_all (x ∷ y ∷ [])) at ((sort_at o x).values a ++ (sort_at o y).values b) ((sort_at o x).press a and (sort_at o y).press b))
    → Closes S rule
closes-2 S rule o x y is are solid made = record {
  production = o;
  is = is;
  symbols = x ∷ y ∷ [];
  are = are;
  solid = solid;
  made = λ at. first-of o x (y ∷ []) [] (Goal S rule o (least_all (x ∷ y ∷ [])) at) (λ a.
      last-of o y ((sort_at o x).values a) (λ values h. Goal S rule o (least_all (x ∷ y ∷ [])) at values ((sort_at o x).press a and h)) (made at a));
}

pub closes-3 : (S : Sort) (rule : Rule) (o : Option Production) (x y z : Sym) → production_of rule.number ≡ o → symbols_of rule ≡ x ∷ y ∷ z ∷ [] → 1 ≤ own_of rule + least_all (x ∷ y ∷ z ∷ [])
    → ((at : At) (a : (sort_at o x).thing) (b : (sort_at o y).thing) (c : (sort_at o z).thing)
    → Goal S rule o (least_all (x ∷ y ∷ z ∷ [])) at (((sort_at o x).values a ++ (sort_at o y).values b) ++ (sort_at o z).values c) ((sort_at o x).press a and ((sort_at o y).press b and (sort_at o z).press c)))
    → Closes S rule
closes-3 S rule o x y z is are solid made = record {
  production = o;
  is = is;
  symbols = x ∷ y ∷ z ∷ [];
  are = are;
  solid = solid;
  made = λ at. first-of o x (y ∷ z ∷ []) [] (Goal S rule o (least_all (x ∷ y ∷ z ∷ [])) at) (λ a.
      first-of o y (z ∷ []) ((sort_at o x).values a) (λ values h. Goal S rule o (least_all (x ∷ y ∷ z ∷ [])) at values ((sort_at o x).press a and h)) (λ b.
      last-of o z ((sort_at o x).values a ++ (sort_at o y).values b) (λ values h. Goal S rule o (least_all (x ∷ y ∷ z ∷ [])) at values ((sort_at o x).press a and ((sort_at o y).press b and h))) (made at a b)));
}

pub closes-4 : (S : Sort) (rule : Rule) (o : Option Production) (x y z u : Sym) → production_of rule.number ≡ o → symbols_of rule ≡ x ∷ y ∷ z ∷ u ∷ [] → 1 ≤ own_of rule + least_all (x ∷ y ∷ z ∷ u ∷ [])
    → ((at : At) (a : (sort_at o x).thing) (b : (sort_at o y).thing) (c : (sort_at o z).thing) (d : (sort_at o u).thing)
    → Goal S rule o (least_all (x ∷ y ∷ z ∷ u ∷ [])) at ((((sort_at o x).values a ++ (sort_at o y).values b) ++ (sort_at o z).values c) ++ (sort_at o u).values d) ((sort_at o x).press a and ((sort_at o y).press b and ((sort_at o z).press c and (sort_at o u).press d))))
    → Closes S rule
closes-4 S rule o x y z u is are solid made = record {
  production = o;
  is = is;
  symbols = x ∷ y ∷ z ∷ u ∷ [];
  are = are;
  solid = solid;
  made = λ at. first-of o x (y ∷ z ∷ u ∷ []) [] (Goal S rule o (least_all (x ∷ y ∷ z ∷ u ∷ [])) at) (λ a.
      first-of o y (z ∷ u ∷ []) ((sort_at o x).values a) (λ values h. Goal S rule o (least_all (x ∷ y ∷ z ∷ u ∷ [])) at values ((sort_at o x).press a and h)) (λ b.
      first-of o z (u ∷ []) ((sort_at o x).values a ++ (sort_at o y).values b) (λ values h. Goal S rule o (least_all (x ∷ y ∷ z ∷ u ∷ [])) at values ((sort_at o x).press a and ((sort_at o y).press b and h))) (λ c.
      last-of o u (((sort_at o x).values a ++ (sort_at o y).values b) ++ (sort_at o z).values c) (λ values h. Goal S rule o (least_all (x ∷ y ∷ z ∷ u ∷ [])) at values ((sort_at o x).press a and ((sort_at o y).press b and ((sort_at o z).press c and h)))) (made at a b c))));
}

pub closes-5 : (S : Sort) (rule : Rule) (o : Option Production) (x y z u w : Sym) → production_of rule.number ≡ o → symbols_of rule ≡ x ∷ y ∷ z ∷ u ∷ w ∷ [] → 1 ≤ own_of rule + least_all (x ∷ y ∷ z ∷ u ∷ w ∷ [])
    → ((at : At) (a : (sort_at o x).thing) (b : (sort_at o y).thing) (c : (sort_at o z).thing) (d : (sort_at o u).thing) (e : (sort_at o w).thing)
    → Goal S rule o (least_all (x ∷ y ∷ z ∷ u ∷ w ∷ [])) at (((((sort_at o x).values a ++ (sort_at o y).values b) ++ (sort_at o z).values c) ++ (sort_at o u).values d) ++ (sort_at o w).values e) ((sort_at o x).press a and ((sort_at o y).press b and ((sort_at o z).press c and ((sort_at o u).press d and (sort_at o w).press e)))))
    → Closes S rule
closes-5 S rule o x y z u w is are solid made = record {
  production = o;
  is = is;
  symbols = x ∷ y ∷ z ∷ u ∷ w ∷ [];
  are = are;
  solid = solid;
  made = λ at. first-of o x (y ∷ z ∷ u ∷ w ∷ []) [] (Goal S rule o (least_all (x ∷ y ∷ z ∷ u ∷ w ∷ [])) at) (λ a.
      first-of o y (z ∷ u ∷ w ∷ []) ((sort_at o x).values a) (λ values h. Goal S rule o (least_all (x ∷ y ∷ z ∷ u ∷ w ∷ [])) at values ((sort_at o x).press a and h)) (λ b.
      first-of o z (u ∷ w ∷ []) ((sort_at o x).values a ++ (sort_at o y).values b) (λ values h. Goal S rule o (least_all (x ∷ y ∷ z ∷ u ∷ w ∷ [])) at values ((sort_at o x).press a and ((sort_at o y).press b and h))) (λ c.
      first-of o u (w ∷ []) (((sort_at o x).values a ++ (sort_at o y).values b) ++ (sort_at o z).values c) (λ values h. Goal S rule o (least_all (x ∷ y ∷ z ∷ u ∷ w ∷ [])) at values ((sort_at o x).press a and ((sort_at o y).press b and ((sort_at o z).press c and h)))) (λ d.
      last-of o w ((((sort_at o x).values a ++ (sort_at o y).values b) ++ (sort_at o z).values c) ++ (sort_at o u).values d) (λ values h. Goal S rule o (least_all (x ∷ y ∷ z ∷ u ∷ w ∷ [])) at values ((sort_at o x).press a and ((sort_at o y).press b and ((sort_at o z).press c and ((sort_at o u).press d and h))))) (made at a b c d)))));
}
