-- The values of the trees of each kind have the sorts of the kind, and so a well shaped symbol is refused only for a bad token.
use Rattle.rust_v0.proofs.Basics.{◌≡◌, refl, sym, ap, ◌∙◌, subst, ℕ, ◌+◌, List, [], ◌∷◌, ◌++◌, length, Bool, true, false, Option, Some, Ok, Err, Result, IfErr, list_all, map-append, false≢true, Refusal, Rule, Sym, Kind, Name, Number, Byte, symbols_of, Found, Open, ◌>>=◌, alone, standing, unfold_tree, unfold_forest, Production, production_of, v0_table, Value, State, a_symbol, meaning_of, token_of, at_rule, at_first, v0, symbol_of, unfolded, is_minus, bound_behind, IsBadToken}
use Rattle.sym_shape.specs.Tree.{Tree, Forest, branch, empty, token, fixed, nothing, grown, spell, TakesRule, IsTree, AreTrees}
use Rattle.rust_grammar.specs.declared.production.Production.TheVariants as rules
use Rattle.rust_v0.proofs.Sorts as sorts
use Rattle.rust_v0.proofs.Sorts.{Sort, is_same, sort_of, sorts_of, slots_of, made_by, token_sort, always_fills, IsSorted, is_sorted, IsOption, lone_option, empty_option, full_option}
use Rattle.rust_v0.proofs.SortedParts.{Gives, gives_then, Fill, Makes, made}

-- ## The parts of a tree

token_sorted : (production : Production) (minus : Bool) (own : List ℕ) → sort_of (token_of (Some production) minus own) ≡ token_sort production
token_sorted rules.PlainName minus own = refl
token_sorted _ minus own = refl

-- the sorts of a tree's values are among the options of its symbol
abbrev HasOption : Production → Sym → Result (Found (List Value) State) Refusal → Type 0
HasOption production x m = Gives (λ f. IsOption (sorts_of f.value) production x) m

-- a rule whose parts fill its slots makes a value of its production's sort, or is refused for a bad token
closed : (s : List ℕ) (kind : ℕ) (rule : Open State ℕ) (is : IsSorted kind rule.rule) (inner : Found (List Value) State) → Fill (slots_of is.production) inner.value
    → Gives (λ f. sorts_of f.value ≡ made_by is.production ∷ []) (meaning_of (production_of rule.rule.number) (at_rule s rule inner.state) inner.value >>= alone)
closed s kind rule is inner fill =
    gives_then (λ f. sort_of f.value ≡ made_by is.production) (λ f. sorts_of f.value ≡ made_by is.production ∷ [])
    (meaning_of (production_of rule.rule.number) (at_rule s rule inner.state) inner.value) alone
    (subst (λ (o : Option Production). Makes (made_by is.production) (meaning_of o (at_rule s rule inner.state) inner.value)) (sym is.is) (made is.production (at_rule s rule inner.state) inner.value fill))
    (λ f one. ap (λ v. v ∷ []) one)

-- likewise for a rule whose parts are read first
rule_closed : (s : List ℕ) (kind : ℕ) (rule : Open State ℕ) (is : IsSorted kind rule.rule) (parts : Result (Found (List Value) State) Refusal)
    → Gives (λ f. Fill (slots_of is.production) f.value) parts
    → Gives (λ f. sorts_of f.value ≡ made_by is.production ∷ []) (parts >>= λ inner. meaning_of (production_of rule.rule.number) (at_rule s rule inner.state) inner.value >>= alone)
rule_closed s kind rule is parts given =
    gives_then (λ f. Fill (slots_of is.production) f.value) (λ f. sorts_of f.value ≡ made_by is.production ∷ []) parts
    (λ inner. meaning_of (production_of rule.rule.number) (at_rule s rule inner.state) inner.value >>= alone) given
    (λ inner fill. closed s kind rule is inner fill)

weaker : {A : Type 0} (P Q : A → Type 0) (m : Result A Refusal) → ((x : A) → P x → Q x) → Gives P m → Gives Q m
weaker P Q (Ok x) each is = each x is
weaker P Q (Err e) each is = is

rule_option : (production : Production) (kind : ℕ) (rule : Rule) (is : IsSorted kind rule) (m : Result (Found (List Value) State) Refusal)
    → Gives (λ f. sorts_of f.value ≡ made_by is.production ∷ []) m → HasOption production (Kind kind) m
rule_option production kind rule is m given =
    weaker (λ f. sorts_of f.value ≡ made_by is.production ∷ []) (λ f. IsOption (sorts_of f.value) production (Kind kind)) m
    (λ f same. subst (λ o. IsOption o production (Kind kind)) (sym same) (full_option (made_by is.production) production kind is.made)) given

token_has_option : (production : Production) (state : State) (own : List ℕ) → state.inside ≡ Some production
    → (test : List Sort → Bool) → list_all test ((token_sort production ∷ []) ∷ []) ≡ true → test (sort_of (token_of state.inside state.minus own) ∷ []) ≡ true
token_has_option production state own inside test pass =
    subst (λ s. test (s ∷ []) ≡ true) (sym (ap (λ o. sort_of (token_of o state.minus own)) inside ∙ token_sorted production state.minus own)) (lone_option (token_sort production ∷ []) test pass)

-- with one more part known, the parts still always fill the slots
grown_fill : (production : Production) (x : Sym) (xs : List Sym) (known values : List Value) → always_fills production (sorts_of known) (x ∷ xs) ≡ true → IsOption (sorts_of values) production x
    → always_fills production (sorts_of (known ++ values)) xs ≡ true
grown_fill production x xs known values fits option =
    subst (λ all. always_fills production all xs ≡ true) (sym (map-append sort_of known values))
    (option (λ more. always_fills production (sorts_of known ++ more) xs) fits)

module _ (s : List ℕ) where
  mutual
    tree_sorted : (production : Production) (x : Sym) (context place : ℕ) (tree : Tree) (state : State) → state.inside ≡ Some production → IsTree v0_table x tree
        → HasOption production x (unfold_tree (v0 s) context place tree state)
    tree_sorted production (Kind kind) context place (branch rule taken parts) state inside (takes, are) =
        let sorted = is_sorted kind takes.byte rule takes.found in
        rule_option production kind rule sorted (unfold_tree (v0 s) context place (branch rule taken parts) state)
        (rule_closed s kind (standing rule taken place context state) sorted (unfold_forest (v0 s) (standing rule taken place context state) [] (place + length taken) parts state)
        (forest_sorted sorted.production (symbols_of rule) (standing rule taken place context state) [] (place + length taken) parts state sorted.is are sorted.parts))
    tree_sorted production (Kind kind) context place empty state inside is = empty_option production kind is
    tree_sorted production Name context place (token t) state inside is = token_has_option production state t.own inside
    tree_sorted production (Number kind) context place (token t) state inside is = token_has_option production state t.own inside
    tree_sorted production (Byte b) context place (fixed c) state inside is = λ test pass. lone_option [] test pass
    tree_sorted production x context place tree state inside is = absurd is

    forest_sorted : (production : Production) (xs : List Sym) (rule : Open State ℕ) (known : List Value) (place : ℕ) (parts : Forest) (state : State)
        → production_of rule.rule.number ≡ Some production → AreTrees v0_table xs parts → always_fills production (sorts_of known) xs ≡ true
        → Gives (λ f. Fill (slots_of production) f.value) (unfold_forest (v0 s) rule known place parts state)
    forest_sorted production [] rule known place nothing state is are fits = record { is = fits }
    forest_sorted production (x ∷ xs) rule known place (grown first rest) state is (tree, trees) fits =
        let next : State = record { ended = state.ended; inside = production_of rule.rule.number; minus = is_minus known } in
        gives_then (λ f. IsOption (sorts_of f.value) production x) (λ f. Fill (slots_of production) f.value)
        (unfold_tree (v0 s) (bound_behind (production_of rule.rule.number) rule.context known) place first next)
        (λ part. unfold_forest (v0 s) rule (known ++ part.value) (place + length (spell first)) rest part.state)
        (tree_sorted production x (bound_behind (production_of rule.rule.number) rule.context known) place first next is tree)
        (λ part option. forest_sorted production xs rule (known ++ part.value) (place + length (spell first)) rest part.state is trees
        (grown_fill production x xs known part.value fits option))
    forest_sorted production xs rule known place parts state is are fits = absurd are

-- ## A whole symbol

-- there is one sort, and it is that of a symbol
abbrev is_whole : List Sort → Bool
is_whole (s ∷ []) = is_same s sorts.symbol
is_whole _ = false

whole_symbol : (whole : List Value) → is_whole (sorts_of whole) ≡ true → IfErr (symbol_of whole) IsBadToken
whole_symbol (a_symbol symbol ∷ []) is = tt
whole_symbol [] is = absurd (false≢true is)
whole_symbol (v ∷ w ∷ more) is = absurd (false≢true is)
whole_symbol (v ∷ []) is = absurd (false≢true is)

-- the rule of a whole symbol is refused only for a bad token
whole_rule : (s : List ℕ) (rule : Rule) (taken : List ℕ) (parts : Forest) → TakesRule v0_table 0 rule taken → AreTrees v0_table (symbols_of rule) parts
    → IfErr (unfold_tree (v0 s) 0 0 (branch rule taken parts) at_first >>= λ whole. symbol_of whole.value) IsBadToken
whole_rule s rule taken parts takes are =
    let sorted = is_sorted 0 takes.byte rule takes.found in
    ended (unfold_tree (v0 s) 0 0 (branch rule taken parts) at_first)
    (rule_option rules.Symbol 0 rule sorted (unfold_tree (v0 s) 0 0 (branch rule taken parts) at_first)
    (rule_closed s 0 (standing rule taken 0 0 at_first) sorted (unfold_forest (v0 s) (standing rule taken 0 0 at_first) [] (0 + length taken) parts at_first)
    (forest_sorted s sorted.production (symbols_of rule) (standing rule taken 0 0 at_first) [] (0 + length taken) parts at_first sorted.is are sorted.parts)))
  where
    ended : (m : Result (Found (List Value) State) Refusal) → HasOption rules.Symbol (Kind 0) m → IfErr (m >>= λ whole. symbol_of whole.value) IsBadToken
    ended (Ok f) option = whole_symbol f.value (option is_whole refl)
    ended (Err e) bad = bad

-- the reading of a well shaped symbol's shape is refused only for a bad token
pub well_shaped_refused : (shape : Tree) → IsTree v0_table (Kind 0) shape → IfErr (unfolded shape) IsBadToken
well_shaped_refused (branch rule taken parts) (takes, are) = whole_rule (spell (branch rule taken parts)) rule taken parts takes are
well_shaped_refused empty is = absurd (false≢true is)
well_shaped_refused (token t) is = absurd is
well_shaped_refused (fixed byte) is = absurd is
