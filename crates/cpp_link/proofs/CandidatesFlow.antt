-- Each production appends to the candidates what was pending or what it makes.
use Rattle.cpp_link.proofs.Basics.{◌≡◌, refl, sym, ◌∙◌, subst, arith, ℕ, ◌+◌, ◌-◌, ◌≤◌, List, [], ◌∷◌, Bool, true, false, not, ◌&&◌, cond, Result, Ok, Err, slice_get, Refusal, BadReference, Decimal, Seq36, counted_value, Sym, Kind as OfKind, Name, Number, Byte, Found, Production, Operation, VENDOR_ARGUMENTS, PARAMETER_AFTER_T, INTEGER, ANONYMOUS, OPERATOR, OTHER_OPERATOR, OPERATOR_AFTER_C, CONSTRUCTOR_DIGIT, COMPONENT_AFTER_D, BINDING_AFTER_D, SOURCE_OR_LOCAL, NEST, NEST_AFTER_S, AFTER_D, ITEM_AFTER_D, SOLID, SOLID_BUT_T, ARGUMENT_AFTER_T, LEVELED_PARAMETER, ANY_ARRAY, ARRAY_REST, LITERAL_TYPE, CONVERTED_SOLID, DECLTYPE_AFTER_D, UNRESOLVED_TYPE, UNRESOLVED_NAME, UNQUALIFIED, NEST_REST, NEST_REST_OR_END, NEST_REST_ALONE, NEST_TAIL, NEST_MORE_OR_END, COMPONENT, COMPONENT_AFTER_C, CONSTRUCTOR_AFTER_C, HOLDER_MARK, HELD_COMPONENT, ABBREVIATION, TYPE_AFTER_S, TYPE_IN_STD, UNNESTED_NAME, MAYBE_ARGUMENTS, MAYBE_TAGS, ARGUMENTS, ARGUMENTS_ALONE, ARGUMENTS_FIRST, BASE_ARGUMENTS, HELD_ARGUMENTS, LITERAL_SOLID, CONVERTED_AFTER_D, FIRST_MODULE, NAMED_MODULE, NAME_AFTER_MODULE, NAME_IN_MODULE, NEST_ON, parts_of, number_of_kind, row_of, Term, in_std, instance, parameter, appended, with_type, with_prefix, parameter_named, argument, built, bytes_in, tree_in, truth_in, number_in, Continuation, after, inside, argument_at, index_of, no_items, applied, all_given, given, made, meant, is_listing, around_part, packs_within, gained, replaced, tested, done, state_after, own_meaning, listed_value, close, one_if_there, one_if_arguments, nodes_made, nodes_before, nodes_of, nodes_at_end, behind_bind}
use Rattle.cpp_grammar.specs.Row.{Made, unlisted, unless_there, Form, handed, finished, either, a_name, as_before, as_part, after_part, nameless, Gain, nothing, type_of, unqualified_of, itself, Action, quiet, goes, becomes, tests, Row, before_part}
use Rattle.cpp_term.specs.Values.{State, Around, prefix_tree, prefix_listed, Value, nothing_there, tree, named, tree_of, piece_of, text_of, is_listed, is_there, part}
use Rattle.cpp_link.proofs.CandidatesFew as few_
use Rattle.cpp_link.proofs.CandidatesFew.{is_component, becomes_candidate, goes_on, is_arguments, in_place, behind_name, pending, pending_around, makes_name, may_leave, takes_name, begins_arguments, leaves, starts_with, takes_pending, take_nothing, keeps, all_keep, closes_by_row, Flow, RowFlow, By, going, appended-one, typed-one, unqualified-one, prefix-one, substituted-none, parameter-one, came, none-appended, plain-flow, of-row, there-or-not, spent-or-not, rest-step}

abbrev plain : Form → Gain → Row
plain form gain = record { before = []; onward = quiet; form = form; gain = gain; restores_packs = false; tests_number = false }

abbrev after_steps : List Action → Form → Row
after_steps before form = record { before = before; onward = quiet; form = form; gain = nothing; restores_packs = false; tests_number = false }

-- rows of names: a name that is made before the second part; a name that is a candidate already, or never becomes one; a module
-- before a name; a parameter
abbrev named_row : Made → Form → Row
named_row m form = after_steps (quiet ∷ becomes m false true false ∷ []) form

abbrev listed_row : Made → Row
listed_row m = after_steps (quiet ∷ becomes m true true false ∷ []) (a_name unlisted)

abbrev module_row : Made → Row
module_row m = after_steps (goes nothing nameless ∷ becomes m true true false ∷ []) (handed 1)

abbrev parameter_row : (after_t : Bool) → Row
parameter_row after_t = after_steps (quiet ∷ tests after_t true ∷ []) (a_name (unless_there 1))

-- how many trees a value leaves pending
abbrev Left : Type 0
Left = Value → ℕ

-- nothing is pending before parts of this symbol
abbrev Untaken : Sym → Type 0
Untaken x = (around : Around) (v : Value) → pending_around x around v ≡ 0

-- arguments or tags that may be after a name
abbrev AfterName : ℕ → Type 0
AfterName k = ((w : Value) → pending (OfKind k) w ≡ in_place w) × ((around : Around) (w : Value) → pending_around (OfKind k) around w ≡ cond (is_there w) (few_.unlisted_around around) 0)

-- ## Names

-- a name is made, and is pending if nothing follows
named-flow : (m : Made) (form : Form) (leave : Left) (around : Around) (place : ℕ) (x : Sym) (k : ℕ) → ((vs : List Value) → nodes_made m vs ≡ 1) → ((vs : List Value) → nodes_at_end form vs ≡ one_if_arguments (part vs 1))
    → ((v : Value) → leave v ≤ 1) → Untaken x → AfterName k → RowFlow (named_row m form) leave around place (x ∷ OfKind k ∷ []) [] 0
unfolding few_.unlisted_around before_part done replaced after prefix_listed state_after gained nodes_before part
named-flow m form leave around place x k one ends few none follows = λ state next e. came (going [] around state) next e (none-appended (going [] around state) (omega arith) (λ v. none around v) begun)
  where
    closes : (u w : Value) → RowFlow (named_row m form) leave around place [] (u ∷ w ∷ []) (behind_name 1 w)
    closes u w = λ byte began state. omega (arith, few (meant form byte around (u ∷ w ∷ [])), ends (u ∷ w ∷ []), there-or-not w)

    begun : (v : Value) → RowFlow (named_row m form) leave around place (OfKind k ∷ []) (v ∷ []) 0
    begun v = λ state next e. (
        let t : Term = made 0 around (v ∷ []) m in
        came (going (tree t false ∷ []) (after t false around) state) next e (record {
          over = 1;
          few = omega (arith, one (v ∷ []));
          later = λ w. record { now = behind_name 1 w; few = omega (arith, spent-or-not 1 w, follows.0 w, follows.1 (after t false around) w); goes = closes (tree t false) w };
        }))

-- a name that is a candidate already, or never becomes one, before its arguments
listed-flow : (m : Made) (leave : Left) (around : Around) (place : ℕ) (x : Sym) (k : ℕ) → ((v : Value) → leave v ≡ 0) → Untaken x → AfterName k
    → RowFlow (listed_row m) leave around place (x ∷ OfKind k ∷ []) [] 0
unfolding few_.unlisted_around before_part done replaced after prefix_listed state_after gained nodes_before nodes_at_end part
listed-flow m leave around place x k leaves_none none follows = λ state next e. came (going [] around state) next e (none-appended (going [] around state) (omega arith) (λ v. none around v) begun)
  where
    no_more : (b : Bool) → ◌≡◌ {A = ℕ} (cond b 0 0) 0
    no_more true = refl
    no_more false = refl

    closes : (u w : Value) → RowFlow (listed_row m) leave around place [] (u ∷ w ∷ []) 0
    closes u w = λ byte began state. omega (arith, leaves_none (meant (a_name unlisted) byte around (u ∷ w ∷ [])))

    begun : (v : Value) → RowFlow (listed_row m) leave around place (OfKind k ∷ []) (v ∷ []) 0
    begun v = λ state next e. (
        let t : Term = made 0 around (v ∷ []) m in
        came (going (tree t true ∷ []) (after t true around) state) next e
        (none-appended (going (tree t true ∷ []) (after t true around) state) (omega arith) (λ w. follows.1 (after t true around) w ∙ no_more (is_there w)) (λ w. closes (tree t true) w)))

-- a name that is made, and becomes a candidate only as a whole, with the arguments that follow, if there are some
whole-flow : (m : Made) (leave : Left) (around : Around) (place : ℕ) (x : Sym) (k : ℕ) → ((vs : List Value) → nodes_made m vs ≡ 1) → ((v : Value) → leave v ≤ 1) → Untaken x → AfterName k
    → RowFlow (listed_row m) leave around place (x ∷ OfKind k ∷ []) [] 0
unfolding few_.unlisted_around before_part done replaced after prefix_listed state_after gained nodes_before nodes_at_end part
whole-flow m leave around place x k one few none follows = λ state next e. came (going [] around state) next e (none-appended (going [] around state) (omega arith) (λ v. none around v) begun)
  where
    no_more : (b : Bool) → ◌≡◌ {A = ℕ} (cond b 0 0) 0
    no_more true = refl
    no_more false = refl

    closes : (u w : Value) → RowFlow (listed_row m) leave around place [] (u ∷ w ∷ []) 1
    closes u w = λ byte began state. omega (arith, few (meant (a_name unlisted) byte around (u ∷ w ∷ [])))

    begun : (v : Value) → RowFlow (listed_row m) leave around place (OfKind k ∷ []) (v ∷ []) 0
    begun v = λ state next e. (
        let t : Term = made 0 around (v ∷ []) m in
        came (going (tree t true ∷ []) (after t true around) state) next e (record {
          over = 1;
          few = omega (arith, one (v ∷ []));
          later = λ w. record { now = 1; few = omega (arith, follows.1 (after t true around) w, no_more (is_there w)); goes = closes (tree t true) w };
        }))

-- a name after a module; the name may be pending
module-name-flow : (m : Made) (leave : Left) (around : Around) (place : ℕ) (x : Sym) → ((v : Value) → leave v ≤ 1) → Untaken x → RowFlow (module_row m) leave around place (x ∷ OfKind NAME_AFTER_MODULE ∷ []) [] 0
unfolding pending pending_around goes_on is_arguments is_component becomes_candidate before_part done around_part packs_within replaced state_after gained meant nodes_before nodes_at_end part
module-name-flow m leave around place x few none = λ state next e. came (going [] (inside around) state) next e (none-appended (going [] (inside around) state) (omega arith) (λ v. none (inside around) v) begun)
  where
    begun : (v : Value) → RowFlow (module_row m) leave around place (OfKind NAME_AFTER_MODULE ∷ []) (v ∷ []) 0
    begun v = λ state next e. (
        let t : Term = made 0 around (v ∷ []) m in
        came (going (tree t true ∷ []) (after t true around) state) next e (record {
          over = 0;
          few = omega arith;
          later = λ w. record { now = 1; few = omega arith; goes = λ byte began last. omega (arith, few w) };
        }))

-- a listed name without arguments leaves no tree pending; any other name leaves those that were pending or are made
spent-behind : (a : Bool) (w : Value) → cond (a && not (is_there w)) 0 1 ≤ one_if_arguments w + behind_name (cond a 0 1) w
unfolding is_there one_if_arguments one_if_there behind_name in_place
spent-behind true nothing_there = omega arith
spent-behind true (named t qualifiers ref) = omega arith
spent-behind true _ = omega arith
spent-behind false nothing_there = omega arith
spent-behind false (named t qualifiers ref) = omega arith
spent-behind false _ = omega arith

-- a parameter is a candidate before its arguments
parameter-flow : (after_t : Bool) (around : Around) (place : ℕ) → RowFlow (parameter_row after_t) few_.unlisted around place (Number Decimal ∷ OfKind ARGUMENTS_ALONE ∷ []) [] 0
unfolding pending pending_around few_.unlisted few_.unlisted_around goes_on is_arguments is_component becomes_candidate before_part done tested replaced after prefix_listed state_after gained meant is_listing is_listed nodes_before nodes_at_end part
parameter-flow after_t around place = λ state next e. came (going [] around state) next e (none-appended (going [] around state) (omega arith) (λ v. refl) begun)
  where
    closes : (u w : Value) → RowFlow (parameter_row after_t) few_.unlisted around place [] (u ∷ w ∷ []) (behind_name 0 w)
    closes u w = λ byte began state. omega (arith, spent-behind true w)

    begun : (v : Value) → RowFlow (parameter_row after_t) few_.unlisted around place (OfKind ARGUMENTS_ALONE ∷ []) (v ∷ []) 0
    begun v = λ state next e. (
        let k : ℕ = index_of v in
        let t : Term = parameter k (argument_at around k) in
        let b = behind_bind (parameter_named around (cond after_t (place - 1) place) k state) (λ s. tested true around t (v ∷ []) s state) next e in
        came (going (tree t true ∷ []) (after t true around) b.value) next b.next (record {
          over = 0;
          few = omega (arith, parameter-one around (cond after_t (place - 1) place) k state b.value b.is);
          later = λ w. record { now = behind_name 0 w; few = spent-or-not 0 w; goes = closes (tree t true) w };
        }))

-- a parameter in an expression is made, and is no candidate; a name that is pending before it may become one before its arguments
expression-parameter : (around : Around) (place : ℕ) → By Production.ParameterExpression around place (Number Decimal ∷ OfKind ARGUMENTS_ALONE ∷ []) [] 0
unfolding pending pending_around few_.unlisted_around goes_on is_arguments is_component becomes_candidate row_of before_part done tested replaced state_after gained nodes_before nodes_at_end leaves makes_name may_leave part
expression-parameter around place = λ state next e. came (going [] around state) next e (none-appended (going [] around state) (omega arith) (λ v. refl) begun)
  where
    closes : (u w : Value) (now : ℕ) → By Production.ParameterExpression around place [] (u ∷ w ∷ []) now
    closes u w now = λ byte began state. omega arith

    at_most_one : (a b : Bool) → cond a (cond b 0 1) 0 ≤ 1
    at_most_one true true = omega arith
    at_most_one true false = omega arith
    at_most_one false b = omega arith

    begun : (v : Value) → By Production.ParameterExpression around place (OfKind ARGUMENTS_ALONE ∷ []) (v ∷ []) 0
    begun v = λ state next e. (
        let k : ℕ = index_of v in
        let t : Term = parameter k (argument_at around k) in
        let b = behind_bind (parameter_named around (place - 1) k state) (λ s. tested false around t (v ∷ []) s state) next e in
        came (going (tree t true ∷ []) around (record b.value { candidates = state.candidates })) next b.next (record {
          over = 1;
          few = omega arith;
          later = λ w. record { now = 0; few = omega (arith, at_most_one (is_there w) (prefix_listed around.prefix)); goes = closes (tree t true) w 0 };
        }))

-- a type that begins with `S` (an abbreviation, what a substitution names, or a name in std), before its arguments
with-s-type : (around : Around) (place : ℕ) → By Production.TypeWithS around place (OfKind TYPE_AFTER_S ∷ OfKind ARGUMENTS_ALONE ∷ []) [] 0
unfolding pending pending_around few_.unlisted few_.unlisted_around goes_on is_arguments is_component becomes_candidate row_of before_part done around_part packs_within gained after prefix_listed is_listing is_listed meant state_after nodes_before nodes_at_end leaves makes_name may_leave part
with-s-type around place = λ state next e. came (going [] around state) next e (record {
  over = 0;
  few = omega arith;
  later = λ v. record { now = few_.unlisted v; few = omega arith; goes = begun v };
})
  where
    closes : (v w : Value) → By Production.TypeWithS around place [] (v ∷ w ∷ []) (behind_name (few_.unlisted v) w)
    closes v w = λ byte began state. omega (arith, spent-behind (is_listed v) w)

    begun : (v : Value) → By Production.TypeWithS around place (OfKind ARGUMENTS_ALONE ∷ []) (v ∷ []) (few_.unlisted v)
    begun v = λ state next e. came (going (v ∷ []) (after (tree_of v) (is_listed v) around) state) next e (record {
      over = few_.unlisted v;
      few = omega arith;
      later = λ w. record { now = behind_name (few_.unlisted v) w; few = spent-or-not (few_.unlisted v) w; goes = closes v w };
    })

-- ## Forwarded values

-- the production's value is that of its only part
handed-flow : (leave : Left) (around : Around) (place : ℕ) (x : Sym) → Untaken x → ((v : Value) → leave v ≤ pending x v) → RowFlow (plain (handed 0) nothing) leave around place (x ∷ []) [] 0
unfolding before_part done state_after gained meant nodes_before nodes_at_end part
handed-flow leave around place x none few = λ state next e. came (going [] around state) next e (record {
  over = 0;
  few = omega arith;
  later = λ v. record { now = pending x v; few = omega (arith, none around v); goes = λ byte began state. omega (arith, few v) };
})

-- the production's value is that of its second part, after a number
second-flow : (leave : Left) (around : Around) (place : ℕ) (x : Sym) → Untaken x → ((v : Value) → leave v ≤ pending x v) → RowFlow (plain (handed 1) nothing) leave around place (Number Decimal ∷ x ∷ []) [] 0
unfolding before_part done state_after gained meant nodes_before nodes_at_end part pending pending_around
second-flow leave around place x none few = λ state next e. came (going [] around state) next e (none-appended (going [] around state) (omega arith) (λ v. refl) begun)
  where
    begun : (v : Value) → RowFlow (plain (handed 1) nothing) leave around place (x ∷ []) (v ∷ []) 0
    begun v = λ state next e. came (going (v ∷ []) around state) next e (record {
      over = 0;
      few = omega arith;
      later = λ w. record { now = pending x w; few = omega (arith, none around w); goes = λ byte began state. omega (arith, few w) };
    })

-- the forwarded value becomes a candidate
typed-flow : (leave : Left) (around : Around) (place : ℕ) (x : Sym) → Untaken x → ((v : Value) → pending x v ≡ few_.unlisted v) → ((v : Value) → leave (listed_value v) ≡ 0)
    → RowFlow (plain (finished 0) (type_of 0)) leave around place (x ∷ []) [] 0
unfolding before_part done state_after gained meant nodes_before nodes_at_end part
typed-flow leave around place x none is left = λ state next e. came (going [] around state) next e (record {
  over = 0;
  few = omega arith;
  later = λ v. record { now = few_.unlisted v; few = omega (arith, none around v, is v); goes = λ byte began state. omega (arith, left v, typed-one around v state) };
})

-- likewise, unless the value is a function type
unqualified-flow : (leave : Left) (around : Around) (place : ℕ) (x : Sym) → Untaken x → ((v : Value) → pending x v ≡ few_.unlisted v) → ((v : Value) → leave (listed_value v) ≡ 0)
    → RowFlow (plain (finished 0) (unqualified_of 0)) leave around place (x ∷ []) [] 0
unfolding before_part done state_after gained meant nodes_before nodes_at_end part
unqualified-flow leave around place x none is left = λ state next e. came (going [] around state) next e (record {
  over = 0;
  few = omega arith;
  later = λ v. record { now = few_.unlisted v; few = omega (arith, none around v, is v); goes = λ byte began state. omega (arith, left v, unqualified-one around v state) };
})

-- the type that is made becomes a candidate
own-type : (form : Form) (leave : Left) (around : Around) (place : ℕ) (vs : List Value) → ((byte : ℕ) → leave (meant form byte around vs) ≡ 0) → ((us : List Value) → nodes_at_end form us ≡ 1) → RowFlow (plain form itself) leave around place [] vs 0
unfolding state_after gained
own-type form leave around place vs left one = λ byte began state. omega (arith, left byte, one vs, appended-one around (tree_of (meant form byte around vs)) state)

-- a type becomes a candidate before the type that refers to it
of-type-flow : (form : Form) (leave : Left) (around : Around) (place : ℕ) (x y : Sym) → Untaken x → Untaken y → ((v : Value) → pending x v ≡ few_.unlisted v)
    → ((byte : ℕ) (vs : List Value) → leave (meant form byte around vs) ≤ nodes_at_end form vs)
    → RowFlow (after_steps (quiet ∷ goes (type_of 0) as_before ∷ []) form) leave around place (x ∷ y ∷ []) [] 0
unfolding before_part done around_part packs_within state_after gained nodes_before part
of-type-flow form leave around place x y none free is left = λ state next e. came (going [] around state) next e (record {
  over = 0;
  few = omega arith;
  later = λ v. record {
    now = few_.unlisted v;
    few = omega (arith, none around v, is v);
    goes = λ later after_ f. came (going (v ∷ []) around (with_type around v later)) after_ f (record {
      over = 0;
      few = omega (arith, typed-one around v later);
      later = λ w. record { now = 0; few = omega (arith, free around w); goes = λ byte began last. omega (arith, left byte (v ∷ w ∷ [])) };
    });
  };
})

-- ## Nested names

-- a piece is added to the name so far, and what follows continues the longer name
nest-flow : (m : Made) (leave : Left) (around : Around) (place : ℕ) (x : Sym) → ((v : Value) → leave v ≡ few_.unlisted v) → ((vs : List Value) → nodes_made m vs ≡ 1) → Untaken x
    → RowFlow (named_row m (handed 1)) leave around place (x ∷ OfKind NEST_REST ∷ []) [] 0
unfolding pending pending_around goes_on is_arguments is_component becomes_candidate before_part done replaced state_after gained meant nodes_before nodes_at_end part
nest-flow m leave around place x left one none = λ state next e. came (going [] around state) next e (none-appended (going [] around state) (omega arith) (λ v. none around v) begun)
  where
    begun : (v : Value) → RowFlow (named_row m (handed 1)) leave around place (OfKind NEST_REST ∷ []) (v ∷ []) 0
    begun v = λ state next e. (
        let t : Term = made 0 around (v ∷ []) m in
        came (going (tree t false ∷ []) (after t false around) state) next e
        (rest-step (named_row m (handed 1)) leave around place NEST_REST (nodes_made m (v ∷ [])) 0 state (tree t false ∷ []) t false state (λ a w. refl) (λ w. refl) (omega (arith, one (v ∷ [])))
        (λ w. λ byte began last. omega (arith, left w))))

nest-template : (around : Around) (place : ℕ) → By Production.NestTemplate around place (OfKind ABBREVIATION ∷ OfKind NEST_REST_OR_END ∷ []) [] 0
unfolding pending pending_around goes_on is_arguments is_component becomes_candidate row_of before_part done replaced made given tree_in state_after gained meant nodes_before nodes_made nodes_at_end leaves makes_name may_leave part
nest-template around place = λ state next e. came (going [] around state) next e
    (none-appended (going [] around state) (omega arith) (λ v. refl) (λ v.
    λ later after_ f. came (going (tree (tree_of v) true ∷ []) (after (tree_of v) true around) later) after_ f
    (rest-step (row_of Production.NestTemplate) (leaves Production.NestTemplate) around place NEST_REST_OR_END 0 0 later (tree (tree_of v) true ∷ []) (tree_of v) true later (λ a w. refl)
    (λ w. refl) (omega arith) (λ w. λ byte began last. omega arith))))

nest-parameter : (around : Around) (place : ℕ) → By Production.NestParameter around place (Number Decimal ∷ OfKind NEST_REST_ALONE ∷ []) [] 0
unfolding pending pending_around goes_on is_arguments is_component becomes_candidate row_of before_part done tested replaced state_after gained meant nodes_before nodes_at_end leaves makes_name may_leave part
nest-parameter around place = λ state next e. came (going [] around state) next e (none-appended (going [] around state) (omega arith) (λ v. refl) begun)
  where
    begun : (v : Value) → By Production.NestParameter around place (OfKind NEST_REST_ALONE ∷ []) (v ∷ []) 0
    begun v = λ state next e. (
        let k : ℕ = index_of v in
        let t : Term = parameter k (argument_at around k) in
        let b = behind_bind (parameter_named around place k state) (λ s. tested true around t (v ∷ []) s state) next e in
        came (going (tree t true ∷ []) (after t true around) b.value) next b.next
        (rest-step (row_of Production.NestParameter) (leaves Production.NestParameter) around place NEST_REST_ALONE 1 0 state (tree t true ∷ []) t true b.value (λ a w. refl) (λ w. refl)
        (omega (arith, parameter-one around place k state b.value b.is)) (λ w. λ byte began last. omega arith)))

nest-std : (around : Around) (place : ℕ) → By Production.NestStd around place (OfKind UNQUALIFIED ∷ OfKind MAYBE_ARGUMENTS ∷ OfKind NEST_TAIL ∷ []) [] 0
unfolding pending pending_around few_.unlisted_around goes_on is_arguments is_component becomes_candidate after prefix_listed row_of before_part done replaced made given all_given built argument tree_in state_after gained meant nodes_before nodes_made nodes_at_end leaves makes_name may_leave part
nest-std around place = λ state next e. came (going [] around state) next e (none-appended (going [] around state) (omega arith) (λ v. refl) named_)
  where
    ends : (u w : Value) → By Production.NestStd around place (OfKind NEST_TAIL ∷ []) (u ∷ w ∷ []) (behind_name 1 w)
    ends u w = λ state next e. came (going (tree (applied (tree_of u) w) false ∷ w ∷ []) (after (applied (tree_of u) w) false around) state) next e
        (rest-step (row_of Production.NestStd) (leaves Production.NestStd) around place NEST_TAIL (one_if_arguments w) (behind_name 1 w) state (tree (applied (tree_of u) w) false ∷ w ∷ [])
        (applied (tree_of u) w) false state (λ a z. refl) (λ z. refl) (omega (arith, there-or-not w)) (λ z. λ byte began last. omega arith))

    named_ : (v : Value) → By Production.NestStd around place (OfKind MAYBE_ARGUMENTS ∷ OfKind NEST_TAIL ∷ []) (v ∷ []) 0
    named_ v = λ state next e. (
        let t : Term = in_std (piece_of v) in
        came (going (tree t false ∷ []) (after t false around) state) next e (record {
          over = 1;
          few = omega arith;
          later = λ w. record { now = behind_name 1 w; few = spent-or-not 1 w; goes = ends (tree t false) w };
        }))

nest-next : (around : Around) (place : ℕ) → By Production.NestNext around place (OfKind COMPONENT ∷ OfKind NEST_TAIL ∷ []) [] (few_.unlisted_around around)
unfolding pending pending_around goes_on is_arguments is_component becomes_candidate row_of before_part done around_part packs_within is_listing state_after gained meant nodes_before nodes_at_end leaves makes_name may_leave part
nest-next around place = λ state next e. came (going [] around (with_prefix around state)) next e (record {
  over = 0;
  few = omega (arith, prefix-one around state);
  later = λ v. record { now = 1; few = omega arith; goes = ends v };
})
  where
    ends : (v : Value) → By Production.NestNext around place (OfKind NEST_TAIL ∷ []) (v ∷ []) 1
    ends v = λ state next e. came (going (v ∷ []) (after (tree_of v) false around) state) next e
        (rest-step (row_of Production.NestNext) (leaves Production.NestNext) around place NEST_TAIL 0 1 state (v ∷ []) (tree_of v) false state (λ a w. refl) (λ w. refl) (omega arith)
        (λ w. λ byte began last. omega arith))

nest-module : (around : Around) (place : ℕ) → By Production.NestModule around place (OfKind NAME_IN_MODULE ∷ OfKind NEST_ON ∷ []) [] 0
unfolding pending pending_around goes_on is_arguments is_component becomes_candidate row_of before_part done around_part packs_within is_listing state_after gained meant nodes_before nodes_at_end leaves makes_name may_leave part
nest-module around place = λ state next e. came (going [] around state) next e (record {
  over = 0;
  few = omega arith;
  later = λ v. record { now = 1; few = omega arith; goes = ends v };
})
  where
    ends : (v : Value) → By Production.NestModule around place (OfKind NEST_ON ∷ []) (v ∷ []) 1
    ends v = λ state next e. came (going (v ∷ []) (after (tree_of v) false around) state) next e
        (rest-step (row_of Production.NestModule) (leaves Production.NestModule) around place NEST_ON 0 1 state (v ∷ []) (tree_of v) false state (λ a w. refl) (λ w. refl) (omega arith)
        (λ w. λ byte began last. omega arith))

-- the ABI's grammar has no name with an `M`
holder-component : (around : Around) (place : ℕ) → By Production.Holder around place (OfKind HOLDER_MARK ∷ OfKind HELD_COMPONENT ∷ []) [] 0
unfolding pending_around goes_on is_arguments row_of before_part done nodes_before
holder-component around place = λ state next e. came (going [] around state) next e (none-appended (going [] around state) (omega arith) (λ v. refl) held)
  where
    held : (v : Value) → By Production.Holder around place (OfKind HELD_COMPONENT ∷ []) (v ∷ []) 0
    held v = λ state next e. absurd (let clash : ◌≡◌ {A = Continuation} (Err (BadReference place)) (Ok next) = e in cc)

nest-arguments : (around : Around) (place : ℕ) → By Production.NestArguments around place (OfKind ARGUMENTS_FIRST ∷ Byte 69 ∷ OfKind COMPONENT ∷ OfKind NEST_TAIL ∷ []) [] (few_.unlisted_around around)
unfolding pending pending_around goes_on is_arguments is_component becomes_candidate row_of before_part done around_part packs_within replaced made given all_given built argument tree_in is_listing state_after gained meant nodes_before nodes_made nodes_at_end leaves makes_name may_leave part
nest-arguments around place = λ state next e. came (going [] (inside around) (with_prefix around state)) next e (record {
  over = 0;
  few = omega (arith, prefix-one around state);
  later = λ v. record { now = 0; few = omega arith; goes = ended-by v };
})
  where
    ends : (u b v : Value) → By Production.NestArguments around place (OfKind NEST_TAIL ∷ []) (u ∷ b ∷ v ∷ []) 1
    ends u b v = λ state next e. came (going (u ∷ b ∷ v ∷ []) (after (tree_of v) false around) state) next e
        (rest-step (row_of Production.NestArguments) (leaves Production.NestArguments) around place NEST_TAIL 0 1 state (u ∷ b ∷ v ∷ []) (tree_of v) false state (λ a w. refl) (λ w. refl) (omega arith)
        (λ w. λ byte began last. omega arith))

    instanced : (v b : Value) → By Production.NestArguments around place (OfKind COMPONENT ∷ OfKind NEST_TAIL ∷ []) (v ∷ b ∷ []) 0
    instanced v b = λ state next e. (
        let t : Term = instance (prefix_tree around.prefix) (no_items v) in
        came (going (tree t false ∷ b ∷ []) (after t false around) (appended around t state)) next e (record {
          over = 0;
          few = omega (arith, appended-one around t state);
          later = λ w. record { now = 1; few = omega arith; goes = ends (tree t false) b w };
        }))

    ended-by : (v : Value) → By Production.NestArguments around place (Byte 69 ∷ OfKind COMPONENT ∷ OfKind NEST_TAIL ∷ []) (v ∷ []) 0
    ended-by v = λ state next e. came (going (v ∷ []) around state) next e (none-appended (going (v ∷ []) around state) (omega arith) (λ b. refl) (λ b. instanced v b))

nest-instance : (around : Around) (place : ℕ) → By Production.NestInstance around place (OfKind ARGUMENTS_FIRST ∷ Byte 69 ∷ OfKind NEST_MORE_OR_END ∷ []) [] (few_.unlisted_around around)
unfolding pending pending_around goes_on is_arguments is_component becomes_candidate row_of before_part done around_part packs_within replaced made given all_given built argument tree_in state_after gained meant nodes_before nodes_made nodes_at_end leaves makes_name may_leave part
nest-instance around place = λ state next e. came (going [] (inside around) (with_prefix around state)) next e (record {
  over = 0;
  few = omega (arith, prefix-one around state);
  later = λ v. record { now = 0; few = omega arith; goes = ended-by v };
})
  where
    instanced : (v b : Value) → By Production.NestInstance around place (OfKind NEST_MORE_OR_END ∷ []) (v ∷ b ∷ []) 0
    instanced v b = λ state next e. (
        let t : Term = instance (prefix_tree around.prefix) (no_items v) in
        came (going (tree t false ∷ b ∷ []) (after t false around) state) next e
        (rest-step (row_of Production.NestInstance) (leaves Production.NestInstance) around place NEST_MORE_OR_END 1 0 state (tree t false ∷ b ∷ []) t false state (λ a w. refl) (λ w. refl) (omega arith)
        (λ w. λ byte began last. omega arith)))

    ended-by : (v : Value) → By Production.NestInstance around place (Byte 69 ∷ OfKind NEST_MORE_OR_END ∷ []) (v ∷ []) 0
    ended-by v = λ state next e. came (going (v ∷ []) around state) next e (none-appended (going (v ∷ []) around state) (omega arith) (λ b. refl) (λ b. instanced v b))

nest-end : (around : Around) (place : ℕ) → By Production.NestEnd around place [] [] (few_.unlisted_around around)
unfolding few_.unlisted few_.unlisted_around is_listed row_of state_after gained meant own_meaning nodes_at_end nodes_of leaves makes_name may_leave
nest-end around place = λ byte began state. omega arith

arguments : (around : Around) (place : ℕ) → By Production.Arguments around place (OfKind ARGUMENTS_FIRST ∷ Byte 69 ∷ []) [] (few_.unlisted_around around)
unfolding pending pending_around goes_on is_arguments is_component becomes_candidate row_of before_part done around_part packs_within state_after gained nodes_before nodes_made nodes_at_end leaves makes_name may_leave
arguments around place = λ state next e. came (going [] (inside around) (with_prefix around state)) next e (record {
  over = 0;
  few = omega (arith, prefix-one around state);
  later = λ v. record {
    now = 0;
    few = omega arith;
    goes = λ later after_ f. came (going (v ∷ []) around later) after_ f (none-appended (going (v ∷ []) around later) (omega arith) (λ b. refl) (λ b. λ byte began last. omega arith));
  };
})

-- ## The base class of an inherited constructor

base-arguments : (around : Around) (place : ℕ) → By Production.BaseArguments around place (OfKind ARGUMENTS_FIRST ∷ Byte 69 ∷ OfKind HELD_ARGUMENTS ∷ []) [] (few_.unlisted_around around)
unfolding pending pending_around goes_on is_arguments is_component becomes_candidate row_of before_part done around_part packs_within replaced made given all_given built argument tree_in state_after gained meant nodes_before nodes_made nodes_at_end leaves makes_name may_leave part
base-arguments around place = λ state next e. came (going [] (inside around) (with_prefix around state)) next e (record {
  over = 0;
  few = omega (arith, prefix-one around state);
  later = λ v. record { now = 0; few = omega arith; goes = ended-by v };
})
  where
    instanced : (v b : Value) → By Production.BaseArguments around place (OfKind HELD_ARGUMENTS ∷ []) (v ∷ b ∷ []) 0
    instanced v b = λ state next e. (
        let t : Term = instance (prefix_tree around.prefix) (no_items v) in
        came (going (tree t false ∷ b ∷ []) (after t false around) state) next e
        (none-appended (going (tree t false ∷ b ∷ []) (after t false around) state) (omega arith) (λ w. refl) (λ w. λ byte began last. omega arith)))

    ended-by : (v : Value) → By Production.BaseArguments around place (Byte 69 ∷ OfKind HELD_ARGUMENTS ∷ []) (v ∷ []) 0
    ended-by v = λ state next e. came (going (v ∷ []) around state) next e (none-appended (going (v ∷ []) around state) (omega arith) (λ b. refl) (λ b. instanced v b))

-- the arguments after the name of a base class continue that name
base-flow : (leave : Left) (around : Around) (place : ℕ) (x : Sym) → Untaken x → ((v : Value) → pending x v ≡ few_.unlisted v) → ((v : Value) → leave v ≡ 0)
    → RowFlow (after_steps (quiet ∷ goes nothing (after_part 0 (as_part 0)) ∷ []) (either 1 0)) leave around place (x ∷ OfKind BASE_ARGUMENTS ∷ []) [] 0
unfolding pending pending_around few_.unlisted few_.unlisted_around goes_on is_arguments is_component becomes_candidate before_part done around_part packs_within is_listing is_listed after prefix_listed state_after gained nodes_before nodes_at_end part
base-flow leave around place x none one left = λ state next e. came (going [] around state) next e (record {
  over = 0;
  few = omega arith;
  later = λ v. record {
    now = few_.unlisted v;
    few = omega (arith, none around v, one v);
    goes = λ later after_ f. came (going (v ∷ []) (after (tree_of v) (is_listed v) around) later) after_ f (record {
      over = few_.unlisted v;
      few = omega arith;
      later = λ w. record { now = 0; few = omega arith; goes = λ byte began last. omega (arith, left (meant (either 1 0) byte around (v ∷ w ∷ []))) };
    });
  };
})

-- a type becomes the name so far unchanged, and what follows continues it
type-name-flow : (leave : Left) (around : Around) (place : ℕ) (x : Sym) → Untaken x → ((v : Value) → pending x v ≡ few_.unlisted v) → ((v : Value) → leave v ≡ few_.unlisted v)
    → RowFlow (after_steps (quiet ∷ goes nothing (after_part 0 (as_part 0)) ∷ []) (handed 1)) leave around place (x ∷ OfKind NEST_REST_ALONE ∷ []) [] 0
unfolding pending pending_around few_.unlisted few_.unlisted_around goes_on is_arguments is_component becomes_candidate before_part done around_part packs_within is_listing is_listed after prefix_listed state_after gained meant nodes_before nodes_at_end part
type-name-flow leave around place x none one left = λ state next e. came (going [] around state) next e (record {
  over = 0;
  few = omega arith;
  later = λ v. record {
    now = few_.unlisted v;
    few = omega (arith, none around v, one v);
    goes = λ later after_ f. came (going (v ∷ []) (after (tree_of v) (is_listed v) around) later) after_ f (record {
      over = few_.unlisted v;
      few = omega arith;
      later = λ w. record { now = few_.unlisted w; few = omega arith; goes = λ byte began last. omega (arith, left w) };
    });
  };
})

-- ## All productions

substitution-closes : (around : Around) (place : ℕ) (vs : List Value) → Flow Production.Substitution around place [] vs 0
unfolding close leaves makes_name may_leave
substitution-closes around place vs = λ byte began state one e. omega (
  arith,
  substituted-none around (place - 1) (slice_get state.candidates (counted_value Seq36 (text_of (part vs 0)))) state one e,
)

-- the ABI's grammar has no inherited constructor
inheriting-closes : (around : Around) (place : ℕ) (vs : List Value) → Flow Production.Inheriting around place [] vs 0
unfolding close
inheriting-closes around place vs = λ byte began state one e. absurd (let clash : ◌≡◌ {A = Result (Found Value State) Refusal} (Err (BadReference place)) (Ok one) = e in cc)

leaves-one : (p : Production) (v : Value) → leaves p v ≤ 1
unfolding leaves few_.unlisted
leaves-one p v = go (makes_name p) (may_leave p) (is_listed v)
  where
    go : (a b c : Bool) → cond a 1 (cond b (cond c 0 1) 0) ≤ 1
    go true b c = omega arith
    go false true true = omega arith
    go false true false = omega arith
    go false false c = omega arith

maybe-arguments : AfterName MAYBE_ARGUMENTS
unfolding pending pending_around goes_on is_arguments is_component becomes_candidate
maybe-arguments = (λ w. refl, λ around w. refl)

arguments-next : AfterName ARGUMENTS
unfolding pending pending_around goes_on is_arguments is_component becomes_candidate
arguments-next = (λ w. refl, λ around w. refl)

arguments-alone : AfterName ARGUMENTS_ALONE
unfolding pending pending_around goes_on is_arguments is_component becomes_candidate
arguments-alone = (λ w. refl, λ around w. refl)

vendor-arguments : AfterName VENDOR_ARGUMENTS
unfolding pending pending_around goes_on is_arguments is_component becomes_candidate
vendor-arguments = (λ w. refl, λ around w. refl)

maybe-tags : AfterName MAYBE_TAGS
unfolding pending pending_around goes_on is_arguments is_component becomes_candidate
maybe-tags = (λ w. refl, λ around w. refl)

module _ (p : Production) (is : closes_by_row p ≡ true) (around : Around) (place : ℕ) where
  made_name : (m : Made) (form : Form) (x : Sym) (k : ℕ) → row_of p ≡ named_row m form → ((vs : List Value) → nodes_made m vs ≡ 1)
      → ((vs : List Value) → nodes_at_end form vs ≡ one_if_arguments (part vs 1)) → Untaken x → AfterName k → Flow p around place (x ∷ OfKind k ∷ []) [] 0
  made_name m form x k row one ends none follows =
      of-row p is around place (x ∷ OfKind k ∷ []) [] 0
      (subst (λ r. RowFlow r (leaves p) around place (x ∷ OfKind k ∷ []) [] 0) (sym row) (named-flow m form (leaves p) around place x k one ends (leaves-one p) none follows))

  listed_name : (m : Made) (x : Sym) (k : ℕ) → row_of p ≡ listed_row m → ((v : Value) → leaves p v ≡ 0) → Untaken x → AfterName k
      → Flow p around place (x ∷ OfKind k ∷ []) [] 0
  listed_name m x k row left none follows =
      of-row p is around place (x ∷ OfKind k ∷ []) [] 0
      (subst (λ r. RowFlow r (leaves p) around place (x ∷ OfKind k ∷ []) [] 0) (sym row) (listed-flow m (leaves p) around place x k left none follows))

  whole_name : (m : Made) (x : Sym) (k : ℕ) → row_of p ≡ listed_row m → ((vs : List Value) → nodes_made m vs ≡ 1) → Untaken x → AfterName k
      → Flow p around place (x ∷ OfKind k ∷ []) [] 0
  whole_name m x k row one none follows =
      of-row p is around place (x ∷ OfKind k ∷ []) [] 0
      (subst (λ r. RowFlow r (leaves p) around place (x ∷ OfKind k ∷ []) [] 0) (sym row) (whole-flow m (leaves p) around place x k one (leaves-one p) none follows))

  in_module : (m : Made) (x : Sym) → row_of p ≡ module_row m → Untaken x → Flow p around place (x ∷ OfKind NAME_AFTER_MODULE ∷ []) [] 0
  in_module m x row none =
      of-row p is around place (x ∷ OfKind NAME_AFTER_MODULE ∷ []) [] 0
      (subst (λ r. RowFlow r (leaves p) around place (x ∷ OfKind NAME_AFTER_MODULE ∷ []) [] 0) (sym row) (module-name-flow m (leaves p) around place x (leaves-one p) none))

  nested : (m : Made) (x : Sym) → row_of p ≡ named_row m (handed 1) → ((v : Value) → leaves p v ≡ few_.unlisted v) → ((vs : List Value) → nodes_made m vs ≡ 1) → Untaken x
      → Flow p around place (x ∷ OfKind NEST_REST ∷ []) [] 0
  nested m x row left one none =
      of-row p is around place (x ∷ OfKind NEST_REST ∷ []) [] 0
      (subst (λ r. RowFlow r (leaves p) around place (x ∷ OfKind NEST_REST ∷ []) [] 0) (sym row) (nest-flow m (leaves p) around place x left one none))

  handed_on : (x : Sym) → row_of p ≡ plain (handed 0) nothing → Untaken x → ((v : Value) → leaves p v ≤ pending x v) → Flow p around place (x ∷ []) [] 0
  handed_on x row none few =
      of-row p is around place (x ∷ []) [] 0 (subst (λ r. RowFlow r (leaves p) around place (x ∷ []) [] 0) (sym row) (handed-flow (leaves p) around place x none few))

  typed : (x : Sym) → row_of p ≡ plain (finished 0) (type_of 0) → Untaken x → ((v : Value) → pending x v ≡ few_.unlisted v) → ((v : Value) → leaves p (listed_value v) ≡ 0) → Flow p around place (x ∷ []) [] 0
  typed x row none is_ left =
      of-row p is around place (x ∷ []) [] 0 (subst (λ r. RowFlow r (leaves p) around place (x ∷ []) [] 0) (sym row) (typed-flow (leaves p) around place x none is_ left))

  unqualified : (x : Sym) → row_of p ≡ plain (finished 0) (unqualified_of 0) → Untaken x → ((v : Value) → pending x v ≡ few_.unlisted v) → ((v : Value) → leaves p (listed_value v) ≡ 0) → Flow p around place (x ∷ []) [] 0
  unqualified x row none is_ left =
      of-row p is around place (x ∷ []) [] 0 (subst (λ r. RowFlow r (leaves p) around place (x ∷ []) [] 0) (sym row) (unqualified-flow (leaves p) around place x none is_ left))

  of_type : (form : Form) (x y : Sym) → row_of p ≡ after_steps (quiet ∷ goes (type_of 0) as_before ∷ []) form → Untaken x → Untaken y → ((v : Value) → pending x v ≡ few_.unlisted v)
      → ((byte : ℕ) (vs : List Value) → leaves p (meant form byte around vs) ≤ nodes_at_end form vs) → Flow p around place (x ∷ y ∷ []) [] 0
  of_type form x y row none free is_ left =
      of-row p is around place (x ∷ y ∷ []) [] 0 (subst (λ r. RowFlow r (leaves p) around place (x ∷ y ∷ []) [] 0) (sym row) (of-type-flow form (leaves p) around place x y none free is_ left))

  base_name : (x : Sym) → row_of p ≡ after_steps (quiet ∷ goes nothing (after_part 0 (as_part 0)) ∷ []) (either 1 0) → Untaken x → ((v : Value) → pending x v ≡ few_.unlisted v) → ((v : Value) → leaves p v ≡ 0)
      → Flow p around place (x ∷ OfKind BASE_ARGUMENTS ∷ []) [] 0
  base_name x row none one left =
      of-row p is around place (x ∷ OfKind BASE_ARGUMENTS ∷ []) [] 0
      (subst (λ r. RowFlow r (leaves p) around place (x ∷ OfKind BASE_ARGUMENTS ∷ []) [] 0) (sym row) (base-flow (leaves p) around place x none one left))

  own_type : (form : Form) (xs : List Sym) → row_of p ≡ plain form itself → all_keep ((row_of p).onward ∷ (row_of p).before) ≡ true → take_nothing xs ≡ true → ((byte : ℕ) (vs : List Value) → leaves p (meant form byte around vs) ≡ 0) → ((vs : List Value) → nodes_at_end form vs ≡ 1)
      → Flow p around place xs [] 0
  own_type form xs row keep none left one =
      plain-flow p around place keep
      (λ vs. of-row p is around place [] vs 0 (subst (λ r. RowFlow r (leaves p) around place [] vs 0) (sym row) (own-type form (leaves p) around place vs (λ byte. left byte vs) one))) xs none []

  simple : (xs : List Sym) → all_keep ((row_of p).onward ∷ (row_of p).before) ≡ true → take_nothing xs ≡ true → ((vs : List Value) → By p around place [] vs 0) → Flow p around place xs [] 0
  simple xs keep none closes = plain-flow p around place keep (λ vs. of-row p is around place [] vs 0 (closes vs)) xs none []

pub flows : (p : Production) (around : Around) (place : ℕ) → Flow p around place (parts_of p) [] (starts_with p around)
unfolding parts_of number_of_kind starts_with takes_name begins_arguments take_nothing takes_pending all_keep keeps closes_by_row row_of pending pending_around goes_on is_arguments is_component becomes_candidate state_after gained meant own_meaning is_listing made given all_given built argument tree_in bytes_in truth_in number_in nodes_made nodes_of nodes_at_end leaves makes_name may_leave few_.unlisted is_listed listed_value part
flows Production.NestWithS around place = handed_on Production.NestWithS refl around place (OfKind NEST_AFTER_S) refl (λ a v. refl) (λ v. omega arith)
flows Production.NestedType around place = handed_on Production.NestedType refl around place (OfKind NEST) refl (λ a v. refl) (λ v. omega arith)
flows Production.ItemIsType around place = handed_on Production.ItemIsType refl around place (OfKind AFTER_D) refl (λ a v. refl) (λ v. omega arith)
flows Production.UnnestedWithS around place = handed_on Production.UnnestedWithS refl around place (OfKind TYPE_AFTER_S) refl (λ a v. refl) (λ v. omega arith)
flows Production.AbbreviatedType around place = handed_on Production.AbbreviatedType refl around place (OfKind ABBREVIATION) refl (λ a v. refl) (λ v. omega arith)
flows Production.ArrayType around place = handed_on Production.ArrayType refl around place (OfKind ANY_ARRAY) refl (λ a v. refl) (λ v. omega arith)
flows Production.AnyArray around place = handed_on Production.AnyArray refl around place (OfKind ARRAY_REST) refl (λ a v. refl) (λ v. omega arith)
flows Production.ConvertedWithT around place = handed_on Production.ConvertedWithT refl around place (OfKind PARAMETER_AFTER_T) refl (λ a v. refl) (λ v. omega arith)
flows Production.TypeInStd around place = handed_on Production.TypeInStd refl around place (OfKind TYPE_IN_STD) refl (λ a v. refl) (leaves-one Production.TypeInStd)
flows Production.AnyConstructor around place = handed_on Production.AnyConstructor refl around place (OfKind CONSTRUCTOR_AFTER_C) refl (λ a v. refl) (leaves-one Production.AnyConstructor)
flows Production.ComponentWithC around place = handed_on Production.ComponentWithC refl around place (OfKind COMPONENT_AFTER_C) refl (λ a v. refl) (leaves-one Production.ComponentWithC)
flows Production.Parameter around place = of-row Production.Parameter refl around place (parts_of Production.Parameter) [] 0 (parameter-flow false around place)
flows Production.ParameterArgument around place = of-row Production.ParameterArgument refl around place (parts_of Production.ParameterArgument) [] 0 (parameter-flow true around place)
flows Production.ParameterExpression around place = of-row Production.ParameterExpression refl around place (parts_of Production.ParameterExpression) [] 0 (expression-parameter around place)
flows Production.TypeWithS around place = of-row Production.TypeWithS refl around place (parts_of Production.TypeWithS) [] 0 (with-s-type around place)
flows Production.LeveledParameter around place =
    of-row Production.LeveledParameter refl around place (parts_of Production.LeveledParameter) [] 0 (second-flow few_.unlisted around place (OfKind LEVELED_PARAMETER) (λ a v. refl) (λ v. omega arith))
flows Production.NestTemplate around place = of-row Production.NestTemplate refl around place (parts_of Production.NestTemplate) [] 0 (nest-template around place)
flows Production.NestParameter around place = of-row Production.NestParameter refl around place (parts_of Production.NestParameter) [] 0 (nest-parameter around place)
flows Production.NestStd around place = of-row Production.NestStd refl around place (parts_of Production.NestStd) [] 0 (nest-std around place)
flows Production.NestNext around place = of-row Production.NestNext refl around place (parts_of Production.NestNext) [] (few_.unlisted_around around) (nest-next around place)
flows Production.NestModule around place = of-row Production.NestModule refl around place (parts_of Production.NestModule) [] 0 (nest-module around place)
flows Production.InModule around place = in_module Production.InModule refl around place _ (OfKind FIRST_MODULE) refl (λ a v. refl)
flows Production.InNamedModule around place = in_module Production.InNamedModule refl around place _ (OfKind NAMED_MODULE) refl (λ a v. refl)
flows Production.Holder around place = of-row Production.Holder refl around place (parts_of Production.Holder) [] 0 (holder-component around place)
flows Production.NestArguments around place = of-row Production.NestArguments refl around place (parts_of Production.NestArguments) [] (few_.unlisted_around around) (nest-arguments around place)
flows Production.NestInstance around place = of-row Production.NestInstance refl around place (parts_of Production.NestInstance) [] (few_.unlisted_around around) (nest-instance around place)
flows Production.NestEnd around place = of-row Production.NestEnd refl around place [] [] (few_.unlisted_around around) (nest-end around place)
flows Production.Arguments around place = of-row Production.Arguments refl around place (parts_of Production.Arguments) [] (few_.unlisted_around around) (arguments around place)
flows Production.BaseArguments around place = of-row Production.BaseArguments refl around place (parts_of Production.BaseArguments) [] (few_.unlisted_around around) (base-arguments around place)
flows Production.NestDecltype around place =
    of-row Production.NestDecltype refl around place (parts_of Production.NestDecltype) [] 0 (type-name-flow (leaves Production.NestDecltype) around place (OfKind DECLTYPE_AFTER_D) (λ a v. refl) (λ v. refl) (λ v. refl))
flows Production.UnnestedBase around place = base_name Production.UnnestedBase refl around place (OfKind UNNESTED_NAME) refl (λ a v. refl) (λ v. refl) (λ v. refl)
flows Production.Substitution around place = plain-flow Production.Substitution around place refl (substitution-closes around place) (parts_of Production.Substitution) refl []
flows Production.Inheriting around place = plain-flow Production.Inheriting around place refl (inheriting-closes around place) (parts_of Production.Inheriting) refl []
-- Generated by tools/trees.py.
flows Production.ConvertedDecltype around place = typed Production.ConvertedDecltype refl around place (OfKind CONVERTED_AFTER_D) refl (λ a v. refl) (λ v. refl) (λ v. refl)
flows Production.ConvertedConst around place = own_type Production.ConvertedConst refl around place _ (parts_of Production.ConvertedConst) refl refl refl (λ byte vs. refl) (λ vs. refl)
flows Production.ConvertedPointer around place = own_type Production.ConvertedPointer refl around place _ (parts_of Production.ConvertedPointer) refl refl refl (λ byte vs. refl) (λ vs. refl)
flows Production.ConvertedReference around place = own_type Production.ConvertedReference refl around place _ (parts_of Production.ConvertedReference) refl refl refl (λ byte vs. refl) (λ vs. refl)
flows Production.ConvertedType around place = typed Production.ConvertedType refl around place (OfKind CONVERTED_SOLID) refl (λ a v. refl) (λ v. refl) (λ v. refl)
flows Production.UnresolvedInType around place = of_type Production.UnresolvedInType refl around place _ (OfKind UNRESOLVED_TYPE) (OfKind UNRESOLVED_NAME) refl (λ a v. refl) (λ a v. refl) (λ v. refl) (λ byte vs. omega arith)
flows Production.DestroyedType around place = typed Production.DestroyedType refl around place (OfKind UNRESOLVED_TYPE) refl (λ a v. refl) (λ v. refl) (λ v. refl)
flows Production.InternalName around place = made_name Production.InternalName refl around place _ _ Name MAYBE_ARGUMENTS refl (λ vs. refl) (λ vs. refl) (λ a v. refl) maybe-arguments
flows Production.LocalTypeName around place = made_name Production.LocalTypeName refl around place _ _ (OfKind ANONYMOUS) MAYBE_ARGUMENTS refl (λ vs. refl) (λ vs. refl) (λ a v. refl) maybe-arguments
flows Production.SourceName around place = made_name Production.SourceName refl around place _ _ Name MAYBE_ARGUMENTS refl (λ vs. refl) (λ vs. refl) (λ a v. refl) maybe-arguments
flows Production.OperatorName around place = made_name Production.OperatorName refl around place _ _ (OfKind OPERATOR) MAYBE_ARGUMENTS refl (λ vs. refl) (λ vs. refl) (λ a v. refl) maybe-arguments
flows Production.BindingName around place = made_name Production.BindingName refl around place _ _ (OfKind BINDING_AFTER_D) MAYBE_ARGUMENTS refl (λ vs. refl) (λ vs. refl) (λ a v. refl) maybe-arguments
flows Production.StdName around place = made_name Production.StdName refl around place _ _ (OfKind UNQUALIFIED) MAYBE_ARGUMENTS refl (λ vs. refl) (λ vs. refl) (λ a v. refl) maybe-arguments
flows Production.AbbreviatedName around place = listed_name Production.AbbreviatedName refl around place _ (OfKind ABBREVIATION) ARGUMENTS refl (λ v. refl) (λ a v. refl) arguments-next
flows Production.NestInternal around place = nested Production.NestInternal refl around place _ Name refl (λ v. refl) (λ vs. refl) (λ a v. refl)
flows Production.NestLocalType around place = nested Production.NestLocalType refl around place _ (OfKind ANONYMOUS) refl (λ v. refl) (λ vs. refl) (λ a v. refl)
flows Production.NestSource around place = nested Production.NestSource refl around place _ Name refl (λ v. refl) (λ vs. refl) (λ a v. refl)
flows Production.Destructor around place = made_name Production.Destructor refl around place _ _ (OfKind COMPONENT_AFTER_D) MAYBE_ARGUMENTS refl (λ vs. refl) (λ vs. refl) (λ a v. refl) maybe-arguments
flows Production.OtherOperatorName around place = made_name Production.OtherOperatorName refl around place _ _ (OfKind OTHER_OPERATOR) MAYBE_ARGUMENTS refl (λ vs. refl) (λ vs. refl) (λ a v. refl) maybe-arguments
flows Production.Constructor around place = made_name Production.Constructor refl around place _ _ (OfKind CONSTRUCTOR_DIGIT) MAYBE_ARGUMENTS refl (λ vs. refl) (λ vs. refl) (λ a v. refl) maybe-arguments
flows Production.RestrictType around place = own_type Production.RestrictType refl around place _ (parts_of Production.RestrictType) refl refl refl (λ byte vs. refl) (λ vs. refl)
flows Production.VolatileType around place = own_type Production.VolatileType refl around place _ (parts_of Production.VolatileType) refl refl refl (λ byte vs. refl) (λ vs. refl)
flows Production.ConstType around place = own_type Production.ConstType refl around place _ (parts_of Production.ConstType) refl refl refl (λ byte vs. refl) (λ vs. refl)
flows Production.ReferenceType around place = own_type Production.ReferenceType refl around place _ (parts_of Production.ReferenceType) refl refl refl (λ byte vs. refl) (λ vs. refl)
flows Production.PlainType around place = typed Production.PlainType refl around place (OfKind SOLID) refl (λ a v. refl) (λ v. refl) (λ v. refl)
flows Production.TypeWithD around place = typed Production.TypeWithD refl around place (OfKind AFTER_D) refl (λ a v. refl) (λ v. refl) (λ v. refl)
flows Production.PlainWithD around place = unqualified Production.PlainWithD refl around place (OfKind AFTER_D) refl (λ a v. refl) (λ v. refl) (λ v. refl)
flows Production.QualifiedPlain around place = unqualified Production.QualifiedPlain refl around place (OfKind SOLID) refl (λ a v. refl) (λ v. refl) (λ v. refl)
flows Production.ItemWithD around place = typed Production.ItemWithD refl around place (OfKind ITEM_AFTER_D) refl (λ a v. refl) (λ v. refl) (λ v. refl)
flows Production.Vendor around place = whole_name Production.Vendor refl around place _ Name VENDOR_ARGUMENTS refl (λ vs. refl) (λ a v. refl) vendor-arguments
flows Production.IntegerLiteral around place = of_type Production.IntegerLiteral refl around place _ (OfKind LITERAL_TYPE) (OfKind INTEGER) refl (λ a v. refl) (λ a v. refl) (λ v. refl) (λ byte vs. omega arith)
flows Production.QualifiedLiteral around place = unqualified Production.QualifiedLiteral refl around place (OfKind LITERAL_SOLID) refl (λ a v. refl) (λ v. refl) (λ v. refl)
flows Production.OperatorNameWithC around place = made_name Production.OperatorNameWithC refl around place _ _ (OfKind OPERATOR_AFTER_C) MAYBE_ARGUMENTS refl (λ vs. refl) (λ vs. refl) (λ a v. refl) maybe-arguments
flows Production.TaggedSource around place = made_name Production.TaggedSource refl around place _ _ Name MAYBE_TAGS refl (λ vs. refl) (λ vs. refl) (λ a v. refl) maybe-tags
flows Production.TaggedStdType around place = made_name Production.TaggedStdType refl around place _ _ (OfKind SOURCE_OR_LOCAL) MAYBE_TAGS refl (λ vs. refl) (λ vs. refl) (λ a v. refl) maybe-tags
flows Production.ArgumentWithT around place = typed Production.ArgumentWithT refl around place (OfKind ARGUMENT_AFTER_T) refl (λ a v. refl) (λ v. refl) (λ v. refl)
flows Production.PlainArgument around place = typed Production.PlainArgument refl around place (OfKind SOLID_BUT_T) refl (λ a v. refl) (λ v. refl) (λ v. refl)
flows Production.FirstParameter around place = typed Production.FirstParameter refl around place (OfKind LEVELED_PARAMETER) refl (λ a v. refl) (λ v. refl) (λ v. refl)
flows Production.OperatorReference around place = listed_name Production.OperatorReference refl around place _ (OfKind OPERATOR) ARGUMENTS_ALONE refl (λ v. refl) (λ a v. refl) arguments-alone
flows Production.SimpleId around place = listed_name Production.SimpleId refl around place _ Name ARGUMENTS_ALONE refl (λ v. refl) (λ a v. refl) arguments-alone
flows Production.TypeTag around place = made_name Production.TypeTag refl around place _ _ Name MAYBE_TAGS refl (λ vs. refl) (λ vs. refl) (λ a v. refl) maybe-tags
flows Production.ConstLiteral around place = own_type Production.ConstLiteral refl around place _ (parts_of Production.ConstLiteral) refl refl refl (λ byte vs. refl) (λ vs. refl)
flows Production.VolatileLiteral around place = own_type Production.VolatileLiteral refl around place _ (parts_of Production.VolatileLiteral) refl refl refl (λ byte vs. refl) (λ vs. refl)
flows Production.Tag around place = made_name Production.Tag refl around place _ _ Name MAYBE_ARGUMENTS refl (λ vs. refl) (λ vs. refl) (λ a v. refl) maybe-arguments
flows Production.Friend around place = made_name Production.Friend refl around place _ _ (OfKind UNQUALIFIED) MAYBE_ARGUMENTS refl (λ vs. refl) (λ vs. refl) (λ a v. refl) maybe-arguments
flows Production.NestTag around place = nested Production.NestTag refl around place _ Name refl (λ v. refl) (λ vs. refl) (λ a v. refl)
-- no other production appends a candidate before its end
flows (Production.Operation Operation.ExpressionC) around place = simple (Production.Operation Operation.ExpressionC) refl around place (parts_of (Production.Operation Operation.ExpressionC)) refl refl (λ vs. λ byte began state. omega arith)
flows p around place = simple p refl around place (parts_of p) refl refl (λ vs. λ byte began state. omega arith)
