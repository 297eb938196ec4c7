-- C++'s reading of the wide grammar as the linker follows it, and how many nodes it makes of a symbol.
use Rattle.std.specs.Prelude.{◌≡◌, ℕ, ◌+◌, ◌-◌, List, [], ◌∷◌, Option, Some, None, Bool, true, false, ◌&&◌, nat_eq, nat_lt, Result, Ok, Err}
use Rattle.sym_core.specs.declared.refusal.Refusal.{Refusal}
use Rattle.sym_core.specs.declared.NumberKind.TheVariants.{Seq36}
use Rattle.sym_core.specs.Value.{counted_value}
use Rattle.sym_shape.specs.Tree.{Tree, Forest}
use Rattle.sym_link.specs.Reading.{Found, Open, Reading}
use Rattle.sym_link.specs.Unfold.{found, unfold_tree}
use Rattle.sym_link.specs.Linking.{View}
use Rattle.sym_link.specs.Tally.{Tally, tally, Makes, tallied, tallied_view}
use Rattle.cpp_grammar.specs.declared.production.Production.{Production}
use Rattle.cpp_grammar.specs.Values.{Lists, longer_list, shorter_list, prefix_at, qualified_at}
use Rattle.cpp_grammar.specs.Rescoping.{generic_number, expecting, calling, ending}
use Rattle.cpp_grammar.specs.Unfolding.{production_at, byte_of}
use Rattle.cpp_term.specs.Term.{Term, parameter}
use Rattle.cpp_term.specs.Items.{auto}
use Rattle.cpp_term.specs.Values.{Candidate, State, Around, Value, tree, tree_of, prefix_tree, prefix_listed, text_of, part}
use Rattle.cpp_term.specs.Unfolding.{first_around, first_state}
use Rattle.cpp_term.specs.Rescoping.{generic_so_far, with_holder, with_held, is_foreign, as_generic_lambda, counted_base, is_unseen, is_passed_over, name_if, place_in, named_in, left_at, awaiting, expecting_item, noting, close_wide, cpp_wide}
use Rattle.cpp_term.specs.Scope.{is_open}
use Rattle.cpp_term.specs.Between.{Continuation, next}
use Rattle.cpp_tree.specs.Nodes.{tree_at}
use Rattle.cpp_link.specs.declared.linked.Linked.{Linked}
use Rattle.cpp_link.specs.declared.rescoping.Rescoping.{Rescoping}
use Rattle.cpp_link.specs.declared.part.Part.{Part}
use Rattle.cpp_references.specs.declared.around.Surroundings.{Surroundings}
use Rattle.cpp_link.specs.LinkReading.{link_begin, link_close, link_meaning}
use Rattle.cpp_link.specs.Making.{state_of}
use Rattle.cpp_link.specs.NodeCount.{makes_before, makes_at_end, counted_nodes}
use Rattle.cpp_link.specs.Parts.{trees_in, around_of}
use Rattle.cpp_link.specs.View.{cpp_view}

-- ## The reading

unfoldable pub link_close_wide : List ℕ → Production → (byte : ℕ) → Around → (place : ℕ) → (began : State) → List Value → State
    → Result (Found Value State) Refusal
link_close_wide s Production.Substitution byte around place began vs state = close_wide Production.Substitution byte around place began vs state
link_close_wide s Production.Lambda byte around place began vs state = Ok (found (as_generic_lambda (link_meaning s Production.Lambda byte place around vs)) state)
link_close_wide s Production.Inheriting byte around place began vs state = Ok (found (link_meaning s Production.Inheriting byte place around vs) (counted_base around (part vs 1) state))
link_close_wide s Production.Holder byte around place began vs state =
    Ok (found (link_meaning s Production.Holder byte place around vs) (noting (awaiting around (tree_of (part vs 1)) state.counting) state))
link_close_wide s Production.Encoding byte around place began vs state =
    Ok (found (name_if (is_passed_over around && is_open (tree_of (part vs 0))) (part vs 0) (link_meaning s Production.Encoding byte place around vs)) state)
link_close_wide s Production.EncodingLiteral byte around place began vs state =
    Ok (found (name_if (is_unseen around && is_open (tree_of (part vs 1))) (part vs 1) (link_meaning s Production.EncodingLiteral byte place around vs)) state)
link_close_wide s production byte around place began vs state = link_close s production byte around place began vs state

-- Notes what may be named at the `S` of a nested name, at a type under qualifiers and at a type of an encoding; notes in a name
-- which types are awaited.
unfoldable pub link_opening : Production → Open State Around → Forest → Result State Refusal
link_opening Production.NestTemplate rule parts = Ok (noting (expecting (prefix_at (rule.place - 1)) rule.before.counting) rule.before)
link_opening Production.QualifiedPlain rule parts = Ok (noting (expecting (qualified_at rule.place) rule.before.counting) rule.before)
link_opening Production.Items rule parts = Ok (noting (expecting_item rule.context rule.place rule.before.counting) rule.before)
link_opening Production.NestNext rule parts = Ok (noting (calling rule.before.counting) rule.before)
link_opening Production.NestEnd rule parts = Ok (noting (ending rule.before.counting) rule.before)
link_opening production rule parts = link_begin rule parts

abbrev pub linked_wide : List ℕ → Reading Value State Around
linked_wide s = record {
  rowless = cpp_wide.rowless;
  token = cpp_wide.token;
  begin = λ rule parts. link_opening (production_at rule.rule.number) rule parts;
  between = cpp_wide.between;
  close = λ rule known state.
      link_close_wide s (production_at rule.rule.number) (byte_of rule.taken) rule.context rule.place rule.before known state;
}

-- ## What is done

unfoldable pub is_parameter : Production → Bool
is_parameter Production.Parameter = true
is_parameter Production.NestParameter = true
is_parameter Production.ParameterArgument = true
is_parameter Production.ParameterExpression = true
is_parameter _ = false

-- a parameter in an expression
unfoldable pub is_parameter_argument : Production → Bool
is_parameter_argument Production.ParameterExpression = true
is_parameter_argument _ = false

-- Whether the wide reading does something of its own before the part that follows n others. In a lambda's signature it
-- names a parameter, reads an encoding, or reads what the lambda declares. Elsewhere a name becomes a candidate with its M,
-- or a concept's name or the base class of an inherited constructor, with the constructor, is counted.
unfoldable pub steps_apart : Production → (in_lambda : Bool) → (before : ℕ) → Bool
steps_apart Production.Parameter in_lambda before = in_lambda && nat_eq before 1
steps_apart Production.NestParameter in_lambda before = in_lambda && nat_eq before 1
steps_apart Production.ParameterArgument in_lambda before = in_lambda && nat_eq before 1
steps_apart Production.ParameterExpression in_lambda before = in_lambda && nat_eq before 1
steps_apart Production.Holder in_lambda before = nat_eq before 1
steps_apart Production.HeldArguments in_lambda before = nat_eq before 0
steps_apart Production.NamedModule in_lambda before = nat_eq before 1
steps_apart Production.DeclaredFirst in_lambda before = nat_eq before 0
steps_apart Production.Constraint in_lambda before = nat_eq before 0
steps_apart Production.EncodingLiteral in_lambda before = in_lambda && nat_eq before 1
steps_apart Production.Encoding in_lambda before = in_lambda && nat_lt before 2
steps_apart _ in_lambda before = false

-- The state with its new candidates, once parts with these values are read: a name with its M, a base class and the
-- constructor, or a concept's name.
unfoldable pub with_mark : Production → Around → List Value → State → State
with_mark Production.Holder around vs state = with_holder around (tree_of (part vs 0)) state
with_mark Production.HeldArguments around vs state = with_held (prefix_listed around.prefix) around (prefix_tree around.prefix) state
with_mark _ around vs state = state

-- a step, with the candidates that are marked after it
unfoldable pub going_marked : Production → Around → Continuation → Continuation
going_marked production around (Ok next) = Ok (record next { state = with_mark production around next.values next.state })
going_marked production around (Err e) = Err e

-- the value of the lambda's own parameter with this number, which may be passed as an argument
unfoldable pub generic_read : (is_argument : Bool) → Around → ℕ → State → Continuation
generic_read true around k state = next (tree (parameter (generic_number k) auto) true ∷ []) around state
generic_read false around k state = generic_so_far around k [] state

-- the number of the candidate that a substitution with these parts names
abbrev pub number_in : List Value → ℕ
number_in known = counted_value Seq36 (text_of (part known 0))

-- the lists that remain after an `S` at this place with this number
unfoldable pub lists_after : (place number : ℕ) → State → Lists
lists_after place number state = elim (nat_eq (place_in false state.candidates number) (place_in true state.candidates number)) [
  | true ↦ state.counting.lists
  | false ↦ left_at place number state
]

-- the candidate of a number in the list that remains
unfoldable pub named_left : Lists → List Candidate → (number : ℕ) → Option Candidate
named_left longer_list cs number = named_in false cs number
named_left shorter_list cs number = named_in true cs number
named_left _ cs number = None

-- the candidate that an `S` at this place with this number names
unfoldable pub named_after : (place number : ℕ) → State → Option Candidate
named_after place number state = elim (nat_eq (place_in false state.candidates number) (place_in true state.candidates number)) [
  | true ↦ named_in false state.candidates number
  | false ↦ named_left (left_at place number state) state.candidates number
]

-- the candidate that a substitution at this place with these parts names, and the state after it
abbrev pub named_by : (place : ℕ) → State → List Value → Option Candidate
named_by place state known = named_after (place - 1) (number_in known) state

-- ## Names of encodings that are passed over

-- the node of this tree, if it has free parameters
abbrev pub IsOpenName : List Term → Term → Option ℕ → Type 0
IsOpenName ts name None = is_open name ≡ false
IsOpenName ts name (Some node) = (is_open name ≡ true) × (tree_at ts node ≡ name)

-- the name at this node, or the value if no node is given
unfoldable pub name_or : List Term → Option ℕ → Value → Value
name_or ts None v = v
name_or ts (Some node) v = tree (tree_at ts node) true

-- ## What a symbol makes

-- the nodes of a substitution: an alias with an argument, if the tree was made elsewhere
unfoldable pub substituted_nodes : Around → Option Candidate → ℕ
substituted_nodes around None = 0
substituted_nodes around (Some c) = elim (is_foreign around c) [ true ↦ 1 | false ↦ 0 ]

unfoldable pub wide_at_end : Production → Around → (place : ℕ) → List Value → State → ℕ
wide_at_end Production.Substitution around place known state = substituted_nodes around (named_by place state known)
wide_at_end p around place known state = makes_at_end p known

-- the nodes that a rule with these parts makes where it closes, given what is linked so far
abbrev pub wide_ends : List ℕ → Linked → (place : ℕ) → Surroundings → Production → List Value → ℕ
wide_ends s l place kept p known = wide_at_end p (around_of (trees_in s l.nodes) kept) place known (state_of s l)

abbrev pub wide_makes : Makes Value State Around
wide_makes = record {
  before = λ rule known state. makes_before (production_at rule.rule.number) known;
  at_end = λ rule known state. wide_at_end (production_at rule.rule.number) rule.context rule.place known state;
}

-- the nodes of a symbol of this shape
abbrev pub wide_nodes_of_shape : Tree → ℕ
wide_nodes_of_shape shape = 4 + counted_nodes (unfold_tree (tallied cpp_wide wide_makes) first_around 0 shape (tally first_state 0))

abbrev pub are_wide_nodes : Tree → ℕ → Type 0
are_wide_nodes shape nodes = nodes ≡ wide_nodes_of_shape shape

-- ## The language

-- C++'s language by the wide grammar: the same nodes, with another reading
abbrev pub wide_view : List ℕ → View Linked Part Surroundings Value State Around
wide_view s = record (cpp_view s) { reading = linked_wide s }

-- a language whose linked symbol is held in a linked symbol of the wide grammar
abbrev pub within : {S : Type 0} → View Linked Part Surroundings Value S Around → View Rescoping Part Surroundings Value S Around
within view = record {
  table = view.table;
  reading = view.reading;
  around = view.around;
  first = view.first;
  IsPart = λ l part value. view.IsPart l.linked part value;
  IsKept = λ l kept rule. view.IsKept l.linked kept rule;
  Holds = λ l state. view.Holds l.linked state;
  Grows = λ old new. view.Grows old.linked new.linked;
  size = λ l. view.size l.linked;
  owes = view.owes;
  closes = view.closes;
  most = view.most;
  IsPaid = λ l bytes. view.IsPaid l.linked bytes;
  lists = λ l. view.lists l.linked;
  TakesMemory = view.TakesMemory;
}

-- C++'s language by the wide grammar, with its nodes counted
abbrev pub wide_counted : List ℕ → View Rescoping Part Surroundings Value (Tally State) Around
wide_counted s = within (tallied_view (wide_view s) wide_makes)
