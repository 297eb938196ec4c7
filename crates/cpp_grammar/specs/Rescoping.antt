-- The reading of the wide grammar (ABI 5.1.8, 5.1.10). It differs from that of the ABI's grammar in four points: the parameters
-- of a lambda's signature are the lambda's own; a substitution may name a tree whose parameters had another meaning where it was
-- made; there are names with an M, inherited constructors and concepts with arguments, which compilers count differently; and a
-- substitution before a component of a nested name names a module.
use Rattle.std.specs.Prelude.{ℕ, zero, suc, ◌-◌, ◌^◌, List, [], ◌∷◌, Bool, true, false, not, ◌||◌, ◌&&◌, nat_eq, nat_lt, cond, slice_get, Option, Some, None, Result, Ok, Err}
use Rattle.sym_core.specs.declared.refusal.Refusal.{Refusal}
use Rattle.sym_core.specs.declared.refusal.Refusal.TheVariants.{BadReference}
use Rattle.sym_core.specs.declared.NumberKind.TheVariants.{Seq36}
use Rattle.sym_core.specs.Value.{counted_value}
use Rattle.sym_shape.specs.Tree.{Tree, Forest}
use Rattle.sym_link.specs.Reading.{Found, Reading, ◌>>=◌}
use Rattle.sym_link.specs.Unfold.{found, unfold_tree}
use Rattle.cpp_grammar.specs.declared.production.Production.{Production}
use Rattle.cpp_grammar.specs.Term.{Term, alone, in_std, within, instance, holder, pointer, lvalue, rvalue, array, member_pointer, function_type, qualified, expansion, parameter, lambda, generic_lambda, declaring, nil, list, absent}
use Rattle.cpp_grammar.specs.Scope.{count, element, is_list, has_pack, is_open, Free, none_free, one_free, several_free, free_in, pack_length}
use Rattle.cpp_grammar.specs.Values.{Counted, by_all, by_newer, by_gcc, by_clang, by_some, Candidate, Lists, both_lists, longer_list, shorter_list, no_list, Expected, prefix_at, qualified_at, item_at, Awaited, nothing_awaited, Counting, outermost, Showing, shown, in_constraint, at_literal, is_in_constraint, is_at_literal, State, Around, prefix_tree, prefix_listed, Value, nothing_there, tree, piece, pair, text, tree_of, is_listed, text_of, part}
use Rattle.cpp_grammar.specs.References.{appended, appended_by, is_module, with_packs, substituted}
use Rattle.cpp_grammar.specs.Between.{Continuation, next, in_name, in_types, inside, listed_so_far, parameter_so_far, argument_so_far, index_of, between}
use Rattle.cpp_grammar.specs.Meaning.{meaning}
use Rattle.cpp_grammar.specs.Unfolding.{opening, close, production_at, byte_of, first_around, first_state, first_tree}

-- ## Parameters

-- the number of a lambda's own parameter: a number of more than 32 bits becomes the greatest one of 32 bits
unfoldable pub generic_number : ℕ → ℕ
generic_number k = cond (nat_lt k (2 ^ 32)) k (2 ^ 32 - 1)

-- a lambda's own parameter, in its signature, is accepted whatever its number is, and becomes a candidate
unfoldable pub generic_so_far : Around → ℕ → List Value → State → Continuation
generic_so_far around k vs state = listed_so_far around (parameter (generic_number k)) vs (appended around (parameter (generic_number k)) state)

-- in a signature a parameter is the lambda's own, and elsewhere one of the encoding around it
unfoldable pub parameter_here : Around → (place : ℕ) → ℕ → List Value → State → Continuation
parameter_here around place k vs state = elim around.in_lambda [
  | true ↦ generic_so_far around k vs state
  | false ↦ parameter_so_far around place k vs state
]

-- likewise a parameter in an expression, which is no candidate
unfoldable pub argument_here : Around → (place : ℕ) → ℕ → State → Continuation
argument_here around place k state = elim around.in_lambda [
  | true ↦ next (tree (parameter (generic_number k)) true ∷ []) around state
  | false ↦ argument_so_far around place k state
]

-- ## Constraints

-- Nothing is looked up in a constraint (Q <constraint-expression>): its parameters name no arguments.
unfoldable pub in_constraint_of : Around → Around
in_constraint_of around = record { scope = None; encoding = around.encoding; in_lambda = true; in_expansion = around.in_expansion; prefix = outermost; showing = in_constraint }

unfoldable pub is_unseen : Around → Bool
is_unseen around = around.in_lambda && is_in_constraint around.showing

-- An encoding that a literal in a constraint denotes (L _Z <encoding> E) isn't looked up either.
unfoldable pub in_literal : Around → Around
in_literal around = elim (is_unseen around) [
  | true ↦ record { scope = around.scope; encoding = around.encoding; in_lambda = around.in_lambda; in_expansion = around.in_expansion; prefix = around.prefix; showing = at_literal }
  | false ↦ around
]

unfoldable pub is_passed_over : Around → Bool
is_passed_over around = around.in_lambda && is_at_literal around.showing

unfoldable pub passed_over : (place : ℕ) → Around
passed_over place = record { scope = None; encoding = place; in_lambda = true; in_expansion = false; prefix = outermost; showing = in_constraint }

-- what surrounds the name of an encoding
unfoldable pub name_around : Around → (place : ℕ) → Around
name_around around place = elim (is_passed_over around) [ true ↦ passed_over place | false ↦ in_name place ]

-- What surrounds an encoding's types: if the encoding is passed over and its name has free parameters, the types may have
-- free ones, too; otherwise the name is their scope.
unfoldable pub types_around : Around → (place : ℕ) → (name : Term) → Around
types_around around place name = elim (is_passed_over around && is_open name) [ true ↦ passed_over place | false ↦ in_types place name ]

-- An encoding whose name has free parameters denotes only that name, and so does a literal that denotes the encoding.
unfoldable pub name_if : Bool → (name : Value) → Value → Value
name_if has_free name v = elim has_free [ true ↦ tree (tree_of name) true | false ↦ v ]

unfoldable pub is_declaring : Term → Bool
is_declaring (declaring heads parameters) = true
is_declaring _ = false

-- a lambda with these parameters: if parameters are free in its signature, or declared in it, it has parameters of its own
unfoldable pub lambda_with : (parameters : Term) → (number : ℕ) → Term
lambda_with parameters number = elim (is_declaring parameters || is_open parameters) [ true ↦ generic_lambda parameters number | false ↦ lambda parameters number ]

unfoldable pub as_generic_lambda : Value → Value
as_generic_lambda (piece (lambda parameters number)) = piece (lambda_with parameters number)
as_generic_lambda v = v

-- ## Names with an M

-- An entity in the initializer of a variable or of a data member has a prefix: the name of the variable or member, with an M
-- after it. Compilers since GCC 13 and Clang 13 count the name, with its M, among the candidates, and earlier ones don't count
-- it; a symbol doesn't say which one made it. So there are two lists: the longer one has what some compiler counts, and the
-- shorter one what all of them count.

-- The name before an M became a candidate as a prefix, unless a number names it or it's a parameter. The name with its M
-- takes the place of that candidate, which no compiler counts.
unfoldable pub with_holder : Around → Term → State → State
with_holder around t state = appended_by by_newer around t (elim (prefix_listed around.prefix) [ true ↦ appended around t state | false ↦ state ])

unfoldable pub is_instance : Term → Bool
is_instance (instance template arguments) = true
is_instance _ = false

-- An M after arguments is refused: compilers also differ in whether they count the name of the arguments' template. By then the
-- arguments, which may name candidates by number, have been read.
unfoldable pub holder_so_far : Around → (place : ℕ) → State → Continuation
holder_so_far around place state = elim (is_instance (prefix_tree around.prefix)) [
  | true ↦ Err (BadReference place)
  | false ↦ let t = holder (prefix_tree around.prefix) in listed_so_far around t [] (with_holder around t state)
]

-- ## Inherited constructors, and concepts

unfoldable pub counted_unless : (listed : Bool) → Counted → Around → Term → State → State
counted_unless listed counted around t state = elim listed [ true ↦ state | false ↦ appended_by counted around t state ]

-- GCC alone counts the base class after CI, unless a number names it. It is counted before the constructor's own arguments
-- if there are some, and otherwise once it's complete.
unfoldable pub counted_base : Around → (base : Value) → State → State
counted_base around (pair letter own base) state = state
counted_base around base state = counted_unless (is_listed base) by_gcc around (tree_of base) state

-- GCC alone counts the base class, and then the constructor, before the constructor's own arguments. Clang alone counts the name of a
-- concept before the concept's arguments. Here a base class is nested or has arguments. The name of a concept, unless a number names
-- it, is one piece here; a concept in N has another production.
unfoldable pub counted_held : Term → Counted
counted_held (within prefix last) = by_gcc
counted_held (instance template arguments) = by_gcc
counted_held (alone name) = by_clang
counted_held (in_std name) = by_clang
counted_held _ = by_some

-- No S names the constructor: its candidate is the absent tree.
unfoldable pub with_constructor : (listed : Bool) → Counted → Around → State → State
with_constructor false by_gcc around state = appended_by by_gcc around absent state
with_constructor listed counted around state = state

-- the state before a constructor's or a concept's arguments, once the name before them is counted
unfoldable pub with_held : (listed : Bool) → Around → Term → State → State
with_held listed around t state = with_constructor listed (counted_held t) around (counted_unless listed (counted_held t) around t state)

-- ## Two lists

unfoldable pub is_by_all : Counted → Bool
is_by_all by_all = true
is_by_all _ = false

unfoldable pub is_by_newer : Counted → Bool
is_by_newer by_newer = true
is_by_newer _ = false

-- whether the next candidate is a name with its M
unfoldable pub is_before_holder : List Candidate → Bool
is_before_holder [] = false
is_before_holder (c ∷ cs) = is_by_newer c.counted

-- whether a candidate, with these after it, is in the longer or in the shorter list
unfoldable pub is_in_list : (is_shorter : Bool) → Candidate → List Candidate → Bool
is_in_list is_shorter c cs = not (is_before_holder cs) && (not is_shorter || is_by_all c.counted)

-- the place, among all candidates, of the candidate that has this number in the longer or in the shorter list
unfoldable pub place_in : (is_shorter : Bool) → List Candidate → (number : ℕ) → ℕ
place_in is_shorter [] number = number
place_in is_shorter (c ∷ cs) number = elim (is_in_list is_shorter c cs) [
  | false ↦ suc (place_in is_shorter cs number)
  | true ↦ elim number [ zero ↦ zero | suc k ↦ suc (place_in is_shorter cs k) ]
]

-- the candidate that has this number in the longer or in the shorter list
unfoldable pub named_in : (is_shorter : Bool) → List Candidate → (number : ℕ) → Option Candidate
named_in is_shorter cs number = slice_get cs (place_in is_shorter cs number)

-- If two candidates are counted by different compilers, neither by all, there may be no compiler that has the longer
-- list.
unfoldable pub joined : Counted → Counted → Counted
joined by_all counted = counted
joined by_newer by_newer = by_newer
joined by_newer by_all = by_newer
joined by_gcc by_gcc = by_gcc
joined by_gcc by_all = by_gcc
joined by_clang by_clang = by_clang
joined by_clang by_all = by_clang
joined _ _ = by_some

unfoldable pub counted_so_far : (before : Counted) → List Candidate → Counted
counted_so_far before [] = before
counted_so_far before (c ∷ cs) = counted_so_far (joined before c.counted) cs

unfoldable pub is_by_some : Counted → Bool
is_by_some by_some = true
is_by_some _ = false

-- ## Heads

-- The head of a tree is a number that tells the outermost forms of types apart, and lambdas from other names. It is 0 for all
-- other forms, and for a template with arguments, since an S may name the template alone.
unfoldable pub head_of_name : (last : Term) → ℕ
head_of_name (lambda parameters number) = 2
head_of_name (generic_lambda parameters number) = 2
head_of_name _ = 1

unfoldable pub head_of : Term → ℕ
head_of (alone last) = head_of_name last
head_of (in_std last) = head_of_name last
head_of (within prefix last) = head_of_name last
head_of (parameter number) = 3
head_of (pointer t) = 4
head_of (lvalue t) = 5
head_of (rvalue t) = 6
head_of (array digits t) = 7
head_of (member_pointer class t) = 8
head_of (function_type c_linkage noexcept ref returned parameters) = 9
head_of (qualified q t) = 10
head_of (expansion pattern) = 11
head_of _ = 0

-- ## What may be named by its form

unfoldable pub is_prefix_at : (place : ℕ) → Expected → Bool
is_prefix_at place (prefix_at at) = nat_eq at place
is_prefix_at place _ = false

unfoldable pub is_qualified_at : (place : ℕ) → Expected → Bool
is_qualified_at place (qualified_at at) = nat_eq at place
is_qualified_at place _ = false

-- The head of what the S at this place names, if it is known.
unfoldable pub head_at : (place : ℕ) → Expected → ℕ
head_at place (item_at at head) = elim (nat_eq at place) [ true ↦ head | false ↦ 0 ]
head_at place _ = 0

-- Two heads may be those of one tree unless both are known and differ.
unfoldable pub may_be : (head other : ℕ) → Bool
may_be head other = (nat_eq head 0 || nat_eq other 0) || nat_eq head other

-- A name with its M is no type. No compiler writes qualifiers before a reference. Nothing names a constructor.
unfoldable pub fits : (is_prefix is_qualified : Bool) → Term → Bool
fits is_prefix is_qualified absent = false
fits is_prefix is_qualified (holder name) = is_prefix
fits is_prefix is_qualified (lvalue t) = not is_qualified
fits is_prefix is_qualified (rvalue t) = not is_qualified
fits is_prefix is_qualified _ = true

-- whether a list has a candidate for the S at this place, and its form fits there
unfoldable pub can_be_named : Expected → (place : ℕ) → Option Candidate → Bool
can_be_named expected place None = false
can_be_named expected place (Some c) = fits (is_prefix_at place expected) (is_qualified_at place expected) c.tree

-- whether a list has a candidate for the S at this place, and the candidate may have the head that is expected there
unfoldable pub has_head : Expected → (place : ℕ) → Option Candidate → Bool
has_head expected place None = false
has_head expected place (Some c) = may_be (head_at place expected) (head_of c.tree)

-- ## The functions of a lambda

-- A lambda with an M before it is in the initializer of a variable or of a data member. A name within the lambda is that of one
-- of its functions. If a type of that function is an S alone, the function is the lambda's operator(), or calls it, and has the
-- types of the lambda's signature, in their order. A return type precedes these if the lambda has parameters of its own.

unfoldable pub first_head : (types : Term) → ℕ
first_head (list t rest) = head_of t
first_head _ = 0

unfoldable pub rest_of : (types : Term) → Term
rest_of (list t rest) = rest
rest_of _ = nil

-- the heads of the first four of these types, for the encoding that begins here
unfoldable pub heads_of : (place : ℕ) → (types : Term) → Awaited
heads_of place types = record {
  encoding = place;
  is_called = false;
  first = first_head types;
  second = first_head (rest_of types);
  third = first_head (rest_of (rest_of types));
  fourth = first_head (rest_of (rest_of (rest_of types)));
}

-- what is awaited after the first type
unfoldable pub behind_first : Awaited → Awaited
behind_first a = record { encoding = a.encoding; is_called = a.is_called; first = a.second; second = a.third; third = a.fourth; fourth = 0 }

-- what is awaited where a return type comes first
unfoldable pub behind_another : Awaited → Awaited
behind_another a = record { encoding = a.encoding; is_called = a.is_called; first = 0; second = a.first; third = a.second; fourth = a.third }

-- the types of a signature, without what it declares
unfoldable pub types_in : (signature : Term) → Term
types_in (declaring heads types) = types
types_in types = types

unfoldable pub awaited_by_piece : (place : ℕ) → Term → Awaited
awaited_by_piece place (lambda signature number) = heads_of place signature
awaited_by_piece place (generic_lambda signature number) = behind_another (heads_of place (types_in signature))
awaited_by_piece place _ = nothing_awaited

-- what is awaited after this name, if it is a lambda's
unfoldable pub awaited_by : (place : ℕ) → (name : Term) → Awaited
awaited_by place (within prefix last) = awaited_by_piece place last
awaited_by place _ = nothing_awaited

unfoldable pub awaiting : Around → (name : Term) → Counting → Counting
awaiting around name counting = record counting { awaited = awaited_by around.encoding name }

-- The next piece of the name is a function of the lambda.
unfoldable pub calling : Counting → Counting
calling counting = record counting { awaited = record counting.awaited { is_called = true } }

-- If the name ends with the lambda, no function is named.
unfoldable pub ending : Counting → Counting
ending counting = elim counting.awaited.is_called [ true ↦ counting | false ↦ record counting { awaited = nothing_awaited } ]

unfoldable pub expecting : Expected → Counting → Counting
expecting expected counting = record counting { expected = expected }

-- Where a type of that function begins, its head is expected to be the first awaited one.
unfoldable pub expecting_item : Around → (place : ℕ) → Counting → Counting
expecting_item around place counting = elim ((around.in_lambda || not counting.awaited.is_called) || not (nat_eq counting.awaited.encoding around.encoding)) [
  | true ↦ counting
  | false ↦ record counting { expected = item_at place counting.awaited.first; awaited = behind_first counting.awaited }
]

-- ## The list that remains

-- If both lists remain and only one has a candidate that fits, that list remains. A single remaining list stays if its
-- candidate fits.
unfoldable pub left : Lists → (longer_fits shorter_fits : Bool) → Lists
left both_lists true false = longer_list
left both_lists false true = shorter_list
left longer_list true shorter_fits = longer_list
left shorter_list longer_fits true = shorter_list
left _ longer_fits shorter_fits = no_list

-- If the candidates of both lists fit by their forms, their heads decide.
unfoldable pub left_by : Lists → (longer_fits shorter_fits longer_has shorter_has : Bool) → Lists
left_by both_lists true true longer_has shorter_has = left both_lists longer_has shorter_has
left_by lists longer_fits shorter_fits longer_has shorter_has = left lists longer_fits shorter_fits

-- the lists that remain after the S at this place with this number, if the two lists have different candidates for the
-- number
unfoldable pub left_at : (place number : ℕ) → State → Lists
left_at place number state = elim (is_by_some (counted_so_far by_all state.candidates)) [
  | true ↦ no_list
  | false ↦
      let fits_by : Bool → Bool = λ is_shorter. can_be_named state.counting.expected place (named_in is_shorter state.candidates number) in
      let has_by : Bool → Bool = λ is_shorter. has_head state.counting.expected place (named_in is_shorter state.candidates number) in
      left_by state.counting.lists (fits_by false) (fits_by true) (has_by false) (has_by true)
]

unfoldable pub with_lists : Lists → State → State
with_lists lists state = record state { counting = record state.counting { lists = lists } }

-- ## Modules

-- A module's name is a candidate that is named only before a component of a nested name. It has no free parameters.
unfoldable pub named_by_both : List Candidate → (number : ℕ) → Option Candidate
named_by_both cs number = elim (nat_eq (place_in false cs number) (place_in true cs number)) [ true ↦ named_in false cs number | false ↦ None ]

unfoldable pub module_of : Option Candidate → Option Term
module_of None = None
module_of (Some c) = elim (is_module c.tree && not (is_open c.tree)) [ true ↦ Some c.tree | false ↦ None ]

unfoldable pub module_named : (number : ℕ) → State → Option Term
module_named number state = module_of (named_by_both state.candidates number)

-- ## Substitutions

-- A candidate's free parameters may denote other arguments here than where it was made: in another encoding, or in a lambda's
-- signature.
unfoldable pub is_foreign : Around → Candidate → Bool
is_foreign around c = is_open c.tree && (around.in_lambda || (c.in_lambda || not (nat_eq c.encoding around.encoding)))

-- A tree with one free parameter, of this number: the scope here has an argument of that number.
unfoldable pub in_scope : Around → (place : ℕ) → Term → (number : ℕ) → State → Result (Found Value State) Refusal
in_scope around place t k state = elim around.scope [
  | None ↦ Err (BadReference place)
  | Some arguments ↦ elim (nat_lt k (count arguments) && not (is_list (element arguments k))) [
    | false ↦ Err (BadReference place)
    | true ↦ with_packs place around.in_expansion (pack_length arguments t) state >>= λ s. Ok (found (tree t true) s)
  ]
]

-- A tree with several free parameters, where this is the greatest number: the scope here has an argument for each, and no pack
-- among its arguments.
unfoldable pub under_scope : Around → (place : ℕ) → Term → (greatest : ℕ) → State → Result (Found Value State) Refusal
under_scope around place t m state = elim around.scope [
  | None ↦ Err (BadReference place)
  | Some arguments ↦ elim (nat_lt m (count arguments) && not (has_pack arguments)) [
    | false ↦ Err (BadReference place)
    | true ↦ Ok (found (tree t true) state)
  ]
]

-- a tree that was made elsewhere, read outside a signature, by its free parameters
unfoldable pub with_free : Free → Around → (place : ℕ) → Term → State → Result (Found Value State) Refusal
with_free none_free around place t state = Err (BadReference place)
with_free (one_free k) around place t state = in_scope around place t k state
with_free (several_free m) around place t state = under_scope around place t m state

-- A tree that was made elsewhere is the same tree here. In a signature its parameters are the lambda's own; outside one they
-- are those of the scope.
unfoldable pub restated : Around → (place : ℕ) → Term → State → Result (Found Value State) Refusal
restated around place t state = elim around.in_lambda [
  | true ↦ Ok (found (tree t true) state)
  | false ↦ with_free (free_in t) around place t state
]

-- a substitution names a candidate
unfoldable pub substituted_wide : Around → (place : ℕ) → Option Candidate → State → Result (Found Value State) Refusal
substituted_wide around place None state = Err (BadReference place)
substituted_wide around place (Some c) state = elim (is_foreign around c) [
  | true ↦ restated around place c.tree state
  | false ↦ substituted around place (Some c) state
]

-- what a number names in the list that remains
unfoldable pub listed_by : Lists → Around → (place number : ℕ) → State → Result (Found Value State) Refusal
listed_by longer_list around place number state = substituted_wide around place (named_in false state.candidates number) state
listed_by shorter_list around place number state = substituted_wide around place (named_in true state.candidates number) state
listed_by _ around place number state = Err (BadReference place)

-- A substitution names the candidate that its number names in both lists, or in the one that remains.
unfoldable pub numbered : Around → (place : ℕ) → (number : ℕ) → State → Result (Found Value State) Refusal
numbered around place number state = elim (nat_eq (place_in false state.candidates number) (place_in true state.candidates number)) [
  | true ↦ substituted_wide around place (named_in false state.candidates number) state
  | false ↦ let lists = left_at place number state in listed_by lists around place number (with_lists lists state)
]

-- a module that a substitution names before a component of a nested name
unfoldable pub module_so_far : Around → (place : ℕ) → (number : ℕ) → State → Continuation
module_so_far around place number state = elim (module_named number state) [
  | None ↦ Err (BadReference place)
  | Some t ↦ listed_so_far around t [] state
]

-- ## The unfolding

-- Where all compilers count alike so far, nothing need be noted.
unfoldable pub noting : Counting → State → State
noting counting state = elim (is_by_all (counted_so_far by_all state.candidates)) [
  | true ↦ state
  | false ↦ record state { counting = counting }
]

-- What is noted where a production begins: the S of a nested name is the byte before this place; a type under qualifiers, a
-- type of an encoding or of a signature, or a further piece of a name begins here; or a nested name ends here.
unfoldable pub opening_wide : Production → Around → Forest → (place : ℕ) → State → Result State Refusal
opening_wide Production.NestTemplate around parts place state = Ok (noting (expecting (prefix_at (place - 1)) state.counting) state)
opening_wide Production.QualifiedPlain around parts place state = Ok (noting (expecting (qualified_at place) state.counting) state)
opening_wide Production.Items around parts place state = Ok (noting (expecting_item around place state.counting) state)
opening_wide Production.NestNext around parts place state = Ok (noting (calling state.counting) state)
opening_wide Production.NestEnd around parts place state = Ok (noting (ending state.counting) state)
opening_wide production around parts place state = opening production parts place state

unfoldable pub between_wide : Production → Around → (place : ℕ) → List Value → State → Continuation
between_wide Production.Parameter around place (v ∷ []) state = parameter_here around place (index_of v) [] state
between_wide Production.NestParameter around place (v ∷ []) state = parameter_here around place (index_of v) [] state
between_wide Production.ParameterArgument around place (v ∷ []) state = parameter_here around (place - 1) (index_of v) [] state
between_wide Production.ParameterExpression around place (v ∷ []) state = argument_here around (place - 1) (index_of v) state
between_wide Production.HeldArguments around place [] state = next [] (inside around) (with_held (prefix_listed around.prefix) around (prefix_tree around.prefix) state)
between_wide Production.DeclaredFirst around place [] state = next [] around state
between_wide Production.Holder around place (v ∷ []) state = holder_so_far around place state
between_wide Production.Constraint around place [] state = next [] (in_constraint_of around) state
between_wide Production.EncodingLiteral around place (v ∷ []) state = next (v ∷ []) (in_literal around) state
between_wide Production.Encoding around place [] state = next [] (name_around around place) state
between_wide Production.Encoding around place (v ∷ []) state = next (v ∷ []) (types_around around place (tree_of v)) state
between_wide Production.NamedModule around place (v ∷ []) state = module_so_far around (place - 1) (counted_value Seq36 (text_of v)) state
between_wide production around place vs state = between production around place vs state

unfoldable pub close_wide : Production → (byte : ℕ) → Around → (place : ℕ) → (began : State) → List Value → State → Result (Found Value State) Refusal
close_wide Production.Substitution byte around place began vs state =
    numbered around (place - 1) (counted_value Seq36 (text_of (part vs 0))) state
close_wide Production.Lambda byte around place began vs state = Ok (found (as_generic_lambda (meaning Production.Lambda byte around vs)) state)
close_wide Production.Inheriting byte around place began vs state = Ok (found (meaning Production.Inheriting byte around vs) (counted_base around (part vs 1) state))
close_wide Production.Holder byte around place began vs state = Ok (found (meaning Production.Holder byte around vs) (noting (awaiting around (tree_of (part vs 1)) state.counting) state))
close_wide Production.Encoding byte around place began vs state =
    Ok (found (name_if (is_passed_over around && is_open (tree_of (part vs 0))) (part vs 0) (meaning Production.Encoding byte around vs)) state)
close_wide Production.EncodingLiteral byte around place began vs state =
    Ok (found (name_if (is_unseen around && is_open (tree_of (part vs 1))) (part vs 1) (meaning Production.EncodingLiteral byte around vs)) state)
close_wide production byte around place began vs state = close production byte around place began vs state

-- C++ by the wide grammar as a language
unfoldable pub cpp_wide : Reading Value State Around
cpp_wide = record {
  rowless = nothing_there ∷ [];
  token = λ place t state. Ok (found (text t.own) state);
  begin = λ rule parts. opening_wide (production_at rule.rule.number) rule.context parts rule.place rule.before;
  between = λ rule known state. between_wide (production_at rule.rule.number) rule.context rule.place known state;
  close = λ rule known state. close_wide (production_at rule.rule.number) (byte_of rule.taken) rule.context rule.place rule.before known state;
}

-- the tree that a symbol of the wide grammar with this shape denotes, or the refusal at its first bad token by place
unfoldable pub unfold_wide : Tree → Result Term Refusal
unfold_wide shape = unfold_tree cpp_wide first_around 0 shape first_state >>= λ whole. Ok (first_tree whole.value)
