-- Each item has at most eight parts.
use Rattle.cpp_grammar.proofs.Basics.{◌≡◌, refl, ℕ, zero, suc, ◌+◌, ◌^◌, ◌≤◌, length, List, [], ◌∷◌, ◌++◌, Bool, true, false, ◌&&◌, cond, nat_eq, nat_le, nat_lt, Option, Some, None, codes, decimal, arith, length-append, Detail, has_arguments, has_parameters, as_item, begins_parameters, says, text_part, list_part, piece_parts, before_piece, attached_parts, component_parts, within_parts, last_piece, opening_text, instance_parts, marked_parts, reference_parts, qualified_left, blank_last, qualifier_text, expansion_parts, sign_part, is_plain_integer, integer_parts, builtin_code, member_parts, array_left, float_parts, no_operation, precedence_of, operand_parts, operation_parts, printed, left_parts, low_parts, function_right, ref_text, closing_right, qualified_right, right_parts, base_within, base_tagged, base_parts, types_of, encoding_text, function_bare, function_full, full_parts, bare_parts, root_parts, first_parts, more_parts, at_index, is_below, comma_before, expand_rest, expand_parts, parts_in, not_empty, parts, own_piece, most_parts, most_of, generic_parts, name_of_own, own_name, parameter_parts, declared_rest, declared_parts, front_of_name, element, without_tags, leb-true, Operand, look_up, same_bytes, literal_endings}
use Prim.Native.String.{String}
use Rattle.sym_print.specs.Unfold.{PartOf, text, sub}
use Rattle.cpp_grammar.specs.Term.{Qualifiers, RefQualifier, Signed, Term, symbol, function, object, of_name, alone, in_std, within, instance, local, holder, tagged, abbreviation, parameter, source, constructor, destructor, inheriting, lambda, generic_lambda, bindings, declaring, sized_float, pointer, lvalue, rvalue, array, bounded, member_pointer, function_type, qualified, expansion, integer, operation, function_parameter, pack, nil, list, absent}
use Rattle.cpp_grammar.specs.Items.{Form, root, full, bare, left, right, low, base, piece, first, more, expand, declared, Context, Item, closed, signature_in, argument, head, is_reference, is_funarr, packs_of, is_empty}
use Rattle.cpp_grammar.specs.Operations.{Operation, operations, operation_of_code}
use Rattle.cpp_grammar.proofs.Chosen.{either, either_cond}
use Rattle.cpp_grammar.proofs.Steps.{first_of_both, second_of_both}

-- the list has at most this many parts
abbrev HasFew : ℕ → List (PartOf Item) → Type 0
HasFew n ps = length ps ≤ n

-- ## Lists of parts

append_few : (m n : ℕ) (xs ys : List (PartOf Item)) → HasFew m xs → HasFew n ys → HasFew (m + n) (xs ++ ys)
append_few m n xs ys f g = omega (arith, length-append xs ys, f, g)

text_few : (b : List ℕ) → HasFew 1 (text_part b)
unfolding text_part
text_few [] = omega arith
text_few (b ∷ bs) = omega arith

list_few : (form : Form) (c : Context) (t : Term) → HasFew 1 (list_part form c t)
unfolding list_part
list_few form c nil = omega arith
list_few form c (list e rest) = omega arith
list_few form c _ = omega arith

choice_few : (n : ℕ) (b : Bool) (xs ys : List (PartOf Item)) → HasFew n xs → HasFew n ys → HasFew n (elim b [ true ↦ xs | false ↦ ys ])
choice_few n b xs ys f g = either (HasFew n) b xs ys (λ is. f) (λ is. g)

sign_few : (n : Signed) → HasFew 1 (sign_part n)
unfolding sign_part
sign_few n = either_cond (HasFew 1) n.negative (says "-" ∷ []) [] (λ h. omega arith) (λ h. omega arith)

comma_few : (i : ℕ) → HasFew 1 (comma_before i)
unfolding comma_before
comma_few zero = omega arith
comma_few (suc i) = omega arith

-- ## Forms

generic_few : (c : Context) (parameters : Term) (number : ℕ) → HasFew 7 (generic_parts c parameters number)
unfolding generic_parts
generic_few c (declaring heads parameters) number =
    append_few 4 3 (says "{lambda<" ∷ as_item (declared 0) c heads ∷ says ">(" ∷ list_part first c parameters) (says ")#" ∷ text (decimal number) ∷ says "}" ∷ []) (omega (arith, list_few first c parameters)) (omega arith)
generic_few c parameters number = omega (arith, append_few 2 3 (says "{lambda(" ∷ list_part first c parameters) (says ")#" ∷ text (decimal number) ∷ says "}" ∷ []) (omega (arith, list_few first c parameters)) (omega arith))

-- the name of a lambda's own parameter has at most two parts
name_few : (k : ℕ) (head : Term) → HasFew 2 (name_of_own k head)
unfolding name_of_own
name_few k absent = omega arith
name_few k _ = omega arith

own_few : (form : Form) (k : ℕ) (head : Term) → HasFew 2 (own_name form k head)
unfolding own_name
own_few right k head = omega arith
own_few form k head = name_few k head

parameter_few : (form : Form) (k : ℕ) (a : Term) → HasFew 2 (parameter_parts form k a)
unfolding parameter_parts
parameter_few form k (declaring heads parameters) = own_few form k (element heads k)
parameter_few form k _ = omega arith

piece_few : (c : Context) (p : Term) → HasFew 7 (piece_parts c p)
unfolding piece_parts
piece_few c (lambda parameters number) = omega (arith, append_few 2 3 (says "{lambda(" ∷ list_part first c parameters) (says ")#" ∷ text (decimal number) ∷ says "}" ∷ []) (omega (arith, list_few first c parameters)) (omega arith))
piece_few c (generic_lambda parameters number) = generic_few (signature_in c parameters) parameters number
piece_few c (bindings names) = omega (arith, append_few 2 1 (says "[" ∷ list_part first c names) (says "]" ∷ []) (omega (arith, list_few first c names)) (omega arith))
piece_few c (source internal name) = omega arith
piece_few c _ = omega arith

before_few : (c : Context) (prefix : Term) → HasFew 2 (before_piece c prefix)
unfolding before_piece
before_few c absent = omega arith
before_few c _ = omega arith

attached_few : (c : Context) (prefix p module_name : Term) → HasFew 5 (attached_parts c prefix p module_name)
unfolding attached_parts
attached_few c prefix p module_name = append_few 2 3 (before_piece c prefix) (as_item piece c p ∷ says "@" ∷ as_item left c module_name ∷ []) (before_few c prefix) (omega arith)

component_few : (c : Context) (prefix p : Term) → HasFew 5 (component_parts c prefix p)
unfolding component_parts
component_few c (operation a b x y) p =
    choice_few 5 (nat_eq a 87) _ _ (choice_few 5 (nat_eq b 64) _ _ (attached_few c x p y) (attached_few c absent p (operation a b x y))) (omega arith)
component_few c prefix p = omega arith

within_few : (c : Context) (prefix p : Term) → HasFew 5 (within_parts c prefix p)
unfolding within_parts
within_few c prefix (constructor digit) = omega arith
within_few c prefix (destructor digit) = omega arith
within_few c prefix (inheriting digit class) = omega arith
within_few c prefix p = component_few c prefix p

instance_few : (all : Bool) (c : Context) (t arguments : Term) → HasFew 4 (instance_parts all c t arguments)
unfolding instance_parts
instance_few false c t arguments = omega arith
instance_few true c t arguments =
    omega (arith, append_few 3 1 (as_item left c t ∷ text (opening_text (last_piece t)) ∷ list_part first c arguments) (says ">" ∷ []) (omega (arith, list_few first c arguments)) (omega arith))

marked_few : (c : Context) (t : Term) (mark : String) → HasFew 2 (marked_parts c t mark)
unfolding marked_parts
marked_few c t mark = choice_few 2 (is_funarr (head c t)) _ _ (omega arith) (omega arith)

reference_few : (c : Context) (form : Form) (t : Term) (mark : String) → HasFew 2 (reference_parts c form t mark)
unfolding reference_parts
reference_few c form t mark = choice_few 2 (is_reference (head c t)) _ _ (omega arith) (marked_few c t mark)

qualified_few : (c : Context) (q : Qualifiers) (t : Term) → HasFew 2 (qualified_left c q t)
unfolding qualified_left
qualified_few c q (function_type c_linkage noexcept ref returned parameters) = omega arith
qualified_few c q t = choice_few 2 (is_reference (head c t)) _ _ (omega arith)
    (choice_few 2 (is_funarr (head c t)) _ _ (omega (arith, text_few (blank_last (qualifier_text q)))) (omega (arith, text_few (qualifier_text q))))

expansion_few : (c : Context) (t : Term) (o : Option ℕ) → HasFew 3 (expansion_parts c t o)
unfolding expansion_parts
expansion_few c t None = omega arith
expansion_few c t (Some zero) = omega arith
expansion_few c t (Some (suc m)) = omega arith

integer_few : (c : Context) (t : Term) (n : Signed) → HasFew 6 (integer_parts c t n)
unfolding integer_parts
integer_few c t n = choice_few 6 (is_plain_integer t) _ _
    (omega (arith, append_few 1 2 (sign_part n) (text n.digits ∷ text_part (look_up (builtin_code t) literal_endings)) (sign_few n) (omega (arith, text_few (look_up (builtin_code t) literal_endings)))))
    (omega (arith, append_few 1 1 (sign_part n) (text n.digits ∷ []) (sign_few n) (omega arith)))

member_few : (c : Context) (class t : Term) → HasFew 4 (member_parts c class t)
unfolding member_parts
member_few c class t = choice_few 4 (is_funarr (head c t)) _ _ (omega arith) (omega arith)

array_few : (c : Context) (t : Term) → HasFew 2 (array_left c t)
unfolding array_left
array_few c t = choice_few 2 (is_funarr (head c t)) _ _ (omega arith) (omega arith)

float_few : (digits : List ℕ) (end : ℕ) → HasFew 3 (float_parts digits end)
unfolding float_parts
float_few digits end = choice_few 3 (nat_eq end 98) _ _ (omega arith) (choice_few 3 (nat_eq end 120) _ _ (omega arith) (omega arith))

operand_few : (c : Context) (o : Operand) (t : Term) → HasFew (most_parts o) (operand_parts c o t)
unfolding operand_parts
operand_few c Operand.NotPrinted t = omega arith
operand_few c Operand.AsItIs t = omega arith
operand_few c Operand.AsType t = omega arith
operand_few c Operand.AsList t = list_few first c t
operand_few c (Operand.From least) t = choice_few 3 (nat_le least (precedence_of t)) _ _ (omega arith) (omega arith)

-- each operation of the table has at most seven parts
unfoldable all_few : List Operation → Bool
all_few [] = true
all_few (o ∷ os) = nat_le (most_of o) 7 && all_few os

rows_few : all_few operations ≡ true
unfolding all_few operations text_part
rows_few = refl

row_few : (code : List ℕ) (os : List Operation) → all_few os ≡ true → most_of (elim (operation_of_code code os) [ Some o ↦ o | None ↦ no_operation ]) ≤ 7
unfolding all_few operation_of_code text_part
row_few code [] h = omega arith
row_few code (o ∷ os) h =
    either (λ found. most_of (elim found [ Some p ↦ p | None ↦ no_operation ]) ≤ 7) (same_bytes code o.code) (Some o) (operation_of_code code os)
    (λ is. leb-true (most_of o) 7 (first_of_both (nat_le (most_of o) 7) (all_few os) h)) (λ is. row_few code os (second_of_both (nat_le (most_of o) 7) (all_few os) h))

operation_few : (c : Context) (o : Operation) (x y : Term) → most_of o ≤ 7 → HasFew 7 (operation_parts c o x y)
unfolding operation_parts
operation_few c o x y h =
    let a = text_part o.front in
    let b = operand_parts c o.left x in
    let d = text_part o.between in
    let e = operand_parts c o.right y ++ text_part o.back in
    omega (arith, h, length-append a (b ++ (d ++ e)), length-append b (d ++ e), length-append d e, length-append (operand_parts c o.right y) (text_part o.back), operand_few c o.left x, operand_few c o.right y)

left_few : (d : Detail) (c : Context) (t : Term) → HasFew 7 (left_parts d c t)
unfolding left_parts printed
left_few d c (alone p) = omega (arith, piece_few c p)
left_few d c (in_std p) = omega arith
left_few d c (within prefix p) = omega (arith, within_few c prefix p)
left_few d c (instance t arguments) = omega (arith, instance_few (has_arguments d) c t arguments)
left_few d c (parameter k) = omega (arith, parameter_few left k (argument c k))
left_few d c (pointer t) = omega (arith, marked_few c t "*")
left_few d c (lvalue t) = omega (arith, reference_few c low t "&")
left_few d c (rvalue t) = omega (arith, reference_few c left t "&&")
left_few d c (array digits t) = omega (arith, array_few c t)
left_few d c (bounded bound t) = omega (arith, array_few c t)
left_few d c (member_pointer class t) = omega (arith, member_few c class t)
left_few d c (qualified q t) = omega (arith, qualified_few c q t)
left_few d c (expansion t) = omega (arith, expansion_few c t (packs_of c t))
left_few d c (pack elements) = omega (arith, list_few first c elements)
left_few d c (integer t n) = omega (arith, integer_few c t n)
left_few d c (operation a b x y) = operation_few c (printed a b) x y (row_few (a ∷ b ∷ []) operations rows_few)
left_few d c (function_parameter digits) = omega (arith, text_few digits)
left_few d c (sized_float digits end) = omega (arith, float_few digits end)
left_few d c _ = omega arith

low_few : (d : Detail) (c : Context) (t : Term) → HasFew 7 (low_parts d c t)
unfolding low_parts
low_few d c (lvalue t) = omega (arith, reference_few c low t "&")
low_few d c (rvalue t) = omega (arith, reference_few c low t "&")
low_few d c (qualified q t) = omega arith
low_few d c (parameter k) = omega (arith, parameter_few low k (argument c k))
low_few d c t = left_few d c t

function_right_few : (c : Context) (q : List ℕ) (ref : RefQualifier) (noexcept : Bool) (returned parameters : Term) → HasFew 5 (function_right c q ref noexcept returned parameters)
unfolding function_right
function_right_few c q ref noexcept returned parameters =
    let qs = q ++ ref_text ref ++ cond noexcept (codes " noexcept") [] in
    append_few 4 1 ((says "(" ∷ list_part first c parameters) ++ (says ")" ∷ text_part qs)) (as_item right c returned ∷ [])
    (append_few 2 2 (says "(" ∷ list_part first c parameters) (says ")" ∷ text_part qs) (omega (arith, list_few first c parameters)) (omega (arith, text_few qs))) (omega arith)

closing_few : (c : Context) (t : Term) → HasFew 2 (closing_right c t)
unfolding closing_right
closing_few c t = choice_few 2 (is_funarr (head c t)) _ _ (omega arith) (omega arith)

qualified_right_few : (c : Context) (q : Qualifiers) (t : Term) → HasFew 5 (qualified_right c q t)
unfolding qualified_right
qualified_right_few c q (function_type c_linkage noexcept ref returned parameters) = function_right_few c (qualifier_text q) ref noexcept returned parameters
qualified_right_few c q t = omega arith

right_few : (c : Context) (t : Term) → HasFew 5 (right_parts c t)
unfolding right_parts
right_few c (pointer t) = omega (arith, closing_few c t)
right_few c (lvalue t) = omega (arith, closing_few c t)
right_few c (rvalue t) = omega (arith, closing_few c t)
right_few c (member_pointer class t) = omega (arith, closing_few c t)
right_few c (array digits t) = omega (arith, append_few 2 2 (says "[" ∷ text_part digits) (says "]" ∷ as_item right c t ∷ []) (omega (arith, text_few digits)) (omega arith))
right_few c (function_type c_linkage noexcept ref returned parameters) = function_right_few c [] ref noexcept returned parameters
right_few c (parameter k) = omega (arith, parameter_few right k (argument c k))
right_few c (qualified q t) = qualified_right_few c q t
right_few c _ = omega arith

base_within_few : (c : Context) (prefix p : Term) → HasFew 7 (base_within c prefix p)
unfolding base_within
base_within_few c prefix (constructor digit) = omega arith
base_within_few c prefix (destructor digit) = omega arith
base_within_few c prefix (inheriting digit class) = omega arith
base_within_few c prefix p = piece_few c p

base_tagged_few : (c : Context) (of_structor : Bool) (t : Term) → HasFew 7 (base_tagged c of_structor t)
unfolding base_tagged
base_tagged_few c true t = omega arith
base_tagged_few c false t = piece_few c (own_piece (without_tags t))

base_few : (d : Detail) (c : Context) (t : Term) → HasFew 7 (base_parts d c t)
unfolding base_parts
base_few d c (alone p) = omega (arith, piece_few c p)
base_few d c (in_std p) = omega (arith, piece_few c p)
base_few d c (within prefix p) = omega (arith, base_within_few c prefix p)
base_few d c (instance t arguments) = omega arith
base_few d c (local encoding entity discriminator) = omega arith
base_few d c (holder name) = omega arith
base_few d c (tagged of_structor name tag) = omega (arith, base_tagged_few c of_structor name)
base_few d c (abbreviation letter) = omega arith
base_few d c (parameter k) = omega (arith, parameter_few base k (argument c k))
base_few d c t = left_few d c t

bare_function_few : (all : Bool) (name : Term) (q : Qualifiers) (ref : RefQualifier) (parameters : Term) → HasFew 5 (function_bare all name q ref parameters)
unfolding function_bare
bare_function_few false name q ref parameters = omega arith
bare_function_few true name q ref parameters =
    append_few 3 2 (as_item left closed name ∷ text (begins_parameters ref parameters) ∷ list_part first (types_of name) parameters) (says ")" ∷ text_part (encoding_text q ref))
    (omega (arith, list_few first (types_of name) parameters)) (omega (arith, text_few (encoding_text q ref)))

full_function_few : (all : Bool) (name : Term) (q : Qualifiers) (ref : RefQualifier) (returned parameters : Term) → HasFew 8 (function_full all name q ref returned parameters)
unfolding function_full
full_function_few false name q ref returned parameters = omega (arith, bare_function_few false name q ref parameters)
full_function_few true name q ref absent parameters = omega (arith, bare_function_few true name q ref parameters)
full_function_few true name q ref (symbol e suffix) parameters =
    omega (arith, append_few 5 1 (function_bare true name q ref parameters) (as_item right (types_of name) (symbol e suffix) ∷ []) (bare_function_few true name q ref parameters) (omega arith))
full_function_few true name q ref returned parameters =
    omega (arith, append_few 5 1 (function_bare true name q ref parameters) (as_item right (types_of name) returned ∷ []) (bare_function_few true name q ref parameters) (omega arith))

full_few : (d : Detail) (t : Term) → HasFew 8 (full_parts d t)
unfolding full_parts
full_few d (function name q ref returned parameters) = full_function_few (has_parameters d) name q ref returned parameters
full_few d (object name q ref) = omega (arith, text_few (encoding_text q ref))
full_few d (of_name letter name q ref) = omega (arith, text_few (encoding_text q ref))
full_few d _ = omega arith

bare_few : (d : Detail) (t : Term) → HasFew 8 (bare_parts d t)
unfolding bare_parts
bare_few d (function name q ref returned parameters) = omega (arith, bare_function_few (has_parameters d) name q ref parameters)
bare_few d t = full_few d t

first_few : (c : Context) (t : Term) → HasFew 4 (first_parts c t)
unfolding first_parts
first_few c (list e rest) = choice_few 4 (is_empty c e) _ _ (omega (arith, list_few first c rest)) (omega (arith, list_few more c rest))
first_few c _ = omega arith

more_few : (c : Context) (t : Term) → HasFew 4 (more_parts c t)
unfolding more_parts
more_few c (list e rest) = choice_few 4 (is_empty c e) _ _ (omega (arith, list_few more c rest)) (omega (arith, list_few more c rest))
more_few c _ = omega arith

root_few : (t : Term) → HasFew 4 (root_parts t)
unfolding root_parts
root_few (symbol e []) = omega arith
root_few (symbol e (b ∷ bs)) = omega arith
root_few _ = omega arith

rest_few : (c : Context) (t : Term) (i : ℕ) → HasFew 1 (expand_rest c t i)
unfolding expand_rest
rest_few c t i = choice_few 1 (is_below i (packs_of c t)) _ _ (omega arith) (omega arith)

expand_few : (c : Context) (t : Term) (i : ℕ) → HasFew 4 (expand_parts c t i)
unfolding expand_parts
expand_few c t i =
    append_few 3 1 (comma_before i ++ (as_item left (at_index i c) t ∷ as_item right (at_index i c) t ∷ [])) (expand_rest c t (i + 1))
    (append_few 1 2 (comma_before i) (as_item left (at_index i c) t ∷ as_item right (at_index i c) t ∷ []) (comma_few i) (omega arith))
    (rest_few c t (i + 1))

next_few : (c : Context) (t : Term) (i : ℕ) → HasFew 1 (declared_rest c t i)
unfolding declared_rest
next_few c t i = choice_few 1 (nat_lt (i + 1) (2 ^ 32)) _ _ (list_few (declared (i + 1)) c t) (omega arith)

declared_few : (c : Context) (t : Term) (i : ℕ) → HasFew 6 (declared_parts c t i)
unfolding declared_parts
declared_few c (list e rest) i =
    let name = as_item left c e ∷ says " " ∷ text (front_of_name e) ∷ text (decimal i) ∷ [] in
    append_few 5 1 (comma_before i ++ name) (declared_rest c rest i) (append_few 1 4 (comma_before i) name (comma_few i) (omega arith)) (next_few c rest i)
declared_few c _ i = omega arith

forms_few : (d : Detail) (c : Context) (form : Form) (t : Term) → HasFew 8 (parts_in d c form t)
unfolding parts_in
forms_few d c root t = omega (arith, root_few t)
forms_few d c full t = full_few d t
forms_few d c bare t = bare_few d t
forms_few d c left t = omega (arith, left_few d c t)
forms_few d c right t = omega (arith, right_few c t)
forms_few d c low t = omega (arith, low_few d c t)
forms_few d c base t = omega (arith, base_few d c t)
forms_few d c piece t = omega (arith, piece_few c t)
forms_few d c first t = omega (arith, first_few c t)
forms_few d c more t = omega (arith, more_few c t)
forms_few d c (expand i) t = omega (arith, expand_few c t i)
forms_few d c (declared i) t = omega (arith, declared_few c t i)

dropped_few : (ps : List (PartOf Item)) → length (not_empty ps) ≤ length ps
unfolding not_empty
dropped_few [] = omega arith
dropped_few (text [] ∷ ps) = omega (arith, dropped_few ps)
dropped_few (text (b ∷ bs) ∷ ps) = omega (arith, dropped_few ps)
dropped_few (sub item ∷ ps) = omega (arith, dropped_few ps)

-- Each item has at most eight parts.
pub few_parts : (d : Detail) (item : Item) → length (parts d item) ≤ 8
unfolding parts
few_parts d item = omega (arith, dropped_few (parts_in d item.context item.form item.tree), forms_few d item.context item.form item.tree)
