-- The parts of an annotated item are those of the item.
use Rattle.cpp_term.proofs.Basics.{◌≡◌, refl, ap, sym, ◌∙◌, ℕ, zero, suc, ◌+◌, List, [], ◌∷◌, ◌++◌, Bool, true, false, cond, nat_eq, nat_le, Option, Some, None, codes, decimal, nat_lt, ◌^◌, Detail, PartOf, text, sub, Qualifiers, RefQualifier, any_value, lvalue_only, rvalue_only, explicit_object, Signed, Term, symbol, function, object, of_name, alone, in_std, within, instance, local, holder, tagged, of_default, abbreviation, parameter, source, constructor, destructor, inheriting, lambda, generic_lambda, bindings, builtin, sized_float, pointer, lvalue, rvalue, array, bounded, member_pointer, function_type, qualified, expansion, integer, operation, function_parameter, pack, nil, list, absent, declaring, element, arguments_of, without_tags, letter_name, qualifier_text, ref_text, blank_last, encoding_text, is_below, reargued, Place, nowhere, in_own, place_of, place_in, place_within, context_place, argument_in, annotate, noted_scope, noted_context, noted_item, noted_part, noted_parts}
use Prim.Native.String.{String}
use Rattle.sym_print.specs.Details.{has_arguments, has_parameters}
use Rattle.cpp_grammar.specs.Items.{Form, root, full, bare, left, right, low, base, piece, first, more, expand, declared, Signature, in_none, undeclared, declared_in, signature_of, indexed, own_argument, Context, signature_in, Item, closed, argument, head, is_reference, is_funarr, packs_of, is_empty}
use Rattle.cpp_grammar.specs.Parts as leaf_
use Rattle.cpp_grammar.specs.declared.operand.Operand.{Operand}
use Rattle.cpp_grammar.specs.Operations.{Operation}
use Rattle.cpp_grammar.specs.Texts.{look_up, named_special_texts, literal_endings}
use Rattle.cpp_term.specs.Items as item_
use Rattle.cpp_term.specs.Scope as scope_
use Rattle.cpp_term.specs.Parts as part_
use Rattle.cpp_term.proofs.Notes.{both, choose, choose_cond, element_noted}
use Rattle.cpp_term.proofs.HeadsNoted.{within_types, declared_noted, argument_noted, packs_of_noted, head_noted, empty_noted}
use Rattle.cpp_term.proofs.SeenNoted.{opening_text_noted, precedence_of_noted}

noted_append : (xs ys : List (PartOf Item)) → noted_parts (xs ++ ys) ≡ noted_parts xs ++ noted_parts ys
unfolding noted_parts
noted_append [] ys = refl
noted_append (x ∷ xs) ys = ap (λ ps. noted_part x ∷ ps) (noted_append xs ys)

-- two lists of parts, one after the other
joins : (xs ys : List (PartOf Item)) (us ws : List (PartOf item_.Item)) → us ≡ noted_parts xs → ws ≡ noted_parts ys → us ++ ws ≡ noted_parts (xs ++ ys)
joins xs ys us ws e g = both (λ ps qs. ps ++ qs) e g ∙ sym (noted_append xs ys)

text_noted : (b : List ℕ) → part_.text_part b ≡ noted_parts (leaf_.text_part b)
unfolding part_.text_part leaf_.text_part noted_parts noted_part
text_noted [] = refl
text_noted (b ∷ bs) = refl

choice : (b c : Bool) (xs ys : List (PartOf Item)) (us ws : List (PartOf item_.Item)) → c ≡ b → us ≡ noted_parts xs → ws ≡ noted_parts ys →
    ◌≡◌ {A = List (PartOf item_.Item)} (elim c [ true ↦ us | false ↦ ws ]) (noted_parts (elim b [ true ↦ xs | false ↦ ys ]))
choice b c xs ys us ws e f g = choose (λ ps qs. qs ≡ noted_parts ps) b c xs ys us ws e (λ h. f) (λ h. g)

-- the scope of a context, annotated
abbrev at : Context → Place
at c = context_place c

list_noted : (form : Form) (c : Context) (t : Term) → part_.list_part form (noted_context c) (annotate (at c) t) ≡ noted_parts (leaf_.list_part form c t)
unfolding part_.list_part leaf_.list_part annotate noted_parts noted_part noted_item
list_noted form c nil = refl
list_noted form c _ = refl

generic_noted : (c : Context) (parameters : Term) (number : ℕ) → part_.generic_parts (noted_context c) (annotate in_own parameters) number ≡ noted_parts (leaf_.generic_parts (signature_in c parameters) parameters number)
unfolding part_.generic_parts leaf_.generic_parts annotate noted_parts noted_part noted_item noted_context place_within signature_of
generic_noted c (declaring heads parameters) number =
    let own = signature_in c (declaring heads parameters) in
    both (λ h ps. text (codes "{lambda<") ∷ part_.as_item (declared 0) (noted_context c) h ∷ text (codes ">(") ∷ ps) (declared_noted heads parameters heads)
    (joins (leaf_.list_part first own parameters) _ (part_.list_part first (noted_context c) (reargued (Some (annotate in_own (declaring heads parameters))) (annotate in_own parameters))) _
    (ap (part_.list_part first (noted_context c)) (declared_noted heads parameters parameters) ∙ list_noted first own parameters) refl)
generic_noted c parameters number = ap (λ ps. text (codes "{lambda(") ∷ ps)
    (joins (leaf_.list_part first (signature_in c parameters) parameters) _ (part_.list_part first (noted_context c) (annotate (at (signature_in c parameters)) parameters)) _ (list_noted first (signature_in c parameters) parameters) refl)

-- ## Parameters that a lambda declares

letter_noted : (s : Place) (t : Term) → part_.declared_letter (annotate s t) ≡ leaf_.declared_letter t
unfolding part_.declared_letter leaf_.declared_letter annotate
letter_noted s (operation a b x y) = refl
letter_noted s _ = refl

front_noted : (s : Place) (t : Term) → part_.front_of_name (annotate s t) ≡ leaf_.front_of_name t
unfolding part_.front_of_name leaf_.front_of_name annotate
front_noted s (operation a b x y) = ap (λ l. cond (nat_eq b 112) (letter_name l) (letter_name b)) (letter_noted s x)
front_noted s _ = refl

name_noted : (s : Place) (k : ℕ) (t : Term) → part_.name_of_own k (annotate s t) ≡ noted_parts (leaf_.name_of_own k t)
unfolding part_.name_of_own leaf_.name_of_own annotate noted_parts noted_part
name_noted s k absent = refl
name_noted s k t = ap (λ b. text b ∷ text (decimal k) ∷ []) (front_noted s t)

own_name_noted : (s : Place) (form : Form) (k : ℕ) (t : Term) → part_.own_name form k (annotate s t) ≡ noted_parts (leaf_.own_name form k t)
unfolding part_.own_name leaf_.own_name noted_parts
own_name_noted s right k t = refl
own_name_noted s form k t = name_noted s k t

declaring_noted : (s : Place) (form : Form) (k : ℕ) (heads : Term) → part_.own_name form k (scope_.element (annotate s heads) k) ≡ noted_parts (leaf_.own_name form k (element heads k))
declaring_noted s form k heads = ap (part_.own_name form k) (element_noted s heads k) ∙ own_name_noted s form k (element heads k)

parameter_noted : (form : Form) (k : ℕ) (a : Term) → part_.parameter_parts form k (annotate nowhere a) ≡ noted_parts (leaf_.parameter_parts form k a)
unfolding part_.parameter_parts leaf_.parameter_parts annotate noted_parts noted_part noted_item noted_context place_within
parameter_noted form k (declaring heads parameters) = declaring_noted nowhere form k heads
parameter_noted form k _ = refl

piece_noted : (c : Context) (t : Term) → part_.piece_parts (noted_context c) (annotate (at c) t) ≡ noted_parts (leaf_.piece_parts c t)
unfolding part_.piece_parts leaf_.piece_parts annotate noted_parts noted_part noted_item noted_context place_in
piece_noted c (lambda parameters number) = ap (λ ps. text (codes "{lambda(") ∷ ps)
    (joins (leaf_.list_part first c parameters) _ (part_.list_part first (noted_context c) (annotate (at c) parameters)) _ (list_noted first c parameters) refl)
piece_noted c (generic_lambda parameters number) = generic_noted c parameters number
piece_noted c (bindings names) = ap (λ ps. text (codes "[") ∷ ps)
    (joins (leaf_.list_part first c names) _ (part_.list_part first (noted_context c) (annotate (at c) names)) _ (list_noted first c names) refl)
piece_noted c (source internal bytes) = refl
piece_noted c _ = refl

prefix_noted : (c : Context) (t : Term) → part_.prefix_item (noted_context c) (annotate (at c) t) ≡ noted_part (leaf_.prefix_item c t)
unfolding part_.prefix_item leaf_.prefix_item annotate noted_part noted_item noted_context
prefix_noted c (function name q ref returned parameters) = refl
prefix_noted c _ = refl

before_noted : (c : Context) (prefix : Term) → part_.before_piece (noted_context c) (annotate (at c) prefix) ≡ noted_parts (leaf_.before_piece c prefix)
unfolding part_.before_piece leaf_.before_piece annotate noted_parts noted_part
before_noted c absent = refl
before_noted c prefix = ap (λ i. i ∷ part_.says "::" ∷ []) (prefix_noted c prefix)

attached_noted : (c : Context) (prefix p module_name : Term) → part_.attached_parts (noted_context c) (annotate (at c) prefix) (annotate (at c) p) (annotate (at c) module_name) ≡ noted_parts (leaf_.attached_parts c prefix p module_name)
unfolding part_.attached_parts leaf_.attached_parts noted_parts noted_part noted_item
attached_noted c prefix p module_name =
    joins (leaf_.before_piece c prefix) (leaf_.as_item piece c p ∷ leaf_.says "@" ∷ leaf_.as_item left c module_name ∷ []) (part_.before_piece (noted_context c) (annotate (at c) prefix))
    (part_.as_item piece (noted_context c) (annotate (at c) p) ∷ part_.says "@" ∷ part_.as_item left (noted_context c) (annotate (at c) module_name) ∷ []) (before_noted c prefix) refl

component_noted : (c : Context) (prefix p : Term) → part_.component_parts (noted_context c) (annotate (at c) prefix) (annotate (at c) p) ≡ noted_parts (leaf_.component_parts c prefix p)
unfolding part_.component_parts leaf_.component_parts annotate noted_parts noted_part noted_item
component_noted c (operation a b x y) p =
    let t = operation a b x y in
    let n = noted_context c in
    let u = annotate (at c) (operation a b x y) in
    let q = annotate (at c) p in
    choice (nat_eq a 87) (nat_eq a 87) (elim (nat_eq b 64) [ true ↦ leaf_.attached_parts c x p y | false ↦ leaf_.attached_parts c absent p t ]) (leaf_.prefix_item c t ∷ leaf_.says "::" ∷ leaf_.as_item piece c p ∷ [])
    (elim (nat_eq b 64) [ true ↦ part_.attached_parts n (annotate (at c) x) q (annotate (at c) y) | false ↦ part_.attached_parts n (annotate (at c) absent) q u ]) (part_.prefix_item n u ∷ part_.says "::" ∷ part_.as_item piece n q ∷ []) refl
    (choice (nat_eq b 64) (nat_eq b 64) (leaf_.attached_parts c x p y) (leaf_.attached_parts c absent p t) (part_.attached_parts n (annotate (at c) x) q (annotate (at c) y)) (part_.attached_parts n (annotate (at c) absent) q u) refl
    (attached_noted c x p y) (attached_noted c absent p t))
    (ap (λ i. i ∷ part_.says "::" ∷ part_.as_item piece n q ∷ []) (prefix_noted c t))
component_noted c prefix p = ap (λ i. i ∷ part_.says "::" ∷ part_.as_item piece (noted_context c) (annotate (at c) p) ∷ []) (prefix_noted c prefix)

within_noted : (c : Context) (prefix p : Term) → part_.within_parts (noted_context c) (annotate (at c) prefix) (annotate (at c) p) ≡ noted_parts (leaf_.within_parts c prefix p)
unfolding part_.within_parts leaf_.within_parts annotate noted_parts noted_part noted_item
within_noted c prefix (constructor digit) = refl
within_noted c prefix (destructor digit) = refl
within_noted c prefix (inheriting digit class) = refl
within_noted c prefix p = component_noted c prefix p

last_noted : (s : Place) (t : Term) → part_.opening_text (part_.last_piece (annotate s t)) ≡ leaf_.opening_text (leaf_.last_piece t)
unfolding part_.last_piece leaf_.last_piece annotate
last_noted s (alone p) = opening_text_noted s p
last_noted s (in_std p) = opening_text_noted s p
last_noted s (within prefix p) = opening_text_noted s p
last_noted s (local encoding entity discriminator) = last_noted s entity
last_noted s (of_default digits entity) = last_noted s entity
last_noted s _ = opening_text_noted s absent

instance_noted : (all : Bool) (c : Context) (t arguments : Term) → part_.instance_parts all (noted_context c) (annotate (at c) t) (annotate (at c) arguments) ≡ noted_parts (leaf_.instance_parts all c t arguments)
unfolding part_.instance_parts leaf_.instance_parts noted_parts noted_part noted_item
instance_noted false c t arguments = refl
instance_noted true c t arguments = both (λ b ps. part_.as_item left (noted_context c) (annotate (at c) t) ∷ text b ∷ ps) (last_noted (at c) t)
    (joins (leaf_.list_part first c arguments) _ (part_.list_part first (noted_context c) (annotate (at c) arguments)) _ (list_noted first c arguments) refl)

marked_noted : (c : Context) (t : Term) (mark : String) → part_.marked_parts (noted_context c) (annotate (at c) t) mark ≡ noted_parts (leaf_.marked_parts c t mark)
unfolding part_.marked_parts leaf_.marked_parts noted_parts noted_part noted_item
marked_noted c t mark = choice (is_funarr (head c t)) (is_funarr (item_.head (noted_context c) (annotate (at c) t))) _ _ _ _ (ap is_funarr (head_noted c t)) refl refl

reference_noted : (c : Context) (form : Form) (t : Term) (mark : String) → part_.reference_parts (noted_context c) form (annotate (at c) t) mark ≡ noted_parts (leaf_.reference_parts c form t mark)
unfolding part_.reference_parts leaf_.reference_parts noted_parts noted_part noted_item
reference_noted c form t mark = choice (is_reference (head c t)) (is_reference (item_.head (noted_context c) (annotate (at c) t))) _ (leaf_.marked_parts c t mark) _ (part_.marked_parts (noted_context c) (annotate (at c) t) mark) (ap is_reference (head_noted c t)) refl (marked_noted c t mark)

qualified_noted : (c : Context) (q : Qualifiers) (t : Term) → part_.qualified_left (noted_context c) q (annotate (at c) t) ≡ noted_parts (leaf_.qualified_left c q t)
unfolding part_.qualified_left leaf_.qualified_left noted_parts noted_part noted_item annotate
qualified_noted c q (function_type c_linkage noexcept ref returned parameters) = refl
qualified_noted c q t = choice (is_reference (head c t)) (is_reference (item_.head (noted_context c) (annotate (at c) t))) _
    (elim (is_funarr (head c t)) [ true ↦ leaf_.as_item left c t ∷ leaf_.text_part (blank_last (qualifier_text q)) | false ↦ leaf_.as_item left c t ∷ leaf_.text_part (qualifier_text q) ]) _ _
    (ap is_reference (head_noted c t)) refl
    (choice (is_funarr (head c t)) (is_funarr (item_.head (noted_context c) (annotate (at c) t))) (leaf_.as_item left c t ∷ leaf_.text_part (blank_last (qualifier_text q))) (leaf_.as_item left c t ∷ leaf_.text_part (qualifier_text q)) _ _ (ap is_funarr (head_noted c t))
    (ap (λ ps. part_.as_item left (noted_context c) (annotate (at c) t) ∷ ps) (text_noted (blank_last (qualifier_text q))))
    (ap (λ ps. part_.as_item left (noted_context c) (annotate (at c) t) ∷ ps) (text_noted (qualifier_text q))))

expansion_noted : (c : Context) (t : Term) (m : Option ℕ) → part_.expansion_parts (noted_context c) (annotate (at c) t) m ≡ noted_parts (leaf_.expansion_parts c t m)
unfolding part_.expansion_parts leaf_.expansion_parts noted_parts noted_part noted_item
expansion_noted c t None = refl
expansion_noted c t (Some zero) = refl
expansion_noted c t (Some (suc m)) = refl

sign_noted : (n : Signed) → part_.sign_part n ≡ noted_parts (leaf_.sign_part n)
unfolding part_.sign_part leaf_.sign_part noted_parts noted_part
sign_noted n = choose_cond (λ ps qs. qs ≡ noted_parts ps) n.negative (leaf_.says "-" ∷ []) [] (part_.says "-" ∷ []) [] refl refl

plain_noted : (s : Place) (t : Term) → part_.is_plain_integer (annotate s t) ≡ leaf_.is_plain_integer t
unfolding part_.is_plain_integer leaf_.is_plain_integer annotate
plain_noted s (builtin []) = refl
plain_noted s (builtin (c ∷ [])) = refl
plain_noted s (builtin (c ∷ d ∷ ds)) = refl
plain_noted s _ = refl

code_noted : (s : Place) (t : Term) → part_.builtin_code (annotate s t) ≡ leaf_.builtin_code t
unfolding part_.builtin_code leaf_.builtin_code annotate
code_noted s (builtin code) = refl
code_noted s _ = refl

integer_noted : (c : Context) (t : Term) (n : Signed) → part_.integer_parts (noted_context c) (annotate (at c) t) n ≡ noted_parts (leaf_.integer_parts c t n)
unfolding part_.integer_parts leaf_.integer_parts noted_parts noted_part noted_item
integer_noted c t n = choice (leaf_.is_plain_integer t) (part_.is_plain_integer (annotate (at c) t))
    (leaf_.sign_part n ++ (text n.digits ∷ leaf_.text_part (look_up (leaf_.builtin_code t) literal_endings)))
    ((leaf_.says "(" ∷ leaf_.as_item left c t ∷ leaf_.as_item right c t ∷ leaf_.says ")" ∷ []) ++ leaf_.sign_part n ++ (text n.digits ∷ []))
    (part_.sign_part n ++ (text n.digits ∷ part_.text_part (look_up (part_.builtin_code (annotate (at c) t)) literal_endings)))
    ((part_.says "(" ∷ part_.as_item left (noted_context c) (annotate (at c) t) ∷ part_.as_item right (noted_context c) (annotate (at c) t) ∷ part_.says ")" ∷ []) ++ part_.sign_part n ++ (text n.digits ∷ []))
    (plain_noted (at c) t)
    (joins (leaf_.sign_part n) (text n.digits ∷ leaf_.text_part (look_up (leaf_.builtin_code t) literal_endings)) (part_.sign_part n) (text n.digits ∷ part_.text_part (look_up (part_.builtin_code (annotate (at c) t)) literal_endings)) (sign_noted n)
    (ap (λ b. text n.digits ∷ part_.text_part (look_up b literal_endings)) (code_noted (at c) t) ∙ ap (λ ps. text n.digits ∷ ps) (text_noted (look_up (leaf_.builtin_code t) literal_endings))))
    (joins (leaf_.says "(" ∷ leaf_.as_item left c t ∷ leaf_.as_item right c t ∷ leaf_.says ")" ∷ []) (leaf_.sign_part n ++ (text n.digits ∷ [])) _ (part_.sign_part n ++ (text n.digits ∷ [])) refl
    (joins (leaf_.sign_part n) (text n.digits ∷ []) (part_.sign_part n) (text n.digits ∷ []) (sign_noted n) refl))

member_noted : (c : Context) (class t : Term) → part_.member_parts (noted_context c) (annotate (at c) class) (annotate (at c) t) ≡ noted_parts (leaf_.member_parts c class t)
unfolding part_.member_parts leaf_.member_parts noted_parts noted_part noted_item
member_noted c class t = choice (is_funarr (head c t)) (is_funarr (item_.head (noted_context c) (annotate (at c) t))) _ _ _ _ (ap is_funarr (head_noted c t)) refl refl

array_noted : (c : Context) (t : Term) → part_.array_left (noted_context c) (annotate (at c) t) ≡ noted_parts (leaf_.array_left c t)
unfolding part_.array_left leaf_.array_left noted_parts noted_part noted_item
array_noted c t = choice (is_funarr (head c t)) (is_funarr (item_.head (noted_context c) (annotate (at c) t))) _ _ _ _ (ap is_funarr (head_noted c t)) refl refl

named_noted : (c : Context) (form : Form) (k : ℕ) → part_.parameter_parts form k (item_.argument (noted_context c) (argument_in (at c) k)) ≡ noted_parts (leaf_.parameter_parts form k (argument c k))
unfolding part_.parameter_parts leaf_.parameter_parts item_.argument item_.indexed argument own_argument argument_in annotate noted_parts noted_part noted_item noted_context place_within
named_noted c form k = go c.scope
  where
    none : (index : Option ℕ) (s : Signature) → part_.parameter_parts form k (item_.indexed index (argument_in (place_within None s) k)) ≡ noted_parts (leaf_.parameter_parts form k (own_argument s))
    none None in_none = refl
    none (Some i) in_none = refl
    none None undeclared = refl
    none (Some i) undeclared = refl
    none None (declared_in heads parameters) = declaring_noted in_own form k heads
    none (Some i) (declared_in heads parameters) = declaring_noted in_own form k heads

    go : (o : Option Term) → part_.parameter_parts form k (item_.indexed c.index (argument_in (place_within o c.in_signature) k))
        ≡ noted_parts (leaf_.parameter_parts form k (elim o [ None ↦ own_argument c.in_signature | Some arguments ↦ indexed c.index (element arguments k) ]))
    go None = none c.index c.in_signature
    go (Some arguments) = ap (part_.parameter_parts form k) (argument_noted c.index arguments k) ∙ parameter_noted form k (indexed c.index (element arguments k))

float_noted : (digits : List ℕ) (end : ℕ) → part_.float_parts digits end ≡ noted_parts (leaf_.float_parts digits end)
unfolding part_.float_parts leaf_.float_parts noted_parts noted_part
float_noted digits end =
    choice (nat_eq end 98) (nat_eq end 98) _ _ _ _ refl refl (choice (nat_eq end 120) (nat_eq end 120) _ _ _ _ refl refl refl)

operand_noted : (c : Context) (o : Operand) (t : Term) → part_.operand_parts (noted_context c) o (annotate (at c) t) ≡ noted_parts (leaf_.operand_parts c o t)
unfolding part_.operand_parts leaf_.operand_parts noted_parts noted_part noted_item
operand_noted c Operand.NotPrinted t = refl
operand_noted c Operand.AsItIs t = refl
operand_noted c Operand.AsType t = refl
operand_noted c Operand.AsList t = list_noted first c t
operand_noted c (Operand.From least) t = choice (nat_le least (leaf_.precedence_of t)) (nat_le least (part_.precedence_of (annotate (at c) t))) _ _ _ _ (ap (λ p. nat_le least p) (precedence_of_noted (at c) t)) refl refl

operation_noted : (c : Context) (o : Operation) (x y : Term) → part_.operation_parts (noted_context c) o (annotate (at c) x) (annotate (at c) y) ≡ noted_parts (leaf_.operation_parts c o x y)
unfolding part_.operation_parts leaf_.operation_parts
operation_noted c o x y =
    joins (leaf_.text_part o.front) _ _ _ (text_noted o.front)
    (joins (leaf_.operand_parts c o.left x) _ _ _ (operand_noted c o.left x)
    (joins (leaf_.text_part o.between) _ _ _ (text_noted o.between) (joins (leaf_.operand_parts c o.right y) _ _ _ (operand_noted c o.right y) (text_noted o.back))))

entity_noted : (c : Context) (form : Form) (t : Term) → (part_.as_item form (noted_context c) (part_.entity_of (annotate (at c) t)) ∷ []) ≡ noted_parts (leaf_.as_item form c (leaf_.entity_of t) ∷ [])
unfolding part_.entity_of leaf_.entity_of annotate noted_parts noted_part noted_item
entity_noted c form (of_default digits entity) = refl
entity_noted c form (symbol e suffix) = refl
entity_noted c form _ = refl

left_noted : (d : Detail) (c : Context) (t : Term) → part_.left_parts d (noted_context c) (annotate (at c) t) ≡ noted_parts (leaf_.left_parts d c t)
unfolding part_.left_parts leaf_.left_parts annotate noted_parts noted_part noted_item noted_context noted_scope place_within place_of
left_noted d c (alone p) = piece_noted c p
left_noted d c (within prefix p) = within_noted c prefix p
left_noted d c (instance template arguments) = instance_noted (has_arguments d) c template arguments
left_noted d c (local encoding entity discriminator) = entity_noted c left entity
left_noted d c (sized_float digits end) = float_noted digits end
left_noted d c (parameter k) = named_noted c left k
left_noted d c (pointer t) = marked_noted c t "*"
left_noted d c (lvalue t) = reference_noted c low t "&"
left_noted d c (rvalue t) = reference_noted c left t "&&"
left_noted d c (array digits t) = array_noted c t
left_noted d c (bounded bound t) = array_noted c t
left_noted d c (member_pointer class t) = member_noted c class t
left_noted d c (qualified q t) = qualified_noted c q t
left_noted d c (expansion pattern) = ap (part_.expansion_parts (noted_context c) (annotate (at c) pattern)) (packs_of_noted c pattern) ∙ expansion_noted c pattern (packs_of c pattern)
left_noted d c (pack elements) = list_noted first c elements
left_noted d c (integer t n) = integer_noted c t n
left_noted d c (operation a b x y) = operation_noted c (leaf_.printed a b) x y
left_noted d c (function_parameter digits) = ap (λ ps. text (codes "fp") ∷ ps) (text_noted digits)
left_noted d c _ = refl

low_noted : (d : Detail) (c : Context) (t : Term) → part_.low_parts d (noted_context c) (annotate (at c) t) ≡ noted_parts (leaf_.low_parts d c t)
unfolding part_.low_parts leaf_.low_parts annotate noted_parts noted_part noted_item
low_noted d c (lvalue t) = reference_noted c low t "&"
low_noted d c (rvalue t) = reference_noted c low t "&"
low_noted d c (qualified q t) = refl
low_noted d c (parameter k) = named_noted c low k
low_noted d c t = left_noted d c t

function_noted : (c : Context) (text_ : List ℕ) (ref : RefQualifier) (noexcept : Bool) (returned parameters : Term) →
    part_.function_right (noted_context c) text_ ref noexcept (annotate (at c) returned) (annotate (at c) parameters) ≡ noted_parts (leaf_.function_right c text_ ref noexcept returned parameters)
unfolding part_.function_right leaf_.function_right noted_parts noted_part noted_item
function_noted c text_ ref noexcept returned parameters =
    let behind : List ℕ = text_ ++ ref_text ref ++ cond noexcept (codes " noexcept") [] in
    let opened = part_.says "(" ∷ part_.list_part first (noted_context c) (annotate (at c) parameters) in
    joins ((leaf_.says "(" ∷ leaf_.list_part first c parameters) ++ (leaf_.says ")" ∷ leaf_.text_part behind)) (leaf_.as_item right c returned ∷ [])
    (opened ++ (part_.says ")" ∷ part_.text_part behind)) (part_.as_item right (noted_context c) (annotate (at c) returned) ∷ [])
    (joins (leaf_.says "(" ∷ leaf_.list_part first c parameters) (leaf_.says ")" ∷ leaf_.text_part behind) opened (part_.says ")" ∷ part_.text_part behind)
    (ap (λ ps. part_.says "(" ∷ ps) (list_noted first c parameters)) (ap (λ ps. part_.says ")" ∷ ps) (text_noted behind)))
    refl

closing_noted : (c : Context) (t : Term) → part_.closing_right (noted_context c) (annotate (at c) t) ≡ noted_parts (leaf_.closing_right c t)
unfolding part_.closing_right leaf_.closing_right noted_parts noted_part noted_item
closing_noted c t = choice (is_funarr (head c t)) (is_funarr (item_.head (noted_context c) (annotate (at c) t))) _ _ _ _ (ap is_funarr (head_noted c t)) refl refl

qualified_right_noted : (c : Context) (q : Qualifiers) (t : Term) → part_.qualified_right (noted_context c) q (annotate (at c) t) ≡ noted_parts (leaf_.qualified_right c q t)
unfolding part_.qualified_right leaf_.qualified_right annotate noted_parts noted_part noted_item
qualified_right_noted c q (function_type c_linkage noexcept ref returned parameters) = function_noted c (qualifier_text q) ref noexcept returned parameters
qualified_right_noted c q _ = refl

right_noted : (c : Context) (t : Term) → part_.right_parts (noted_context c) (annotate (at c) t) ≡ noted_parts (leaf_.right_parts c t)
unfolding part_.right_parts leaf_.right_parts annotate noted_parts noted_part noted_item
right_noted c (pointer t) = closing_noted c t
right_noted c (lvalue t) = closing_noted c t
right_noted c (rvalue t) = closing_noted c t
right_noted c (member_pointer class t) = closing_noted c t
right_noted c (array digits t) = joins (leaf_.says "[" ∷ leaf_.text_part digits) (leaf_.says "]" ∷ leaf_.as_item right c t ∷ []) (part_.says "[" ∷ part_.text_part digits) _
    (ap (λ ps. part_.says "[" ∷ ps) (text_noted digits)) refl
right_noted c (function_type c_linkage noexcept ref returned parameters) = function_noted c [] ref noexcept returned parameters
right_noted c (qualified q t) = qualified_right_noted c q t
right_noted c (parameter k) = named_noted c right k
right_noted c _ = refl

base_within_noted : (c : Context) (prefix p : Term) → part_.base_within (noted_context c) (annotate (at c) prefix) (annotate (at c) p) ≡ noted_parts (leaf_.base_within c prefix p)
unfolding part_.base_within leaf_.base_within annotate noted_parts noted_part noted_item
base_within_noted c prefix (constructor digit) = refl
base_within_noted c prefix (destructor digit) = refl
base_within_noted c prefix (inheriting digit class) = refl
base_within_noted c prefix p = piece_noted c p

untagged_noted : (s : Place) (t : Term) → scope_.without_tags (annotate s t) ≡ annotate s (without_tags t)
unfolding scope_.without_tags without_tags annotate
untagged_noted s (tagged of_structor name tag) = untagged_noted s name
untagged_noted s _ = refl

own_noted : (s : Place) (t : Term) → part_.own_piece (annotate s t) ≡ annotate s (leaf_.own_piece t)
unfolding part_.own_piece leaf_.own_piece annotate
own_noted s (alone p) = refl
own_noted s (in_std p) = refl
own_noted s (within prefix p) = refl
own_noted s _ = refl

base_tagged_noted : (c : Context) (of_structor : Bool) (t : Term) → part_.base_tagged (noted_context c) of_structor (annotate (at c) t) ≡ noted_parts (leaf_.base_tagged c of_structor t)
unfolding part_.base_tagged leaf_.base_tagged noted_parts noted_part noted_item
base_tagged_noted c true t = refl
base_tagged_noted c false t =
    ap (λ u. part_.piece_parts (noted_context c) u) (ap part_.own_piece (untagged_noted (at c) t) ∙ own_noted (at c) (without_tags t))
    ∙ piece_noted c (leaf_.own_piece (without_tags t))

base_noted : (d : Detail) (c : Context) (t : Term) → part_.base_parts d (noted_context c) (annotate (at c) t) ≡ noted_parts (leaf_.base_parts d c t)
unfolding part_.base_parts leaf_.base_parts annotate noted_parts noted_part noted_item
base_noted d c (alone p) = piece_noted c p
base_noted d c (in_std p) = piece_noted c p
base_noted d c (within prefix p) = base_within_noted c prefix p
base_noted d c (instance template arguments) = refl
base_noted d c (local encoding entity discriminator) = entity_noted c base entity
base_noted d c (holder name) = refl
base_noted d c (tagged of_structor name tag) = base_tagged_noted c of_structor name
base_noted d c (abbreviation letter) = refl
base_noted d c (parameter k) = named_noted c base k
base_noted d c t = left_noted d c t

-- ## Encodings

begins_noted : (s : Place) (ref : RefQualifier) (t : Term) → part_.begins_parameters ref (annotate s t) ≡ leaf_.begins_parameters ref t
unfolding part_.begins_parameters leaf_.begins_parameters annotate
begins_noted s explicit_object nil = refl
begins_noted s explicit_object _ = refl
begins_noted s any_value t = refl
begins_noted s lvalue_only t = refl
begins_noted s rvalue_only t = refl

bare_noted : (all : Bool) (name : Term) (q : Qualifiers) (ref : RefQualifier) (parameters : Term) →
    part_.function_bare all (annotate nowhere name) q ref (annotate (place_within (arguments_of name) in_none) parameters) ≡ noted_parts (leaf_.function_bare all name q ref parameters)
unfolding part_.function_bare leaf_.function_bare part_.types_of leaf_.types_of noted_parts noted_part noted_item noted_context noted_scope place_within place_of
bare_noted false name q ref parameters = refl
bare_noted true name q ref parameters =
    joins (leaf_.as_item left closed name ∷ text (leaf_.begins_parameters ref parameters) ∷ leaf_.list_part first (leaf_.types_of name) parameters) (leaf_.says ")" ∷ leaf_.text_part (encoding_text q ref)) _
    (part_.says ")" ∷ part_.text_part (encoding_text q ref))
    (both (λ o ps. part_.as_item left item_.closed (annotate nowhere name) ∷ text o ∷ ps) (begins_noted (place_within (arguments_of name) in_none) ref parameters)
    (list_noted first (leaf_.types_of name) parameters))
    (ap (λ ps. part_.says ")" ∷ ps) (text_noted (encoding_text q ref)))

whole_noted : (all : Bool) (name : Term) (q : Qualifiers) (ref : RefQualifier) (returned parameters : Term) →
    part_.function_full all (annotate nowhere name) q ref (annotate (place_within (arguments_of name) in_none) returned) (annotate (place_within (arguments_of name) in_none) parameters)
    ≡ noted_parts (leaf_.function_full all name q ref returned parameters)
unfolding part_.function_full leaf_.function_full annotate part_.types_of leaf_.types_of noted_parts noted_part noted_item noted_context
whole_noted false name q ref returned parameters = bare_noted false name q ref parameters
whole_noted true name q ref absent parameters = bare_noted true name q ref parameters
whole_noted true name q ref returned parameters =
    let types = leaf_.types_of name in
    let s = place_within (arguments_of name) in_none in
    joins (leaf_.as_item left types returned ∷ leaf_.says " " ∷ []) (leaf_.function_bare true name q ref parameters ++ (leaf_.as_item right types returned ∷ [])) _ (part_.function_bare true (annotate nowhere name) q ref (annotate s parameters) ++ (part_.as_item right item_.closed (annotate s returned) ∷ []))
    refl
    (joins (leaf_.function_bare true name q ref parameters) (leaf_.as_item right types returned ∷ []) (part_.function_bare true (annotate nowhere name) q ref (annotate s parameters)) (part_.as_item right item_.closed (annotate s returned) ∷ []) (bare_noted true name q ref parameters) refl)

full_noted : (d : Detail) (s : Place) (t : Term) → part_.full_parts d (annotate s t) ≡ noted_parts (leaf_.full_parts d t)
unfolding part_.full_parts leaf_.full_parts annotate noted_parts noted_part noted_item noted_context noted_scope place_within place_of
full_noted d s (function name q ref returned parameters) =
    ap (λ r. part_.function_full (has_parameters d) (annotate nowhere name) q ref (annotate r returned) (annotate r parameters)) (within_types name) ∙ whole_noted (has_parameters d) name q ref returned parameters
full_noted d s (object name q ref) = ap (λ ps. part_.as_item left item_.closed (annotate nowhere name) ∷ ps) (text_noted (encoding_text q ref))
full_noted d s (of_name letter name q ref) = ap (λ ps. text (look_up (letter ∷ []) named_special_texts) ∷ part_.as_item left item_.closed (annotate nowhere name) ∷ ps) (text_noted (encoding_text q ref))
full_noted d s _ = refl

bare_all_noted : (d : Detail) (s : Place) (t : Term) → part_.bare_parts d (annotate s t) ≡ noted_parts (leaf_.bare_parts d t)
unfolding part_.bare_parts leaf_.bare_parts annotate
bare_all_noted d s (function name q ref returned parameters) = ap (λ r. part_.function_bare (has_parameters d) (annotate nowhere name) q ref (annotate r parameters)) (within_types name) ∙ bare_noted (has_parameters d) name q ref parameters
bare_all_noted d s t = full_noted d s t

root_noted : (s : Place) (t : Term) → part_.root_parts (annotate s t) ≡ noted_parts (leaf_.root_parts t)
unfolding part_.root_parts leaf_.root_parts annotate noted_parts noted_part noted_item noted_context noted_scope place_within place_of
root_noted s (symbol e []) = refl
root_noted s (symbol e (b ∷ bs)) = refl
root_noted s _ = refl

-- ## Lists and expansions

first_noted : (c : Context) (t : Term) → part_.first_parts (noted_context c) (annotate (at c) t) ≡ noted_parts (leaf_.first_parts c t)
unfolding part_.first_parts leaf_.first_parts annotate noted_parts noted_part noted_item
first_noted c (list e rest) = choice (is_empty c e) (item_.is_empty (noted_context c) (annotate (at c) e)) (leaf_.list_part first c rest) ((leaf_.as_item left c e ∷ leaf_.as_item right c e ∷ []) ++ leaf_.list_part more c rest)
    (part_.list_part first (noted_context c) (annotate (at c) rest)) _ (empty_noted c e) (list_noted first c rest)
    (joins (leaf_.as_item left c e ∷ leaf_.as_item right c e ∷ []) (leaf_.list_part more c rest) _ (part_.list_part more (noted_context c) (annotate (at c) rest)) refl (list_noted more c rest))
first_noted c _ = refl

more_noted : (c : Context) (t : Term) → part_.more_parts (noted_context c) (annotate (at c) t) ≡ noted_parts (leaf_.more_parts c t)
unfolding part_.more_parts leaf_.more_parts annotate noted_parts noted_part noted_item
more_noted c (list e rest) = choice (is_empty c e) (item_.is_empty (noted_context c) (annotate (at c) e)) (leaf_.list_part more c rest) ((leaf_.says ", " ∷ leaf_.as_item left c e ∷ leaf_.as_item right c e ∷ []) ++ leaf_.list_part more c rest)
    (part_.list_part more (noted_context c) (annotate (at c) rest)) _ (empty_noted c e) (list_noted more c rest)
    (joins (leaf_.says ", " ∷ leaf_.as_item left c e ∷ leaf_.as_item right c e ∷ []) (leaf_.list_part more c rest) _ (part_.list_part more (noted_context c) (annotate (at c) rest)) refl (list_noted more c rest))
more_noted c _ = refl

comma_noted : (i : ℕ) → part_.comma_before i ≡ noted_parts (leaf_.comma_before i)
unfolding part_.comma_before leaf_.comma_before noted_parts noted_part
comma_noted zero = refl
comma_noted (suc i) = refl

rest_noted : (c : Context) (t : Term) (i : ℕ) → part_.expand_rest (noted_context c) (annotate (at c) t) i ≡ noted_parts (leaf_.expand_rest c t i)
unfolding part_.expand_rest leaf_.expand_rest noted_parts noted_part noted_item
rest_noted c t i = choice (is_below i (packs_of c t)) (is_below i (item_.packs_of (noted_context c) (annotate (at c) t))) _ _ _ _ (ap (is_below i) (packs_of_noted c t)) refl refl

expand_noted : (c : Context) (t : Term) (i : ℕ) → part_.expand_parts (noted_context c) (annotate (at c) t) i ≡ noted_parts (leaf_.expand_parts c t i)
unfolding part_.expand_parts leaf_.expand_parts noted_parts noted_part noted_item part_.at_index leaf_.at_index noted_context
expand_noted c t i =
    let both_ : List (PartOf Item) = leaf_.as_item left (leaf_.at_index i c) t ∷ leaf_.as_item right (leaf_.at_index i c) t ∷ [] in
    joins (leaf_.comma_before i ++ both_) (leaf_.expand_rest c t (i + 1)) (part_.comma_before i ++ noted_parts both_) (part_.expand_rest (noted_context c) (annotate (at c) t) (i + 1))
    (joins (leaf_.comma_before i) both_ (part_.comma_before i) (noted_parts both_) (comma_noted i) refl) (rest_noted c t (i + 1))

-- ## All forms

next_noted : (c : Context) (t : Term) (i : ℕ) → part_.declared_rest (noted_context c) (annotate (at c) t) i ≡ noted_parts (leaf_.declared_rest c t i)
unfolding part_.declared_rest leaf_.declared_rest noted_parts
next_noted c t i = choice (nat_lt (i + 1) (2 ^ 32)) (nat_lt (i + 1) (2 ^ 32)) _ [] _ [] refl (list_noted (declared (i + 1)) c t) refl

declarations_noted : (c : Context) (t : Term) (i : ℕ) → part_.declared_parts (noted_context c) (annotate (at c) t) i ≡ noted_parts (leaf_.declared_parts c t i)
unfolding part_.declared_parts leaf_.declared_parts annotate noted_parts noted_part noted_item
declarations_noted c (list e rest) i =
    let name : List (PartOf Item) = leaf_.as_item left c e ∷ leaf_.says " " ∷ text (leaf_.front_of_name e) ∷ text (decimal i) ∷ [] in
    let other = part_.as_item left (noted_context c) (annotate (at c) e) ∷ part_.says " " ∷ text (part_.front_of_name (annotate (at c) e)) ∷ text (decimal i) ∷ [] in
    joins (leaf_.comma_before i ++ name) (leaf_.declared_rest c rest i) (part_.comma_before i ++ other) (part_.declared_rest (noted_context c) (annotate (at c) rest) i)
    (joins (leaf_.comma_before i) name (part_.comma_before i) other (comma_noted i)
    (ap (λ b. part_.as_item left (noted_context c) (annotate (at c) e) ∷ part_.says " " ∷ text b ∷ text (decimal i) ∷ []) (front_noted (at c) e))) (next_noted c rest i)
declarations_noted c _ i = refl

in_noted : (d : Detail) (c : Context) (form : Form) (t : Term) → part_.parts_in d (noted_context c) form (annotate (at c) t) ≡ noted_parts (leaf_.parts_in d c form t)
unfolding part_.parts_in leaf_.parts_in
in_noted d c root t = root_noted (at c) t
in_noted d c full t = full_noted d (at c) t
in_noted d c bare t = bare_all_noted d (at c) t
in_noted d c left t = left_noted d c t
in_noted d c right t = right_noted c t
in_noted d c low t = low_noted d c t
in_noted d c base t = base_noted d c t
in_noted d c piece t = piece_noted c t
in_noted d c first t = first_noted c t
in_noted d c more t = more_noted c t
in_noted d c (expand i) t = expand_noted c t i
in_noted d c (declared i) t = declarations_noted c t i

kept_noted : (ps : List (PartOf Item)) → part_.not_empty (noted_parts ps) ≡ noted_parts (leaf_.not_empty ps)
unfolding part_.not_empty leaf_.not_empty noted_parts noted_part
kept_noted [] = refl
kept_noted (text [] ∷ ps) = kept_noted ps
kept_noted (text (b ∷ bs) ∷ ps) = ap (λ qs. text (b ∷ bs) ∷ qs) (kept_noted ps)
kept_noted (sub item ∷ ps) = ap (λ qs. sub (noted_item item) ∷ qs) (kept_noted ps)

-- The parts of an item whose tree carries its arguments are those of the item, annotated.
pub parts_noted : (d : Detail) (item : Item) → part_.parts d (noted_item item) ≡ noted_parts (leaf_.parts d item)
unfolding part_.parts leaf_.parts noted_item
parts_noted d item = ap part_.not_empty (in_noted d item.context item.form item.tree) ∙ kept_noted (leaf_.parts_in d item.context item.form item.tree)
