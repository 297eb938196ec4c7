-- What the productions with code of their own denote, given the values of their parts.
use Rattle.std.specs.Prelude.{ℕ, List, [], ◌∷◌, true, false}
use Rattle.cpp_grammar.specs.Term.{any_value, lvalue_only, rvalue_only, non_virtual, by_table, adjusting, covariant, thunk, local, lambda, builtin, integer, nil, list}
use Rattle.cpp_grammar.specs.Values.{Around, prefix_tree, prefix_listed, Value, nothing_there, text, signed, adjusted, tree, piece, named, signature, tree_of, qualifiers_of, ref_of, letter_of, is_there, mark_of, text_of, signed_of, adjustment_of, normal, signed_digits, local_number, part}
use Rattle.cpp_grammar.specs.Surrounding.{no_items, inherited}
use Rattle.cpp_grammar.specs.Standing.{parameters, declared_first, signature_with, encoding_of, discriminator_of, signature_or, default_entity, operator_or_literal, reference_to, listed_value, operation_by, enclosed_argument, enclosed_element}
use Rattle.cpp_grammar.specs.Row.{Own, nested_name, encoding, non_virtual_thunk, virtual_thunk, covariant_thunk, local_name, in_default, nest_end, closure, declared_before, inheriting, by_letters, enclosed, elements, substitution, first_of_operator, reference, lvalue_signature, rvalue_signature, no_parameters, no_value, character, suffix, non_virtual_offset, virtual_offset, negative, positive, one_digit, many_digits}

unfoldable pub own_meaning : Own → (byte : ℕ) → Around → List Value → Value
own_meaning nested_name byte around vs = named (tree_of (part vs 4)) (record { restrict = is_there (part vs 0); volatile = is_there (part vs 1); const = is_there (part vs 2) }) (mark_of (part vs 3))
own_meaning encoding byte around vs = tree (encoding_of (part vs 0) (no_items (part vs 1))) true
own_meaning non_virtual_thunk byte around vs = tree (thunk (adjusting (non_virtual (signed_of (part vs 0)))) (tree_of (part vs 2))) true
own_meaning virtual_thunk byte around vs = tree (thunk (adjusting (by_table (signed_of (part vs 0)) (signed_of (part vs 2)))) (tree_of (part vs 4))) true
own_meaning covariant_thunk byte around vs = tree (thunk (covariant (adjustment_of (part vs 0)) (adjustment_of (part vs 1))) (tree_of (part vs 2))) true
own_meaning local_name byte around vs = let entity = part vs 2 in named (local (tree_of (part vs 0)) (tree_of entity) (discriminator_of (part vs 3))) (qualifiers_of entity) (ref_of entity)
own_meaning in_default byte around vs = default_entity (text_of (part vs 0)) (part vs 1)
own_meaning nest_end byte around vs = tree (prefix_tree around.prefix) (prefix_listed around.prefix)
own_meaning closure byte around vs = piece (lambda (signature_with (part vs 0) (parameters (list (tree_of (part vs 0)) (no_items (part vs 1))))) (local_number (text_of (part vs 3))))
own_meaning declared_before byte around vs = declared_first (part vs 0) (part vs 1)
own_meaning inheriting byte around vs = inherited around.prefix (letter_of (part vs 0)) (part vs 1)
own_meaning by_letters byte around vs = operation_by byte (part vs 0)
own_meaning enclosed byte around vs = enclosed_argument (part vs 0)
own_meaning elements byte around vs = tree (list (enclosed_element (tree_of (part vs 0))) (no_items (part vs 1))) true
-- what a substitution names is among the candidates
own_meaning substitution byte around vs = nothing_there
own_meaning first_of_operator byte around vs = operator_or_literal byte (part vs 0)
own_meaning reference byte around vs = listed_value (reference_to byte (part vs 0))
own_meaning lvalue_signature byte around vs = signature_or lvalue_only (part vs 0)
own_meaning rvalue_signature byte around vs = signature_or rvalue_only (part vs 0)
own_meaning no_parameters byte around vs = signature nil any_value
own_meaning no_value byte around vs = nothing_there
own_meaning character byte around vs = tree (integer (builtin (68 ∷ byte ∷ [])) (signed_of (part vs 0))) true
own_meaning suffix byte around vs = text (byte ∷ text_of (part vs 0))
own_meaning non_virtual_offset byte around vs = adjusted (non_virtual (signed_of (part vs 0)))
own_meaning virtual_offset byte around vs = adjusted (by_table (signed_of (part vs 0)) (signed_of (part vs 2)))
own_meaning negative byte around vs = signed (signed_digits true (text_of (part vs 0)))
own_meaning positive byte around vs = signed (signed_digits false (text_of (part vs 0)))
own_meaning one_digit byte around vs = text (byte ∷ [])
own_meaning many_digits byte around vs = text (normal (text_of (part vs 0)))
