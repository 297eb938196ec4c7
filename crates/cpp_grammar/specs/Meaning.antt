-- What a production denotes, given the values of its parts.
use Rattle.std.specs.Prelude.{ℕ, List}
use Rattle.cpp_grammar.specs.declared.production.Production.{Production}
use Rattle.cpp_grammar.specs.Values.{Around, Value}
use Rattle.cpp_grammar.specs.Builders.{argument, built, bytes_in, discriminator_in, mark_in, number_in, qualifiers_in, signed_in, tree_in, truth_in}
use Rattle.cpp_grammar.specs.Own.{own_meaning}
use Rattle.cpp_grammar.specs.Meant.{all_given, given, is_listing, made, meant}
use Rattle.cpp_grammar.specs.Rows.{row_of}
unfoldable pub use Rattle.cpp_grammar.specs.Standing.{is_void, is_nil, parameters, declared_first, signature_with, encoding_of, listed_value, discriminator_of, with_item, reference_to, signature_or, default_entity, operator_or_literal, first_letter, second_letter, is_code, operation_or_address, operation_by, is_comma, ends_arguments, in_parentheses, enclosed_argument, enclosed_element}

-- What a production denotes, given the byte that it takes, its surroundings and the values of its parts. A type's tree is
-- marked as listed where the production makes it a candidate itself.
unfoldable pub meaning : Production → (byte : ℕ) → Around → List Value → Value
unfolding row_of meant own_meaning made is_listing given all_given built argument tree_in bytes_in number_in truth_in qualifiers_in mark_in signed_in discriminator_in
meaning p byte around vs = meant (row_of p).form byte around vs
