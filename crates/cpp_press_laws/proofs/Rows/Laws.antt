-- What the laws of pressing say, computed for symbols: the pressed bytes are read as the tree that was pressed, and are pressed
-- to themselves.
use Rattle.cpp_press_laws.proofs.Basics.{◌≡◌, refl, ℕ, Bool, true, false, ◌&&◌, List, [], ◌∷◌, Some, None, Result, Ok, Refusal, Term, in_ranges, among, is_in, pick, number_of_kind, alternatives, choose, parts_of, is_chain, may_be_empty, kinds, productions, number_of, padded, rule_of, prefix_tree, prefix_listed, tree_of, piece_of, is_listed, qualifiers_of, ref_of, letter_of, is_there, mark_of, text_of, signed_of, adjustment_of, normal, is_zero, signed_digits, local_number, part, count, element, arguments_of, before_arguments, is_structor, has_return_type, is_open, first_of, length_if_pack, pack_length, appended, is_function_type, with_type, with_unqualified, with_prefix, with_packs, packs_in, is_module, substituted, parameter_named, in_name, in_types, in_signature, under_expansion, after, inside, extended, applied, no_items, named_so_far, listed_so_far, parameter_so_far, index_of, between, is_void, is_nil, parameters, encoding_of, listed_value, discriminator_of, with_item, reference_to, signature_or, operator_or_literal, meaning, same_bytes, front_digits, is_length_form, number_at, are_name_bytes, is_own, name_at, shape_of, read_kind, read_symbol, read_all, same_truth, same_qualifiers, same_mark, same_signed, same_adjustment, same_thunk, same_discriminator, same_tree, decimal, counted, ordinal, signed_text, qualifier_letters, mark_letter, name_letters, offset_text, thunk_text, discriminator_text, is_same, first_equal, seq_id, reference, ended, spelled_out, referred, component, no_ways, type_ways, function_text, in_N_and_E, with_letters, name_ways, template_before, is_operator, is_encoding, is_one_piece, entity_text, local_text, begun, encoding_ways, piece_ways, argument_ways, ways_of, pressed}
use Rattle.cpp_grammar.specs.Standing.{enclosed_argument, ends_arguments, operation_by, operation_or_address, is_code}
use Rattle.cpp_grammar.specs.Unfolding.{last_token, number_tested, opening, behind, close, production_at, byte_of, cpp, first_around, first_state, first_tree, unfold_cpp}
use Rattle.cpp_press_laws.proofs.Rows.Row.{Row, presses}

-- both results are one tree, and the pressed bytes of this tree are the given ones
unfoldable pub are_kept : Result Term Refusal → Result Term Refusal → (bytes : List ℕ) → Bool
are_kept (Ok t) (Ok again) bytes = same_tree t again && same_bytes (pressed t) bytes && same_bytes (pressed again) bytes
are_kept _ _ bytes = false

unfoldable pub is_kept : (symbol bytes : List ℕ) → Bool
is_kept symbol bytes = elim (shape_of symbol) [ None ↦ false | Some shape ↦ elim (shape_of bytes) [ None ↦ false | Some other ↦ are_kept (unfold_cpp shape) (unfold_cpp other) bytes ] ]

unfoldable pub all_kept : List Row → Bool
all_kept [] = true
all_kept (row ∷ rows) = is_kept row.symbol row.wanted && all_kept rows

abbrev pub rows : List Row
rows =
    presses "_ZNSt3fooEv" "_ZSt3foov" ∷
    presses "_ZN3foo3barEN3foo3bazE" "_ZN3foo3barENS_3bazE" ∷
    presses "_Z1gNStplIiEENStplIcEE" "_Z1gNStplIiEES_IcE" ∷
    presses "_Z1gN1A1BIiEEN1A1BIcEE" "_Z1gN1A1BIiEES0_IcE" ∷
    presses "_Z1gSt1AIcEZNKSt1AIiEEvvE1x" "_Z1gSt1AIcEZNKSt1AIiEEvvE1x" ∷
    presses "_Z1fZ1gvE1AIiEZ1gvE1AIcES1_" "_Z1fZ1gvE1AIiEZ1gvE1AIcES_" ∷
    presses "_Z1fZ1gvEN1AIiE1BEZ1gvEN1AIiE1CE" "_Z1fZ1gvEN1AIiE1BEZ1gvENS0_1CE" ∷
    presses "_Z1hZ1fIiEvT_E1x_0Z1fIiEvT_E1x_1" "_Z1hZ1fIiEvT_E1x_0ZS_IiEvT_E1x_1" ∷
    presses "_Z1fIiEvPT_Z1gIiEvPT_E1x" "_Z1fIiEvPT_Z1gIiEvPT_E1x" ∷
    presses "_Z1fFvvEKS_" "_Z1fFvvEKFvvE" ∷
    presses "_Z1fILin0ELDn0ELb1EL_Z1gvEXadL_Z1gvEEEvv" "_Z1fILi0ELDnELb1EL_Z1gvEXadL_Z1gvEEEvv" ∷
    presses "_ZTcv00_n05_h7_N1A1fEv" "_ZTcv0_n5_h7_N1A1fEv" ∷
    presses "_Z1fIJicEEvDpT_Dp1AIT_E" "_Z1fIJicEEvDpT_Dp1AIS0_E" ∷
    presses "_Z1fFYvRiOcEFYvRiOcE" "_Z1fFYvRiOcES1_" ∷
    presses "_Z1fN1AlsIiEES1_IcE" "_Z1fN1AlsIiEES1_IcE" ∷
    presses "_Z1fIcEvZ1gIiEvT_E1AIT_EZ1gIiEvT_E1AIT_E" "_Z1fIcEvZ1gIiEvT_E1AIT_ES4_" ∷
    presses "_ZN1AC1IiEEvZS0_IcEivE1x.isra.0" "_ZN1AC1IiEEvZS0_IcEivE1x.isra.0" ∷
    []

pub right : all_kept rows ≡ true
unfolding in_ranges among is_in pick number_of_kind alternatives choose parts_of is_chain may_be_empty kinds productions number_of padded rule_of prefix_tree prefix_listed tree_of piece_of is_listed qualifiers_of ref_of letter_of is_there mark_of text_of signed_of adjustment_of normal is_zero signed_digits local_number part count element arguments_of before_arguments is_structor has_return_type is_open first_of length_if_pack pack_length appended is_function_type with_type with_unqualified with_prefix with_packs packs_in is_module substituted parameter_named in_name in_types in_signature under_expansion after inside extended applied no_items named_so_far listed_so_far parameter_so_far index_of between is_void is_nil parameters encoding_of listed_value discriminator_of with_item reference_to signature_or operator_or_literal enclosed_argument ends_arguments operation_by operation_or_address is_code meaning last_token number_tested opening behind close production_at byte_of cpp first_around first_state first_tree unfold_cpp same_bytes front_digits is_length_form number_at are_name_bytes is_own name_at shape_of read_kind read_symbol read_all same_truth same_qualifiers same_mark same_signed same_adjustment same_thunk same_discriminator same_tree decimal counted ordinal signed_text qualifier_letters mark_letter name_letters offset_text thunk_text discriminator_text is_same first_equal seq_id reference ended spelled_out referred component no_ways type_ways function_text in_N_and_E with_letters name_ways template_before is_operator is_encoding is_one_piece entity_text local_text begun encoding_ways piece_ways argument_ways ways_of pressed are_kept is_kept all_kept
right = refl
