-- Symbols that have shapes of the ABI's grammar, but are accepted only by the wide grammar's reading.
use Rattle.cpp_grammar.proofs.Basics.{◌≡◌, refl, ℕ, true, Bool, List, [], ◌∷◌, ◌&&◌, Some, None, Detail, in_ranges, among, is_in, pick, number_of_kind, alternatives, choose, parts_of, is_chain, may_be_empty, kinds, productions, number_of, padded, rule_of, is_in_constraint, is_at_literal, prefix_tree, prefix_listed, tree_of, piece_of, is_listed, qualifiers_of, ref_of, letter_of, is_there, mark_of, text_of, signed_of, adjustment_of, normal, is_zero, signed_digits, local_number, part, both_free, free_in, count, element, is_list, is_alone, has_pack, arguments_of, before_arguments, is_structor, has_return_type, is_open, first_of, length_if_pack, pack_length, appended, is_function_type, with_type, with_unqualified, with_prefix, with_packs, packs_in, is_module, substituted, parameter_named, in_name, in_types, in_signature, under_expansion, after, inside, extended, applied, no_items, named_so_far, listed_so_far, parameter_so_far, index_of, between, is_void, is_nil, parameters, encoding_of, listed_value, discriminator_of, with_item, reference_to, signature_or, operator_or_literal, meaning, signature_with, same_bytes, look_up, builtin_texts, operator_texts, abbreviation_texts, special_texts, named_special_texts, literal_endings, indexed, argument, collapsed, head_with, head_closed, head, is_reference, is_funarr, packs_of, is_none_of, is_empty, own_argument, signature_of, text_part, list_part, qualifier_text, ref_text, blank_last, begins_with, source_text, piece_parts, prefix_item, before_piece, attached_parts, component_parts, within_parts, last_piece, opening_text, instance_parts, marked_parts, reference_parts, qualified_left, expansion_parts, sign_part, is_plain_integer, builtin_code, integer_parts, member_parts, array_left, entity_of, left_parts, low_parts, function_right, closing_right, qualified_right, right_parts, base_within, base_parts, types_of, encoding_text, function_bare, begins_parameters, function_full, thunk_text, full_parts, bare_parts, root_parts, first_parts, more_parts, at_index, is_below, comma_before, expand_rest, expand_parts, parts_in, not_empty, parts, generic_parts, parameter_parts, or_none, pack_count, weight, scope_weight, weight_in, rank_in, rank}
use Rattle.std.specs.Fmt.{digits}
use Rattle.sym_print.specs.Unfold.{printed_to, printed}
use Rattle.cpp_grammar.proofs.Row.{Row, prints, refers_badly}
use Rattle.cpp_grammar.specs.Standing.{enclosed_argument, ends_arguments, operation_by, operation_or_address, is_code}
use Rattle.cpp_grammar.specs.Unfolding.{last_token, number_tested, opening, behind, close, production_at, byte_of, first_around, first_state, first_tree}
use Rattle.cpp_grammar.specs.Rescoping.{in_constraint_of, is_unseen, in_literal, is_passed_over, passed_over, name_around, types_around, name_if, generic_number, generic_so_far, parameter_here, is_foreign, lambda_with, as_generic_lambda, in_scope, under_scope, with_free, restated, named_by_both, module_of, module_named, module_so_far, substituted_wide, numbered, is_by_all, is_by_newer, is_before_holder, is_in_list, place_in, named_in, counted_unless, counted_base, joined, counted_so_far, is_by_some, is_prefix_at, is_qualified_at, fits, can_be_named, has_head, left, left_by, left_at, with_lists, listed_by, head_of_name, head_of, head_at, may_be, first_head, rest_of, heads_of, behind_first, behind_another, types_in, awaited_by_piece, awaited_by, awaiting, calling, ending, expecting, expecting_item, noting, opening_wide, between_wide, close_wide, cpp_wide, unfold_wide, is_declaring}
use Rattle.cpp_grammar.proofs.Reader.{Seen, no_shape, front_digits, is_length_form, number_at, are_name_bytes, is_own, name_at, seen_tree, shape_of, read_kind, read_symbol, read_all}
use Rattle.cpp_grammar.proofs.Row.{same_refusal, same_seen}

unfoldable see_wide : Detail → List ℕ → Seen
see_wide d s = elim (shape_of s) [ None ↦ no_shape | Some tree ↦ seen_tree d (unfold_wide tree) ]

unfoldable are_right_wide : List Row → Bool
are_right_wide [] = true
are_right_wide (row ∷ rows) = same_seen (see_wide row.detail row.symbol) row.wanted && are_right_wide rows

abbrev rows_0 : List Row
rows_0 =
    prints "_ZNUlT_E_clIiEEDaS_" "auto {lambda(auto)#1}::operator()<int>(int)" 64 ∷
    prints "_ZZ1fvENKUlT_E_clIiEEDaS_" "auto f()::{lambda(auto)#1}::operator()<int>(int) const" 79 ∷
    prints "_Z1gIZ1fvEUlT_E_EvS0_" "void g<f()::{lambda(auto)#1}>(f()::{lambda(auto)#1})" 84 ∷
    prints "_Z1gIZ1fIcEvPT_EUliE_EvOS2_" "void g<f<char>(char*)::{lambda(int)#1}>(f<char>(char*)::{lambda(int)#1}*&&)" 129 ∷
    prints "_Z1gIZ1fIJicEEvDpT_EUlvE_EvDpS1_" "void g<f<int, char>(int, char)::{lambda()#1}>(f<int, char>(int, char)::{lambda()#1}...)" 157 ∷
    prints "_Z1gIJZ1fIJicEEvDpT_EUlvE_EEvDpS1_" "void g<f<int, char>(int, char)::{lambda()#1}>(f<int, char>(int, char)::{lambda()#1})" 158 ∷
    prints "_Z1gIZ1fIJicEEvDpT_EUlvE_EvS1_" "void g<f<int, char>(int, char)::{lambda()#1}>(f<int, char>(int, char)::{lambda()#1})" 152 ∷
    prints "_Z1gIZ1fIicEv1AIT_T0_EEUliE_cEvS3_" "void g<f<int, char>(A<int, char>)::{lambda(int)#1}, char>(char)" 108 ∷
    prints "_Z1fIiEvT_Z1gIcEvS0_E1x" "void f<int>(int, g<char>(char)::x)" 64 ∷
    prints "_Z1fIJicEEvDpT_Z1gI1AEvT_EUlDpT_E_" "void f<int, char>(int, char, g<A>(A)::{lambda(auto...)#1})" 109 ∷
    prints "_Z1fIiEvUlT4294967294_T4294967295_T99999999999999999999_E_" "void f<int>({lambda(auto, auto, auto)#1})" 68 ∷
    prints "_Z1fIiEvUlOT_RKS_E_" "void f<int>({lambda(auto&&, f const&)#1})" 67 ∷
    prints "_Z1fIiEvZ1gIcEvPT_EUlS1_E_S1_" "void f<int>(g<char>(char*)::{lambda(auto)#1}, int)" 87 ∷
    prints "_Z1aIiEvZ1bIcEvZ1cIdEvPT_EUlvE_S2_EUlvE_S2_" "void a<int>(b<char>(c<double>(double*)::{lambda()#1}, char)::{lambda()#1}, int)" 127 ∷
    prints "_Z1aIiEvUlPT_E_UlPS0_E_S_PS1_" "void a<int>({lambda(auto*)#1}, {lambda(auto*)#1}, a, int**)" 100 ∷
    refers_badly "_Z1gIZ1fIicEvPT_PT0_EUliE_EvS4_" 28 ∷
    refers_badly "_Z1gZ1fIcEvPT_EUliE_S1_" 20 ∷
    prints "_Z1fIiEvT_" "void f<int>(int)" 30 ∷
    refers_badly "_Z1fS_" 4 ∷
    prints "_Z5outerI1WIZ5innerIcEvPT_EUliE_EEvOS2_i" "void outer<W<inner<char>(char*)::{lambda(int)#1}>>(W<inner<char>(char*)::{lambda(int)#1}>&&, int)" 160 ∷
    prints "_Z1gIZ1fIcEv1AIPT_EEUliE_EvS1_" "void g<f<char>(A<char*>)::{lambda(int)#1}>(A)" 79 ∷
    prints "_Z1gIZ1fIcEv1AIT_T_EEUliE_EvOS1_" "void g<f<char>(A<char, char>)::{lambda(int)#1}>(A&&)" 91 ∷
    prints "_Z1gIZ1fIicEv1AIT_T0_EEUliE_EvS1_" "void g<f<int, char>(A<int, char>)::{lambda(int)#1}>(A)" 94 ∷
    prints "_Z1gIZ1fIicEv1AIT_T0_EEUliE_EvUlS1_E_" "void g<f<int, char>(A<int, char>)::{lambda(int)#1}>({lambda(A)#1})" 109 ∷
    refers_badly "_Z1fIiEvUlPFT_T0_EE_S1_" 20 ∷
    prints "_Z1fIicEvUlPFT0_T0_EE_S1_" "void f<int, char>({lambda(auto (*)(auto))#1}, char)" 85 ∷
    prints "_Z1fIiEvFT_PT_EUlS1_E_" "void f<int>(int (int*), {lambda(auto)#1})" 72 ∷
    prints "_Z1fIiEvUlUlT_E_T_E_S1_" "void f<int>({lambda({lambda(auto)#1}, auto)#1}, {lambda(auto)#1})" 98 ∷
    prints "_Z1gIJZ1fIJicEEv1AIDpT_EEUlvE_EEvS1_" "void g<f<int, char>(A<int, char>)::{lambda()#1}>(A)" 97 ∷
    prints "_Z1gIZ1fIJicEEvDpPT_EUlvE_EvDpS1_" "void g<f<int, char>(int*, char*)::{lambda()#1}>(f<int, char>(int*, char*)::{lambda()#1}...)" 169 ∷
    prints "_Z1gIRZ1fIOcEvOT_EUliE_EvOS1_" "void g<f<char&&>(char&&)::{lambda(int)#1}&>(char&&)" 91 ∷
    prints "_Z1gIA3_Z1fIcEvPT_EUliE_EvPS1_" "void g<f<char>(char*)::{lambda(int)#1} [3]>(f<char>(char*)::{lambda(int)#1} (*)[3])" 139 ∷
    prints "_Z1gIZ1fIcEv1AIPT_EEUliE_EvS2_" "void g<f<char>(A<char*>)::{lambda(int)#1}>(f<char>(A<char*>)::{lambda(int)#1})" 136 ∷
    prints "_Z1gIZ1fIcEv1AIT_T_EEUliE_EvOS2_" "void g<f<char>(A<char, char>)::{lambda(int)#1}>(f<char>(A<char, char>)::{lambda(int)#1}&&)" 156 ∷
    prints "_Z1gIZ1fIicEv1AIT_T0_EEUliE_EvS2_" "void g<f<int, char>(A<int, char>)::{lambda(int)#1}>(f<int, char>(A<int, char>)::{lambda(int)#1})" 166 ∷
    prints "_Z1gIZ1fIicEv1AIT_T0_EEUliE_EvUlS2_E_" "void g<f<int, char>(A<int, char>)::{lambda(int)#1}>({lambda(auto)#1})" 114 ∷
    refers_badly "_Z1fIiEvUlPFT_T0_EE_S2_" 20 ∷
    prints "_Z1fIicEvUlPFT0_T0_EE_S2_" "void f<int, char>({lambda(auto (*)(auto))#1}, char (char))" 99 ∷
    prints "_Z1fIiEvFT_PT_EUlS2_E_" "void f<int>(int (int*), {lambda(auto*)#1})" 75 ∷
    prints "_Z1fIiEvUlUlT_E_T_E_S2_" "void f<int>({lambda({lambda(auto)#1}, auto)#1}, int)" 82 ∷
    refers_badly "_Z1gIJZ1fIJicEEv1AIDpT_EEUlvE_EEvS2_" 33 ∷
    prints "_Z1gIZ1fIJicEEvDpPT_EUlvE_EvDpS2_" "void g<f<int, char>(int*, char*)::{lambda()#1}>(f<int, char>(int*, char*)::{lambda()#1}*...)" 172 ∷
    prints "_Z1gIRZ1fIOcEvOT_EUliE_EvOS2_" "void g<f<char&&>(char&&)::{lambda(int)#1}&>(f<char&&>(char&&)::{lambda(int)#1}&)" 144 ∷
    prints "_Z1gIA3_Z1fIcEvPT_EUliE_EvPS2_" "void g<f<char>(char*)::{lambda(int)#1} [3]>(f<char>(char*)::{lambda(int)#1} (**)[3])" 142 ∷
    prints "_Z1gIZ1fIcEv1AIPT_EEUliE_EvS3_" "void g<f<char>(A<char*>)::{lambda(int)#1}>(f<char>(A<char*>)::{lambda(int)#1}*)" 139 ∷
    prints "_Z1gIZ1fIcEv1AIT_T_EEUliE_EvOS3_" "void g<f<char>(A<char, char>)::{lambda(int)#1}>(f<char>(A<char, char>)::{lambda(int)#1}&&)" 156 ∷
    refers_badly "_Z1gIZ1fIicEv1AIT_T0_EEUliE_EvS3_" 30 ∷
    prints "_Z1gIZ1fIicEv1AIT_T0_EEUliE_EvUlS3_E_" "void g<f<int, char>(A<int, char>)::{lambda(int)#1}>({lambda(auto)#1})" 114 ∷
    refers_badly "_Z1fIiEvUlPFT_T0_EE_S3_" 20 ∷
    prints "_Z1fIicEvUlPFT0_T0_EE_S3_" "void f<int, char>({lambda(auto (*)(auto))#1}, char (*)(char))" 104 ∷
    prints "_Z1fIiEvFT_PT_EUlS3_E_" "void f<int>(int (int*), {lambda(auto (auto*))#1})" 89 ∷
    prints "_Z1fIiEvUlUlT_E_T_E_S3_" "void f<int>({lambda({lambda(auto)#1}, auto)#1}, {lambda({lambda(auto)#1}, auto)#1})" 124 ∷
    prints "_Z1gIJZ1fIJicEEv1AIDpT_EEUlvE_EEvS3_" "void g<f<int, char>(A<int, char>)::{lambda()#1}>(f<int, char>(A<int, char>)::{lambda()#1})" 172 ∷
    prints "_Z1gIZ1fIJicEEvDpPT_EUlvE_EvDpS3_" "void g<f<int, char>(int*, char*)::{lambda()#1}>(f<int, char>(int*, char*)::{lambda()#1}*......)" 177 ∷
    prints "_Z1gIRZ1fIOcEvOT_EUliE_EvOS3_" "void g<f<char&&>(char&&)::{lambda(int)#1}&>(f<char&&>(char&&)::{lambda(int)#1}&)" 146 ∷
    prints "_Z1gIA3_Z1fIcEvPT_EUliE_EvPS3_" "void g<f<char>(char*)::{lambda(int)#1} [3]>(f<char>(char*)::{lambda(int)#1}*)" 129 ∷
    prints "_Z1gIZ1fIcEv1AIPT_EEUliE_EvS4_" "void g<f<char>(A<char*>)::{lambda(int)#1}>(A<f<char>(A<char*>)::{lambda(int)#1}*>)" 146 ∷
    prints "_Z1gIZ1fIcEv1AIT_T_EEUliE_EvOS4_" "void g<f<char>(A<char, char>)::{lambda(int)#1}>(A<f<char>(A<char, char>)::{lambda(int)#1}, f<char>(A<char, char>)::{lambda(int)#1}>&&)" 234 ∷
    refers_badly "_Z1gIZ1fIicEv1AIT_T0_EEUliE_EvS4_" 30 ∷
    prints "_Z1gIZ1fIicEv1AIT_T0_EEUliE_EvUlS4_E_" "void g<f<int, char>(A<int, char>)::{lambda(int)#1}>({lambda(A<auto, auto>)#1})" 132 ∷
    prints "_Z1fIiEvUlPFT_T0_EE_S4_" "void f<int>({lambda(auto (*)(auto))#1}, {lambda(auto (*)(auto))#1})" 110 ∷
    prints "_Z1fIicEvUlPFT0_T0_EE_S4_" "void f<int, char>({lambda(auto (*)(auto))#1}, {lambda(auto (*)(auto))#1})" 119 ∷
    refers_badly "_Z1fIiEvFT_PT_EUlS4_E_" 17 ∷
    refers_badly "_Z1fIiEvUlUlT_E_T_E_S4_" 20 ∷
    prints "_Z1gIJZ1fIJicEEv1AIDpT_EEUlvE_EEvS4_" "void g<f<int, char>(A<int, char>)::{lambda()#1}>(A<f<int, char>(A<int, char>)::{lambda()#1}>)" 179 ∷
    prints "_Z1gIZ1fIJicEEvDpPT_EUlvE_EvDpS4_" "void g<f<int, char>(int*, char*)::{lambda()#1}>(f<int, char>(int*, char*)::{lambda()#1}...)" 167 ∷
    prints "_Z1gIRZ1fIOcEvOT_EUliE_EvOS4_" "void g<f<char&&>(char&&)::{lambda(int)#1}&>(f<char&&>(char&&)::{lambda(int)#1}&&)" 141 ∷
    prints "_Z1gIA3_Z1fIcEvPT_EUliE_EvPS4_" "void g<f<char>(char*)::{lambda(int)#1} [3]>(f<char>(char*)::{lambda(int)#1} (*)[3])" 137 ∷
    prints "_Z1gIZ1fIcEv1AIPT_EEUliE_EvS5_" "void g<f<char>(A<char*>)::{lambda(int)#1}>(f<char>(A<char*>)::{lambda(int)#1})" 134 ∷
    prints "_Z1gIZ1fIcEv1AIT_T_EEUliE_EvOS5_" "void g<f<char>(A<char, char>)::{lambda(int)#1}>(f<char>(A<char, char>)::{lambda(int)#1}&&)" 154 ∷
    prints "_Z1gIZ1fIicEv1AIT_T0_EEUliE_EvS5_" "void g<f<int, char>(A<int, char>)::{lambda(int)#1}>(f<int, char>(A<int, char>)::{lambda(int)#1})" 164 ∷
    prints "_Z1gIZ1fIicEv1AIT_T0_EEUliE_EvUlS5_E_" "void g<f<int, char>(A<int, char>)::{lambda(int)#1}>({lambda(f<int, char>(A<int, char>)::{lambda(int)#1})#1})" 179 ∷
    prints "_Z1gIJZ1fIJicEEv1AIDpT_EEUlvE_EEvS5_" "void g<f<int, char>(A<int, char>)::{lambda()#1}>(f<int, char>(A<int, char>)::{lambda()#1})" 167 ∷
    prints "_Z1gIRZ1fIOcEvOT_EUliE_EvOS5_" "void g<f<char&&>(char&&)::{lambda(int)#1}&>(f<char&&>(char&&)::{lambda(int)#1}&)" 142 ∷
    prints "_Z1gIRiKcEvZ1fIicEvP1PIT_T0_EE1xS6_" "void g<int&, char const>(f<int, char>(P<int, char>*)::x, P<int&, char const>)" 141 ∷
    prints "_Z1gIRiS_EvZ1fIicEvP1PIOT_OT0_EE1xS7_" "void g<int&, g>(f<int, char>(P<int&&, char&&>*)::x, P<int&, g&&>)" 133 ∷
    prints "_Z1gIFvvEA3_iEvZ1fIicEvP1PIPT_RT0_EE1xS7_" "void g<void (), int [3]>(f<int, char>(P<int*, char&>*)::x, int (&)[3])" 129 ∷
    refers_badly "_Z1gIiEvZ1fIicEvP1PIT_T0_EE1xS4_" 29 ∷
    refers_badly "_Z1gIiJcEEvZ1fIiJcEEvP1PIJT_DpT0_EEE1xS5_" 38 ∷
    prints "_Z1gIicEvZ1fIiJcEEvP1PIJT_DpT0_EEE1xS5_" "void g<int, char>(f<int, char>(P<int, char>*)::x, P<int, char...>)" 136 ∷
    []

right_0 : are_right_wide rows_0 ≡ true
unfolding in_constraint_of is_unseen in_literal is_passed_over passed_over name_around types_around name_if is_in_constraint is_at_literal digits printed_to printed in_ranges among is_in pick number_of_kind alternatives choose parts_of is_chain may_be_empty kinds productions number_of padded rule_of prefix_tree prefix_listed tree_of piece_of is_listed qualifiers_of ref_of letter_of is_there mark_of text_of signed_of adjustment_of normal is_zero signed_digits local_number part count element arguments_of before_arguments is_structor has_return_type is_open first_of length_if_pack pack_length appended is_function_type with_type with_unqualified with_prefix with_packs packs_in is_module substituted parameter_named in_name in_types in_signature under_expansion after inside extended applied no_items named_so_far listed_so_far parameter_so_far index_of between is_void is_nil parameters encoding_of listed_value discriminator_of with_item reference_to signature_or operator_or_literal enclosed_argument ends_arguments operation_by operation_or_address is_code meaning last_token number_tested opening behind close production_at byte_of first_around first_state first_tree same_bytes look_up builtin_texts operator_texts abbreviation_texts special_texts named_special_texts literal_endings indexed argument collapsed head_with head_closed head is_reference is_funarr packs_of is_none_of is_empty text_part list_part qualifier_text ref_text blank_last begins_with source_text piece_parts prefix_item before_piece attached_parts component_parts within_parts last_piece opening_text instance_parts marked_parts reference_parts qualified_left expansion_parts sign_part is_plain_integer builtin_code integer_parts member_parts array_left entity_of left_parts low_parts function_right closing_right qualified_right right_parts base_within base_parts types_of encoding_text function_bare begins_parameters function_full thunk_text full_parts bare_parts root_parts first_parts more_parts at_index is_below comma_before expand_rest expand_parts parts_in not_empty parts or_none pack_count weight scope_weight weight_in rank_in rank front_digits is_length_form number_at are_name_bytes is_own name_at seen_tree shape_of read_kind read_symbol read_all same_refusal same_seen both_free free_in generic_number generic_so_far parameter_here is_foreign lambda_with as_generic_lambda in_scope under_scope with_free is_list is_alone has_pack restated named_by_both module_of module_named module_so_far substituted_wide numbered is_by_all is_by_newer is_before_holder is_in_list place_in named_in counted_unless counted_base joined counted_so_far is_by_some is_prefix_at is_qualified_at fits can_be_named has_head left left_by left_at with_lists listed_by head_of_name head_of head_at may_be first_head rest_of heads_of behind_first behind_another types_in awaited_by_piece awaited_by awaiting calling ending expecting expecting_item noting opening_wide between_wide close_wide cpp_wide unfold_wide see_wide are_right_wide signature_with generic_parts parameter_parts own_argument signature_of is_declaring
right_0 = refl
