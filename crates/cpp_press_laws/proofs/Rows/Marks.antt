-- The components of a symbol that pressing compares with earlier ones, computed.
use Rattle.cpp_press_laws.proofs.Basics.{◌≡◌, refl, ℕ, Bool, true, cond, ◌&&◌, List, [], ◌∷◌, codes, Some, None, Result, Ok, Err, Refusal, Term, in_ranges, among, is_in, pick, number_of_kind, alternatives, choose, parts_of, is_chain, may_be_empty, kinds, productions, number_of, padded, rule_of, prefix_tree, prefix_listed, tree_of, piece_of, is_listed, qualifiers_of, ref_of, letter_of, is_there, mark_of, text_of, signed_of, adjustment_of, normal, is_zero, signed_digits, local_number, part, count, element, arguments_of, before_arguments, is_structor, has_return_type, is_open, first_of, length_if_pack, pack_length, appended, is_function_type, with_type, with_unqualified, with_prefix, with_packs, packs_in, is_module, substituted, parameter_named, in_name, in_types, in_signature, under_expansion, after, inside, extended, applied, no_items, named_so_far, listed_so_far, parameter_so_far, index_of, between, is_void, is_nil, parameters, encoding_of, listed_value, discriminator_of, with_item, reference_to, signature_or, operator_or_literal, meaning, same_bytes, front_digits, is_length_form, number_at, are_name_bytes, is_own, name_at, shape_of, read_kind, read_symbol, read_all, same_truth, same_qualifiers, same_mark, same_signed, same_adjustment, same_thunk, same_discriminator, same_tree, decimal, counted, ordinal, signed_text, qualifier_letters, mark_letter, name_letters, offset_text, thunk_text, discriminator_text, is_same, first_equal, seq_id, is_operator, is_encoding, is_one_piece, Marked, marked_components}
use Prim.Native.String.{String}
use Rattle.cpp_grammar.specs.Standing.{enclosed_argument, ends_arguments, operation_by, operation_or_address, is_code}
use Rattle.cpp_grammar.specs.Unfolding.{last_token, number_tested, opening, behind, close, production_at, byte_of, cpp, first_around, first_state, first_tree, unfold_cpp}
use Rattle.cpp_press_laws.specs.MarkedComponents as marks
use Rattle.cpp_press_laws.specs.MarkedPressing as marked

-- a symbol, and a letter for each component that is spelled out: c for one that was compared, n for one that wasn't
pub record Row : Type 0 where
  pub symbol : List ℕ
  pub wanted : List ℕ

abbrev pub compares : String → String → Row
compares symbol wanted = record { symbol = codes symbol; wanted = codes wanted }

unfoldable pub letters : List Marked → List ℕ
letters [] = []
letters (c ∷ cs) = cond c.was_compared 99 110 ∷ letters cs

-- no letters if a symbol isn't read
unfoldable pub letters_if_read : Result Term Refusal → List ℕ
letters_if_read (Ok t) = letters (marked_components t)
letters_if_read (Err r) = []

unfoldable pub letters_of : (symbol : List ℕ) → List ℕ
letters_of symbol = elim (shape_of symbol) [ None ↦ [] | Some shape ↦ letters_if_read (unfold_cpp shape) ]

unfoldable pub are_marked : List Row → Bool
are_marked [] = true
are_marked (row ∷ rows) = same_bytes (letters_of row.symbol) row.wanted && are_marked rows

-- Pressing compares the template name `std::A` in the first parameter, but not in the second one, where the name is in a
-- function's own name. So in the first symbol, the first two components and the last one are equal to none before them.
abbrev pub rows : List Row
rows =
    compares "_Z1gSt1AIcEZNKSt1AIiEEvvE1x" "ccnc" ∷
    compares "_Z1gN1A1BIiEEZNK1A1BIcEEvvE1x" "cccnc" ∷
    compares "_ZN1A1BIiEEvv" "cc" ∷
    compares "_ZNK1A1BIiEEvv" "cn" ∷
    compares "_ZNKR1A1BIiEEvv" "cn" ∷
    compares "_ZNK1A1BIiE1CEv" "ccc" ∷
    compares "_Z1fZ1gvE1AIiEZ1gvE1AIcE" "ncnc" ∷
    compares "_Z1fZ1gvEN1AIiE1BEZ1gvEN1AIiE1CE" "cccc" ∷
    []

pub right : are_marked rows ≡ true
unfolding in_ranges among is_in pick number_of_kind alternatives choose parts_of is_chain may_be_empty kinds productions number_of padded rule_of prefix_tree prefix_listed tree_of piece_of is_listed qualifiers_of ref_of letter_of is_there mark_of text_of signed_of adjustment_of normal is_zero signed_digits local_number part count element arguments_of before_arguments is_structor has_return_type is_open first_of length_if_pack pack_length appended is_function_type with_type with_unqualified with_prefix with_packs packs_in is_module substituted parameter_named in_name in_types in_signature under_expansion after inside extended applied no_items named_so_far listed_so_far parameter_so_far index_of between is_void is_nil parameters encoding_of listed_value discriminator_of with_item reference_to signature_or operator_or_literal enclosed_argument ends_arguments operation_by operation_or_address is_code meaning last_token number_tested opening behind close production_at byte_of cpp first_around first_state first_tree unfold_cpp same_bytes front_digits is_length_form number_at are_name_bytes is_own name_at shape_of read_kind read_symbol read_all same_truth same_qualifiers same_mark same_signed same_adjustment same_thunk same_discriminator same_tree decimal counted ordinal signed_text qualifier_letters mark_letter name_letters offset_text thunk_text discriminator_text is_same first_equal seq_id is_operator is_encoding is_one_piece marks.reference marks.ended marks.referred marks.component marked.no_ways marked.type_ways marked.function_text marked.in_N_and_E marked.with_letters marked.name_ways marked.template_before marked.entity_text marked.local_text marked.begun marked.encoding_ways marked.piece_ways marked.argument_ways marked.ways_of marked_components letters letters_if_read letters_of are_marked
right = refl
