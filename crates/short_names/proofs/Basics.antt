-- The library lemmas and definitions that this crate's proofs use, exported from one place.
pub use Rattle.std.proofs.Common.{Bool, Fits, List, MatchOption, None, Option, Some, [], add-zero, ap, append-nil, append_assoc, ap₂, arith, bit_and, codes, cond, drop, eq-eqb, eqb-true, false, get_or, get_or-drop, if◌then◌else◌, inl, inr, is_some, le-leb, leb, leb-true, length, length-append, length-drop, length-take, length-take-le, lt_of_not-le, ltb-true, map, min, nat_eq, nat_le, nat_lt, ne_eqb, not, refl, replicate, rules, shr-shr, slice_get, subst, suc, sym, take, true, w64, w8, zero, ℕ, ◌%◌, ◌&&◌, ◌++◌, ◌+◌, ◌-◌, ◌/◌, ◌<◌, ◌==◌, ◌^◌, ◌||◌, ◌∙◌, ◌∷◌, ◌≡◌, ◌≢◌, ◌≤◌, ◌⊎◌}
pub use Rattle.std.proofs.Math.Seq.{take-add}
pub use Rattle.std.proofs.lemmas.Bool.{and_from, and_left, and_parts, and_right, cases_eq, cases_order, lt-leb, not-false, not-true, true≢false}
pub use Rattle.std.proofs.lemmas.Bool.Decides.{Decides-eqb}
pub use Rattle.std.proofs.lemmas.List.{append_cancel_left, at_drop_more, drop-append-le, drop-drop, drop_all, drop_at, drop_more, get_or-map, get_or_append_left, get_or_past, length-map, nil_from_length, same_from_push, take-append-drop, take-append-le, take-take, take_all, take_at, take_rest}
pub use Rattle.std.proofs.lemmas.Option.{get_or_from_slice_get, slice_get-get_or}
pub use Rattle.std.proofs.lemmas.Simd.{bit_mask_l, get_or-chunk, get_or-zip2, leading_from_mask_l, length-chunk, length-zip2, map-map, mask_l-lt, mask_l-mod, trailing_mask_l, zip2_splat}
pub use Rattle.std.proofs.lemmas.Slice.Eq.{bytes_eq-Decides, starts_is, strip_prefix_is}
pub use Rattle.std.specs.Cmp.Lexicographic.{pointwise}
pub use Rattle.std.specs.List.{flat_map, list_all, list_any, prefix_len, range_with_len, starts_with}
pub use Rattle.short_names.specs.Changes.{IsChange, IsMember, IsMemberOf, has_list, is_nothing}
pub use Rattle.short_names.specs.Closing.{IsAnswered, IsList, IsString}
unfoldable pub use Rattle.short_names.specs.Elements.{alias_in, joined, left_of}
pub use Rattle.short_names.specs.Elements.{AreHoles, aliases_of, default_pattern, defaults_of, element, filled_for, is_default, is_given, is_polymorphic, left, listed, pattern_at}
unfoldable pub use Rattle.short_names.specs.Full.{full, full_to, usual_in, with_defaults}
pub use Rattle.short_names.specs.Full.{for_pmr, full_rules, instance, pmr_in, usual}
unfoldable pub use Rattle.short_names.specs.Inlines.{inlines_size, without_inlines}
pub use Rattle.short_names.specs.Inlines.{begins_low, front, inner, nested, std_front, std_size}
pub use Rattle.short_names.specs.Laws.{HasNoRow, HasNoStd, HasNoUsual, IsNoLonger, IsOther, KeepsFull, KeepsShort}
unfoldable pub use Rattle.short_names.specs.Names.{class_of, end_by, ends_name, is_constructor, mark_of, member_in, named_in, row_in, std_name, template_in}
pub use Rattle.short_names.specs.Names.{StdName, behind_part, behind_whole, front_size, is_no_colon, last_part, size_of, table_name, with_template}
unfoldable pub use Rattle.short_names.specs.Parts.{all_lists, are_apart, are_outside, ends_apart, form_in, forms, full_bytes, has_default, has_form, has_no_usual, has_usual, inner_forms, inner_in, is_form, is_known, is_only, is_other, is_plain, is_plain_list, is_simple, is_simple_list, is_usual, short_bytes, simple_names, usual_for, usual_instance, written}
pub use Rattle.short_names.specs.Parts.{Elements, Inner, IsMade, Parts, alias_of, all_lists_in, are_forms, as_it_is, begins_free, begins_hole, begins_name, byte_then, differ_early, each_apart, each_written, element_then, ends, group_then, has_aliases, has_some, inner_part, instance_by, instance_of, is_bare, is_between_names, is_called, is_empty, is_end, is_no_hole, is_no_usual, is_none_of_pmr, is_placed, is_row, is_some_default, is_some_form, is_std, is_template, left_list, list_then, name_of, name_then, no_more, opens_group, stands, text_from, usual_by}
unfoldable pub use Rattle.short_names.specs.Patterns.{filled}
pub use Rattle.short_names.specs.Patterns.{bit, ticks}
pub use Rattle.short_names.specs.Plain.{IsFirst, IsFound, IsPlain, behind_run}
unfoldable pub use Rattle.short_names.specs.Runs.{ends_operator, is_letter, is_name_byte, run_of, sign_size}
pub use Rattle.short_names.specs.Runs.{begins_std, first_set, is_std_at, operator_size}
unfoldable pub use Rattle.short_names.specs.Short.{short, short_list, shortened, taken}
pub use Rattle.short_names.specs.Short.{before_name, behind, constructor, for_list, for_name, if_read_back, is_read_back, member, short_rules}
unfoldable pub use Rattle.short_names.specs.Starts.{starts_of}
pub use Rattle.short_names.specs.Starts.{AreElements}
unfoldable pub use Rattle.short_names.specs.Texts.{text_of}
unfoldable pub use Rattle.short_names.specs.Usual.{AreApart, all_within, are_clear, is_listed, is_only_before, whole_written}
pub use Rattle.short_names.specs.Usual.{GoesOn, IsConstructed, IsUsual, IsWhole, Whole, beyond, comes_apart, constructor_then, front_of, is_free, is_no_front, last_parts, member_then, one_of, run_with, usual_then}
unfoldable pub use Rattle.short_names.specs.Walk.{at_sign, by_rules, stepped, written_for}
pub use Rattle.short_names.specs.Walk.{Answer, Opened, Pairs, Rules, Stepped, Written, answers, at_byte, at_name, at_plain, closed_text, closes_group, closes_list, ends_element, is_closing, is_list, is_opening, keeps, opens, sign_of, start, text_or}
unfoldable pub use Rattle.short_names.specs.Writing.{before_last, ended}
pub use Rattle.short_names.specs.Writing.{AreOpen, CanChange, Goes, IsAt, IsClosed, IsInnermost, IsListed, IsOpen, IsPending, IsShortened, Steps, all_of}
pub use Rattle.short_names.specs.declared.names.Change.{Change}
pub use Rattle.short_names.specs.declared.names.Named.{Named}
pub use Rattle.short_names.specs.declared.table.Alias.{Alias}
pub use Rattle.short_names.specs.declared.table.Place.{Place}
pub use Rattle.short_names.specs.declared.table.Template.{Template}
pub use Rattle.short_names.specs.declared.table.TheConstants.{ALIASES, DEFAULTS, FIRST, INLINES, INLINE_FIRSTS, INLINE_THIRDS, INNERS, INNER_INLINES, MARKS, PARTS, STD, STRING, STRING_LIST, STRING_TEMPLATE, TEMPLATES, USUAL_FIRSTS, WHOLES}
pub use Rattle.short_names.specs.declared.writing.Bracket.{Bracket}
pub use Rattle.short_names.specs.declared.writing.Listed.{Listed}
pub use Rattle.short_names.specs.declared.writing.Writing.{Writing}
