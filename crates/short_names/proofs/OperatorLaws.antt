-- Texts whose brackets pair, and for which a law doesn't hold.
use Rattle.short_names.proofs.Basics.{◌≡◌, refl, sym, ap, ◌∙◌, ℕ, arith, List, length, codes, alias_in, joined, left_of, full, full_to, full_rules, usual_in, with_defaults, KeepsFull, KeepsShort, std_name, named_in, template_in, row_in, member_in, is_constructor, class_of, ends_name, filled, is_name_byte, is_letter, run_of, ends_operator, sign_size, short, short_list, text_of, Pairs, by_rules, written_for, stepped, at_sign}

-- ## `std::ratio<operator, 1l>`: after the default is left out, `operator>` is an operator's name

ratio-short : short (codes "std::ratio<operator, 1l>") ≡ codes "std::ratio<operator>"
unfolding short by_rules written_for stepped at_sign run_of is_name_byte is_letter ends_operator sign_size std_name named_in template_in row_in text_of joined left_of alias_in filled short_list usual_in member_in with_defaults is_constructor class_of ends_name
ratio-short = refl

ratio-full : full (codes "std::ratio<operator, 1l>") ≡ codes "std::ratio<operator, 1l>"
unfolding full full_to by_rules written_for stepped at_sign run_of is_name_byte is_letter ends_operator sign_size std_name named_in template_in row_in text_of joined left_of alias_in filled short_list usual_in member_in with_defaults is_constructor class_of ends_name
ratio-full = refl

other-full : full (codes "std::ratio<operator>") ≡ codes "std::ratio<operator>"
unfolding full full_to by_rules written_for stepped at_sign run_of is_name_byte is_letter ends_operator sign_size std_name named_in template_in row_in text_of joined left_of alias_in filled short_list usual_in member_in with_defaults is_constructor class_of ends_name
other-full = refl

ratio-pairs : Pairs (full_rules (full_to 3)) (codes "std::ratio<operator, 1l>")
unfolding full_to by_rules written_for stepped at_sign run_of is_name_byte is_letter ends_operator sign_size std_name named_in template_in row_in text_of joined left_of alias_in filled short_list usual_in member_in with_defaults is_constructor class_of ends_name
ratio-pairs = refl

pub ratio-breaks : KeepsFull (codes "std::ratio<operator, 1l>") → ⊥
ratio-breaks keeps = omega (arith, ap length (sym other-full ∙ sym (ap full ratio-short) ∙ keeps ratio-pairs ∙ ratio-full))

-- ## `std::map<operator, int>`: likewise in the default `std::less<operator>`

abbrev map_full : List ℕ
map_full = codes "std::map<operator, int, std::less<operator>, std::allocator<std::pair<operator const, int>>>"

map-full : full (codes "std::map<operator, int>") ≡ map_full
unfolding full full_to by_rules written_for stepped at_sign run_of is_name_byte is_letter ends_operator sign_size std_name named_in template_in row_in text_of joined left_of alias_in filled short_list usual_in member_in with_defaults is_constructor class_of ends_name
map-full = refl

map-short : short (codes "std::map<operator, int>") ≡ codes "std::map<operator, int>"
unfolding short by_rules written_for stepped at_sign run_of is_name_byte is_letter ends_operator sign_size std_name named_in template_in row_in text_of joined left_of alias_in filled short_list usual_in member_in with_defaults is_constructor class_of ends_name
map-short = refl

full-short : short map_full ≡ map_full
unfolding short by_rules written_for stepped at_sign run_of is_name_byte is_letter ends_operator sign_size std_name named_in template_in row_in text_of joined left_of alias_in filled short_list usual_in member_in with_defaults is_constructor class_of ends_name
full-short = refl

map-pairs : Pairs (full_rules (full_to 3)) (codes "std::map<operator, int>")
unfolding full_to by_rules written_for stepped at_sign run_of is_name_byte is_letter ends_operator sign_size std_name named_in template_in row_in text_of joined left_of alias_in filled short_list usual_in member_in with_defaults is_constructor class_of ends_name
map-pairs = refl

pub map-breaks : KeepsShort (codes "std::map<operator, int>") → ⊥
map-breaks keeps = omega (arith, ap length (sym full-short ∙ sym (ap short map-full) ∙ keeps map-pairs ∙ map-short))
