-- Each usual name of the table passes the test `is_usual`, after `std::` and after `std::__1::`.
use Rattle.short_names.proofs.Basics.{◌≡◌, ◌++◌, ◌&&◌, refl, true, codes, list_all, Alias, ALIASES, alias_in, joined, left_of, full_to, usual_in, with_defaults, end_by, std_name, named_in, template_in, row_in, is_constructor, class_of, ends_name, is_only, is_usual, usual_instance, filled, is_name_byte, is_letter, run_of, ends_operator, sign_size, text_of, by_rules, written_for, stepped, at_sign}

pub usual-names : list_all (λ (row : Alias). is_usual (codes "std::" ++ text_of row.name) && is_usual (codes "std::__1::" ++ text_of row.name)) ALIASES ≡ true
unfolding end_by std_name named_in template_in row_in text_of is_only is_usual usual_instance full_to by_rules written_for stepped at_sign run_of is_name_byte is_letter ends_operator sign_size joined left_of alias_in filled usual_in with_defaults is_constructor class_of ends_name
usual-names = refl
