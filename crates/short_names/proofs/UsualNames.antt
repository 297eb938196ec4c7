-- Names and texts for which the laws are proved.
use Rattle.short_names.proofs.Basics.{◌≡◌, ◌++◌, ◌&&◌, refl, Bool, true, false, [], codes, list_all, STD, alias_in, joined, left_of, full, full_to, usual_in, with_defaults, end_by, std_name, named_in, template_in, row_in, member_in, is_constructor, class_of, ends_name, has_default, inner_forms, inner_in, is_plain, is_plain_list, IsMade, simple_names, are_outside, is_known, ends, name_then, byte_then, list_then, no_more, element_then, all_lists, are_apart, written, short_bytes, full_bytes, is_simple_list, is_simple, forms, form_in, has_form, is_form, is_other, has_no_usual, has_usual, is_only, is_usual, usual_for, usual_instance, filled, is_name_byte, is_letter, run_of, ends_operator, sign_size, short, short_list, text_of, GoesOn, IsConstructed, IsUsual, are_clear, is_listed, is_only_before, by_rules, written_for, stepped, at_sign}

pub std-string : IsUsual (codes "std::string") (codes "std::basic_string<char, std::char_traits<char>, std::allocator<char>>")
unfolding all_lists are_apart written short_bytes full_bytes is_simple_list is_simple is_plain is_plain_list inner_forms inner_in has_default forms form_in has_form is_form is_other has_no_usual has_usual is_listed is_only short full full_to by_rules written_for stepped at_sign run_of is_name_byte is_letter ends_operator sign_size std_name named_in template_in row_in text_of joined left_of alias_in filled short_list usual_in member_in with_defaults is_constructor class_of ends_name
std-string = record {
  std = record { whole = STD; name = codes "string" };
  alias = record { template = record { from = 557; to = 569 }; arguments = record { from = 391; to = 395 }; name = record { from = 569; to = 575 } };
  run = codes "std::basic_string";
  named = record { whole = STD; template = record { name = record { from = 557; to = 569 }; count = 3; first_default = 72; polymorphic = record { from = 0; to = 0 }; first_alias = 4; end_alias = 10 } };
  elements = element_then (name_then (codes "char") ends) (element_then (name_then (codes "std::char_traits") (list_then [] [] (element_then (name_then (codes "char") ends) no_more) ends)) (element_then (name_then (codes "std::allocator") (list_then [] [] (element_then (name_then (codes "char") ends) no_more) ends)) (no_more)));
  std_is = refl;
  bytes = refl;
  none_named = refl;
  only = refl;
  alias_is = refl;
  size_is = refl;
  list_is = refl;
  list_from = refl;
  run_bytes = refl;
  named_is = refl;
  apart = refl;
  plain = refl;
  whole = refl;
  found = refl;
  short = refl;
}

pub inlined-string : IsUsual (codes "std::__cxx11::string") (codes "std::__cxx11::basic_string<char, std::char_traits<char>, std::allocator<char>>")
unfolding all_lists are_apart written short_bytes full_bytes is_simple_list is_simple is_plain is_plain_list inner_forms inner_in has_default forms form_in has_form is_form is_other has_no_usual has_usual is_listed is_only short full full_to by_rules written_for stepped at_sign run_of is_name_byte is_letter ends_operator sign_size std_name named_in template_in row_in text_of joined left_of alias_in filled short_list usual_in member_in with_defaults is_constructor class_of ends_name
inlined-string = record {
  std = record { whole = STD; name = codes "string" };
  alias = record { template = record { from = 557; to = 569 }; arguments = record { from = 391; to = 395 }; name = record { from = 569; to = 575 } };
  run = codes "std::__cxx11::basic_string";
  named = record { whole = STD; template = record { name = record { from = 557; to = 569 }; count = 3; first_default = 72; polymorphic = record { from = 0; to = 0 }; first_alias = 4; end_alias = 10 } };
  elements = element_then (name_then (codes "char") ends) (element_then (name_then (codes "std::char_traits") (list_then [] [] (element_then (name_then (codes "char") ends) no_more) ends)) (element_then (name_then (codes "std::allocator") (list_then [] [] (element_then (name_then (codes "char") ends) no_more) ends)) (no_more)));
  std_is = refl;
  bytes = refl;
  none_named = refl;
  only = refl;
  alias_is = refl;
  size_is = refl;
  list_is = refl;
  list_from = refl;
  run_bytes = refl;
  named_is = refl;
  apart = refl;
  plain = refl;
  whole = refl;
  found = refl;
  short = refl;
}

pub std-stream : IsUsual (codes "std::ostream") (codes "std::basic_ostream<char, std::char_traits<char>>")
unfolding all_lists are_apart written short_bytes full_bytes is_simple_list is_simple is_plain is_plain_list inner_forms inner_in has_default forms form_in has_form is_form is_other has_no_usual has_usual is_listed is_only short full full_to by_rules written_for stepped at_sign run_of is_name_byte is_letter ends_operator sign_size std_name named_in template_in row_in text_of joined left_of alias_in filled short_list usual_in member_in with_defaults is_constructor class_of ends_name
std-stream = record {
  std = record { whole = STD; name = codes "ostream" };
  alias = record { template = record { from = 814; to = 827 }; arguments = record { from = 391; to = 395 }; name = record { from = 827; to = 834 } };
  run = codes "std::basic_ostream";
  named = record { whole = STD; template = record { name = record { from = 814; to = 827 }; count = 2; first_default = 97; polymorphic = record { from = 0; to = 0 }; first_alias = 12; end_alias = 14 } };
  elements = element_then (name_then (codes "char") ends) (element_then (name_then (codes "std::char_traits") (list_then [] [] (element_then (name_then (codes "char") ends) no_more) ends)) (no_more));
  std_is = refl;
  bytes = refl;
  none_named = refl;
  only = refl;
  alias_is = refl;
  size_is = refl;
  list_is = refl;
  list_from = refl;
  run_bytes = refl;
  named_is = refl;
  apart = refl;
  plain = refl;
  whole = refl;
  found = refl;
  short = refl;
}

pub simple-names : list_all (λ name. is_simple_list (codes "std::" ++ name) && is_simple_list (codes "std::__1::" ++ name)) simple_names ≡ true
unfolding all_lists are_apart are_outside written short_bytes is_known is_simple_list is_simple is_plain is_plain_list inner_forms inner_in has_default simple_names forms form_in has_form is_form is_other has_no_usual has_usual usual_for run_of is_name_byte is_letter ends_operator std_name named_in template_in row_in text_of joined left_of alias_in filled short_list is_constructor class_of ends_name
simple-names = refl

pub made-map : IsMade (codes "f(std::map<int, std::vector<g<long>>>&)")
unfolding all_lists are_apart are_outside written short_bytes is_known is_simple_list is_simple is_plain is_plain_list inner_forms inner_in has_default simple_names forms form_in has_form is_form is_other has_no_usual has_usual usual_for run_of is_name_byte is_letter ends_operator std_name named_in template_in row_in text_of joined left_of alias_in filled short_list is_constructor class_of ends_name
made-map = record {
  parts = name_then (codes "f") (byte_then 40 (list_then [] (codes "std::map")
      (element_then (name_then (codes "int") ends) (element_then (list_then [] (codes "std::vector") (element_then
      (name_then (codes "g") (list_then [] [] (element_then (name_then (codes "long") ends) no_more) ends)) no_more) ends) no_more))
      (byte_then 38 (byte_then 41 ends))));
  text_is = refl;
  apart = refl;
  known = refl;
}

pub string-member : GoesOn (codes "std::string") (codes "std::basic_string<char, std::char_traits<char>, std::allocator<char>>") (codes "::append") std-string.alias
unfolding std-string end_by is_only_before std_name named_in template_in row_in text_of all_lists are_apart written short_bytes full_bytes is_simple_list is_simple is_plain is_plain_list inner_forms inner_in has_default forms form_in has_form is_form is_other has_no_usual has_usual is_listed is_only short full full_to by_rules written_for stepped at_sign run_of is_name_byte is_letter ends_operator sign_size joined left_of alias_in filled short_list usual_in member_in with_defaults is_constructor class_of ends_name
string-member = record {
  std = record { whole = STD; name = codes "string::append" };
  front = codes "string";
  is_member = refl;
  colons = refl;
  long = refl;
  not_own = refl;
  not_class = refl;
  std_is = refl;
  name_is = refl;
  none_named = refl;
  only = refl;
  alias_is = refl;
  size_is = refl;
  list_is = refl;
}

pub string-constructors : (destructor : Bool) → IsConstructed destructor (codes "std::string") (codes "std::basic_string<char, std::char_traits<char>, std::allocator<char>>") (codes "string") (codes "basic_string") std-string.alias
unfolding std-string end_by is_only_before are_clear std_name named_in template_in row_in text_of all_lists are_apart written short_bytes full_bytes is_simple_list is_simple is_plain is_plain_list inner_forms inner_in has_default forms form_in has_form is_form is_other has_no_usual has_usual is_listed is_only short full full_to by_rules written_for stepped at_sign run_of is_name_byte is_letter ends_operator sign_size joined left_of alias_in filled short_list usual_in member_in with_defaults is_constructor class_of ends_name
string-constructors true = record {
  std = record { whole = STD; name = codes "string::" };
  class_is = refl;
  own_is = refl;
  class_other = refl;
  class_after = refl;
  class_front = refl;
  std_is = refl;
  none_named = refl;
  clear = refl;
  alias_is = refl;
  member_is = refl;
  size_is = refl;
  list_is = refl;
  own_other = refl;
  colons_other = refl;
  both_other = refl;
  own_after = refl;
  own_front = refl;
}
string-constructors false = record {
  std = record { whole = STD; name = codes "string::string" };
  class_is = refl;
  own_is = refl;
  class_other = refl;
  class_after = refl;
  class_front = refl;
  std_is = refl;
  none_named = refl;
  clear = refl;
  alias_is = refl;
  member_is = refl;
  size_is = refl;
  list_is = refl;
  own_other = refl;
  colons_other = refl;
  both_other = refl;
  own_after = refl;
  own_front = refl;
}

pub made-usual : IsMade (codes "std::vector<std::string>")
unfolding end_by std_name named_in template_in row_in text_of all_lists are_apart are_outside written short_bytes full_bytes is_known is_simple_list is_simple is_plain is_plain_list inner_forms inner_in has_default forms form_in has_form is_form is_other has_no_usual has_usual is_only is_usual usual_for usual_instance short full full_to by_rules written_for stepped at_sign run_of is_name_byte is_letter ends_operator sign_size joined left_of alias_in filled short_list usual_in member_in with_defaults is_constructor class_of ends_name
made-usual = record {
  parts = list_then [] (codes "std::vector") (element_then (list_then (codes "std::string") (codes "std::basic_string") (element_then (name_then (codes "char") ends) no_more) ends) no_more) ends;
  text_is = refl;
  apart = refl;
  known = refl;
}

pub made-full : IsMade (codes "std::vector<std::__cxx11::basic_string<char, std::char_traits<char>, std::allocator<char>>>")
unfolding end_by std_name named_in template_in row_in text_of all_lists are_apart are_outside written short_bytes full_bytes is_known is_simple_list is_simple is_plain is_plain_list inner_forms inner_in has_default forms form_in has_form is_form is_other has_no_usual has_usual is_only is_usual usual_for usual_instance short full full_to by_rules written_for stepped at_sign run_of is_name_byte is_letter ends_operator sign_size joined left_of alias_in filled short_list usual_in member_in with_defaults is_constructor class_of ends_name
made-full = record {
  parts = list_then [] (codes "std::vector") (element_then (list_then [] (codes "std::__cxx11::basic_string") (element_then (name_then (codes "char") ends) (
      element_then (name_then (codes "std::char_traits") (list_then [] [] (element_then (name_then (codes "char") ends) no_more) ends)) (
      element_then (name_then (codes "std::allocator") (list_then [] [] (element_then (name_then (codes "char") ends) no_more) ends)) no_more))) ends) no_more) ends;
  text_is = refl;
  apart = refl;
  known = refl;
}

pub made-adaptor : IsMade (codes "std::stack<int, std::deque<int, std::allocator<int>>>")
unfolding end_by std_name named_in template_in row_in text_of all_lists are_apart are_outside written short_bytes full_bytes is_known is_simple_list is_simple is_plain is_plain_list inner_forms inner_in has_default forms form_in has_form is_form is_other has_no_usual has_usual is_only is_usual usual_for usual_instance short full full_to by_rules written_for stepped at_sign run_of is_name_byte is_letter ends_operator sign_size joined left_of alias_in filled short_list usual_in member_in with_defaults is_constructor class_of ends_name
made-adaptor = record {
  parts = list_then [] (codes "std::stack") (element_then (name_then (codes "int") ends) (
      element_then (list_then [] (codes "std::deque") (element_then (name_then (codes "int") ends) (
      element_then (name_then (codes "std::allocator") (list_then [] [] (element_then (name_then (codes "int") ends) no_more) ends)) no_more)) ends) no_more)) ends;
  text_is = refl;
  apart = refl;
  known = refl;
}
