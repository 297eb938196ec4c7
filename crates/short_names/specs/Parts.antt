-- What a text is made of, and what is written for it part by part.
use Rattle.std.specs.Prelude.{◌≡◌, ℕ, List, [], ◌∷◌, ◌++◌, ◌+◌, ◌-◌, Bool, true, false, not, ◌==◌, ◌&&◌, ◌||◌, nat_eq, nat_le, length, take, get_or, codes, Option, None, Some, is_some, if◌then◌else◌}
use Rattle.std.specs.Cmp.Lexicographic.{pointwise}
use Rattle.std.specs.List.{starts_with, list_all}
use Rattle.short_names.specs.declared.table.TheConstants.{ALIASES}
use Rattle.short_names.specs.declared.table.Alias.{Alias}
use Rattle.short_names.specs.declared.names.Named.{Named}
use Rattle.short_names.specs.Elements.{listed, alias_in, aliases_of, default_pattern, defaults_of, is_polymorphic, left}
use Rattle.short_names.specs.Full.{full_to, pmr_in}
use Rattle.short_names.specs.Full as whole
use Rattle.short_names.specs.Names.{StdName, named_in, std_name}
use Rattle.short_names.specs.Patterns.{filled}
use Rattle.short_names.specs.Runs.{ends_operator, is_letter, is_name_byte}
use Rattle.short_names.specs.Short.{before_name, for_list}
use Rattle.short_names.specs.Texts.{text_of}
use Rattle.short_names.specs.Walk.{is_closing, is_opening}

-- Parts of a text, one after the other: names, other bytes, brackets with what they hold, and lists.
mutual
  pub data Parts : Type 0 where
    ends : Parts
    name_then : (name : List ℕ) → (rest : Parts) → Parts
    byte_then : (byte : ℕ) → (rest : Parts) → Parts
    group_then : (opening : ℕ) → (inner : Parts) → (closing : ℕ) → (rest : Parts) → Parts
    -- a list, with the name of the table before it or without a name; and the usual name that is written for both, if
    -- one is
    list_then : (usual name : List ℕ) → (elements : Elements) → (rest : Parts) → Parts

  pub data Elements : Type 0 where
    no_more : Elements
    element_then : (element : Parts) → (others : Elements) → Elements

-- What is written for parts, given what is written for a list by its usual name, its name and its elements.
unfoldable mutual
  pub written : (for_list : List ℕ → List ℕ → List (List ℕ) → List ℕ) → Parts → List ℕ
  written for_list ends = []
  written for_list (name_then name rest) = name ++ written for_list rest
  written for_list (byte_then byte rest) = byte ∷ written for_list rest
  written for_list (group_then opening inner closing rest) = opening ∷ written for_list inner ++ closing ∷ written for_list rest
  written for_list (list_then usual name elements rest) = for_list usual name (each_written for_list elements) ++ written for_list rest

  pub each_written : (for_list : List ℕ → List ℕ → List (List ℕ) → List ℕ) → Elements → List (List ℕ)
  each_written for_list no_more = []
  each_written for_list (element_then element others) = written for_list element ∷ each_written for_list others

-- a list as it is, or its usual name
abbrev pub as_it_is : (usual name : List ℕ) → List (List ℕ) → List ℕ
as_it_is [] name elements = name ++ listed elements
as_it_is (byte ∷ usual) name elements = byte ∷ usual

-- The text of parts.
abbrev pub text_from : Parts → List ℕ
text_from parts = written as_it_is parts

-- ## Names

abbrev pub is_bare : List ℕ → Bool
is_bare [] = true
is_bare (byte ∷ name) = false

-- a name that begins with no usual name, whatever follows it
unfoldable pub has_no_usual : List ℕ → Bool
has_no_usual name = list_all (λ row. not (starts_with nat_eq name (text_of row.name)) || is_letter (get_or name (length (text_of row.name)) 0)) ALIASES

abbrev pub is_no_usual : Option StdName → Bool
is_no_usual None = true
is_no_usual (Some std) = has_no_usual std.name

-- a name that is none of the table, whatever follows it
unfoldable pub is_other : List ℕ → Bool
is_other name = not (is_bare name) && (list_all is_name_byte name && (not (is_some (named_in name)) && (not (is_some (pmr_in name)) && is_no_usual (std_name name))))

-- ## Lists

-- the name of a list that rules may change
abbrev pub is_named : List ℕ → Bool
is_named name = not (is_bare name) && (list_all is_name_byte name && is_some (named_in name))

abbrev pub is_empty : List Alias → Bool
is_empty [] = true
is_empty (alias ∷ others) = false

-- a name of the table whose lists may have usual names
abbrev pub has_aliases : Option Named → Bool
has_aliases None = false
has_aliases (Some named) = not (is_empty (aliases_of named))

unfoldable pub has_usual : List ℕ → Bool
has_usual name = has_aliases (named_in name)

-- ## Parts within lists

abbrev pub is_end : Parts → Bool
is_end ends = true
is_end (name_then name rest) = false
is_end (byte_then byte rest) = false
is_end (group_then opening inner closing rest) = false
is_end (list_then usual name elements rest) = false

-- parts begin with a byte of a name
abbrev pub begins_name : Parts → Bool
begins_name ends = false
begins_name (name_then name rest) = true
begins_name (byte_then byte rest) = false
begins_name (group_then opening inner closing rest) = false
begins_name (list_then usual name elements rest) = not (is_bare name)

abbrev pub has_some : Elements → Bool
has_some no_more = false
has_some (element_then element others) = true

-- neither a byte of a name nor a list comes first; `at_end` is the answer where there is no part
abbrev pub begins_free : Parts → (at_end : Bool) → Bool
begins_free ends at_end = at_end
begins_free (name_then name rest) at_end = false
begins_free (byte_then byte rest) at_end = not (byte == 60)
begins_free (group_then opening inner closing rest) at_end = true
begins_free (list_then usual name elements rest) at_end = false

-- neither a name nor a list comes after a list that may have a usual name, and any other list has no usual name
abbrev pub stands : (usual name : List ℕ) → (rest : Parts) → Bool
stands usual name rest = if has_usual name then begins_free rest true else is_bare usual

-- a list without a name has no usual name
abbrev pub is_placed : (is_list : List ℕ → Bool) → (usual name : List ℕ) → (rest : Parts) → Bool
is_placed is_list usual [] rest = is_bare usual
is_placed is_list usual (byte ∷ name) rest = is_list (byte ∷ name) && stands usual (byte ∷ name) rest

-- an opening bracket other than a list's
abbrev pub opens_group : ℕ → Bool
opens_group byte = byte == 40 || (byte == 91 || byte == 123)

-- A byte that belongs to no name, is no bracket, and is no comma directly within a list. A `-` isn't the last part.
abbrev pub is_between_names : (in_list : Bool) → ℕ → Parts → Bool
is_between_names in_list byte rest =
    not (is_name_byte byte) && (not (is_opening byte) && (not (byte == 62) && (not (is_closing byte) && (not (in_list && byte == 44) && not (byte == 45 && is_end rest)))))

-- Parts that stay apart where they are within a list, or within other brackets: no two names are side by side, none ends with the word
-- `operator`, and each name before a list is one that may have a list.
unfoldable mutual
  pub are_apart : (is_list : List ℕ → Bool) → (in_list : Bool) → Parts → Bool
  are_apart is_list in_list ends = true
  are_apart is_list in_list (name_then name rest) = (is_other name && not (ends_operator name)) && (not (begins_name rest) && are_apart is_list in_list rest)
  are_apart is_list in_list (byte_then byte rest) = is_between_names in_list byte rest && are_apart is_list in_list rest
  are_apart is_list in_list (group_then opening inner closing rest) = opens_group opening && (is_closing closing && (are_apart is_list false inner && are_apart is_list in_list rest))
  are_apart is_list in_list (list_then usual name elements rest) = is_placed is_list usual name rest && (has_some elements && (each_apart is_list elements && are_apart is_list in_list rest))

  pub each_apart : (is_list : List ℕ → Bool) → Elements → Bool
  each_apart is_list no_more = true
  each_apart is_list (element_then element others) = are_apart is_list true element && each_apart is_list others

-- ## Parts of a whole text

-- Parts that stay apart outside of brackets. Each list outside of brackets is one that rules may change.
unfoldable pub are_outside : (is_list : List ℕ → Bool) → Parts → Bool
are_outside is_list ends = true
are_outside is_list (name_then name rest) = is_other name && (not (begins_name rest) && are_outside is_list rest)
are_outside is_list (byte_then byte rest) = not (is_name_byte byte) && are_outside is_list rest
are_outside is_list (group_then opening inner closing rest) = false
are_outside is_list (list_then usual name elements rest) = (not (is_bare name) && (is_list name && stands usual name rest)) && (has_some elements && (each_apart is_list elements && are_outside is_list rest))

-- parts end with no name, and no list that may have a usual name
unfoldable pub ends_apart : Parts → Bool
ends_apart ends = true
ends_apart (name_then name rest) = not (is_end rest) && ends_apart rest
ends_apart (byte_then byte rest) = ends_apart rest
ends_apart (group_then opening inner closing rest) = ends_apart rest
ends_apart (list_then usual name elements rest) = (not (has_usual name) || not (is_end rest)) && ends_apart rest

-- every list within parts passes a test
unfoldable mutual
  pub all_lists : (test : (usual name : List ℕ) → Elements → Bool) → Parts → Bool
  all_lists test ends = true
  all_lists test (name_then name rest) = all_lists test rest
  all_lists test (byte_then byte rest) = all_lists test rest
  all_lists test (group_then opening inner closing rest) = all_lists test inner && all_lists test rest
  all_lists test (list_then usual name elements rest) = test usual name elements && (all_lists_in test elements && all_lists test rest)

  pub all_lists_in : (test : (usual name : List ℕ) → Elements → Bool) → Elements → Bool
  all_lists_in test no_more = true
  all_lists_in test (element_then element others) = all_lists test element && all_lists_in test others

-- ## Forms of defaults

-- a name, and a list of one argument after it
abbrev pub with_argument : (name : List ℕ) → Parts → Parts
with_argument name argument = name_then name (list_then [] [] (element_then argument no_more) ends)

abbrev pub first : Parts
first = byte_then 0 ends

abbrev pub second : Parts
second = byte_then 1 ends

-- Forms of the defaults that are no lists of the table: bytes 0 to 2 are the holes of patterns.
unfoldable pub forms : List Parts
forms =
    with_argument (2 ∷ codes "less") first ∷ with_argument (2 ∷ codes "allocator") first ∷ with_argument (2 ∷ codes "char_traits") first ∷ with_argument (2 ∷ codes "char_traits") second
    ∷ with_argument (2 ∷ codes "hash") first ∷ with_argument (2 ∷ codes "equal_to") first ∷ with_argument (2 ∷ codes "default_delete") first ∷ with_argument (2 ∷ codes "default_accessor") first
    ∷ with_argument (2 ∷ codes "regex_traits") first ∷ with_argument (2 ∷ codes "allocator") (with_argument (2 ∷ codes "sub_match") first)
    ∷ with_argument (2 ∷ codes "allocator") (name_then (2 ∷ codes "pair") (list_then [] []
    (element_then (byte_then 0 (byte_then 32 (name_then (codes "const") ends))) (element_then second no_more)) ends))
    ∷ name_then (2 ∷ codes "layout_right") ends ∷ name_then (2 ∷ codes "unreachable_sentinel_t") ends
    ∷ name_then (codes "long") ends ∷ name_then (codes "char") ends ∷ name_then (codes "void") ends ∷ name_then (codes "false") ends ∷ name_then (codes "1l") ends
    ∷ name_then (codes "18446744073709551615ul") ends ∷ byte_then 1 (byte_then 42 ends) ∷ byte_then 1 (byte_then 38 ends) ∷ []

-- the form that has a pattern as its text, if there is one
unfoldable pub form_in : List Parts → (pattern : List ℕ) → Option Parts
form_in [] pattern = None
form_in (form ∷ others) pattern = if pointwise nat_eq (text_from form) pattern then Some form else form_in others pattern

-- a byte that is no hole for an argument
abbrev pub is_no_hole : ℕ → Bool
is_no_hole byte = not (byte == 0) && not (byte == 1)

abbrev pub begins_hole : Parts → Bool
begins_hole ends = false
begins_hole (name_then name rest) = false
begins_hole (byte_then byte rest) = not (is_no_hole byte)
begins_hole (group_then opening inner closing rest) = false
begins_hole (list_then usual name elements rest) = false

-- The parts of a form stay apart whatever fills its holes for arguments, if `whole` fills its hole for `std::`.
unfoldable mutual
  pub is_form : (whole : List ℕ) → Parts → Bool
  is_form whole ends = true
  is_form whole (name_then name rest) =
      (list_all is_no_hole name && (is_other (filled [] [] whole name) && not (ends_operator (filled [] [] whole name)))) && (not (begins_name rest) && (not (begins_hole rest) && is_form whole rest))
  is_form whole (byte_then byte rest) =
      (if is_no_hole byte then nat_le 4 byte && (is_between_names true byte rest && not (byte == 45)) else not (begins_name rest) && (not (begins_hole rest) && begins_free rest true)) && is_form whole rest
  is_form whole (group_then opening inner closing rest) = false
  is_form whole (list_then usual name elements rest) = (is_bare usual && is_bare name) && (has_some elements && (are_forms whole elements && is_form whole rest))

  pub are_forms : (whole : List ℕ) → Elements → Bool
  are_forms whole no_more = true
  are_forms whole (element_then element others) = is_form whole element && are_forms whole others

abbrev pub is_some_form : (whole : List ℕ) → Option Parts → Bool
is_some_form whole None = false
is_some_form whole (Some form) = is_form whole form

-- a pattern is empty, or is of one of the forms
unfoldable pub has_form : (whole pattern : List ℕ) → Bool
has_form whole pattern = length pattern == 0 || is_some_form whole (form_in forms pattern)

-- ## Templates

-- two patterns differ in the first byte after `std::`
abbrev pub differ_early : (pattern other : List ℕ) → Bool
differ_early (a ∷ b ∷ pattern) (c ∷ d ∷ other) = a == 2 && (c == 2 && (nat_le 4 b && (nat_le 4 d && not (b == d))))
differ_early _ _ = false

-- A name of the table whose defaults pass a test. The first argument has no default, the default of the second has no hole for
-- the second itself, and that of the last isn't the allocator of `std::pmr`. The lists of its usual names have no hole for an
-- argument.
abbrev pub is_template : (has : (whole pattern : List ℕ) → Bool) → Named → Bool
is_template has named =
    list_all (λ row. list_all is_no_hole (text_of row.arguments)) (aliases_of named)
    && (list_all (λ place. has (text_of named.whole) (text_of place)) (defaults_of named.template)
    && (length (default_pattern named 0) == 0
    && (list_all (λ byte. not (byte == 1)) (default_pattern named 1)
    && (length (text_of named.template.polymorphic) == 0 || differ_early (default_pattern named (named.template.count - 1)) (text_of named.template.polymorphic)))))

-- A name of the table without usual names that has more than one argument, and whose defaults have no list of the table within.
unfoldable pub is_plain : Option Named → Bool
is_plain None = false
is_plain (Some named) = is_template has_form named && (is_empty (aliases_of named) && not (named.template.count == 1))

unfoldable pub is_plain_list : List ℕ → Bool
is_plain_list name = not (is_bare name) && (list_all is_name_byte name && is_plain (named_in name))

-- A default that is a list of the table, of one argument.
pub record Inner : Type 0 where
  pub name : List ℕ
  pub argument : Parts

abbrev pub inner_part : Inner → Parts
inner_part inner = list_then [] inner.name (element_then inner.argument no_more) ends

-- Forms of the defaults that are lists of the table.
unfoldable pub inner_forms : List Inner
inner_forms =
    record { name = 2 ∷ codes "deque"; argument = first } ∷ record { name = 2 ∷ codes "vector"; argument = first } ∷ record { name = 2 ∷ codes "vector"; argument = second }
    ∷ record { name = 2 ∷ codes "istreambuf_iterator"; argument = first } ∷ record { name = 2 ∷ codes "ostreambuf_iterator"; argument = first }
    ∷ record { name = 2 ∷ codes "ratio"; argument = name_then (codes "1l") ends } ∷ []

-- the default that has a pattern as its text, if there is one
unfoldable pub inner_in : List Inner → (pattern : List ℕ) → Option Inner
inner_in [] pattern = None
inner_in (inner ∷ others) pattern = if pointwise nat_eq (text_from (inner_part inner)) pattern then Some inner else inner_in others pattern

abbrev pub is_some_default : (whole : List ℕ) → Option Parts → Option Inner → Bool
is_some_default whole (Some form) inner = is_form whole form
is_some_default whole None None = false
is_some_default whole None (Some inner) = list_all is_no_hole inner.name && (is_plain_list (filled [] [] whole inner.name) && is_form whole inner.argument)

-- a pattern is empty, or is of one of all these forms
unfoldable pub has_default : (whole pattern : List ℕ) → Bool
has_default whole pattern = length pattern == 0 || is_some_default whole (form_in forms pattern) (inner_in inner_forms pattern)

-- A name of the table whose defaults are of these forms.
unfoldable pub is_simple : Option Named → Bool
is_simple None = false
is_simple (Some named) = is_template has_default named

-- The name of a list whose template has only defaults of these forms.
unfoldable pub is_simple_list : List ℕ → Bool
is_simple_list name = not (is_bare name) && (list_all is_name_byte name && is_simple (named_in name))

-- the names of all templates of the table
unfoldable pub simple_names : List (List ℕ)
simple_names =
    codes "basic_filebuf" ∷ codes "basic_fstream" ∷ codes "basic_ifstream" ∷ codes "basic_ios" ∷ codes "basic_iostream" ∷ codes "basic_ispanstream" ∷
    codes "basic_istream" ∷ codes "basic_istringstream" ∷ codes "basic_ofstream" ∷ codes "basic_ospanstream" ∷ codes "basic_ostream" ∷
    codes "basic_ostringstream" ∷ codes "basic_osyncstream" ∷ codes "basic_regex" ∷ codes "basic_spanbuf" ∷ codes "basic_spanstream" ∷
    codes "basic_streambuf" ∷ codes "basic_string" ∷ codes "basic_string_view" ∷ codes "basic_stringbuf" ∷ codes "basic_stringstream" ∷
    codes "basic_syncbuf" ∷ codes "chrono::duration" ∷ codes "deque" ∷ codes "flat_map" ∷ codes "flat_multimap" ∷ codes "flat_multiset" ∷
    codes "flat_set" ∷ codes "formatter" ∷ codes "forward_list" ∷ codes "generator" ∷ codes "istream_iterator" ∷ codes "istreambuf_iterator" ∷
    codes "iterator" ∷ codes "list" ∷ codes "map" ∷ codes "match_results" ∷ codes "mdspan" ∷ codes "mersenne_twister_engine" ∷ codes "money_get" ∷
    codes "money_put" ∷ codes "moneypunct" ∷ codes "moneypunct_byname" ∷ codes "multimap" ∷ codes "multiset" ∷ codes "num_get" ∷ codes "num_put" ∷
    codes "ostream_iterator" ∷ codes "ostreambuf_iterator" ∷ codes "priority_queue" ∷ codes "queue" ∷ codes "ranges::basic_istream_view" ∷
    codes "ranges::iota_view" ∷ codes "ratio" ∷ codes "set" ∷ codes "span" ∷ codes "stack" ∷ codes "time_get" ∷ codes "time_get_byname" ∷
    codes "time_put" ∷ codes "time_put_byname" ∷ codes "unique_ptr" ∷ codes "unordered_map" ∷ codes "unordered_multimap" ∷
    codes "unordered_multiset" ∷ codes "unordered_set" ∷ codes "vector" ∷ []

-- what is written for a list in a short text, where what follows doesn't matter
unfoldable pub short_bytes : (usual name : List ℕ) → List (List ℕ) → List ℕ
short_bytes usual name elements = (for_list (named_in name) name elements []).bytes

-- what is written for a list in a full text
unfoldable pub full_bytes : (inner : List ℕ → List ℕ) → (usual name : List ℕ) → List (List ℕ) → List ℕ
full_bytes inner usual name elements = (whole.for_list inner name elements (named_in name)).bytes

-- the last of the elements of a list isn't the allocator of `std::pmr`
abbrev pub is_none_of_pmr : Option Named → (elements : List (List ℕ)) → Bool
is_none_of_pmr None elements = true
is_none_of_pmr (Some named) elements = not (is_polymorphic named elements)

-- ## Usual names

-- each usual name with which a name begins is the whole name, or a letter comes after the usual name
unfoldable pub is_only : List Alias → List ℕ → Bool
is_only rows name =
    list_all (λ row. not (starts_with nat_eq name (text_of row.name)) || (is_letter (get_or name (length (text_of row.name)) 0) || length name == length (text_of row.name))) rows

-- the template with the arguments that a usual name is for
abbrev pub instance_of : (name : List ℕ) → (std : StdName) → Option Alias → List ℕ
instance_of name std None = []
instance_of name std (Some alias) = take (length name - length std.name) name ++ whole.instance std alias

abbrev pub alias_of : StdName → Option Alias
alias_of std = whole.usual_in ALIASES std.name (std.name ++ [])

abbrev pub instance_by : (name : List ℕ) → Option StdName → List ℕ
instance_by name None = []
instance_by name (Some std) = instance_of name std (alias_of std)

unfoldable pub usual_instance : (name : List ℕ) → List ℕ
usual_instance name = instance_by name (std_name name)

abbrev pub is_row : (name : List ℕ) → StdName → Option Alias → Bool
is_row name std None = false
is_row name std (Some alias) = length name - length std.name + length (text_of alias.name) == length name

abbrev pub is_std : (name : List ℕ) → Option StdName → Bool
is_std name None = false
is_std name (Some std) = is_only ALIASES std.name && is_row name std (alias_of std)

-- A usual name for which full texts have the list of an instance. Each list within that list is full.
unfoldable pub is_usual : (name : List ℕ) → Bool
is_usual name =
    (not (is_bare name) && list_all is_name_byte name) && (not (is_some (named_in name) || is_some (pmr_in name)) && (not (ends_operator name)
    && (is_std name (std_name name) && pointwise nat_eq (full_to 4 (usual_instance name)) (full_to 3 (usual_instance name)))))

-- the usual name that a short text has for a list, if there is one
abbrev pub name_of : Named → (name : List ℕ) → Option Alias → Option (List ℕ)
name_of named name None = None
name_of named name (Some alias) = Some (before_name named name ++ text_of alias.name)

abbrev pub usual_by : Option Named → (name : List ℕ) → List (List ℕ) → Option (List ℕ)
usual_by None name elements = None
usual_by (Some named) name elements = name_of named name (alias_in (aliases_of named) named elements (left named elements))

unfoldable pub usual_for : (name : List ℕ) → List (List ℕ) → Option (List ℕ)
usual_for name elements = usual_by (named_in name) name elements

-- a list without the defaults at its end
abbrev pub left_list : Option Named → (name : List ℕ) → List (List ℕ) → List ℕ
left_list None name elements = name ++ listed elements
left_list (Some named) name elements = name ++ listed (take (left named elements) elements)

-- A list is as it is, or has its usual name (`usual`). If a short text has a usual name for the list (`called`), the instance of
-- that name is the list without the defaults at its end.
abbrev pub is_called : (called : Option (List ℕ)) → (usual name : List ℕ) → List (List ℕ) → Bool
is_called None usual name elements = is_bare usual
is_called (Some called) usual name elements =
    is_usual called && (pointwise nat_eq (usual_instance called) (left_list (named_in name) name elements) && (is_bare usual || pointwise nat_eq usual called))

unfoldable pub is_known : (usual name : List ℕ) → Elements → Bool
is_known usual name elements =
    is_none_of_pmr (named_in name) (each_written short_bytes elements)
    && is_called (usual_for name (each_written short_bytes elements)) usual name (each_written short_bytes elements)

-- A text is made of these parts. Each list is one of a template of the table, with an allocator other than that of
-- `std::pmr`, or is written as its usual name; any list, and other brackets, may be within such a list. The other names of
-- the text are none of the table.
pub record IsMade (text : List ℕ) : Type 0 where
  pub parts : Parts
  pub text_is : text ≡ text_from parts
  pub apart : are_outside is_simple_list parts ≡ true
  pub known : all_lists is_known parts ≡ true
