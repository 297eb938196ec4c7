-- Texts with usual names outside of lists, or with the lists that these names replace.
use Rattle.std.specs.Prelude.{◌≡◌, codes, drop, nat_le, ℕ, List, [], ◌++◌, ◌+◌, ◌-◌, Bool, true, false, not, ◌==◌, ◌&&◌, ◌||◌, nat_eq, length, get_or, take, None, Some, is_some, if◌then◌else◌}
use Rattle.std.specs.List.{starts_with, list_all}
use Rattle.short_names.specs.declared.table.Alias.{Alias}
use Rattle.short_names.specs.declared.table.TheConstants.{ALIASES}
use Rattle.short_names.specs.declared.names.Named.{Named}
use Rattle.short_names.specs.Elements.{alias_in, aliases_of, left}
use Rattle.short_names.specs.Full.{full_to, instance, pmr_in, usual_in}
use Rattle.short_names.specs.Names.{StdName, class_of, front_size, is_constructor, last_part, member_in, named_in, std_name}
use Rattle.short_names.specs.Parts.{Parts, Elements, each_written, as_it_is, are_outside, all_lists, all_lists_in, begins_free, is_known, is_only, ends_apart, each_apart, has_some, is_bare, is_end, is_other, begins_name, is_simple_list, short_bytes, full_bytes, written}
use Rattle.short_names.specs.Runs.{is_letter, is_name_byte}
use Rattle.short_names.specs.Short.{before_name}
use Rattle.short_names.specs.Texts.{text_of}

-- a list isn't written by its usual name
unfoldable pub is_listed : (usual name : List ℕ) → Elements → Bool
is_listed usual name elements = is_bare usual

-- A usual name, and the full list that it replaces.
pub record IsUsual (name list : List ℕ) : Type 0 where
  pub std : StdName
  pub alias : Alias
  -- the name of the template, its row, and all arguments
  pub run : List ℕ
  pub named : Named
  pub elements : Elements
  -- the full text of the name is the list
  pub std_is : std_name name ≡ Some std
  pub bytes : (not (is_bare name) && list_all is_name_byte name) ≡ true
  pub none_named : (is_some (named_in name) || is_some (pmr_in name)) ≡ false
  pub only : is_only ALIASES std.name ≡ true
  pub alias_is : usual_in ALIASES std.name (std.name ++ []) ≡ Some alias
  pub size_is : length name - length std.name + length (text_of alias.name) ≡ length name
  pub list_is : full_to 3 (take (length name - length std.name) name ++ instance std alias) ≡ list
  -- the list stays in full texts, and its short text is the name
  pub list_from : list ≡ as_it_is [] run (each_written as_it_is elements)
  pub run_bytes : (not (is_bare run) && list_all is_name_byte run) ≡ true
  pub named_is : named_in run ≡ Some named
  pub apart : (has_some elements && each_apart is_simple_list elements) ≡ true
  pub plain : all_lists_in is_listed elements ≡ true
  pub whole : full_bytes (full_to 3) [] run (each_written (full_bytes (full_to 3)) elements) ≡ list
  pub found : alias_in (aliases_of named) named (each_written short_bytes elements) (left named (each_written short_bytes elements)) ≡ Some alias
  pub short : before_name named run ++ text_of alias.name ≡ name

-- a text doesn't begin with a name
abbrev pub is_no_front : (name text : List ℕ) → Bool
is_no_front name text = list_all is_name_byte name && not (starts_with nat_eq text name)

-- each usual name with which a name begins either is the name's first `size` bytes, before a member that is no constructor, or
-- is followed by a letter
unfoldable pub is_only_before : List Alias → (size : ℕ) → List ℕ → Bool
is_only_before rows size name =
    list_all (λ row. not (starts_with nat_eq name (text_of row.name))
    || (is_letter (get_or name (length (text_of row.name)) 0) || (length (text_of row.name) == size && is_no_front (last_part (text_of row.template)) (drop (size + 2) name)))) rows

-- The name of a member that is no constructor follows a usual name.
pub record GoesOn (name list member : List ℕ) (alias : Alias) : Type 0 where
  pub std : StdName
  pub front : List ℕ
  pub is_member : is_other member ≡ true
  pub colons : starts_with nat_eq member (codes "::") ≡ true
  pub long : nat_le 3 (length member) ≡ true
  pub not_own : is_no_front (last_part (text_of alias.template)) (drop 2 member) ≡ true
  pub not_class : is_no_front (class_of alias) (drop 2 member) ≡ true
  pub std_is : std_name (name ++ member) ≡ Some std
  pub name_is : std.name ≡ front ++ member
  pub none_named : (is_some (named_in (name ++ member)) || is_some (pmr_in (name ++ member))) ≡ false
  pub only : is_only_before ALIASES (length front) std.name ≡ true
  pub alias_is : usual_in ALIASES std.name (std.name ++ []) ≡ Some alias
  pub size_is : length (name ++ member) - length std.name + length (text_of alias.name) ≡ length name
  pub list_is : full_to 3 (take (length (name ++ member) - length std.name) (name ++ member) ++ instance std alias) ≡ list

-- What comes before the name of a constructor or destructor.
abbrev pub front_of : (destructor : Bool) → List ℕ
front_of destructor = if destructor then codes "::~" else codes "::"

-- The run of a usual name with a constructor or destructor after it. A `~` ends the run; it and the bytes after it are `beyond`.
abbrev pub run_with : (destructor : Bool) → (name class : List ℕ) → List ℕ
run_with destructor name class = name ++ (if destructor then codes "::" else codes "::" ++ class)

abbrev pub beyond : (destructor : Bool) → (class : List ℕ) → List ℕ
beyond destructor class = if destructor then codes "~" ++ class else []

-- each usual name with which a name begins has at least three bytes after it, in the name and in `more`
unfoldable pub are_clear : List Alias → (name more : List ℕ) → Bool
are_clear rows name more =
    list_all (λ row. not (starts_with nat_eq name (text_of row.name))
    || (nat_le (length (text_of row.name) + 3) (length (name ++ more)) && list_all is_name_byte (last_part (text_of row.template)))) rows

-- A constructor or destructor comes after a usual name, under the name of the class, or after its list, under the name of the
-- template.
pub record IsConstructed (destructor : Bool) (name list class own : List ℕ) (alias : Alias) : Type 0 where
  pub std : StdName
  pub class_is : class_of alias ≡ class
  pub own_is : last_part (text_of alias.template) ≡ own
  -- what comes after the usual name
  pub class_other : is_other class ≡ true
  pub class_after : is_constructor (front_of destructor ++ class) class ≡ true
  pub class_front : front_size (front_of destructor ++ class) ≡ length (front_of destructor)
  pub std_is : std_name (run_with destructor name class) ≡ Some std
  pub none_named : (is_some (named_in (run_with destructor name class)) || is_some (pmr_in (run_with destructor name class))) ≡ false
  pub clear : are_clear ALIASES std.name (beyond destructor class) ≡ true
  pub alias_is : usual_in ALIASES std.name (std.name ++ beyond destructor class) ≡ Some alias
  pub member_is : member_in ALIASES std.name (std.name ++ beyond destructor class) ≡ None
  pub size_is : length (run_with destructor name class) - length std.name + length (text_of alias.name) ≡ length name
  pub list_is : full_to 3 (take (length (run_with destructor name class) - length std.name) (run_with destructor name class) ++ instance std alias) ≡ list
  -- what comes after the list
  pub own_other : is_other own ≡ true
  pub colons_other : is_other (codes "::") ≡ true
  pub both_other : is_other (codes "::" ++ own) ≡ true
  pub own_after : is_constructor (front_of destructor ++ own) own ≡ true
  pub own_front : front_size (front_of destructor ++ own) ≡ length (front_of destructor)

-- Parts of a text, and between them usual names or the lists that these names replace.
pub data Whole : Type 0 where
  last_parts : (parts : Parts) → Whole
  usual_then : (parts : Parts) → (is_list : Bool) → (name list : List ℕ) → (rest : Whole) → Whole
  -- a usual name or its list, and the name of a member after it
  member_then : (parts : Parts) → (is_list : Bool) → (name list member : List ℕ) → (rest : Whole) → Whole
  -- a usual name or its list, and a constructor or destructor after it, under the name of the class or of the template
  constructor_then : (parts : Parts) → (is_list destructor : Bool) → (name list class own : List ℕ) → (rest : Whole) → Whole

-- what is written for parts and usual names
unfoldable pub whole_written : (for_list : List ℕ → List ℕ → List (List ℕ) → List ℕ) → (usual : Bool → (name list : List ℕ) → List ℕ) → Whole → List ℕ
whole_written for_list usual (last_parts parts) = written for_list parts
whole_written for_list usual (usual_then parts is_list name list rest) = written for_list parts ++ (usual is_list name list ++ whole_written for_list usual rest)
whole_written for_list usual (member_then parts is_list name list member rest) =
    written for_list parts ++ (usual is_list name list ++ (member ++ whole_written for_list usual rest))
whole_written for_list usual (constructor_then parts is_list destructor name list class own rest) =
    written for_list parts ++ (usual is_list name list ++ (front_of destructor ++ (usual is_list class own ++ whole_written for_list usual rest)))

-- a usual name or its list, as it is; likewise the constructor's name, which is that of the class or of the template
abbrev pub one_of : Bool → (name list : List ℕ) → List ℕ
one_of is_list name list = if is_list then list else name

abbrev pub is_free : Whole → Bool
is_free (last_parts parts) = begins_free parts true
is_free (usual_then parts is_list name list rest) = begins_free parts false
is_free (member_then parts is_list name list member rest) = begins_free parts false
is_free (constructor_then parts is_list destructor name list class own rest) = begins_free parts false

-- no byte of a name comes first
abbrev pub comes_apart : Whole → Bool
comes_apart (last_parts parts) = not (begins_name parts)
comes_apart (usual_then parts is_list name list rest) = not (begins_name parts) && not (is_end parts)
comes_apart (member_then parts is_list name list member rest) = not (begins_name parts) && not (is_end parts)
comes_apart (constructor_then parts is_list destructor name list class own rest) = not (begins_name parts) && not (is_end parts)

-- The parts stay apart, and only the name of a member, a constructor or a destructor continues a usual name.
unfoldable pub AreApart : Whole → Type 0
AreApart (last_parts parts) = are_outside is_simple_list parts ≡ true
AreApart (usual_then parts is_list name list rest) =
    (are_outside is_simple_list parts ≡ true) × (ends_apart parts ≡ true) × IsUsual name list × (is_free rest ≡ true) × AreApart rest
AreApart (member_then parts is_list name list member rest) =
    (are_outside is_simple_list parts ≡ true) × (ends_apart parts ≡ true) × ((usual : IsUsual name list) × GoesOn name list member usual.alias) × (comes_apart rest ≡ true) × AreApart rest
AreApart (constructor_then parts is_list destructor name list class own rest) =
    (are_outside is_simple_list parts ≡ true) × (ends_apart parts ≡ true) × ((usual : IsUsual name list) × IsConstructed destructor name list class own usual.alias)
    × (comes_apart rest ≡ true) × AreApart rest

-- every list within the parts passes a test
unfoldable pub all_within : (test : (usual name : List ℕ) → Elements → Bool) → Whole → Bool
all_within test (last_parts parts) = all_lists test parts
all_within test (usual_then parts is_list name list rest) = all_lists test parts && all_within test rest
all_within test (member_then parts is_list name list member rest) = all_lists test parts && all_within test rest
all_within test (constructor_then parts is_list destructor name list class own rest) = all_lists test parts && all_within test rest

-- A text is made of such parts, usual names and lists.
pub record IsWhole (text : List ℕ) : Type 0 where
  pub whole : Whole
  pub text_is : text ≡ whole_written as_it_is one_of whole
  pub apart : AreApart whole
  pub known : all_within is_known whole ≡ true
