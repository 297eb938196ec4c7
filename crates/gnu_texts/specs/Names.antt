-- The names of `std` that GNU's demangler writes differently: it writes abbreviations of the ABI (5.1.10) as the templates
-- that they abbreviate.
use Rattle.std.specs.Prelude.{ℕ, List, [], ◌++◌, ◌+◌, Bool, not, ◌==◌, ◌||◌, ◌&&◌, nat_eq, length, take, drop, get_or, codes, Option, None, Some, if◌then◌else◌}
use Rattle.std.specs.List.{starts_with}
use Rattle.short_names.specs.Runs.{is_letter}
use Rattle.gnu_texts.specs.declared.names.Name.{Name}
use Rattle.gnu_texts.specs.declared.names.Name.TheVariants as names

-- a text begins with a name that isn't the front of a longer one
unfoldable pub begins_whole : (text name : List ℕ) → Bool
begins_whole text name = starts_with nat_eq text name && not (is_letter (get_or text (length name) 0))

-- the name, after `std::`
unfoldable pub name_of : Name → List ℕ
name_of names.Istream = codes "istream"
name_of names.Iostream = codes "iostream"
name_of names.Ostream = codes "ostream"
name_of names.String = codes "string"
name_of names.NullPointer = codes "nullptr_t"

-- what is written for the name
unfoldable pub written_of : Name → List ℕ
written_of names.Istream = codes "std::basic_istream<char, std::char_traits<char> >"
written_of names.Iostream = codes "std::basic_iostream<char, std::char_traits<char> >"
written_of names.Ostream = codes "std::basic_ostream<char, std::char_traits<char> >"
written_of names.String = codes "std::basic_string<char, std::char_traits<char>, std::allocator<char> >"
written_of names.NullPointer = codes "decltype(nullptr)"

-- the last byte of what is written for the name
unfoldable pub end_of : Name → ℕ
end_of names.NullPointer = 41
end_of _ = 62

-- the name with which a text begins, after `std::`, if GNU's demangler writes this name differently
unfoldable pub named : List ℕ → Option Name
named text =
    if begins_whole text (codes "string") then Some names.String
    else (if begins_whole text (codes "ostream") then Some names.Ostream
    else (if begins_whole text (codes "istream") then Some names.Istream
    else (if begins_whole text (codes "iostream") then Some names.Iostream
    else (if begins_whole text (codes "nullptr_t") then Some names.NullPointer else None))))

-- the name with which a text begins, if the byte `last` before the text belongs to no name
unfoldable pub name_at : (last : ℕ) → List ℕ → Option Name
name_at last text =
    if starts_with nat_eq text (codes "std::") && not (is_letter last || last == 58) then named (drop 5 text) else None

-- how many bytes come before the name of a constructor or destructor of the name's class, if a text begins with these bytes
-- and that name; else 0
unfoldable pub member_front : Name → List ℕ → ℕ
member_front name text =
    if starts_with nat_eq text (codes "::~") && begins_whole (drop 3 text) (name_of name) then 3
    else (if starts_with nat_eq text (codes "::") && begins_whole (drop 2 text) (name_of name) then 2 else 0)

-- what is written for the bytes before the name of a constructor or destructor, and for that name
abbrev pub member_bytes : Name → (front : ℕ) → List ℕ → List ℕ
member_bytes name front text = if front == 0 then [] else take front text ++ codes "basic_" ++ name_of name

abbrev pub member_size : Name → (front : ℕ) → ℕ
member_size name front = if front == 0 then 0 else front + length (name_of name)
