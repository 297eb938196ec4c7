-- How the texts of names and encodings are marked, by their sorts.
use Rattle.std.specs.Prelude.{ℕ, ◌+◌, ◌<◌}
use Rattle.cpp_layout.specs.Layout.{ReadSymbol, table_of}
use Rattle.cpp_tree.specs.Views.{plain_tree}
use Rattle.sym_print.specs.Unshared.{Unshared, done, item, bytes}
use Rattle.sym_parts.specs.Marked.{Marked, ◌before◌}
use Rattle.sym_parts.specs.declared.role.Role.{Role}
use Rattle.sym_parts.specs.declared.role.Role.TheVariants as role
use Rattle.cpp_grammar.specs.Term.{Term}
use Rattle.sym_parts.specs.Plain.{numbered, plain, whole}
use Rattle.cpp_parts.specs.Roles.{name, named, abbreviated, arguments, returning, behind, words, encoding, special_name, elements, elements_after, element, element_of, rest_of, within, inside, next}
use Rattle.cpp_parts.specs.declared.numbering.Numbering.{Numbering}
use Rattle.cpp_parts.specs.declared.sorts.NameSort.{NameSort}
use Rattle.cpp_parts.specs.declared.sorts.NameSort.TheVariants as names
use Rattle.cpp_parts.specs.declared.sorts.EncodingSort.{EncodingSort}
use Rattle.cpp_parts.specs.declared.sorts.EncodingSort.TheVariants as encodings

-- a name of this sort
unfoldable pub name_by : ReadSymbol → (tags : ℕ) → NameSort → Unshared → Marked
name_by y tags (names.Instance template args) (item inner rest) = name tags (plain_tree (table_of y) template) inner before arguments (plain_tree (table_of y) args) rest
name_by y tags (names.Tagged node) (item inner rest) = name (tags + 1) (plain_tree (table_of y) node) inner before whole role.AbiTag (numbered tags) rest
name_by y tags (names.Inner node) (item inner rest) = name tags (plain_tree (table_of y) node) inner before plain rest
name_by y tags names.Abbreviation printed = abbreviated printed
name_by y tags sort printed = named printed

abbrev pub AreNamesBelow : (count : ℕ) → NameSort → Type 0
AreNamesBelow count (names.Instance template args) = (template < count) × (args < count)
AreNamesBelow count (names.Tagged node) = node < count
AreNamesBelow count (names.Inner node) = node < count
AreNamesBelow count _ = Unit {0}

-- an encoding of this sort
unfoldable pub encoding_by : ReadSymbol → (specials : ℕ) → EncodingSort → Unshared → Marked
encoding_by y specials (encodings.Function n params nothing) printed = returning nothing (plain_tree (table_of y) n) (plain_tree (table_of y) params) printed
encoding_by y specials (encodings.Variable n) (item printed rest) = name 0 (plain_tree (table_of y) n) printed before behind rest
encoding_by y specials (encodings.Target e) (bytes b (item printed rest)) = words specials b (encoding (specials + 1) (plain_tree (table_of y) e) printed before plain rest)
encoding_by y specials sort printed = special_name specials printed

abbrev pub AreTypesBelow : (count : ℕ) → EncodingSort → Type 0
AreTypesBelow count (encodings.Function n params nothing) = (n < count) × (params < count)
AreTypesBelow count (encodings.Variable n) = n < count
AreTypesBelow count (encodings.Target e) = e < count
AreTypesBelow count _ = Unit {0}

-- the elements of a list from a given one on, without a comma before it
unfoldable pub elements_here : Role → Numbering → Term → Unshared → Marked
elements_here r o t (item skipped done) = elements r (next o) (rest_of t) skipped
elements_here r o t (item left (item right rest)) =
    element r o (inside o (element_of t)) (within (element_of t)) left right before elements_after r (next o) (rest_of t) rest
elements_here r o t printed = plain printed
