-- The bytes of texts.
use Rattle.std.specs.Prelude.{ℕ, ◌<◌, List, [], ◌∷◌, ◌++◌, length, cond, codes, slice_get, Option, None, Some}
use Rattle.cpp_press_laws.specs.Texts.{ordinal, counted, signed_text, qualifier_letters, mark_letter, name_letters, thunk_text, discriminator_text}
use Rattle.cpp_press_laws.specs.Components.{seq_id}
use Rattle.cpp_tree.specs.Nodes.{bytes_at, signed_of, qualifiers_of, mark_of, thunk_of, discriminator_of, IsWithin, IsSpan, IsThunkWithin}
use Rattle.cpp_tree.specs.declared.node.Thunk.{Thunk}
use Rattle.cpp_layout.specs.Layout.{ReadSymbol}
use Rattle.cpp_spelling.specs.declared.texts.Text.{Text}

unfoldable pub text_bytes : ReadSymbol → Text → List ℕ
text_bytes y (Text.Fixed bytes) = bytes.now
text_bytes y (Text.Letter a) = a ∷ []
text_bytes y (Text.Pair a b) = a ∷ b ∷ []
text_bytes y (Text.Ordinal before n) = before.now ++ ordinal n
text_bytes y (Text.Counted before name) = before.now ++ counted (bytes_at y.bytes name)
text_bytes y (Text.Digits before digits) = before.now ++ bytes_at y.bytes digits ++ codes "_"
text_bytes y (Text.Value n) = signed_text (signed_of y.bytes n) ++ codes "E"
text_bytes y (Text.Qualifiers q) = qualifier_letters (qualifiers_of q)
text_bytes y (Text.Letters q m) = codes "N" ++ name_letters (qualifiers_of q) (mark_of m)
text_bytes y (Text.FunctionType c n) = cond n (codes "Do") [] ++ codes "F" ++ cond c (codes "Y") []
text_bytes y (Text.FunctionEnd m) = mark_letter (mark_of m) ++ codes "E"
text_bytes y (Text.Thunk u) = thunk_text (thunk_of y.bytes (slice_get y.table.thunks u))
text_bytes y (Text.Discriminator d) = discriminator_text (discriminator_of y.bytes d)
text_bytes y (Text.Suffix suffix) = bytes_at y.bytes suffix
text_bytes y (Text.Reference n) = codes "S" ++ seq_id n ++ codes "_"

-- the bytes that a text takes from the symbol exist
abbrev pub IsThere : ReadSymbol → Text → Type 0
IsThere y (Text.Counted before name) = IsWithin name y.bytes
IsThere y (Text.Digits before digits) = IsWithin digits y.bytes
IsThere y (Text.Value n) = IsWithin n.digits y.bytes
IsThere y (Text.Thunk u) = u < length y.table.thunks
IsThere y (Text.Discriminator d) = IsSpan y.bytes d
IsThere y (Text.Suffix suffix) = IsWithin suffix y.bytes
IsThere y _ = Unit {0}

-- the offsets of a thunk are within the symbol
abbrev pub IsKnownThunk : List ℕ → Option Thunk → Type 0
IsKnownThunk s None = Unit {0}
IsKnownThunk s (Some thunk) = IsThunkWithin s thunk
