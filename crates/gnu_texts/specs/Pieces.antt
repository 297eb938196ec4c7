-- The pieces of a text that GNU's demangler spells in its own way.
use Rattle.std.specs.Prelude.{◌≤◌, ◌<◌, ℕ, List, ◌∷◌, ◌++◌, ◌+◌, Bool, not, ◌==◌, ◌||◌, ◌&&◌, nat_eq, length, take, drop, get_or, codes, Option, None, Some, if◌then◌else◌}
use Rattle.std.specs.List.{starts_with}
use Rattle.gnu_texts.specs.declared.names.Name.{Name}
use Rattle.gnu_texts.specs.declared.piece.Piece.{Piece}
use Rattle.gnu_texts.specs.declared.piece.Piece.TheVariants as pieces
use Rattle.gnu_texts.specs.Clones.{is_suffix, suffix_of, clones}
use Rattle.short_names.specs.Runs.{is_letter}
use Rattle.gnu_texts.specs.Names.{end_of, name_at, name_of, written_of, member_front, member_bytes, member_size}

-- the length of the operator's sign that a text begins with, if the sign has a byte that looks like a bracket
unfoldable pub sign_size : List ℕ → ℕ
sign_size text =
    if starts_with nat_eq text (codes "<=>") then 3
    else (if starts_with nat_eq text (codes "->") || starts_with nat_eq text (codes ">>") || starts_with nat_eq text (codes "()") then 2
    else (if starts_with nat_eq text (codes ">") then 1 else 0))

-- how many bytes the word `operator` and a sign that `sign_size` counts take at the front of a text; 0 if the byte
-- before the text is a letter
unfoldable pub operator_size : (last : ℕ) → List ℕ → ℕ
operator_size last text =
    if is_letter last || not (starts_with nat_eq text (codes "operator")) || sign_size (drop 8 text) == 0 then 0 else 8 + sign_size (drop 8 text)

-- a text begins with a bracket before which a blank is written: the second of two brackets that close lists, or one that opens an array
-- after a closing bracket
unfoldable pub is_spaced : (last : ℕ) → List ℕ → Bool
is_spaced last text = (last == 62 && starts_with nat_eq text (codes ">")) || (last == 41 && starts_with nat_eq text (codes "["))

-- a byte begins no piece but itself
unfoldable pub is_plain : ℕ → Bool
is_plain byte = not (byte == 111 || byte == 115 || byte == 32 || byte == 62 || byte == 91)

abbrev pub plain_piece : (last : ℕ) → List ℕ → Piece
plain_piece last text = if is_suffix text then pieces.Suffix else (if is_spaced last text then pieces.Spaced else pieces.Byte)

abbrev pub name_piece : (last : ℕ) → List ℕ → Option Name → Piece
name_piece last text None = plain_piece last text
name_piece last text (Some name) = pieces.Named name (member_front name (drop (5 + length (name_of name)) text))

-- the piece with which a text begins, after a byte
unfoldable pub piece_at : (last : ℕ) → List ℕ → Piece
piece_at last text =
    if operator_size last text == 0 then name_piece last text (name_at last text) else pieces.Operator (operator_size last text)

-- A text has the bytes of a piece.
unfoldable pub IsPiece : Piece → List ℕ → Type 0
IsPiece (pieces.Operator size) text = (0 < size) × (size ≤ length text)
IsPiece (pieces.Named name front) text = 5 + length (name_of name) + member_size name front ≤ length text
IsPiece pieces.Suffix text = 3 ≤ length text
IsPiece pieces.Spaced text = 0 < length text
IsPiece pieces.Byte text = 0 < length text

-- how many bytes of the text a piece takes
unfoldable pub size_of : Piece → List ℕ → ℕ
size_of (pieces.Operator size) text = size
size_of (pieces.Named name front) text = 5 + length (name_of name) + member_size name front
size_of pieces.Suffix text = length text
size_of pieces.Spaced text = 1
size_of pieces.Byte text = 1

-- what is written for a piece
unfoldable pub bytes_of : Piece → List ℕ → List ℕ
bytes_of (pieces.Operator size) text = take size text
bytes_of (pieces.Named name front) text = written_of name ++ member_bytes name front (drop (5 + length (name_of name)) text)
bytes_of pieces.Suffix text = clones (suffix_of text)
bytes_of pieces.Spaced text = 32 ∷ take 1 text
bytes_of pieces.Byte text = take 1 text

-- the byte that counts as the last of a piece: 0 after an operator's sign, so that no blank is written
unfoldable pub last_of : Piece → List ℕ → ℕ
last_of (pieces.Operator size) text = 0
last_of (pieces.Named name front) text = if front == 0 then end_of name else 103
last_of pieces.Suffix text = 93
last_of pieces.Spaced text = get_or text 0 0
last_of pieces.Byte text = get_or text 0 0
