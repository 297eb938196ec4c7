-- Texts as GNU's demangler spells them.
use Rattle.std.specs.Prelude.{ℕ, zero, suc, List, [], ◌∷◌, ◌++◌, ◌-◌}
use Rattle.gnu_texts.specs.Pieces.{piece_at, size_of, bytes_of, last_of}

-- what is written, piece by piece, for a text after a byte; its first `skipped` bytes are passed over
unfoldable pub spelled : (last skipped : ℕ) → List ℕ → List ℕ
spelled last skipped [] = []
spelled last (suc skipped) (byte ∷ text) = spelled last skipped text
spelled last zero (byte ∷ text) =
    let piece = piece_at last (byte ∷ text) in
    bytes_of piece (byte ∷ text) ++ spelled (last_of piece (byte ∷ text)) (size_of piece (byte ∷ text) - 1) text

-- a text as GNU's demangler spells it
abbrev pub gnu_text : List ℕ → List ℕ
gnu_text text = spelled 0 0 text
