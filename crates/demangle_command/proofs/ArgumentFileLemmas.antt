-- The state of reading a file's words, byte by byte.
use Rattle.demangle_command.proofs.Basics.{◌≡◌, refl, ℕ, List, [], ◌∷◌, ◌++◌, Reading, after_byte, after_text}

-- the state after a text and one more byte
pub after-more : (reading : Reading) (text : List ℕ) (byte : ℕ) → after_text reading (text ++ byte ∷ []) ≡ after_byte (after_text reading text) byte
after-more reading [] byte = refl
after-more reading (b ∷ text) byte = after-more (after_byte reading b) text byte
