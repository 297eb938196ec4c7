-- What is answered for a symbol whose pressed spelling is requested, with C++ by the wide grammar.
use Rattle.std.specs.Prelude.{◌≡◌, ℕ, ◌*◌, List, length, min, Option, Some, None, Result, Ok, Err}
use Rattle.sym_core.specs.declared.TheConstants.{MOST_BYTES}
use Rattle.sym_core.specs.declared.refusal.Refusal.{Refusal}
use Rattle.sym_core.specs.declared.refusal.Refusal.TheVariants.{Malformed, TooLong}
use Rattle.sym_shape.specs.Decided.{AreBytes}
use Rattle.sym_shape.proofs.Deciding.{outcome}
use Rattle.sym_demangle.specs.Mangled.{IsReading}
use Rattle.sym_filter.specs.Kinds.{underscore_of}
use Rattle.sym_filter.specs.declared.kinds.Kind.{Kind}
use Rattle.sym_filter.specs.declared.kinds.Lang.{Lang}
use Rattle.sym_filter.specs.declared.kinds.Lang.TheVariants.{Cpp, Rust}
use Rattle.cpp_grammar.specs.Mangled.{wide_mangled}
use Rattle.cpp_grammar.specs.Term.{Term}
use Rattle.cpp_press_laws.specs.Short.{pressed_a_byte}
use Rattle.rust_grammar.specs.Mangled.{v0_mangled}
use Rattle.rust_press.specs.Pressing as rust_spelling
use Rattle.wide_press.specs.Kept.{kept}
use Rattle.sym_languages.specs.Languages.{with_front}
use Rattle.sym_languages.specs.Pressed.{pressed_answer}

-- the most bytes of a spelling that is answered for a symbol of n bytes
abbrev pub most_pressed : ℕ → ℕ
most_pressed n = min (pressed_a_byte * n) MOST_BYTES

-- A spelling that is kept, or `TooLong` where none is kept. Pressing has no other limit.
abbrev pub kept_or_refused : Option (List ℕ) → Result (List ℕ) Refusal
kept_or_refused (Some spelling) = Ok spelling
kept_or_refused None = Err TooLong

-- the answer that follows from what a symbol is read as: the pressed spelling of its tree, if that has at most `most` bytes and the wide
-- grammar reads it as the tree (`kept`); or the reason why the symbol isn't read
abbrev pub kept_if_read : (most : ℕ) → Result Term Refusal → Result (List ℕ) Refusal
kept_if_read most (Ok tree) = kept_or_refused (kept most tree)
kept_if_read most (Err refusal) = Err refusal

-- The answer to a C++ symbol: the answer for what its shape denotes, or the refusal at its first bad byte. A list of numbers that aren't
-- all bytes is refused at once.
unfoldable pub wide_pressed_answer : List ℕ → Result (List ℕ) Refusal
wide_pressed_answer s =
    outcome wide_mangled.table wide_mangled.lawful (λ shape. kept_if_read (most_pressed (length s)) (wide_mangled.unfolded shape))
    (λ at. Err (Malformed at)) (Err (Malformed 0)) s

-- the answer to a symbol of each language
abbrev pub wide_pressed_language : Lang → List ℕ → Result (List ℕ) Refusal
wide_pressed_language Cpp symbol = wide_pressed_answer symbol
wide_pressed_language Rust symbol = pressed_answer v0_mangled rust_spelling.pressed symbol

-- the pressed spelling follows the underscore that was dropped
abbrev pub wide_pressed_of : Kind → List ℕ → Result (List ℕ) Refusal
wide_pressed_of kind symbol = with_front (underscore_of kind.skip) (wide_pressed_language kind.lang symbol)

-- ## What holds of these answers

-- the tree or the refusal that a symbol is read as decides the symbol's answer
abbrev pub ReadingIsKept : Type 0
ReadingIsKept =
    (s : List ℕ) (result : Result Term Refusal) → AreBytes s → IsReading wide_mangled s result → wide_pressed_answer s ≡ kept_if_read (most_pressed (length s)) result
