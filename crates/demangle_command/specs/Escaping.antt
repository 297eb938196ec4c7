-- What is answered where texts go into strings of JSON.
use Rattle.std.specs.Prelude.{ℕ, List, Bool, true, false, Result}
use Rattle.sym_core.specs.declared.refusal.Refusal.{Refusal}
use Rattle.sym_short.specs.Rewriting.{with_text}
use Rattle.demangle_names.specs.Escaped.{escaped}

-- a text that is escaped if that is requested
abbrev pub escaped_if : (escapes : Bool) → List ℕ → List ℕ
escaped_if true text = escaped text
escaped_if false text = text

-- an answer whose text is escaped if that is requested
abbrev pub answer_by : (escapes : Bool) → Result (List ℕ) Refusal → Result (List ℕ) Refusal
answer_by escapes answer = with_text (escaped_if escapes) answer
