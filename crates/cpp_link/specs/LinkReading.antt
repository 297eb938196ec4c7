-- C++'s reading as the linker follows it. This reading knows the bytes of a text, but not which token of the symbol has them, and
-- it knows only the place of a symbol's first rule. It gives each symbol the same meaning as C++'s reading.
use Rattle.std.specs.Prelude.{ℕ, ◌+◌, ◌-◌, ◌^◌, List, length, take, drop, nat_eq, nat_lt, if◌then◌else◌, Result, Ok}
use Rattle.sym_core.specs.declared.refusal.Refusal.{Refusal}
use Rattle.sym_shape.specs.Tree.{Forest}
use Rattle.sym_link.specs.Reading.{Found, Open, Reading}
use Rattle.sym_link.specs.Unfold.{found}
use Rattle.cpp_grammar.specs.declared.production.Production.{Production}
use Rattle.cpp_grammar.specs.Unfolding.{production_at, byte_of}
use Rattle.cpp_grammar.specs.Values.{local_number}
use Rattle.cpp_term.specs.Term.{list, lambda, unnamed}
use Rattle.cpp_term.specs.Values.{State, Around, Value, text, piece, tree_of, text_of, part}
use Rattle.cpp_term.specs.Between.{no_items}
use Rattle.cpp_term.specs.Meaning.{parameters, signature_with, meaning}
use Rattle.cpp_term.specs.Unfolding.{behind, close, cpp}

-- a number, or the greatest one of 64 bits if it needs more
unfoldable pub in_64_bits : ℕ → ℕ
in_64_bits n = if nat_lt n (2 ^ 64) then n else (2 ^ 64 - 1)

-- What a production that begins at a place denotes. A suffix, or digits of base 16, are the symbol's bytes from that place on,
-- one byte more than the text of their part; the number of a lambda or an unnamed type has 64 bits.
unfoldable pub link_meaning : List ℕ → Production → (byte place : ℕ) → Around → List Value → Value
link_meaning s Production.Suffix byte place around vs = text (take (length (text_of (part vs 0)) + 1) (drop place s))
link_meaning s Production.SuffixByte byte place around vs = text (take (length (text_of (part vs 0)) + 1) (drop place s))
link_meaning s Production.HexDigit byte place around vs = text (take (length (text_of (part vs 0)) + 1) (drop place s))
link_meaning s Production.Lambda byte place around vs =
    piece (lambda (signature_with (part vs 0) (parameters (list (tree_of (part vs 0)) (no_items (part vs 1))))) (in_64_bits (local_number (text_of (part vs 3)))))
link_meaning s Production.Unnamed byte place around vs = piece (unnamed (in_64_bits (local_number (text_of (part vs 0)))))
link_meaning s production byte place around vs = meaning production byte around vs

unfoldable pub link_close : List ℕ → Production → (byte : ℕ) → Around → (place : ℕ) → (began : State) → List Value → State
    → Result (Found Value State) Refusal
link_close s Production.Substitution byte around place began vs state = close Production.Substitution byte around place began vs state
-- the ABI's grammar has no inherited constructor
link_close s Production.Inheriting byte around place began vs state = close Production.Inheriting byte around place began vs state
link_close s production byte around place began vs state =
    Ok (found (link_meaning s production byte place around vs) (behind production byte around began vs state))

-- no lambda and no unnamed type begins at the first place
unfoldable pub link_begin : Open State Around → Forest → Result State Refusal
link_begin rule parts = if nat_eq rule.place 0 then Ok rule.before else cpp.begin rule parts

abbrev pub linked : List ℕ → Reading Value State Around
linked s = record {
  rowless = cpp.rowless;
  token = cpp.token;
  begin = link_begin;
  between = cpp.between;
  close = λ rule known state.
      link_close s (production_at rule.rule.number) (byte_of rule.taken) rule.context rule.place rule.before known state;
}
