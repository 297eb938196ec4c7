-- The unfolding of a C++ symbol's shape to the tree that the symbol denotes: each substitution is replaced by the tree that
-- it names. The productions are visited in the order of their bytes. The surroundings of a part are inherited; the
-- candidates are threaded through.
use Rattle.std.specs.Prelude.{ℕ, ◌-◌, ◌^◌, List, [], ◌∷◌, true, false, nat_lt, slice_get, Some, None, Result, Ok, Err}
use Rattle.sym_core.specs.declared.refusal.Refusal.{Refusal}
use Rattle.sym_core.specs.declared.refusal.Refusal.TheVariants.{BadReference, BadValue}
use Rattle.sym_core.specs.declared.NumberKind.TheVariants.{Seq36}
use Rattle.sym_core.specs.Value.{counted_value}
use Rattle.sym_shape.specs.Tree.{Tree, Forest, token, nothing, grown}
use Rattle.sym_link.specs.Reading.{Found, Reading, ◌>>=◌}
use Rattle.sym_link.specs.Unfold.{found, unfold_tree}
use Rattle.cpp_grammar.specs.declared.production.Production.{Production}
use Rattle.cpp_grammar.specs.Grammar.{productions}
use Rattle.cpp_grammar.specs.Term.{Term, absent}
use Rattle.cpp_grammar.specs.Values.{nothing_counted, State, outermost, shown, Around, Value, nothing_there, text, tree_of, text_of, local_number, part}
use Rattle.cpp_grammar.specs.References.{substituted}
use Rattle.cpp_grammar.specs.Between.{between}
use Rattle.cpp_grammar.specs.Meant.{gained, state_after}
use Rattle.cpp_grammar.specs.Rows.{row_of}
use Rattle.cpp_grammar.specs.Meaning.{meaning}

-- ## Before the parts of a production

-- the digits of the last token among these trees; for a lambda or an unnamed type they are its number
unfoldable pub last_token : Forest → List ℕ → List ℕ
last_token nothing digits = digits
last_token (grown (token t) rest) digits = last_token rest t.own
last_token (grown part rest) digits = last_token rest digits

-- The number of a lambda or an unnamed type has 64 bits. It is tested at the U, before the parts in between: the row says so.
unfoldable pub number_tested : ℕ → List ℕ → State → Result State Refusal
number_tested place digits state = elim (nat_lt (local_number digits) (2 ^ 64)) [ true ↦ Ok state | false ↦ Err (BadValue place) ]

unfoldable pub opening : Production → Forest → (place : ℕ) → State → Result State Refusal
unfolding row_of
opening p parts place state = elim (row_of p).tests_number [ true ↦ number_tested (place - 1) (last_token parts []) state | false ↦ Ok state ]

-- ## After the parts of a production

-- The state after a production that began in another state: types become candidates here, and the length of the packs
-- around an expansion holds again after the expansion.
unfoldable pub behind : Production → (byte : ℕ) → Around → (began : State) → List Value → State → State
unfolding row_of state_after gained
behind p byte around began vs state = state_after (row_of p) around began (meaning p byte around vs) vs state

-- What a production that begins at a place denotes, once its parts are read; a substitution may be refused at its S, one byte
-- before.
unfoldable pub close : Production → (byte : ℕ) → Around → (place : ℕ) → (began : State) → List Value → State → Result (Found Value State) Refusal
close Production.Substitution byte around place began vs state =
    substituted around (place - 1) (slice_get state.candidates (counted_value Seq36 (text_of (part vs 0)))) state
-- the ABI's grammar has no inherited constructor
close Production.Inheriting byte around place began vs state = Err (BadReference place)
close production byte around place began vs state =
    Ok (found (meaning production byte around vs) (behind production byte around began vs state))

-- ## The unfolding

unfoldable pub production_at : ℕ → Production
production_at number = elim (slice_get productions number) [ Some p ↦ p | None ↦ Production.Mark ]

-- the byte that a rule takes, or 0
unfoldable pub byte_of : List ℕ → ℕ
byte_of [] = 0
byte_of (byte ∷ rest) = byte

-- C++ as a language: each part, even one with no row, has one value.
unfoldable pub cpp : Reading Value State Around
cpp = record {
  rowless = nothing_there ∷ [];
  token = λ place t state. Ok (found (text t.own) state);
  begin = λ rule parts. opening (production_at rule.rule.number) parts rule.place rule.before;
  between = λ rule known state. between (production_at rule.rule.number) rule.context rule.place known state;
  close = λ rule known state. close (production_at rule.rule.number) (byte_of rule.taken) rule.context rule.place rule.before known state;
}

unfoldable pub first_around : Around
first_around = record { scope = None; encoding = 0; in_lambda = false; in_expansion = false; prefix = outermost; showing = shown }

unfoldable pub first_state : State
first_state = record { candidates = []; packs = None; counting = nothing_counted }

unfoldable pub first_tree : List Value → Term
first_tree [] = absent
first_tree (v ∷ vs) = tree_of v

-- the tree that a symbol of this shape denotes, or the refusal at its first bad token by place
unfoldable pub unfold_cpp : Tree → Result Term Refusal
unfold_cpp shape = unfold_tree cpp first_around 0 shape first_state >>= λ whole. Ok (first_tree whole.value)
