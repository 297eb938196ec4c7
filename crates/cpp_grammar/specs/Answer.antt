-- The answer for a C++ symbol: its text within a limit, or why it has none.
use Rattle.std.specs.Prelude.{ℕ, List, Result, Ok, Err}
use Rattle.sym_core.specs.declared.refusal.Refusal.{Refusal}
use Rattle.sym_print.specs.declared.detail.Detail.{Detail}
use Rattle.sym_print.specs.Unshared.{Unshared, text_of, cost_of}
use Rattle.sym_print.specs.Unfold.{printed}
use Rattle.sym_print.specs.Answer.{text_within}
use Rattle.cpp_grammar.specs.Term.{Term}
use Rattle.cpp_grammar.specs.Items.{Item, root, closed}
use Rattle.cpp_grammar.specs.Parts.{parts}
use Rattle.cpp_grammar.specs.Ranks.{rank}

-- the item that a symbol's tree is printed as
abbrev pub root_item : Term → Item
root_item t = record { tree = t; form = root; context = closed }

-- what an item prints, with nothing shared
abbrev pub shown : Detail → Item → Unshared
shown detail item = printed (parts detail) rank item

-- the text of a symbol's tree, and what it costs
abbrev pub text_of_symbol : Detail → Term → List ℕ
text_of_symbol detail t = text_of (shown detail (root_item t))

abbrev pub cost_of_symbol : Detail → Term → ℕ
cost_of_symbol detail t = cost_of (shown detail (root_item t))

-- the answer for a symbol that was unfolded: the refusal of its first bad token, or the text within the limit
abbrev pub answer_within : Detail → ℕ → Result Term Refusal → Result (List ℕ) Refusal
answer_within detail limit (Ok t) = text_within limit (shown detail (root_item t))
answer_within detail limit (Err refusal) = Err refusal
