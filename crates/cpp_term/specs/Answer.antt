-- What is shown and answered for a symbol, from the tree whose parameters carry their arguments.
use Rattle.std.specs.Prelude.{ℕ, List, Result, Ok, Err}
use Rattle.sym_core.specs.declared.refusal.Refusal.{Refusal}
use Rattle.sym_print.specs.declared.detail.Detail.{Detail}
use Rattle.sym_print.specs.Unfold.{printed}
use Rattle.sym_print.specs.Unshared.{Unshared}
use Rattle.sym_print.specs.Answer.{text_within}
use Rattle.cpp_grammar.specs.Items.{root}
use Rattle.cpp_term.specs.Term as term_
use Rattle.cpp_term.specs.Items as item_
use Rattle.cpp_term.specs.Parts as part_
use Rattle.cpp_term.specs.Ranks as rank_

-- the item that a symbol's tree is printed as
abbrev pub noted_root : term_.Term → item_.Item
noted_root t = record { tree = t; form = root; context = item_.closed }

-- what the item of `noted_root` prints, with nothing shared
abbrev pub noted_shown : Detail → term_.Term → Unshared
noted_shown detail t = printed (part_.parts detail) rank_.rank (noted_root t)

abbrev pub noted_answer : Detail → ℕ → Result term_.Term Refusal → Result (List ℕ) Refusal
noted_answer detail limit (Ok t) = text_within limit (noted_shown detail t)
noted_answer detail limit (Err refusal) = Err refusal
