-- What was written of a symbol is its answer.
use Rattle.std.proofs.Common.{◌≡◌, ℕ, ◌≤◌, ◌/◌, List, Bool, true, false, Ok, ap, sym, ◌∙◌, arith}
use Rattle.sym_print.specs.declared.detail.Detail.{Detail}
use Rattle.sym_print.specs.declared.detail.Detail.TheVariants.{Full, Brief, NoParameters, BriefNoParameters}
use Rattle.sym_print.specs.Answer.{text_within}
use Rattle.sym_print.proofs.Answering.{text_within-ok}
use Rattle.sym_demangle.specs.Mangled.{IsAnswer, StandsFor, shaped, answer_of_symbol}
use Rattle.cpp_grammar.specs.Answer.{shown, root_item}
use Rattle.cpp_grammar.specs.Mangled.{cpp_mangled, wide_mangled}
use Rattle.cpp_grammar.specs.Term.{Term}
use Rattle.cpp_direct.specs.WriterInvariant.{IsShown}
use Rattle.cpp_direct.specs.Symbol.{detail_by, mangled_by, symbol_as, symbol_by}

-- the answer for a symbol is the text of the tree that it denotes, if the text is short enough
answer_by : (wide : Bool) (d : Detail) (s text : List ℕ) (t : Term) (limit : ℕ) → StandsFor (mangled_by wide) s (Ok t)
    → Ok text ≡ text_within limit (shown d (root_item t)) → IsAnswer (mangled_by wide) d s limit (Ok text)
answer_by true d s text t limit stands is = shaped stands.0 stands.1 stands.2 (is ∙ ap (λ r. answer_of_symbol wide_mangled d limit r) stands.3)
answer_by false d s text t limit stands is = shaped stands.0 stands.1 stands.2 (is ∙ ap (λ r. answer_of_symbol cpp_mangled d limit r) stands.3)

-- a text that shows a symbol is the symbol's answer, if the text is short enough
answer_shown : (wide bare brief : Bool) (s text : List ℕ) (limit most : ℕ) → IsShown (symbol_by wide bare brief s) most text → most ≤ limit / 4
    → IsAnswer (mangled_by wide) (detail_by bare brief) s limit (Ok text)
answer_shown wide bare brief s text limit most p short =
    let parts = shown (detail_by bare brief) (root_item p.whole) in
    answer_by wide (detail_by bare brief) s text p.whole limit p.stands
    (sym (text_within-ok limit parts text (sym p.text_is) (omega (arith, p.cost, short))))

-- a text that shows a symbol in a detail is the symbol's answer in this detail, if the text is short enough
pub shown_answer : (wide : Bool) (d : Detail) (s text : List ℕ) (limit most : ℕ) → IsShown (symbol_as wide d s) most text → most ≤ limit / 4
    → IsAnswer (mangled_by wide) d s limit (Ok text)
shown_answer wide Full s text limit most p short = answer_shown wide false false s text limit most p short
shown_answer wide Brief s text limit most p short = answer_shown wide false true s text limit most p short
shown_answer wide NoParameters s text limit most p short = answer_shown wide true false s text limit most p short
shown_answer wide BriefNoParameters s text limit most p short = answer_shown wide true true s text limit most p short
