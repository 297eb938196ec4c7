use Rattle.sym_filter.proofs.Basics.{ℕ, leb, get_or, ap, sym, ◌∙◌, arith, closes, RUN_BYTES}
use Rattle.sym_filter.proofs.ByteLemmas.{any_closes, ascii_closes, is_closing}
use Rattle.sym_filter.proofs.words.closes.Goals as goal
use Rattle.sym_filter.proofs.words.closes.Goals.{in-Any, in-Ascii, in-Within}

pub returns : goal.returns
returns c =
    let byte = c.args.byte in
    elim c.match-letters.branch [
      | in-Any w ↦ ap (λ (n : ℕ). leb n (get_or RUN_BYTES byte 0)) w.least-is ∙ any_closes byte (omega arith) ∙ ap (λ l. closes l byte) (sym w.in-Any.is)
      | in-Ascii w ↦ ap (λ (n : ℕ). leb n (get_or RUN_BYTES byte 0)) w.least-is ∙ ascii_closes byte (omega arith) ∙ ap (λ l. closes l byte) (sym w.in-Ascii.is)
      | in-Within w ↦ ap (λ (n : ℕ). leb n (get_or RUN_BYTES byte 0)) w.least-is ∙ is_closing byte (omega arith) ∙ ap (λ l. closes l byte) (sym w.in-Within.is)
    ]
