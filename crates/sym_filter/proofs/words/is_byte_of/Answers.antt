use Rattle.sym_filter.proofs.Basics.{ℕ, leb, get_or, ap, sym, ◌∙◌, arith, is_byte_of, RUN_BYTES}
use Rattle.sym_filter.proofs.ByteLemmas.{is_any, is_ascii}
use Rattle.sym_filter.proofs.words.is_byte_of.Goals as goal
use Rattle.sym_filter.proofs.words.is_byte_of.Goals.{in-Any, in-Ascii, in-Within}

pub returns : goal.returns
returns c =
    let byte = c.args.byte in
    elim c.match-letters.branch [
      | in-Any w ↦ ap (λ (n : ℕ). leb n (get_or RUN_BYTES byte 0)) w.least-is ∙ is_any byte (omega arith) ∙ ap (λ l. is_byte_of l byte) (sym w.in-Any.is)
      | in-Ascii w ↦ ap (λ (n : ℕ). leb n (get_or RUN_BYTES byte 0)) w.least-is ∙ is_ascii byte (omega arith) ∙ ap (λ l. is_byte_of l byte) (sym w.in-Ascii.is)
      | in-Within w ↦ ap (λ (n : ℕ). leb n (get_or RUN_BYTES byte 0)) w.least-is ∙ is_any byte (omega arith) ∙ ap (λ l. is_byte_of l byte) (sym w.in-Within.is)
    ]
