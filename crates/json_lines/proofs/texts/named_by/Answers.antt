use Rattle.json_lines.proofs.Basics.{◌∙◌, ℕ, List, sym, ap, is_some, take, text_for}
use Rattle.std.proofs.Math.Seq.{take-length}
use Rattle.json_lines.proofs.MeaningLemmas.{named-front, named-whole, named-word}
use Rattle.json_lines.proofs.texts.named_by.Goals as goal

pub returns-then-end-word : goal.returns-then-end-word
returns-then-end-word g c =
    let word = c.args.word.now in
    named-whole (g.D.Demangler.answer c.args.demangler.now) word (sym c.trimmed_end-end.ensures.trimmed ∙ ap (λ (n : ℕ). take n word) c.if-end-word.true ∙ take-length word)

pub returns-then-branch : goal.returns-then-branch
returns-then-branch g c =
    let answers = g.D.Demangler.answer c.args.demangler.now in
    let front = c.trimmed_end-end.ensures.trimmed in
    front ∙ named-front answers c.args.word.now (ap (λ (w : List ℕ). is_some (text_for answers w)) (sym front) ∙ sym c.in_ok-has_text.ensures ∙ c.if-branch.true)

pub returns : goal.returns
returns g c =
    let answers = g.D.Demangler.answer c.args.demangler.now in
    named-word answers c.args.word.now (ap (λ (w : List ℕ). is_some (text_for answers w)) (sym c.trimmed_end-end.ensures.trimmed) ∙ sym c.in_ok-has_text.ensures ∙ c.if-branch.false)
