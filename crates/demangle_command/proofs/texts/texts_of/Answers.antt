use Rattle.demangle_command.proofs.Basics.{List, [], ℕ, Bor, rules, string_bytes, text_of}
use Rattle.demangle_command.proofs.TextLemmas.{pushed-more}
use Rattle.demangle_command.proofs.texts.texts_of.Goals as goal

pub words-preserved : goal.words-preserved
words-preserved c =
    let none : Bor (List ℕ) = record { ref_ptr = (0, 0); now = [] } in
    pushed-more (λ text. string_bytes text) text_of c.words.texts.items c.push.new.self.items c.in_ok-text.text c.args.words.now c.words.word-index none
    (search rules) c.words.invariant c.in_ok-text.ensures c.words-test.true
