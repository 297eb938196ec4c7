use Rattle.demangle_command.proofs.Basics.{List, [], ℕ, Bor, rules, bytes_of}
use Rattle.demangle_command.proofs.TextLemmas.{pushed-more}
use Rattle.demangle_command.proofs.texts.words_of.Goals as goal

pub texts-preserved : goal.texts-preserved
texts-preserved c =
    let none : Bor (List ℕ) = record { ref_ptr = (0, 0); now = [] } in
    pushed-more (λ word. word.items) bytes_of c.texts.words.items c.push.new.self.items c.in_ok-word.word c.args.texts.now c.texts.text-index none
    (search rules) c.texts.invariant c.in_ok-word.ensures c.texts-test.true
