use Rattle.demangle_command.proofs.Basics.{◌≡◌, map, take, bytes_of}
use Rattle.demangle_command.proofs.texts.words_of.Given as goal

abbrev pub invariant-texts : goal.invariant-texts
invariant-texts l = map (λ word. word.items) l.words.items ≡ map bytes_of (map (λ text. text.now) (take l.text-index l.texts))
