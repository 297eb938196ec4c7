use Rattle.demangle_command.proofs.Basics.{◌≡◌, map, string_bytes, take, text_of}
use Rattle.demangle_command.proofs.texts.texts_of.Given as goal

abbrev pub invariant-words : goal.invariant-words
invariant-words l = map (λ text. string_bytes text) l.texts.items ≡ map text_of (map (λ word. word.now) (take l.word-index l.words))
