use Rattle.demangle_command.proofs.Basics.{◌≡◌, string_bytes, take, text_of}
use Rattle.demangle_command.proofs.texts.text_of.Given as goal

abbrev pub invariant-bytes : goal.invariant-bytes
invariant-bytes l = string_bytes l.text ≡ text_of (take l.byte-index l.word)
