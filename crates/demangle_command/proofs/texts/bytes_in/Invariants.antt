use Rattle.std.proofs.Common.{◌≡◌, take}
use Rattle.demangle_command.specs.Texts.{after_text, decoding_of, start}
use Rattle.demangle_command.proofs.texts.bytes_in.Given as goal

abbrev pub invariant-bytes : goal.invariant-bytes
invariant-bytes l = decoding_of l.decoding ≡ after_text start (take l.byte-index l.text)
