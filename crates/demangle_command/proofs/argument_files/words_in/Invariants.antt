use Rattle.demangle_command.proofs.Basics.{◌≡◌, take, after_text, reading_of, start}
use Rattle.demangle_command.proofs.argument_files.words_in.Given as goal

abbrev pub invariant-bytes : goal.invariant-bytes
invariant-bytes l = reading_of l.reading ≡ after_text start (take l.byte-index l.text)
