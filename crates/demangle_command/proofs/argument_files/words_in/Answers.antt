use Rattle.demangle_command.proofs.Basics.{◌≡◌, ◌∙◌, ap, sym, get_or, take, take_more, Reading, after_byte, after_text, reading_of, start}
use Rattle.demangle_command.proofs.ArgumentFileLemmas.{after-more}
use Rattle.demangle_command.proofs.argument_files.words_in.Goals as goal

pub bytes-preserved : goal.bytes-preserved
bytes-preserved c =
    let text = c.args.text.now in
    let i = c.bytes.byte-index in
    let byte = get_or text i 0 in
    let taken : reading_of c.take.new.self ≡ after_byte (reading_of c.bytes.reading) byte = c.in_ok-take.ensures in
    taken ∙ ap (λ (reading : Reading). after_byte reading byte) c.bytes.invariant ∙ sym (after-more start (take i text) byte) ∙ ap (after_text start) (sym (take_more text i 0 c.bytes-test.true))
