use Rattle.demangle_command.proofs.Basics.{◌≡◌, ◌∙◌, ap, sym, get_or, take, take_more}
use Rattle.demangle_command.specs.Texts.{Decoding, after_byte, after_text, decoding_of, start}
use Rattle.demangle_command.proofs.TextLemmas.{after-more}
use Rattle.demangle_command.proofs.texts.bytes_in.Goals as goal

pub bytes-preserved : goal.bytes-preserved
bytes-preserved c =
    let text = c.args.text.now in
    let i = c.bytes.byte-index in
    let byte = get_or text i 0 in
    let taken : decoding_of c.take.new.self ≡ after_byte (decoding_of c.bytes.decoding) byte = c.in_ok-take.ensures in
    taken ∙ ap (λ (decoding : Decoding). after_byte decoding byte) c.bytes.invariant ∙ sym (after-more start (take i text) byte) ∙ ap (after_text start) (sym (take_more text i 0 c.bytes-test.true))
