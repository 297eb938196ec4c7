use Rattle.std.proofs.Common.{◌∙◌, ℕ, ap, sym, get_or}
use Rattle.sym_filter.specs.Entries.{newline_of}
use Rattle.demangle_names.specs.SayingLaws.{line-more}
use Rattle.demangle_names.specs.Saying.{line_after}
use Rattle.demangle_names.proofs.sayings.line_after.Goals as goal

pub bytes-preserved : goal.bytes-preserved
bytes-preserved c =
    let bytes = c.args.bytes.now in
    let i = c.bytes.byte-index in
    c.next_line-here.ensures ∙ ap (λ (n : ℕ). line_after n (newline_of (get_or bytes i 0))) c.bytes.invariant ∙ sym (line-more c.args.line bytes i c.bytes-test.true)
