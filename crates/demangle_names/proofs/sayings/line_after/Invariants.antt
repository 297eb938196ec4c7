use Rattle.std.proofs.Common.{◌≡◌, take}
use Rattle.sym_filter.specs.Entries.{newlines_in}
use Rattle.demangle_names.specs.Saying.{line_after}
use Rattle.demangle_names.proofs.sayings.line_after.Given as goal

abbrev pub invariant-bytes : goal.invariant-bytes
invariant-bytes l = l.here ≡ line_after l.fn.line (newlines_in (take l.byte-index l.bytes))
