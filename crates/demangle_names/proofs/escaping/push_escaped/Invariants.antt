use Rattle.std.proofs.Common.{◌≡◌, ◌++◌, take, length}
use Rattle.demangle_names.specs.Escaped.{escaped}
use Rattle.demangle_names.proofs.escaping.push_escaped.Given as goal

abbrev pub invariant-bytes : goal.invariant-bytes
invariant-bytes l = record { pushed : l.out.items ≡ l.fn.out.items ++ escaped (take l.byte-index l.text); begun : l.len ≡ length l.fn.out.items }
