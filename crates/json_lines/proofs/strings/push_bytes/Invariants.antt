use Rattle.json_lines.proofs.Basics.{◌≡◌, ◌++◌, take, escape}
use Rattle.json_lines.proofs.strings.push_bytes.Given as goal

abbrev pub invariant-bytes : goal.invariant-bytes
invariant-bytes l = l.out.items ≡ l.fn.out.items ++ escape (take l.byte-index l.text)
