use Rattle.std.proofs.Common.{◌≡◌, ◌+◌, ◌-◌, ◌++◌, take, drop, length, rules, ap, ◌∙◌, arith}
use Rattle.sym_direct.proofs.Copied.{cut-back}
use Rattle.sym_direct.proofs.bounded.Bounded+u8.push_part.Goals as goal

pub returns-clause-items : goal.returns-clause-items
returns-clause-items c =
    let old = c.args.self.now.list.items in
    let bytes = c.args.bytes.now in
    let size = c.args.to - c.args.from in
    let written : c.extend_from_slice.new.self.items ≡ old ++ take (c.args.from + 16 - c.args.from) (drop c.args.from bytes) = search rules in
    let end : c.len-end.result + size ≡ length old + size = search rules in
    c.truncate.ensures.items
    ∙ ap (λ n. take n c.extend_from_slice.new.self.items) end
    ∙ ap (λ l. take (length old + size) l) written
    ∙ cut-back old bytes c.args.from size 16 (omega (arith, c.if-to-from-gt-FEW_BYTES.false))
