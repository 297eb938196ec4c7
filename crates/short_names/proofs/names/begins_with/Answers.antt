use Rattle.std.proofs.Common.{◌-◌, length, sym, ◌∙◌, arith, ne_eqb}
use Rattle.short_names.proofs.FrontLemmas.{differs}
use Rattle.short_names.proofs.names.begins_with.Goals as goal

pub returns-else-byte-same : goal.returns-else-byte-same
returns-else-byte-same c =
    let looked = c.in-Some.ensures.lookup in
    ne_eqb _ _ c.if-byte-same.false
    ∙ sym (differs c.args.text.now c.args.row.now (length c.args.row.now - 3) (omega arith) (λ same. c.if-byte-same.false (sym same ∙ sym (looked.3.1 0))))
