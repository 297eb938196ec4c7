use Rattle.std.proofs.Common.{◌==◌, ◌||◌, not, get_or, sym, ap, ◌∙◌, arith}
use Rattle.short_names.proofs.NameLemmas.{ends-colons, ends-empty, ends-byte}
use Rattle.short_names.proofs.names.ends_name.Goals as goal

pub returns-then-starts_with : goal.returns-then-starts_with
returns-then-starts_with c = ends-colons c.args.rest.now (sym c.starts_with.ensures.value ∙ c.if-starts_with.true)

pub returns-in-empty : goal.returns-in-empty
returns-in-empty c = ends-empty c.args.rest.now c.in-empty.len_below

pub returns-then-not-is_name_byte : goal.returns-then-not-is_name_byte
returns-then-not-is_name_byte c =
    let rest = c.args.rest.now in
    sym
    (ends-byte rest (omega arith) (sym c.starts_with.ensures.value ∙ c.if-starts_with.false)
    ∙ ap (λ v. not (v || get_or rest 0 0 == 60)) (sym c.is_name_byte.ensures ∙ c.if-not-is_name_byte.true))

pub returns-else-not-is_name_byte : goal.returns-else-not-is_name_byte
returns-else-not-is_name_byte c =
    let rest = c.args.rest.now in
    ap not c.if-not-is_name_byte.false
    ∙ sym
    (ends-byte rest (omega arith) (sym c.starts_with.ensures.value ∙ c.if-starts_with.false)
    ∙ ap (λ v. not (v || get_or rest 0 0 == 60)) (sym c.is_name_byte.ensures ∙ c.if-not-is_name_byte.false))
