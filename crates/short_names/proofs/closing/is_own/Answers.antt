use Rattle.short_names.proofs.Basics.{◌∙◌, ◌||◌, not, sym, ap₂, class_of, last_part, text_of}
use Rattle.short_names.proofs.NameLemmas.{no-colons}
use Rattle.short_names.proofs.closing.is_own.Goals as goal

pub returns-then-not-starts_with : goal.returns-then-not-starts_with
returns-then-not-starts_with c =
    let rest = c.args.rest.now in
    let none = sym c.starts_with.ensures.value ∙ c.if-not-starts_with.true in
    sym (ap₂ (λ a b. a || not b) (no-colons rest (last_part (text_of c.args.alias.template)) none) (no-colons rest (class_of c.args.alias) none))
