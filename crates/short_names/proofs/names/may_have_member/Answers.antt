use Rattle.short_names.proofs.Basics.{sym, ap, ◌∙◌, arith, nil_from_length, ALIASES, member_in}
use Rattle.short_names.proofs.NameLemmas.{no-usual, no-name, no-colon}
use Rattle.short_names.proofs.names.may_have_member.Goals as goal

pub returns-in-empty : goal.returns-in-empty
returns-in-empty c = λ _ text run. ap (λ n. member_in ALIASES n text) (nil_from_length c.args.name.now (omega (arith, c.in-empty.len_below))) ∙ no-name text

pub returns-then-first-eq49 : goal.returns-then-first-eq49
returns-then-first-eq49 c = λ other text run. no-colon c.args.name.now text run (sym c.contains.ensures.value ∙ other)

pub returns-else-first-eq49 : goal.returns-else-first-eq49
returns-else-first-eq49 c = λ _ text run. no-usual c.args.name.now text c.if-first-eq49.false
