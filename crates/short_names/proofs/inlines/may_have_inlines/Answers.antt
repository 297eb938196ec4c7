use Rattle.short_names.proofs.InlineLemmas.{none-begin, none-short}
use Rattle.short_names.proofs.inlines.may_have_inlines.Goals as goal

pub returns-in_default : goal.returns-in_default
returns-in_default c = λ no. none-short c.args.name.now c.in_default.len_below

pub returns-in-len3-up : goal.returns-in-len3-up
returns-in-len3-up c = λ no. none-begin c.args.name.now no
