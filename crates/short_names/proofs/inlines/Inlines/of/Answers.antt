use Rattle.std.proofs.Common.{sym}
use Rattle.short_names.proofs.InlineLemmas.{none-front, none-inner, none-nested}
use Rattle.short_names.proofs.inlines.Inlines.of.Goals as goal

pub returns-else-may_have_inlines-clause-front : goal.returns-else-may_have_inlines-clause-front
returns-else-may_have_inlines-clause-front c = sym (none-front c.args.name.now (c.may_have_inlines.ensures c.if-may_have_inlines.false))

pub returns-else-may_have_inlines-clause-inner : goal.returns-else-may_have_inlines-clause-inner
returns-else-may_have_inlines-clause-inner c = sym (none-inner c.args.name.now (c.may_have_inlines.ensures c.if-may_have_inlines.false))

pub returns-else-may_have_inlines-clause-nested : goal.returns-else-may_have_inlines-clause-nested
returns-else-may_have_inlines-clause-nested c = sym (none-nested c.args.name.now (c.may_have_inlines.ensures c.if-may_have_inlines.false))
