use Rattle.std.proofs.Common.{◌∙◌, sym, refl}
use Rattle.short_names.proofs.EndLemmas.{none_open, some_open}
use Rattle.short_names.proofs.writing.Writing.step.Goals as goal

pub step_outside-requires : goal.step_outside-requires
step_outside-requires c = (c.requires, none_open c.args.self.now.brackets.items c.args.self.now.brackets.len c.is_empty.result c.args.self.now.brackets.ok.0 c.is_empty.ensures c.if-is_empty.true)

pub step_run-requires : goal.step_run-requires
step_run-requires c =
    (c.requires, sym c.is_name_byte.ensures ∙ c.if-is_name_byte.true, some_open c.args.self.now.brackets.items c.args.self.now.brackets.len c.is_empty.result c.args.self.now.brackets.ok.0 c.is_empty.ensures c.if-is_empty.false)

pub step_sign-requires : goal.step_sign-requires
step_sign-requires c =
    (c.requires, refl, sym c.is_name_byte.ensures ∙ c.if-is_name_byte.false, some_open c.args.self.now.brackets.items c.args.self.now.brackets.len c.is_empty.result c.args.self.now.brackets.ok.0 c.is_empty.ensures c.if-is_empty.false)
