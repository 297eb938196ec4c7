use Rattle.std.proofs.Common.{◌∙◌, sym}
use Rattle.std.proofs.lemmas.Result.{IfOk-weaker}
use Rattle.type_names.proofs.TypeLemmas.{no-type, some-type}
use Rattle.type_names.proofs.type_for.Goals as goal

pub returns-then-may_be_type : goal.returns-then-may_be_type
returns-then-may_be_type g c =
    IfOk-weaker c.type_text.result _ _ (λ text is. is ∙ some-type (g.D.Demangler.answer c.args.demangler.now) c.args.name.now c.args.types (sym c.may_be_type.ensures ∙ c.if-may_be_type.true)) c.type_text.ensures

pub returns : goal.returns
returns g c = no-type (g.D.Demangler.answer c.args.demangler.now) c.args.name.now c.args.types (sym c.may_be_type.ensures ∙ c.if-may_be_type.false)
