use Rattle.sym_filter.proofs.Basics.{sym, subst, take, false, IsRead, Escape}
use Rattle.sym_filter.proofs.CarryLemmas.{IsRead-passed}
use Rattle.sym_filter.proofs.escapes.Escape.passes.Goals as goal

pub returns-in-Outside-clause-read : goal.returns-in-Outside-clause-read
returns-in-Outside-clause-read c = λ letters.
    let bytes = take c.before_lead.result c.args.text.now in
    subst (λ (e : Escape). IsRead false letters e e bytes) (sym c.in-Outside.is) (IsRead-passed letters bytes c.before_lead.ensures.no_lead)
