use Rattle.std.proofs.Common.{◌≡◌, ◌∙◌, sym, ap, subst, Bool, []}
use Rattle.std.specs.Prelude.{◌&&◌}
use Rattle.sym_filter.specs.Streams.{PutsFront}
use Rattle.sym_command.proofs.PageLemmas.{OnErr-anyway}
use Rattle.demangle_names.specs.Names.{line_of, said_if}
use Rattle.demangle_names.proofs.NameLemmas.{name-filtered-front, name-nothing, name-said-front, stays-line}
use Rattle.demangle_names.proofs.names.answer_line.Goals as goal
use Rattle.demangle_names.proofs.names.answer_line.Goals.{then-why, else-why}

pub returns-in_err-line-clause-err : goal.returns-in_err-line-clause-err
returns-in_err-line-clause-err g c =
    OnErr-anyway c.from_residual.result _ (name-nothing (g.D.Demangler.answer c.args.demangler.now) c.args.why c.args.name.now (g.W.Sink.taken c.args.out.now) (g.E.Sink.taken c.args.err.now))

pub returns-in-Err-clause-err : goal.returns-in-Err-clause-err
returns-in-Err-clause-err g c =
    name-filtered-front (g.D.Demangler.answer c.args.demangler.now) c.args.why c.args.name.now c.deref.result.now (g.W.Sink.taken c.args.out.now) (g.W.Sink.taken c.filter_line.new.out) (g.E.Sink.taken c.args.err.now)
    (c.deref.ensures.value ∙ c.in_ok-line.ensures) c.in-Err.ensures.err

pub returns-clause-err : goal.returns-clause-err
returns-clause-err g c =
    let answers = g.D.Demangler.answer c.args.demangler.now in
    let name = c.args.name.now in
    let line = c.deref.result.now in
    let left = c.stays_by-stays.result in
    let err = g.E.Sink.taken c.args.err.now in
    let err' = g.E.Sink.taken c.say_why.new.err in
    let e : line ≡ line_of name = c.deref.ensures.value ∙ c.in_ok-line.ensures in
    let asked : c.if-why.say_why ≡ (c.args.why && left) = elim c.if-why.branch [
      | then-why w ↦ (w.say_why-is ∙ sym (ap (λ (b : Bool). b && left) w.if-why.true))
      | else-why w ↦ (w.say_why-is ∙ w.if-why.false ∙ sym (ap (λ (b : Bool). b && left) w.if-why.false))
    ] in
    name-said-front answers c.args.why left name line (g.W.Sink.taken c.args.out.now) (g.W.Sink.taken c.filter_line.new.out) err err' e c.in-Ok.ensures.line
    (stays-line answers name line c.in-Ok.tally left e c.in-Ok.ensures.tally c.stays_by-stays.ensures)
    (subst (λ (b : Bool). PutsFront err err' [] (said_if b answers name)) asked c.in-Err-say_why.ensures.err)
