use Rattle.sym_calls.proofs.Basics.{sym, ◌∙◌, named}
use Rattle.sym_calls.proofs.Typed.{symbol-told, type-told}
use Rattle.sym_calls.proofs.text.or_type.Goals as goal

pub returns-then-reads_type : goal.returns-then-reads_type
returns-then-reads_type g c = λ before given.
    type-told c.args.asked.types (g.D.Demangler.answer c.args.demangler.now) (named c.args.asked.underscore c.args.name.now) c.args.name.now before c.args.buffer.now c.args.outcome _
    (sym c.reads_type.ensures ∙ c.if-reads_type.true) given c.type_by.ensures

pub returns : goal.returns
returns g c = λ before given.
    symbol-told c.args.asked.types (g.D.Demangler.answer c.args.demangler.now) (named c.args.asked.underscore c.args.name.now) c.args.name.now before c.args.buffer.now c.args.outcome
    (sym c.reads_type.ensures ∙ c.if-reads_type.false) given
