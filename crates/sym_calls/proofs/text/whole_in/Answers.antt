use Rattle.sym_calls.proofs.Basics.{true, false, EndsAs, name_or_type_told}
use Rattle.sym_calls.proofs.Ending.{by-legacy}
use Rattle.sym_calls.proofs.text.whole_in.Goals as goal

pub returns-then-asked : goal.returns-then-asked
returns-then-asked g c =
    by-legacy (λ answers found. EndsAs (name_or_type_told answers c.args.asked c.args.name.now c.args.buffer.now) c.args.buffer.now found) g.C.Mangling.mangled c.args.asked true c.args.limit _ _ _
    c.if-asked.true c.with_legacy-legacy.ensures.limit c.with_legacy-legacy.ensures.detail (c.or_type.ensures c.args.buffer.now c.legacy_once-outcome.ensures)

pub returns : goal.returns
returns g c =
    by-legacy (λ answers found. EndsAs (name_or_type_told answers c.args.asked c.args.name.now c.args.buffer.now) c.args.buffer.now found) g.C.Mangling.mangled c.args.asked false c.args.limit _ _ _
    c.if-asked.false c.languages-languages.ensures.limit c.languages-languages.ensures.detail (c.or_type-2.ensures c.args.buffer.now c.name_once-outcome.ensures)
