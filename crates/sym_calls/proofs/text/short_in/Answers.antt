use Rattle.sym_calls.proofs.Basics.{true, false, short_answers, EndsAs, name_or_type_told}
use Rattle.sym_calls.proofs.Ending.{by-legacy}
use Rattle.sym_calls.proofs.text.short_in.Goals as goal

pub returns-then-asked : goal.returns-then-asked
returns-then-asked g c =
    by-legacy (λ answers found. EndsAs (name_or_type_told (short_answers c.args.keeps_inline c.args.asked.legacy answers) c.args.asked c.args.name.now c.args.buffer.now) c.args.buffer.now found) g.C.Mangling.mangled c.args.asked true c.args.limit _ _ _
    c.if-asked.true c.with_legacy.ensures.limit c.with_legacy.ensures.detail c.text_by.ensures

pub returns : goal.returns
returns g c =
    by-legacy (λ answers found. EndsAs (name_or_type_told (short_answers c.args.keeps_inline c.args.asked.legacy answers) c.args.asked c.args.name.now c.args.buffer.now) c.args.buffer.now found) g.C.Mangling.mangled c.args.asked false c.args.limit _ _ _
    c.if-asked.false c.languages.ensures.limit c.languages.ensures.detail c.text_by-2.ensures
