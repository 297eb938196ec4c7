use Rattle.sym_calls.proofs.Basics.{true, false, filtered_at, tally_at, answers_as, EndsAs, Tallied, written}
use Rattle.sym_calls.proofs.Ending.{by-legacy}
use Rattle.sym_calls.proofs.filtering.filter_in.Goals as goal

pub returns-then-asked-clause-ending : goal.returns-then-asked-clause-ending
returns-then-asked-clause-ending g c =
    by-legacy (λ answers found. EndsAs (written (filtered_at c.args.asked.letters (answers_as c.args.asked.texts c.args.asked.legacy answers) c.args.text.now) c.args.buffer.now) c.args.buffer.now found) g.C.Mangling.mangled c.args.asked true c.args.limit _ _ _
    c.if-asked.true c.with_legacy-legacy.ensures.limit c.with_legacy-legacy.ensures.detail c.filter_as.ensures.ending

pub returns-then-asked-clause-tally : goal.returns-then-asked-clause-tally
returns-then-asked-clause-tally g c =
    by-legacy (λ answers tally. Tallied (tally_at c.args.asked.letters (answers_as c.args.asked.texts c.args.asked.legacy answers) c.args.text.now) c.args.tally.now tally c.filter_as.result.status) g.C.Mangling.mangled c.args.asked true c.args.limit _ _ c.filter_as.new.tally
    c.if-asked.true c.with_legacy-legacy.ensures.limit c.with_legacy-legacy.ensures.detail c.filter_as.ensures.tally

pub returns-clause-ending : goal.returns-clause-ending
returns-clause-ending g c =
    by-legacy (λ answers found. EndsAs (written (filtered_at c.args.asked.letters (answers_as c.args.asked.texts c.args.asked.legacy answers) c.args.text.now) c.args.buffer.now) c.args.buffer.now found) g.C.Mangling.mangled c.args.asked false c.args.limit _ _ _
    c.if-asked.false c.languages-languages.ensures.limit c.languages-languages.ensures.detail c.filter_as-2.ensures.ending

pub returns-clause-tally : goal.returns-clause-tally
returns-clause-tally g c =
    by-legacy (λ answers tally. Tallied (tally_at c.args.asked.letters (answers_as c.args.asked.texts c.args.asked.legacy answers) c.args.text.now) c.args.tally.now tally c.filter_as-2.result.status) g.C.Mangling.mangled c.args.asked false c.args.limit _ _ c.filter_as-2.new.tally
    c.if-asked.false c.languages-languages.ensures.limit c.languages-languages.ensures.detail c.filter_as-2.ensures.tally
