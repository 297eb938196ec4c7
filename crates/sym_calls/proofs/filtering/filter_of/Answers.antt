use Rattle.sym_calls.proofs.Basics.{true, false, sym, ◌∙◌, filtered_at, tally_at, EndsAs, Tallied, written}
use Rattle.sym_calls.proofs.Ending.{by-width, filter-asked, tally-asked}
use Rattle.sym_calls.proofs.filtering.filter_of.Goals as goal

pub returns-then-asked-clause-ending : goal.returns-then-asked-clause-ending
returns-then-asked-clause-ending c =
    filter-asked _ c.in-Some.asked c.args.limit c.args.text.now c.args.buffer.now _ (sym c.asked_of.ensures ∙ c.in-Some.is)
    (by-width (λ answers found. EndsAs (written (filtered_at c.in-Some.asked.letters answers c.args.text.now) c.args.buffer.now) c.args.buffer.now found) c.in-Some.asked true c.args.limit _ c.if-asked.true c.filter_in.ensures.ending)

pub returns-then-asked-clause-tally : goal.returns-then-asked-clause-tally
returns-then-asked-clause-tally c =
    tally-asked _ c.in-Some.asked c.args.limit c.args.text.now c.args.tally.now c.filter_in.new.tally c.filter_in.result.status (sym c.asked_of.ensures ∙ c.in-Some.is)
    (by-width (λ answers tally. Tallied (tally_at c.in-Some.asked.letters answers c.args.text.now) c.args.tally.now tally c.filter_in.result.status) c.in-Some.asked true c.args.limit c.filter_in.new.tally c.if-asked.true c.filter_in.ensures.tally)

pub returns-clause-ending : goal.returns-clause-ending
returns-clause-ending c =
    filter-asked _ c.in-Some.asked c.args.limit c.args.text.now c.args.buffer.now _ (sym c.asked_of.ensures ∙ c.in-Some.is)
    (by-width (λ answers found. EndsAs (written (filtered_at c.in-Some.asked.letters answers c.args.text.now) c.args.buffer.now) c.args.buffer.now found) c.in-Some.asked false c.args.limit _ c.if-asked.false c.filter_in-2.ensures.ending)

pub returns-clause-tally : goal.returns-clause-tally
returns-clause-tally c =
    tally-asked _ c.in-Some.asked c.args.limit c.args.text.now c.args.tally.now c.filter_in-2.new.tally c.filter_in-2.result.status (sym c.asked_of.ensures ∙ c.in-Some.is)
    (by-width (λ answers tally. Tallied (tally_at c.in-Some.asked.letters answers c.args.text.now) c.args.tally.now tally c.filter_in-2.result.status) c.in-Some.asked false c.args.limit c.filter_in-2.new.tally c.if-asked.false c.filter_in-2.ensures.tally)
