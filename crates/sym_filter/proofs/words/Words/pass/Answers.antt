use Rattle.std.proofs.Common.{take, refl, arith}
use Rattle.sym_filter.proofs.EntryLemmas.{TakesEntries-past, past-ends-entries}
use Rattle.sym_filter.proofs.WordLemmas.{Takes-past, past-ends, held_of-past}
use Rattle.sym_filter.proofs.words.Words.pass.Goals as goal

pub returns-then-count-eq0-clause-takes : goal.returns-then-count-eq0-clause-takes
returns-then-count-eq0-clause-takes c = λ answers.
    let self = c.args.self.now in
    past-ends answers self _ c.args.text.now c.run_front-count.result refl c.requires.past refl refl (held_of-past self c.requires.past) c.requires.some c.if-count-eq0.true (c.run_front-count.ensures.stops (omega (arith, c.requires.some, c.if-count-eq0.true))) refl refl

pub returns-clause-takes : goal.returns-clause-takes
returns-clause-takes c = λ answers.
    let self = c.args.self.now in
    Takes-past answers self self (take c.run_front-count.result c.args.text.now) refl c.requires.past c.requires.past c.run_front-count.ensures.in_run refl refl

pub returns-then-count-eq0-clause-entries : goal.returns-then-count-eq0-clause-entries
returns-then-count-eq0-clause-entries c =
    let self = c.args.self.now in
    (refl, λ answers. past-ends-entries answers self _ c.args.text.now c.run_front-count.result refl c.requires.past refl refl (held_of-past self c.requires.past) c.requires.some c.if-count-eq0.true (c.run_front-count.ensures.stops (omega (arith, c.requires.some, c.if-count-eq0.true))))

pub returns-clause-entries : goal.returns-clause-entries
returns-clause-entries c =
    let self = c.args.self.now in
    (refl, λ answers. TakesEntries-past answers self self (take c.run_front-count.result c.args.text.now) refl c.requires.past c.requires.past c.run_front-count.ensures.in_run)
