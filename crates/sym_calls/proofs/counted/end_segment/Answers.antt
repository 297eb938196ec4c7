use Rattle.sym_calls.proofs.Basics.{◌≡◌, ◌++◌, ◌∙◌, List, [], ℕ, sym, ap, replicate, rest_after, rest_of-end, tally-end}
use Rattle.sym_filter.specs.Runs.{answers_at, written}
use Rattle.sym_calls.proofs.Kept.{Adds-as, Adds-join}
use Rattle.sym_calls.proofs.counted.end_segment.Goals as goal

pub returns-clause-ok : goal.returns-clause-ok
returns-clause-ok g c =
    let answers = g.D.Demangler.answer c.args.demangler.now in
    let words = c.args.words.now in
    let kept = c.args.kept.now in
    let word = written words.letters answers words.place words.held.items in
    let ended = c.in_ok-ended.ensures in
    let dots = replicate c.in_ok-ended.ended.dots 46 in
    let pushed : c.deref.result.now ≡ word = c.deref.ensures.value ∙ ended.text ∙ ap (λ (t : List ℕ). t ++ word) c.requires.nothing_waits in
    let whole : word ++ dots ≡ rest_after answers words [] = ap (λ (n : ℕ). word ++ replicate n 46) ended.dots ∙ sym (rest_of-end words.letters answers words.held.items words.dots words.past words.place words.is_held) in
    let added = Adds-as kept c.add.new.self c.deref.result.now word pushed c.in_ok-add.ensures in
    Adds-as kept c.add_dots.new.self (word ++ dots) (rest_after answers words []) whole (Adds-join kept c.add.new.self c.add_dots.new.self word dots added c.in_ok-add_dots.ensures)

pub returns-clause-counts : goal.returns-clause-counts
returns-clause-counts g c =
    let words = c.args.words.now in
    c.in_ok-ended.ensures.counts ∙ tally-end words.letters (answers_at words.letters (g.D.Demangler.answer c.args.demangler.now)) words.tally words.held.items words.dots words.past words.place words.is_held
