use Rattle.sym_calls.proofs.Basics.{◌≡◌, ◌++◌, [], true, false, take, not-false, not-true, rest_after, TakesText-part, TakesText-end, IsRead-as}
use Rattle.sym_calls.proofs.Kept.{Adds-join}
use Rattle.sym_calls.proofs.counted.take_segment.Goals as goal

pub returns-then-not-segment-clause-ok : goal.returns-then-not-segment-clause-ok
returns-then-not-segment-clause-ok g c =
    let answers = g.D.Demangler.answer c.args.demangler.now in
    let segment = c.first_segment-segment.result in
    let part = take segment.length c.args.text.now in
    let goes_on : segment.ends ≡ false = not-true segment.ends c.if-not-segment.true in
    let read = IsRead-as segment.ends false c.letters.result c.args.words.now.letters c.args.escape.now segment.escape part goes_on c.letters.ensures c.first_segment-segment.ensures.read in
    let took = c.in_ok-take_words.ensures.ok in
    (took.0, TakesText-part answers c.args.words.now c.take_words.new.words c.args.escape.now segment.escape part took.0 took.1 read, took.2)

pub returns-clause-ok : goal.returns-clause-ok
returns-clause-ok g c =
    let answers = g.D.Demangler.answer c.args.demangler.now in
    let segment = c.first_segment-segment.result in
    let part = take segment.length c.args.text.now in
    let ends : segment.ends ≡ true = not-false segment.ends c.if-not-segment.false in
    let read = IsRead-as segment.ends true c.letters.result c.args.words.now.letters c.args.escape.now segment.escape part ends c.letters.ensures c.first_segment-segment.ensures.read in
    let took = c.in_ok-take_words.ensures.ok in
    let ended = c.in_ok-end_segment.ensures in
    let rest = rest_after answers c.take_words.new.words [] in
    (took.0 ++ rest, TakesText-end answers c.args.words.now c.take_words.new.words c.end_segment.new.words c.args.escape.now segment.escape part took.0 took.1 read ended.letters ended.begins ended.counts, Adds-join c.args.kept.now c.take_words.new.kept c.end_segment.new.kept took.0 rest took.2 ended.ok)
