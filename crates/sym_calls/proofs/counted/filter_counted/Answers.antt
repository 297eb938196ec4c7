use Rattle.sym_calls.proofs.Basics.{◌≡◌, ◌+◌, ◌-◌, ◌++◌, ◌∙◌, [], List, ℕ, take, drop, length, sym, ap, subst, arith, append-nil, take_all, length-drop, length-take, rest_of_text, tally_of_text, filtered_at, tally_at, rest_after, rest_of_text-end, rest_of_text-start, tally_of_text-end, tally_of_text-start, slice_from, next-text, next-counts, take-part}
use Rattle.sym_calls.proofs.Kept.{Holds-as}
use Rattle.sym_calls.proofs.counted.filter_counted.Goals as goal

pub loop-at-init : goal.loop-at-init
loop-at-init g c =
    let letters = c.args.letters in
    let answers = g.D.Demangler.answer c.args.demangler.now in
    let words = c.new-words.result in
    let begins = c.new-words.ensures in record {
      bytes = [];
      within = omega arith;
      holds = c.new-kept.ensures;
      nothing_waits = c.new-out.ensures.items;
      dots = omega (arith, begins.no_dots);
      rest = λ more. sym (rest_of_text-start letters answers words more begins.letters begins.holds_nothing begins.not_past begins.start);
      counts = λ more. tally_of_text-start letters answers words more begins.letters begins.holds_nothing begins.not_past begins.start begins.nothing_counted;
    }

pub loop-at-preserved : goal.loop-at-preserved
loop-at-preserved g c =
    let so_far = c.loop-at.invariant in
    let letters = c.args.letters in
    let answers = g.D.Demangler.answer c.args.demangler.now in
    let text = c.args.text.now in
    let at = c.loop-at.at in
    let rest = take (length text - at) (drop at text) in
    let count = c.in_ok-count.count in
    let took = c.in_ok-count.ensures in
    let old = rest_of_text answers c.loop-at.words c.loop-at.escape in
    let new = rest_of_text answers c.take_segment.new.words c.take_segment.new.escape in
    let old_counts = tally_of_text answers c.loop-at.words c.loop-at.escape in
    let new_counts = tally_of_text answers c.take_segment.new.words c.take_segment.new.escape in
    let bytes = so_far.bytes ++ took.ok.0 in
    let part : take (at + count) text ≡ take at text ++ take count rest = take-part text at count in record {
      bytes = bytes;
      within = omega (arith, so_far.within, took.within.1, ap length (slice_from text at), length-drop at text);
      holds = took.ok.2 c.args.most so_far.bytes so_far.holds;
      nothing_waits = took.nothing_waits;
      dots = omega (arith, so_far.dots, took.ok.1.dots, length-take count rest);
      rest = subst (λ (t : List ℕ). (more : List ℕ) → filtered_at letters answers (t ++ more) ≡ bytes ++ new more) (sym part) (next-text (filtered_at letters answers) old new (take at text) (take count rest) so_far.bytes took.ok.0 so_far.rest took.ok.1.text);
      counts = subst (λ (t : List ℕ). (more : List ℕ) → tally_at letters answers (t ++ more) ≡ new_counts more) (sym part) (next-counts (tally_at letters answers) old_counts new_counts (take at text) (take count rest) so_far.counts took.ok.1.counts);
    }

pub returns-clause-holds : goal.returns-clause-holds
returns-clause-holds g c =
    let so_far = c.loop-at.invariant in
    let letters = c.args.letters in
    let answers = g.D.Demangler.answer c.args.demangler.now in
    let text = c.args.text.now in
    let words = c.loop-at.words in
    let rest = rest_after answers words [] in
    let all : take c.loop-at.at text ≡ text = take_all c.loop-at.at text (omega arith) in
    let whole : so_far.bytes ++ rest ≡ filtered_at letters answers text = ap (λ (t : List ℕ). so_far.bytes ++ t) (sym (rest_of_text-end answers words c.loop-at.escape)) ∙ sym (so_far.rest []) ∙ ap (filtered_at letters answers) (append-nil (take c.loop-at.at text) ∙ all) in
    Holds-as c.end_segment.new.kept c.args.most (so_far.bytes ++ rest) (filtered_at letters answers text) whole (c.in_ok-end_segment.ensures.ok c.args.most so_far.bytes so_far.holds)

pub returns-clause-tally : goal.returns-clause-tally
returns-clause-tally g c =
    let so_far = c.loop-at.invariant in
    let letters = c.args.letters in
    let answers = g.D.Demangler.answer c.args.demangler.now in
    let text = c.args.text.now in
    let all : take c.loop-at.at text ≡ text = take_all c.loop-at.at text (omega arith) in
    c.tally.ensures ∙ c.in_ok-end_segment.ensures.counts ∙ sym (tally_of_text-end answers c.loop-at.words c.loop-at.escape) ∙ sym (so_far.counts []) ∙ ap (tally_at letters answers) (append-nil (take c.loop-at.at text) ∙ all)
