use Rattle.sym_filter.proofs.Basics.{◌+◌, ◌≤◌, ◌∙◌, ap, sym, arith, drop, length, length-drop, from_mark}
use Rattle.sym_filter.proofs.NameLemmas.{before_name, byte_before, name_there, no_name}
use Rattle.sym_filter.proofs.WordLemmas.{slice_from}
use Rattle.sym_filter.proofs.marks.mark_behind.Goals as goal

pub bytes-preserved : goal.bytes-preserved
bytes-preserved c =
    let word = c.args.word.now in
    let at = c.bytes.at in record {
      within = omega (arith, c.bytes-test.true);
      from = c.bytes.invariant.from ∙ byte_before c.bytes.place word at c.front_length.result c.is_mark.result c.bytes-test.true c.front_length.ensures.length c.is_mark.ensures c.if-is_mark.false
          ∙ ap (λ p. from_mark p (drop (at + 1) word)) (sym c.after-place.ensures);
    }

pub returns-then-is_mark : goal.returns-then-is_mark
returns-then-is_mark c =
    let word = c.args.word.now in
    let at = c.bytes.at + c.front_length.result in
    let from = c.bytes.invariant.from ∙ name_there c.bytes.place word c.bytes.at c.front_length.result c.is_mark.result c.bytes-test.true c.front_length.ensures.length c.is_mark.ensures c.if-is_mark.true in
    let within : at ≤ length word = omega (arith, c.front_length.ensures.within, c.bytes-test.true, ap length (slice_from word c.bytes.at), length-drop c.bytes.at word) in record {
      within = within;
      before = before_name c.args.place word at within from;
      from = from;
    }

pub returns : goal.returns
returns c =
    let word = c.args.word.now in
    let from = c.bytes.invariant.from ∙ no_name c.bytes.place word c.bytes.at c.bytes-test.false in record {
      within = c.bytes.invariant.within;
      before = before_name c.args.place word c.bytes.at c.bytes.invariant.within from;
      from = from;
    }
