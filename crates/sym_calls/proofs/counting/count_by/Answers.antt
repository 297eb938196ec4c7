use Rattle.sym_calls.proofs.Basics.{[], ap, ending_of}
use Rattle.sym_calls.proofs.Ending.{no-lists-count, read-counts, refusal-counts}
use Rattle.sym_calls.proofs.counting.count_by.Goals as goal

-- there is no memory for lists
pub returns-in-Err : goal.returns-in-Err
returns-in-Err g c =
    no-lists-count (g.D.Demangler.answer c.args.demangler.now c.args.kind c.args.symbol.now) (g.D.Demangler.are_counts c.args.demangler.now c.args.kind.lang c.args.symbol.now)
    c.args.kind.skip c.args.counts.now _ (ap (λ o. ending_of o []) c.no_memory.ensures)

pub returns-in-Text : goal.returns-in-Text
returns-in-Text g c =
    read-counts (g.D.Demangler.answer c.args.demangler.now c.args.kind c.args.symbol.now) (g.D.Demangler.are_counts c.args.demangler.now c.args.kind.lang c.args.symbol.now)
    c.args.kind.skip c.args.counts.now c.put.new.counts c.in-Text.read _ c.put.ensures.ending c.put.ensures.counts c.in-Text.ensures.0

pub returns-in-TooLong : goal.returns-in-TooLong
returns-in-TooLong g c =
    read-counts (g.D.Demangler.answer c.args.demangler.now c.args.kind c.args.symbol.now) (g.D.Demangler.are_counts c.args.demangler.now c.args.kind.lang c.args.symbol.now)
    c.args.kind.skip c.args.counts.now c.put-in-TooLong.new.counts c.in-TooLong.read _ c.put-in-TooLong.ensures.ending c.put-in-TooLong.ensures.counts c.in-TooLong.ensures.0

-- the symbol isn't read
pub returns : goal.returns
returns g c =
    refusal-counts c.in-Refused.refusal (g.D.Demangler.answer c.args.demangler.now c.args.kind c.args.symbol.now) (g.D.Demangler.are_counts c.args.demangler.now c.args.kind.lang c.args.symbol.now)
    c.args.kind.skip c.args.counts.now _ c.in-Refused.ensures.0 c.of_refusal.ensures
