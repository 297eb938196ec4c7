use Rattle.std.proofs.Common.{sym}
use Rattle.sym_shape.proofs.Listed.{no_letter_before, no_letter_behind, no_letter_in, letter_in}
use Rattle.sym_shape.proofs.listing.letter_in.Goals as goal
use Rattle.sym_shape.proofs.listing.letter_in.Goals.{then-byte-lt-FIRST-via-then-byte-lt-FIRST, then-byte-lt-FIRST-via-else-byte-lt-FIRST+then-byte-gt-LAST}

pub returns-then-byte-lt-FIRST : goal.returns-then-byte-lt-FIRST
returns-then-byte-lt-FIRST c = elim c.then-byte-lt-FIRST.branch [
  | then-byte-lt-FIRST-via-then-byte-lt-FIRST w ↦ sym (no_letter_before c.args.row.now c.args.byte w.if-byte-lt-FIRST.true)
  | then-byte-lt-FIRST-via-else-byte-lt-FIRST+then-byte-gt-LAST w ↦ sym (no_letter_behind c.args.row.now c.args.byte c.told-row w.if-byte-gt-LAST.true)
]

pub returns-then-letter-eq-BLANK : goal.returns-then-letter-eq-BLANK
returns-then-letter-eq-BLANK c = sym (no_letter_in c.args.row.now c.args.byte 0 c.told-row c.if-byte-lt-FIRST.false c.if-byte-gt-LAST.false c.if-letter-eq-BLANK.true)

pub returns : goal.returns
returns c = sym (letter_in c.args.row.now c.args.byte 0 c.told-row c.if-byte-lt-FIRST.false c.if-byte-gt-LAST.false c.if-letter-eq-BLANK.false)
