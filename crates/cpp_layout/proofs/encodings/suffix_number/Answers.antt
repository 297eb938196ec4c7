use Rattle.cpp_layout.proofs.Suffixes.{suffix-number, suffix-length}
use Rattle.cpp_layout.proofs.encodings.suffix_number.Goals as goal

pub returns-clause-text : goal.returns-clause-text
returns-clause-text c = suffix-number c.args.qualifiers c.args.mark c.shown_mark.result c.args.noexcept c.number.result c.number-2.result c.bit.result c.shown_mark.ensures c.number.ensures.is c.number-2.ensures.is c.bit.ensures.is

pub returns-clause-some : goal.returns-clause-some
returns-clause-some c = suffix-length c.args.qualifiers c.args.mark c.shown_mark.result c.args.noexcept c.number.result c.number-2.result c.bit.result c.shown_mark.ensures c.number.ensures.is c.number-2.ensures.is c.bit.ensures.is
