use Rattle.short_names.proofs.Basics.{◌∙◌, sym, ap, is_read_back, STD, STRING_LIST}
use lib.Pointwise.{bytes_decides}
use Rattle.short_names.proofs.StringLemmas.{place_is, string_row}
use Rattle.short_names.proofs.closing.is_string.Goals as goal

pub returns-in-Some : goal.returns-in-Some
returns-in-Some c = λ read. record {
  whole_is = place_is c.args.whole STD c.if-whole.false c.if-whole-2.false;
  row_is = c.if-row-ne-STRING_TEMPLATE.false;
  follows = (bytes_decides _ STRING_LIST).0 c.in-Some.ensures.cases.0;
  read_back = ap (λ t. is_read_back t string_row) (sym c.in-Some.ensures.cases.1) ∙ sym c.is_read_back.ensures ∙ read;
}
