use Rattle.cpp_direct.proofs.ForAnswers.{sym, ◌∙◌}
use Rattle.cpp_direct.proofs.direct.Direct.ends_as_integer.Goals as goal

pub returns : goal.returns
returns c = λ e. record {
  int = rw c.as_slice.ensures at (sym c.ends_with.ensures.value ∙ c.if-ends_with.false);
  blank_int = rw c.as_slice-2.ensures at (sym c.ends_with-2.ensures.value ∙ c.if-ends_with-2.false);
  long = rw c.as_slice-3.ensures at (sym c.ends_with-3.ensures.value ∙ c.if-ends_with-3.false);
  blank_long = rw c.as_slice-4.ensures at (sym c.ends_with-4.ensures.value ∙ c.if-ends_with-4.false);
}
