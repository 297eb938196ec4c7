use Rattle.cpp_press_laws.proofs.Components.Repeated.{repeated-reasons}
use Rattle.cpp_press_laws.proofs.laws.repeated_components_have_reasons.Goals as goal

pub returns : goal.returns
returns c = repeated-reasons
