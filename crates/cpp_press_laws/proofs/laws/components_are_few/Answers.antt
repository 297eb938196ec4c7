use Rattle.cpp_press_laws.proofs.Components.FewPressed.{components-few}
use Rattle.cpp_press_laws.proofs.laws.components_are_few.Goals as goal

pub returns : goal.returns
returns c = components-few
