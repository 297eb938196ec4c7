use Rattle.cpp_press_laws.proofs.Components.Apart.{components-apart, components-marked}
use Rattle.cpp_press_laws.proofs.laws.components_are_apart.Goals as goal

pub returns-clause-marked : goal.returns-clause-marked
returns-clause-marked c = components-marked

pub returns-clause-apart : goal.returns-clause-apart
returns-clause-apart c = components-apart
