use Rattle.rust_press.proofs.PressApart.{components-apart}
use Rattle.rust_press.proofs.laws.components_are_apart.Goals as goal

pub returns : goal.returns
returns c = components-apart
