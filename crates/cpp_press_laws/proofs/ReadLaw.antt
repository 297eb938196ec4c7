-- Each tree that was read fits, so its pressed bytes are read as that tree.
use Rattle.cpp_press_laws.proofs.Basics.{◌≤◌, length, arith, pressed, spelled_components, PressedIsRead}
use Rattle.cpp_press_laws.proofs.EveryWay.Law.{fitting-symbol}
use Rattle.cpp_press_laws.proofs.Components.AddedTrees.{fitting-few, arguments-counted}
use Rattle.cpp_press_laws.proofs.ByKind.Shapes.{symbol-read-fits}

pub pressed-is-read : PressedIsRead
unfolding pressed spelled_components
pressed-is-read shape t from bound =
    let f = symbol-read-fits shape t from in
    let few : length (spelled_components t) ≤ length (pressed t) = fitting-few t f in
    fitting-symbol arguments-counted t f (record { short = bound; few = omega (arith, few, bound) })
