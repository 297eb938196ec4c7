-- What is spelled out, and what comes before it: the lists of components that pressing builds. Components are apart (`Apart`, an
-- induction over the ways of each tree, with `Growing` and `Sameness`), and earlier ones are kept (`Keeping`). Pressing a tree
-- adds no component if all of its components are listed already (`Known`, `KnownTrees`, `NoneAdded`). A tree that fits adds its
-- own components, at most one for each byte, and has at least a byte for each argument that it ends in (`AddedWays`,
-- `AddedNames`, `AddedTrees`, with `Parts`, `Encodings`, `Lengths`, `Complete` and `Again`). There are at most as many
-- components as a reader's candidates (`FewPressed`), which `Complete` compares with them. A component that is spelled again has
-- a reason (`Repeated`).
pub mod Sameness
pub mod Growing
pub mod Apart
pub mod Repeated
pub mod Parts
pub mod Encodings
pub mod Known
pub mod KnownTrees
pub mod Complete
pub mod NoneAdded
pub mod AddedWays
pub mod AddedNames
pub mod AddedTrees
pub mod Again
pub mod Keeping
pub mod Lengths
pub mod FewPressed
