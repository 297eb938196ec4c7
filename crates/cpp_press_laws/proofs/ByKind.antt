-- What is known of what was read, for each kind of the grammar's table. `Known` says what is known of a kind, and how the parts
-- of a production give the whole; `Rules` takes a shape apart. The other files have the productions of the kinds, beginning
-- with the leaves; each follows from the lemma of `Fits` about its tree. `Shapes` is the induction over all shapes: what was read
-- as a kind fits as that kind. If a kind has several productions, clauses name the one that was read (`one-read`): a new
-- production of a kind takes one more clause, wherever it is in the grammar.
pub mod Rules
pub mod Leaves
pub mod Packs
pub mod LeafKinds
pub mod LeafBranches
pub mod Pieces
pub mod PieceKinds
pub mod Arguments
pub mod AbiTrees
pub mod Steps
pub mod Known
pub mod Pieced
pub mod Encodings
pub mod Entities
pub mod Types
pub mod Solids
pub mod References
pub mod Empty
pub mod Root
pub mod Nests
pub mod Names
pub mod Shapes
