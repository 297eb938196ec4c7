-- Each production is read back from its parts: what pressing writes for a tree is read as that tree, if what it writes for
-- each part is read as that part. `Reading` says what this means, and has the step that all other files use. `Tokens` reads
-- names and numbers. The other files go by sorts, from types and names to encodings and whole symbols. Nothing here depends on
-- how a part was spelled; `EveryWay` deals with the spellings, production by production.
pub mod Tokens
pub mod Reading
pub mod References
pub mod Types
pub mod Solids
pub mod Functions
pub mod Arguments
pub mod Literals
pub mod Names
pub mod Nests
pub mod Encodings
pub mod Symbols
pub mod Pieces
pub mod Locals
pub mod Slots
pub mod Named
pub mod Between
pub mod Templates
