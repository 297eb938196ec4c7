-- What a reader reads fits: it can be spelled so that it is read again, wherever the reader's candidates are. `specs/Fits` says
-- what fits, and `Read` says when a tree that was read fits. The other files have the productions, by sorts: if the parts of a
-- tree fit, so does the tree, wherever its rule may be. `ByKind` uses these lemmas production by production.
pub mod Packs
pub mod FunctionsStand
pub mod Read
pub mod Types
pub mod Lists
pub mod References
pub mod Arguments
pub mod Solids
pub mod Names
pub mod Templates
pub mod Nests
pub mod Pieces
pub mod Encodings
pub mod Symbols
pub mod Locals
pub mod Sorts
pub mod Typed
pub mod Rests
pub mod Firsts
pub mod Own
pub mod Places
