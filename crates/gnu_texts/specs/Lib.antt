pub mod Clones
pub mod Laws
pub mod Names
pub mod Pieces
pub mod Spelling
