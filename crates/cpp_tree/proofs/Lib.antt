pub mod Basics
pub mod Trees
mod Viewing
pub mod Pushed
pub mod Noting
pub mod Compacting
pub mod Rebuilding
pub mod FreeParameters
mod FieldRows
