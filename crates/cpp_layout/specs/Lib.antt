pub mod TextLists
pub mod Texts
pub mod Layout
pub mod Operations
pub mod Pointers
