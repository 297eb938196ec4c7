pub mod Compact
pub mod Nodes
pub mod Notes
pub mod Fields
pub mod Views
