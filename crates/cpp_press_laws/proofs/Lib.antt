pub mod Basics
mod Rows
pub mod Ways
pub mod Slots
pub mod Spots
pub mod Fitting
pub mod Components
pub mod Fits
pub mod ReadBack
pub mod PressLaw
pub mod EveryWay
pub mod ByKind
pub mod ReadLaw
pub mod Short
