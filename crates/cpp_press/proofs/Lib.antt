pub mod Basics
mod Open
mod Placing
mod NodesOfRead
mod Counting
mod Continuation
mod Telling
mod Numbered
