mod Parsing
mod Placed
