pub mod Arguments
pub mod Steps
pub mod Staying
pub mod Lambdas
pub mod Substituted
pub mod Tables
