pub mod Basics
pub mod Steps
pub mod Results
pub mod Cases
pub mod Lists
pub mod Standing
pub mod Opening
pub mod Closing
pub mod Stepping
pub mod Following
pub mod Taking
pub mod Starting
pub mod Driving
pub mod Passing
pub mod Room
pub mod Tally
mod Never
