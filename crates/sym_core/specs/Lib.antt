pub mod Fronts
pub mod Number
pub mod Value
pub mod Token
pub mod Scan
pub mod Printed
