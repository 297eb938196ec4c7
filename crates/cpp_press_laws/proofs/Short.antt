-- There are few pressed bytes for each byte of the symbol. `Size` is the number of bytes of a tree in which each component is
-- a reference. `Spelled` shows that a spelling takes no more, apart from the components that it spells out. Those take at
-- most eight times what they are `Worth` (`Slots`), and are worth at most as much as the reader's candidates (`StandAmong` of
-- `Components/Complete`). Each byte of the symbol pays eight for candidates and for what is read (`Gains`), production by
-- production (`Paid`; `ByRow`, where rows say what is paid; `Types`, `Lists`, `Names` and `Qualified`). `Every` joins these
-- by induction over shapes. This gives the factor 64 of `Law`.
pub mod Size
pub mod Spelled
pub mod Worth
pub mod Slots
pub mod Gains
pub mod Paid
pub mod ByRow
pub mod Types
pub mod Lists
pub mod Names
pub mod Qualified
pub mod Every
pub mod Law
