-- Laws of one element that goes.
pub mod Shift
pub mod Contact
pub mod Joint
pub mod Body
pub mod Number
pub mod Node
