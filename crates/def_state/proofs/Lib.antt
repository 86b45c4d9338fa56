-- Laws of the definitions.
pub mod Absent
pub mod Samples
