-- Laws of sleeping and waking.
pub mod Asleep
