-- Laws of the walks.
pub mod Back
pub mod Goal
pub mod Contacts
pub mod Joints
pub mod Bodies
