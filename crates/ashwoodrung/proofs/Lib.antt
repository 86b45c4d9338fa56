-- Laws of the exports' promises.
pub mod Agree
