-- Laws that the proofs share.
pub mod Move
pub mod Words
