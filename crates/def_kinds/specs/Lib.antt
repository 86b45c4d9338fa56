-- Definitions that the contracts cite.
pub mod Answers
pub mod Choice
pub mod Number
