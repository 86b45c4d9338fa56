-- Histories of calls, what is RecordedAfter along them, and the four sentences of demand 3; and two promises for the users.
pub mod History
pub mod Ties
pub mod Clean
pub mod Demand
pub mod Promises
pub mod Written
