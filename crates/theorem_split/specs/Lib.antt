-- The words in which the promises about islands are said.
pub mod Graph
pub mod Fine
pub mod Parted
pub mod Exact
