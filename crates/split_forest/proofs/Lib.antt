-- Laws of the forest: walks to a root, sizes, groups and labels, joining, hanging a place under its root.
pub mod Cases
pub mod Paths
pub mod Labels
pub mod Tallies
pub mod Climb
pub mod Grow
pub mod SameRoots
pub mod Fresh
pub mod Merge
pub mod Largest
pub mod Counts
pub mod Leaders
