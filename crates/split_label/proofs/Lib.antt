-- Laws of the labels: an island's links as pairs of places.
pub mod Nodes
pub mod Walk
pub mod Forests
pub mod OneLink
pub mod Chain
pub mod Island
