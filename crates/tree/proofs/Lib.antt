-- A tree in lent bytes: the loops' turns, its rows' size, its rows, and the path of a leaf.
pub mod TreeLaws
pub mod Size
pub mod Rows
pub mod Path
