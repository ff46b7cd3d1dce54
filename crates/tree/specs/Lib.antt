-- A Merkle tree in lent bytes.
pub mod Tree
