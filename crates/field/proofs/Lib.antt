-- The laws of the field. Other crates cite `Laws`, `Inverse` and `Subgroup`.
pub mod Powers
pub mod Reduction
pub mod Laws
pub mod Squares
pub mod Order
pub mod Pigeonhole
pub mod Inverse
pub mod Subgroup
pub mod Ring
