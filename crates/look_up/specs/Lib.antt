-- The look-up of one opening.
pub mod LookUp
