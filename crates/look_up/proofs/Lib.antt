-- Laws of the look-up, and that it finds the openings of an accepted proof.
pub mod LookUpLaws
pub mod LookedUp
