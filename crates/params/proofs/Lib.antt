-- Laws of parameters and lengths.
pub mod ParameterLaws
pub mod AdmissionLaws
pub mod LeafLaws
