-- Laws of the domain's points and indices.
pub mod DomainLaws
pub mod Index
