-- The parts of the buffers that each call is given, and what the calls leave.
pub mod LayerLaws
pub mod StepLaws
pub mod QueryLaws
