-- Laws of the judgement: its width, what it reads, and that it accepts exactly the files that hold.
pub mod Same
pub mod Process
pub mod Width
pub mod Chain
pub mod Reading
pub mod Inversion
pub mod Exactly
