-- Laws that the proofs share.
pub mod TranscriptLaws
pub mod Even
