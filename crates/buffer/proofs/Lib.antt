-- What lent buffers hold, turn by turn.
pub mod BufferLaws
