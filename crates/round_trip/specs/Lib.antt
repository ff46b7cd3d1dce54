-- The round trip.
pub mod RoundTrip
