pub mod LineRestored
pub mod RoundTrip
pub mod Room
pub mod NineBytes
pub mod EngineReads
pub mod Lines
