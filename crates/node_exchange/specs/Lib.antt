pub mod Faults
pub mod Later
pub mod LaterLaws
pub mod Streams
pub mod Hearing
pub mod Talks
