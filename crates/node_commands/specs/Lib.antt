pub mod Faults
pub mod Puts
pub mod Texts
pub mod Works
