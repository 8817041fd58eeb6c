pub mod Statements
pub mod Inserting
pub mod Creating
pub mod Showing
pub mod Steps
pub mod Found
