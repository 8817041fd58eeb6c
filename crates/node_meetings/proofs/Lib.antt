pub mod Noting
pub mod Mutual
