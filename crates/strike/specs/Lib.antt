pub mod Members
pub mod Rows
pub mod Strike
pub mod Promises
