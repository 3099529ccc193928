pub mod Holders
pub mod Rows
pub mod Loss
pub mod Promises
pub mod Pledging
