pub mod Days
pub mod Entries
