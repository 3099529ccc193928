pub mod Days
pub mod Reading
pub mod Seen
pub mod Outcome
