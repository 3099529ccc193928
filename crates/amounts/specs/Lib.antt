pub mod Treasury
pub mod Individual
pub mod Closing
