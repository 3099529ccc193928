pub mod Adding
pub mod Dividing
mod Filling
