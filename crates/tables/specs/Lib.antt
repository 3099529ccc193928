pub mod Book
pub mod Writing
