pub mod Limits
pub mod Refusing
pub mod Classes
pub mod Sums
pub mod Rounding
