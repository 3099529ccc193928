pub mod Fields
pub mod Text
