pub mod OneMember
pub mod Bounding
pub mod Sums
