pub mod Listing
pub mod Bounding
mod Gathering
mod Judging
mod Settling
mod Someone
mod Telling
