pub mod Lists
pub mod Marks
pub mod Places
pub mod Meant
pub mod Firsts
pub mod Picks
pub mod Sizes
