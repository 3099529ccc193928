pub mod Numerals
pub mod Texts
pub mod Cuts
pub mod Laying
