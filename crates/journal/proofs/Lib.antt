mod Fields
mod Reaching
