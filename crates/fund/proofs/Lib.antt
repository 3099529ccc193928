mod Keeping
mod Staying
