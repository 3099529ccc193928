mod Sizes
mod Raising
mod Refusing
