pub mod Charging
mod Staking
mod LossBooks
mod Bearing
