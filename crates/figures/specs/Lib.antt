pub mod Headings
pub mod Accounts
pub mod Strikes
