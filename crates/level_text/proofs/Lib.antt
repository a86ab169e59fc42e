-- A number's digits, and that they mean the number.
pub mod Digits
pub mod Decimals
