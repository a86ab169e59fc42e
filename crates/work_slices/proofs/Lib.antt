-- The places of the slices, and what turns done place by place leave there.
pub mod Places
pub mod Turns
