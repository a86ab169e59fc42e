-- What setting a store's length leaves.
pub mod Resized
