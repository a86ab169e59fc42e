-- The lent work slices as a record, what is stored in them and read of them, and turns that are done place by place.
pub mod Slices
