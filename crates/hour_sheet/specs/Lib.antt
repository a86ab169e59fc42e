-- The sheet of an hour (02, request 4). The main contract: `write_sheet` leaves `written_sheet` of Sheet at the front
-- of the buffer. Read in this order. Writing stands for the contracts of functions inside this crate alone.
pub mod OutOfService
pub mod Sheet
pub mod Writing
