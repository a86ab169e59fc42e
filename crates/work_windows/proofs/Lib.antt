-- The reply, and that it is no refusal once the sheet is written.
pub mod Reply
pub mod NeverRefused
