pub mod HandIn
