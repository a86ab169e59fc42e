-- The lines that the level printer prints, by their fields. The main contracts: `put_header` makes `header_line` of
-- Line, `put_level` puts `level_line`, `put_refusal` makes `refusal_line`. Room stands for contracts only.
pub mod Decimal
pub mod Line
pub mod Room
