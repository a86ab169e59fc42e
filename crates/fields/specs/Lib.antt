-- Unsigned numbers in the bytes of a file, low byte first. The main contracts: `fields::byte_at` answers `byte`,
-- `field16_at` answers `field16`, `field24_at` answers `field24`, `field32_at` answers `field32`. The other way about,
-- the bytes of a number: `write::three_bytes` answers `bytes24` and `four_bytes` answers `bytes32`. `joined` and
-- `with_parts` are parts of a file. `Is16` stands for contracts only.
pub mod Fields
