-- The library's version as one number, which rises with it: 65,536 × major + 256 × minor + patch.
use Rattle.std.specs.Prelude.{ℕ, ◌+◌, ◌*◌}

-- Version 0.7.0: NEKBROD_VERSION of include/nekbrod.h.
abbrev pub version : ℕ
version = 65536 * 0 + 256 * 7 + 0
