-- The levels at which a sheet is cut.
use Rattle.std.specs.Prelude.{ℕ, ◌≤◌}

-- The most levels that a cut is asked at.
abbrev pub max_levels : ℕ
max_levels = 1000

-- Level k of n: n is 1 to 1,000, k at most n.
pub record IsLevel (k n : ℕ) : Type 0 where
  pub n_positive : 1 ≤ n
  pub n_bounded : n ≤ max_levels
  pub k_n : k ≤ n
