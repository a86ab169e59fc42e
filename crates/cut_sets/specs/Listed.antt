-- What listing leaves in the lent slice: every minimal cut set once and no other set, in whatever order, and the rest
-- as it was.
use Rattle.std.specs.Prelude.{ℕ, ◌≤◌, ◌≡◌, List, length, get_or, drop, Result, Ok, Err}
use Rattle.theory.specs.MinimalCutSets.{Family, Enumerates}
use Rattle.node_sets.specs.Numbers.{members}
use Rattle.refusals.specs.declared.refusal.Refusal.{Refusal}
use Rattle.cut_sets.specs.Judged.{root_tree}

-- The sets that the first places hold. They lie within the slice (`room`), so the default 0 is never read.
abbrev pub listed : ℕ → List ℕ → Family
listed count places = record { count = count; set = λ r. members (get_or places r 0) }

pub record Listed (tree : List ℕ) (count : ℕ) (before after : List ℕ) : Type 0 where
  -- each place below the count holds a minimal cut set of the root, every one of them stands at some place, and no two
  -- places hold the same
  pub sets : Enumerates (root_tree tree) (listed count after)
  -- every place from the count on is as it was
  pub rest : drop count after ≡ drop count before
  pub room : count ≤ length before
  pub length_kept : length after ≡ length before

-- The slice after: listed, or as it was where the call is refused.
abbrev pub SetsLeft : Result ℕ Refusal → List ℕ → List ℕ → List ℕ → Type 0
SetsLeft (Ok n) tree before after = Listed tree n before after
SetsLeft (Err r) tree before after = after ≡ before
