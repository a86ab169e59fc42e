-- Counting at a node: what is right stays right where a count is written to its place, and what is counted at the end.
use Rattle.std.proofs.Common.{ℕ, ◌<◌, ◌≡◌, ◌∙◌, List, length, set, arith, get_or-set_other, get_or-set_same}
use native.Mathlib.Decide.{ℕ_discrete}
use Rattle.tree_file.specs.Format.{link}
use Rattle.tree_file.specs.NodeTable.{table_of}
use Rattle.theory.specs.NodeTable.{Owns}
use Rattle.node_sets.specs.Requirements.{Beneath, itself, through, Countable, CountedBeneath, RightAt, RightBeneath}
use Rattle.node_sets.specs.Requirements.{node_sets}

-- the counts of node i's inputs are right, and what was right before still is
module _ {tree : List ℕ} {i : ℕ} {before : List ℕ} (counts : List ℕ) (asked : Countable tree i before)
    (same : length counts ≡ length before)
    (right : (j : ℕ) → Owns (table_of tree) i j → RightBeneath tree counts (link tree j))
    (kept : (m : ℕ) → RightAt tree before m → RightAt tree counts m) (count : ℕ)
    (own : count ≡ (node_sets tree i).count) where
  place : i < length counts
  place = omega (arith, asked.small.inside, asked.long)

  -- they are where the node's own count is written
  still : (m : ℕ) → RightAt tree counts m → RightAt tree (set counts i count) m
  still m h = go (ℕ_discrete m i)
    where
      go : Dec (m ≡ i) → RightAt tree (set counts i count) m
      go (yes e) = rw e (get_or-set_same counts i count 0 place ∙ own)
      go (no d) = get_or-set_other counts i m count 0 d ∙ h

  pub counted : CountedBeneath tree i before (set counts i count)
  counted = record { right = λ m b. beneath m b; kept = λ m h. still m (kept m h) }
    where
      beneath : (m : ℕ) → Beneath tree i m → RightAt tree (set counts i count) m
      beneath m itself = get_or-set_same counts i count 0 place ∙ own
      beneath m (through j o b) = still m (right j o m b)
