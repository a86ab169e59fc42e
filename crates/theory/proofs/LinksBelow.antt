-- Tables whose links lead to lower nodes, as in the tree file of version 1 (01, "The tree file"): a node's rank is its
-- number, and the last node is the root.
use Prim.Native.Nat.{ℕ, suc, ◌<◌}
use mathlib.Core.Path.{◌≡◌}
use native.Mathlib.Omega.{arith}
use Rattle.theory.specs.NodeTable.{Table, link_count, Owns, Numbered, Ranked, LinkedOnce, OthersLinked}
use Rattle.theory.proofs.LinkedSums.{NotLinked}
use Rattle.theory.proofs.Counting.{Owner, gate_of}
use Rattle.theory.proofs.OneRoot.{others_linked}

-- every link of a gate names a node below the gate
abbrev pub LinksBelow : Table → Type 0
LinksBelow table = (i j : ℕ) → i < table.size → Owns table i j → table.link j < i

-- then a node's number serves as its rank
pub ranked_by_number : (table : Table) → LinksBelow table → Ranked table (λ i. i)
ranked_by_number table below = record {
  link_inside = λ i j l o. omega (arith, below i j l o);
  rank_falls = below;
  rank_below = λ i l. l;
}

module _ (table : Table) (below : LinksBelow table) where
  -- no link names the last node
  pub last_not_linked : Numbered table → (root : ℕ) → table.size ≡ suc root →
      NotLinked table.link (link_count table) root
  last_not_linked numbered root last j l q = go (gate_of table numbered j l)
    where
      go : Owner table table.size j → ⊥
      go (m, inside, owns) = omega (arith, below m j inside owns)

  -- with one link fewer than nodes the last node is the root
  pub last_is_root : Numbered table → LinkedOnce table → (root : ℕ) → table.size ≡ suc root →
      link_count table ≡ root → OthersLinked table root
  last_is_root numbered once root last links =
      others_linked table (λ i. i) (ranked_by_number table below) numbered once root (omega arith)
      (last_not_linked numbered root last) (omega arith)
