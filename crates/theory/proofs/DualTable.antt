-- A dual table: the tree of each node is the dual of its tree, and De Morgan's law of what is reported of the node.
use Prim.Native.Nat.{ℕ, zero, suc, ◌+◌, ◌≤◌, ◌<◌}
use native.Mathlib.Omega.{arith}
use mathlib.Core.Path.{◌≡◌, refl, ap, ap₂, ◌∙◌}
use Rattle.theory.specs.FaultTree.{Tree, gate, only, more}
use Rattle.theory.specs.Interval.{Interval}
use Rattle.theory.specs.Rounding.{Direction, opposite, end_complement, reported}
use Rattle.theory.specs.NodeTable.{Node, event, joint, Table, inputs, build, grown, tree_of, event_count}
use Rattle.theory.specs.NodeTable.{HasLink, Numbered, Ranked, LinkedOnce}
use Rattle.theory.specs.Dual.{dual_kind, dual, duals, dual_node, DualTable}
use Rattle.theory.proofs.NodePromised.{each_of_table}
use Rattle.theory.proofs.DeMorgan.{TurnedCut, dual_reported}

module _ (s t : ℕ → Tree) (new old : ℕ → ℕ) where
  -- a gate's inputs, where each link leads to the dual of a tree
  inputs_dual : (a n : ℕ) → ((j : ℕ) → a ≤ j → j ≤ a + n → s (new j) ≡ dual (t (old j)))
      → inputs s new a n ≡ duals (inputs t old a n)
  inputs_dual a zero h = ap only (h a (omega arith) (omega arith))
  inputs_dual a (suc n) h =
      ap₂ more (h a (omega arith) (omega arith)) (inputs_dual (suc a) n (λ j l u. h j (omega arith) (omega arith)))

  -- so is the tree of a node
  build_dual : (node : Node) → ((j : ℕ) → HasLink node j → s (new j) ≡ dual (t (old j)))
      → build s new (dual_node node) ≡ dual (build t old node)
  build_dual (event e) h = refl
  build_dual (joint k a n) h = ap (gate (dual_kind k)) (inputs_dual a n (λ j l u. h j (l, u)))

module _ (table : Table) (rank : ℕ → ℕ) (ranked : Ranked table rank) (other : Table)
    (turned : DualTable table other) where
  -- grown so many levels deep
  grown_dual : (depth i : ℕ) → i < table.size → grown other depth i ≡ dual (grown table depth i)
  grown_dual zero i l = refl
  grown_dual (suc depth) i l =
      rw (turned.each_dual i l)
      (build_dual (grown other depth) (grown table depth) other.link table.link (table.node i)
      (λ j o. rw (turned.same_link i j l o) (grown_dual depth (table.link j) (ranked.link_inside i j l o))))

  -- the tree of a node
  pub tree_of_dual : (i : ℕ) → i < table.size → tree_of other i ≡ dual (tree_of table i)
  unfolding tree_of
  tree_of_dual i l = ap (λ depth. grown other depth i) turned.same_size ∙ grown_dual table.size i l

  -- De Morgan's law of every node
  pub node_dual_reported : Numbered table → LinkedOnce table → (U : ℕ) → 0 < U → (w : Direction)
      (cuts others : ℕ → Interval) → ((e : ℕ) → e < event_count table → TurnedCut cuts others e) → (i : ℕ)
      → i < table.size
      → reported U w others (tree_of other i) ≡ end_complement U (reported U (opposite w) cuts (tree_of table i))
  node_dual_reported numbered once U positive w cuts others h i l =
      rw (tree_of_dual i l)
      (dual_reported U positive w cuts others (tree_of table i)
      (each_of_table table rank ranked numbered once _ h i l))
