-- The tree of a node is built from the trees that its links name, wherever links lead to a lower rank. Nothing else
-- opens `tree_of`.
use Prim.Native.Nat.{ℕ, zero, suc, ◌+◌, ◌≤◌, ◌<◌}
use mathlib.Core.Path.{◌≡◌, refl, ap, ap₂}
use native.Mathlib.Omega.{arith}
use Rattle.theory.specs.FaultTree.{Tree, gate, only, more}
use Rattle.theory.specs.NodeTable.{Node, event, joint, Table, inputs, build, grown, tree_of, HasLink, Ranked}

-- a gate's inputs are the same where the trees that its links name are the same
pub inputs_agree : (s t : ℕ → Tree) (link : ℕ → ℕ) (a n : ℕ) →
    ((j : ℕ) → a ≤ j → j ≤ a + n → s (link j) ≡ t (link j)) → inputs s link a n ≡ inputs t link a n
inputs_agree s t link a zero h = ap only (h a (omega arith) (omega arith))
inputs_agree s t link a (suc n) h = ap₂ more (h a (omega arith) (omega arith))
    (inputs_agree s t link (suc a) n (λ j l u. h j (omega arith) (omega arith)))

-- so is the tree of a node
pub build_agrees : (s t : ℕ → Tree) (link : ℕ → ℕ) (node : Node) →
    ((j : ℕ) → HasLink node j → s (link j) ≡ t (link j)) → build s link node ≡ build t link node
build_agrees s t link (event e) h = refl
build_agrees s t link (joint k a n) h = ap (gate k) (inputs_agree s t link a n (λ j l u. h j (l, u)))

module _ (table : Table) (rank : ℕ → ℕ) (ranked : Ranked table rank) where
  -- more levels than the rank of a node make no difference to its tree
  pub grown_enough : (f g i : ℕ) → i < table.size → rank i < f → rank i < g → grown table f i ≡ grown table g i
  grown_enough zero g i l p q = absurd (omega arith)
  grown_enough (suc f) zero i l p q = absurd (omega arith)
  grown_enough (suc f) (suc g) i l p q = build_agrees (grown table f) (grown table g) table.link (table.node i)
      (λ j o. grown_enough f g (table.link j) (ranked.link_inside i j l o)
      (omega (arith, ranked.rank_falls i j l o)) (omega (arith, ranked.rank_falls i j l o)))

  -- the tree of a node is built from the trees that its links name
  pub tree_unfolds : (i : ℕ) → i < table.size →
      tree_of table i ≡ build (tree_of table) table.link (table.node i)
  unfolding tree_of
  tree_unfolds i l = grown_enough table.size (suc table.size) i l (ranked.rank_below i l)
      (omega (arith, ranked.rank_below i l))
