-- The family of a node is that of its gate's kind over the families of the nodes that its links name.
use Prim.Native.Nat.{ℕ, zero, suc, ◌<◌}
use mathlib.Core.Path.{◌≡◌, refl, ap}
use mathlib.Core.List.{◌∷◌}
use Rattle.theory.specs.FaultTree.{Tree, basic}
use Rattle.theory.specs.NodeTable.{Node, event, joint, Table, inputs, build, tree_of, Ranked}
use Rattle.theory.specs.MinimalCutSets.{Family}
use Rattle.theory.specs.CutSetFamily.{gate_family, family, families, linked_families}
use Rattle.theory.proofs.TreeOf.{tree_unfolds}

-- a node's family by those of its links
abbrev pub family_by_links : (ℕ → Family) → Node → Family
family_by_links f (event e) = family (basic e)
family_by_links f (joint k a n) = gate_family k (linked_families f a (suc n))

-- the families of a gate's inputs are those of its links
inputs_families : (tree : ℕ → Tree) (link : ℕ → ℕ) (a n : ℕ) →
    families (inputs tree link a n) ≡ linked_families (λ j. family (tree (link j))) a (suc n)
inputs_families tree link a zero = refl
inputs_families tree link a (suc n) = ap (λ fs. family (tree (link a)) ∷ fs) (inputs_families tree link (suc a) n)

-- the family of a node that is built from trees
build_family : (tree : ℕ → Tree) (link : ℕ → ℕ) (node : Node) →
    family (build tree link node) ≡ family_by_links (λ j. family (tree (link j))) node
build_family tree link (event e) = refl
build_family tree link (joint k a n) = ap (gate_family k) (inputs_families tree link a n)

-- the family of a node of a table
pub node_family : (table : Table) (rank : ℕ → ℕ) (ranked : Ranked table rank) (i : ℕ) → i < table.size →
    family (tree_of table i) ≡ family_by_links (λ j. family (tree_of table (table.link j))) (table.node i)
node_family table rank ranked i l =
    rw (tree_unfolds table rank ranked i l) (build_family (tree_of table) table.link (table.node i))
