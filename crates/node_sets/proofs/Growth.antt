-- A gate's family input by input: with those of its first links, and one link more.
use Rattle.std.proofs.Common.{ℕ, zero, suc, ◌+◌, ◌-◌, ◌≤◌, ◌<◌, ◌≡◌, refl, sym, ap, List, [], ◌∷◌, ◌++◌, arith}
use Rattle.std.proofs.Common.{add-zero}
use native.Mathlib.Nat.{le_refl, le_trans, mul-le-mul}
use Rattle.theory.specs.FaultTree.{GateKind, all, any}
use Rattle.theory.specs.MinimalCutSets.{Family}
use Rattle.theory.specs.CutSetFamily.{gate_family}
use Rattle.theory.proofs.CutSetCount.{count_positive}
use Rattle.theory.proofs.FamilyGrowth.{alternatives_more_count, unions_more_count}
use Rattle.tree_file.specs.Format.{link}
use Rattle.tree_file.specs.NodeTable.{fault_tree, kind_as, read_node}
use Rattle.tree_file.specs.declared.node.Gate.{Gate as GateNode}
use Rattle.tree_file.specs.declared.node.Node.TheVariants.{Gate}
use Rattle.node_sets.specs.Requirements.{Small, joined_count, neutral_count, node_sets}
use Rattle.node_sets.proofs.LinkedSets.{last_linked, links_end, none_linked, sets_between}
use Rattle.node_sets.proofs.Families.{gate_sets}

-- the family of the inputs of the links before j
abbrev pub part_of : GateKind → List ℕ → ℕ → ℕ → Family
part_of k tree first j = gate_family k (sets_between tree first j)

-- a family's count with one input more
more_count : (k : GateKind) (fs : List Family) (f : Family)
    → (gate_family k (fs ++ (f ∷ []))).count ≡ joined_count k (gate_family k fs).count f.count
more_count all fs f = unions_more_count f fs
more_count any fs f = alternatives_more_count f fs

-- it is not less, where the input has a set
joined_more : (k : GateKind) (total count : ℕ) → 0 < count → total ≤ joined_count k total count
joined_more all total count l = omega (arith, mul-le-mul (le_refl total) l)
joined_more any total count l = omega arith

module _ (k : GateKind) (tree : List ℕ) (first : ℕ) where
  -- before the first link
  pub part_none : (part_of k tree first first).count ≡ neutral_count k
  part_none = ap (λ fs. (gate_family k fs).count) (none_linked tree first first (le_refl first))

  -- with one link more
  pub part_more : (j : ℕ) → first ≤ j → {total count : ℕ} → total ≡ (part_of k tree first j).count
      → count ≡ (node_sets tree (link tree j)).count → joined_count k total count ≡ (part_of k tree first (j + 1)).count
  part_more j l t e = rw (t, e, last_linked tree first j l) (sym (more_count k (sets_between tree first j) _))

  -- it never falls, since every node has a set
  part_within : (j n : ℕ) → first ≤ j → (part_of k tree first j).count ≤ (part_of k tree first (j + n)).count
  part_within j zero l = rw (add-zero j) (le_refl _)
  part_within j (suc n) l =
      let next : j + suc n ≡ j + n + 1 = omega arith in
      rw (next, ← part_more (j + n) (omega arith) refl refl)
      (le_trans (part_within j n l) (joined_more k _ _ (count_positive (fault_tree tree (link tree (j + n))))))

  part_at_most : (j end : ℕ) → first ≤ j → j ≤ end
      → (part_of k tree first j).count ≤ (part_of k tree first end).count
  part_at_most j end l m =
      let whole : j + (end - j) ≡ end = omega arith in
      rw whole at (part_within j (end - j) l)

-- a gate has no fewer sets than the inputs of its first links make
pub part_fits : {tree : List ℕ} {i : ℕ} (s : Small tree i) {g : GateNode} → read_node tree i ≡ Gate g → (j : ℕ)
    → g.first ≤ j → j ≤ links_end g → (part_of (kind_as g.kind) tree g.first j).count ≤ (node_sets tree i).count
part_fits {tree} s {g} q j l m =
    rw (gate_sets s.well_formed s.inside q) (part_at_most (kind_as g.kind) tree g.first j (links_end g) l m)
