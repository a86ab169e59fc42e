-- Choosing among a gate's inputs: what holds after those of the links before j were passed.
use Prim.Native.Nat.{ℕ, ◌+◌, ◌≤◌, ◌<◌}
use mathlib.Core.Path.{◌≡◌, refl, sym, ap, ◌∙◌}
use mathlib.Core.List.{List, ◌∷◌}
use native.Mathlib.Decide.{dec_lt}
use native.Mathlib.Omega.{arith}
use lib.ListN.{get_or}
use borrow.Author.Tests.{lt-ltb}
use Rattle.theory.specs.CutSetFamily.{alternatives}
use Rattle.tree_file.specs.Format.{link, link_count}
use Rattle.tree_file.specs.WellFormed.{WellFormed}
use Rattle.tree_file.specs.declared.node.Gate.{Gate}
use Rattle.node_sets.specs.Requirements.{RightAt, node_sets}
use Rattle.node_sets.proofs.LinkedSets.{Links, gate_inputs, links_end, next_linked, none_linked, sets_between}

-- Set number r of the inputs of all links is number `rest` of those from link j on.
pub record Choosing (tree : List ℕ) (first end r j rest : ℕ) : Type 0 where
  pub from : first ≤ j
  pub below : rest < (alternatives (sets_between tree j end)).count
  pub same : (alternatives (sets_between tree j end)).set rest ≡ (alternatives (sets_between tree first end)).set r

module _ (tree : List ℕ) (first end r : ℕ) where
  -- before the first
  pub choosing_start : r < (alternatives (sets_between tree first end)).count → Choosing tree first end r first r
  choosing_start l = record { from = omega arith; below = l; same = refl }

  -- there is an input left
  choosing_left : (j rest : ℕ) → Choosing tree first end r j rest → j < end
  choosing_left j rest s = go (dec_lt j end)
    where
      go : Dec (j < end) → j < end
      go (yes l) = l
      go (no h) =
          let none : rest < 0 = rw (none_linked tree j end (omega arith)) at s.below in
          absurd (omega arith)

-- the input of link j
module _ (tree : List ℕ) (g : Gate) {r j rest : ℕ} (s : Choosing tree g.first (links_end g) r j rest) where
  own : Links g j
  own = (s.from, choosing_left tree g.first (links_end g) r j rest s)

  -- its link is one of a tree's, which are few
  pub input_few : WellFormed tree → links_end g ≤ link_count tree → j + 1 < 1024
  input_few formed inside = omega (arith, own, inside, formed.header.nodes_most)

  -- it is chosen where the number is below its count
  pub input_chosen : (counts : List ℕ) {node : ℕ} → RightAt tree counts (link tree j) → node ≡ link tree j
      → rest < get_or counts node 0
      → Links g j
      × ((rest < (node_sets tree node).count)
      × ((node_sets tree node).set rest ≡ (alternatives (gate_inputs tree g)).set r))
  input_chosen counts {node} right named l =
      let opened : alternatives (sets_between tree j (links_end g))
      ≡ alternatives (node_sets tree (link tree j) ∷ sets_between tree (j + 1) (links_end g)) =
      ap alternatives (next_linked tree j (links_end g) own.1) in
      let count : get_or counts node 0 ≡ (node_sets tree (link tree j)).count = rw named right in
      let here : (alternatives (sets_between tree j (links_end g))).set rest
      ≡ (node_sets tree (link tree j)).set rest =
      ap (λ x. x.set rest) opened ∙ rw (← count, lt-ltb rest (get_or counts node 0) l) in
      (own, (rw (named, ← right) (rw named at l), rw named (sym here ∙ s.same)))
