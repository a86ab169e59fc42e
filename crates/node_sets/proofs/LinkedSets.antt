-- The sets of the nodes that links next to each other name, as those of a gate do: the first, the last, or none.
use Rattle.std.proofs.Common.{ℕ, zero, suc, ◌+◌, ◌-◌, ◌≤◌, ◌<◌, ◌≡◌, ap, ◌∙◌, List, [], ◌∷◌, ◌++◌, arith, add-zero}
use Rattle.theory.specs.MinimalCutSets.{Family}
use Rattle.theory.specs.CutSetFamily.{linked_families}
use Rattle.tree_file.specs.Format.{link}
use Rattle.tree_file.specs.declared.node.Gate.{Gate}
use Rattle.node_sets.specs.Requirements.{node_sets}

-- The sets of each of the m nodes that links name, from link a on.
abbrev pub linked_sets : List ℕ → ℕ → ℕ → List Family
linked_sets tree a m = linked_families (λ j. node_sets tree (link tree j)) a m

-- The sets of each of the nodes that the links from a up to b name, b not included.
abbrev pub sets_between : List ℕ → ℕ → ℕ → List Family
sets_between tree a b = linked_sets tree a (b - a)

-- A gate's links are those from its first up to here.
abbrev pub links_end : Gate → ℕ
links_end g = g.first + g.inputs

-- The sets of each of a gate's inputs.
abbrev pub gate_inputs : List ℕ → Gate → List Family
gate_inputs tree g = sets_between tree g.first (links_end g)

-- Link j is one of a gate's.
abbrev pub Links : Gate → ℕ → Type 0
Links g j = (g.first ≤ j) × (j < links_end g)

module _ (tree : List ℕ) (j end : ℕ) where
  -- first those of the node that link j names
  pub next_linked : j < end
      → sets_between tree j end ≡ node_sets tree (link tree j) ∷ sets_between tree (j + 1) end
  next_linked l =
      let left : end - j ≡ suc (end - (j + 1)) = omega arith in
      let next : j + 1 ≡ suc j = omega arith in
      rw (left, next)

  -- none at the end
  pub none_linked : end ≤ j → sets_between tree j end ≡ []
  none_linked l =
      let left : end - j ≡ 0 = omega arith in
      rw left

linked_last : (tree : List ℕ) (a m : ℕ)
    → linked_sets tree a (suc m) ≡ linked_sets tree a m ++ (node_sets tree (link tree (a + m)) ∷ [])
linked_last tree a zero = rw (add-zero a)
linked_last tree a (suc m) =
    let later : suc a + m ≡ a + suc m = omega arith in
    ap (λ fs. node_sets tree (link tree a) ∷ fs) (linked_last tree (suc a) m ∙ rw later)

-- last those of the node that link j names
pub last_linked : (tree : List ℕ) (first j : ℕ) → first ≤ j
    → sets_between tree first (j + 1) ≡ sets_between tree first j ++ (node_sets tree (link tree j) ∷ [])
last_linked tree first j l =
    let more : j + 1 - first ≡ suc (j - first) = omega arith in
    let own : first + (j - first) ≡ j = omega arith in
    ap (linked_sets tree first) more ∙ linked_last tree first (j - first)
    ∙ ap (λ n. sets_between tree first j ++ (node_sets tree (link tree n) ∷ [])) own
