-- With one link fewer than nodes and no node linked twice, a node that no link names is the only one.
use Prim.Native.Nat.{ℕ, suc, ◌+◌, ◌<◌}
use mathlib.Core.Path.{◌≡◌}
use mathlib.Core.Logic.{◌≢◌, ◌⊎◌, inl, inr}
use native.Mathlib.Omega.{arith}
use Rattle.theory.specs.NodeTable.{Table, link_count, Numbered, Ranked, LinkedOnce, OthersLinked}
use Rattle.theory.proofs.Sums.{sum, sum_ones, two_terms_at_most_sum}
use Rattle.theory.proofs.LinkedSums.{Linked, NotLinked, linked_or_not, not_linked, not_linked_elsewhere, sum_linked}
use Rattle.theory.proofs.Counting.{links_inside}

module _ (table : Table) (rank : ℕ → ℕ) (ranked : Ranked table rank) (numbered : Numbered table)
    (once : LinkedOnce table) where
  -- the number of nodes that no link names, and of links, is the number of nodes
  not_linked_count :
      sum table.size (not_linked table.link (link_count table) (λ i. 1)) + link_count table ≡ table.size
  not_linked_count = omega (
    arith,
    sum_ones table.size,
    sum_ones (link_count table),
    sum_linked table.link (link_count table) table.size (λ i. 1) once (links_inside table rank ranked numbered),
  )

  -- so all others are linked
  pub others_linked : (root : ℕ) → root < table.size → NotLinked table.link (link_count table) root →
      suc (link_count table) ≡ table.size → OthersLinked table root
  others_linked root inside not_named count = record {
    root_inside = inside;
    root_not_linked = not_named;
    linked = λ i l d. go i l d (linked_or_not table.link (link_count table) i);
  }
    where
      go : (i : ℕ) → i < table.size → i ≢ root →
          Linked table.link (link_count table) i ⊎ NotLinked table.link (link_count table) i →
          Linked table.link (link_count table) i
      go i l d (inl h) = h
      go i l d (inr h) = absurd (omega (
        arith,
        not_linked_count,
        two_terms_at_most_sum (not_linked table.link (link_count table) (λ m. 1)) table.size i root l inside d,
        not_linked_elsewhere table.link (link_count table) (λ m. 1) i h,
        not_linked_elsewhere table.link (link_count table) (λ m. 1) root not_named,
      ))
