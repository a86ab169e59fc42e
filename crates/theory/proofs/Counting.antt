-- The sum of v over the events of a tree, and the counting law: where no node is linked twice, the trees of the nodes
-- that no link names hold the basic events of the table, each once.
use Prim.Native.Nat.{ℕ, zero, suc, ◌+◌, ◌≤◌, ◌<◌}
use mathlib.Core.Path.{◌≡◌, refl, sym}
use native.Mathlib.Nat.{add-zero, add-suc, add_assoc, le_refl}
use native.Mathlib.Numerals.{add-one}
use native.Mathlib.Decide.{dec_lt}
use native.Mathlib.Omega.{arith}
use Rattle.theory.specs.FaultTree.{Tree, events, all_events}
use Rattle.theory.specs.NodeTable.{Node, event, joint, Table, inputs, build, tree_of}
use Rattle.theory.specs.NodeTable.{links_of, events_of, links_before, events_before, link_count, event_count}
use Rattle.theory.specs.NodeTable.{Owns, Numbered, Ranked, LinkedOnce}
use Rattle.theory.proofs.Sums.{summed, summed_append, sum}
use Rattle.theory.proofs.LinkedSums.{not_linked, sum_linked}
use Rattle.theory.proofs.TreeOf.{tree_unfolds}

-- the sum of v over the events of a tree, as often as they stand in it
abbrev pub worth : (ℕ → ℕ) → Tree → ℕ
worth v t = summed v (events t)

-- a gate is worth what its links name
pub worth_inputs : (v : ℕ → ℕ) (tree : ℕ → Tree) (link : ℕ → ℕ) (a n : ℕ) →
    sum a (λ j. worth v (tree (link j))) + summed v (all_events (inputs tree link a n)) ≡
    sum (a + suc n) (λ j. worth v (tree (link j)))
worth_inputs v tree link a zero = rw (add-suc, add-zero)
worth_inputs v tree link a (suc n) =
    let moved : suc a + suc n ≡ a + suc (suc n) = omega arith in
    rw (summed_append, ← add_assoc, ← moved) (worth_inputs v tree link (suc a) n)

-- one of the first i nodes that owns link j
abbrev pub Owner : Table → ℕ → ℕ → Type 0
Owner table i j = (m : ℕ) × (m < i) × Owns table m j

-- the first i nodes own their links
pub owner : (table : Table) → Numbered table → (i : ℕ) → i ≤ table.size → (j : ℕ) → j < links_before table i →
    Owner table i j
owner table numbered zero l j h = absurd (omega arith)
owner table numbered (suc i) l j h =
    go (table.node i) refl h (owner table numbered i (omega arith) j) (dec_lt j (links_before table i))
  where
    go : (node : Node) → table.node i ≡ node → j < links_before table i + links_of node →
        (j < links_before table i → Owner table i j) → Dec (j < links_before table i) →
        Owner table (suc i) j
    go node q b earlier (yes k) = let o : Owner table i j = earlier k in (o.0, omega arith, o.2)
    go (event e) q b earlier (no k) = absurd (omega arith)
    go (joint kind a n) q b earlier (no k) =
        let first : a ≡ links_before table i = numbered.first_link i kind a n (omega arith) q in
        (i, omega arith, rw q (omega arith, omega arith))

-- every link is a link of some gate of the table
pub gate_of : (table : Table) → Numbered table → (j : ℕ) → j < link_count table → Owner table table.size j
gate_of table numbered j l = owner table numbered table.size (le_refl table.size) j l

module _ (table : Table) (rank : ℕ → ℕ) (ranked : Ranked table rank) (numbered : Numbered table) where
  -- every link names a node of the table
  pub links_inside : (j : ℕ) → j < link_count table → table.link j < table.size
  links_inside j l =
      let o : Owner table table.size j = gate_of table numbered j l in
      ranked.link_inside o.0 j o.1 o.2

  -- the first i nodes are worth what their links name, and their own basic events
  pub nodes_worth : (v : ℕ → ℕ) (i : ℕ) → i ≤ table.size →
      sum i (λ m. worth v (tree_of table m)) ≡
      sum (links_before table i) (λ j. worth v (tree_of table (table.link j))) + sum (events_before table i) v
  nodes_worth v zero l = sym (add-zero 0)
  nodes_worth v (suc i) l =
      rw (tree_unfolds table rank ranked i l, nodes_worth v i (omega arith)) (go (table.node i) refl)
    where
      links : ℕ → ℕ
      links j = worth v (tree_of table (table.link j))

      go : (node : Node) → table.node i ≡ node →
          sum (links_before table i) links + sum (events_before table i) v +
          worth v (build (tree_of table) table.link node) ≡
          sum (links_before table i + links_of node) links + sum (events_before table i + events_of node) v
      go (event e) q =
          let number : e ≡ events_before table i = numbered.event_number i e l q in
          rw (add-zero (links_before table i), add-one, number) (omega arith)
      go (joint k a n) q =
          let first : a ≡ links_before table i = numbered.first_link i k a n l q in
          rw (add-zero (events_before table i), ← first)
          (omega (arith, worth_inputs v (tree_of table) table.link a n))

module _ (table : Table) (rank : ℕ → ℕ) (ranked : Ranked table rank) (numbered : Numbered table)
    (once : LinkedOnce table) where
  -- the counting law: the nodes that no link names are worth all basic events of the table, each once
  pub not_linked_worth : (v : ℕ → ℕ) →
      sum table.size (not_linked table.link (link_count table) (λ i. worth v (tree_of table i))) ≡
      sum (event_count table) v
  not_linked_worth v = omega (
    arith,
    nodes_worth table rank ranked numbered v table.size (omega arith),
    sum_linked table.link (link_count table) table.size (λ i. worth v (tree_of table i)) once
        (links_inside table rank ranked numbered),
  )
