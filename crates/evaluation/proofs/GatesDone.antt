-- The second phase, node by node: what holds of each basic event's place, and of a gate's once it holds of its inputs',
-- holds of every node that is done.
use Prim.Native.Nat.{ℕ, zero, suc, ◌≤◌, ◌<◌}
use mathlib.Core.Path.{◌≡◌, refl, sym, ap, subst, ◌∙◌}
use mathlib.Core.Logic.{◌≢◌}
use mathlib.Core.List.{List}
use native.Mathlib.Nat.{le_refl}
use native.Mathlib.Omega.{arith}
use native.Mathlib.Decide.{ℕ_discrete}
use Rattle.tree_file.specs.Format.{linked, links_from, node_count}
use Rattle.tree_file.specs.WellFormed.{WellFormed}
use Rattle.tree_file.specs.NodeTable.{read_node}
use Rattle.tree_file.specs.declared.node.Gate.{Gate}
use Rattle.tree_file.specs.declared.node.Node.{Node}
use Rattle.tree_file.specs.declared.node.Node.TheVariants as node
use Rattle.tree_file.proofs.Nodes.{link_below}
use Rattle.work_slices.specs.Slices.{Slices, Long, put, after_turns}
use Rattle.evaluation.specs.Phases.{gate_enclosure, gate_put, gate_turn, in_order}
use Rattle.work_slices.proofs.Places.{SameAt, SameLength, same_long, put_length, put_other}
use Rattle.work_slices.proofs.Turns.{Local, turns_length}

-- Node m is done when the first p places of the order are: a basic event before any of them, a gate at its own.
pub data Done (tree : List ℕ) (p m : ℕ) : Type 0 where
  basic_event : (e : ℕ) → read_node tree m ≡ node.Event e → Done tree p m
  in_place : (q : ℕ) → q < p → in_order tree q ≡ m → Done tree p m

-- every place of the order has a node of the tree
pub order_inside : (tree : List ℕ) (p : ℕ) → p < node_count tree → in_order tree p < node_count tree
order_inside tree p l = l

-- every node has its place, so all are done at the end
pub all_done : (tree : List ℕ) (m : ℕ) → m < node_count tree → Done tree (node_count tree) m
all_done tree m l = in_place m l refl

-- the inputs of a gate are done before it
pub inputs_done : (tree : List ℕ) → WellFormed tree → (p : ℕ) → p < node_count tree → (g : Gate)
    → read_node tree (in_order tree p) ≡ node.Gate g → (j : ℕ) → j < g.inputs
    → Done tree p (linked (links_from tree g.first) j)
inputs_done tree well_formed p l g r j h = in_place _ (link_below tree well_formed p l g r j h) refl

-- and are nodes of the tree
pub linked_inside : (tree : List ℕ) → WellFormed tree → (p : ℕ) → p < node_count tree → (g : Gate)
    → read_node tree (in_order tree p) ≡ node.Gate g → (j : ℕ) → j < g.inputs
    → linked (links_from tree g.first) j < node_count tree
linked_inside tree well_formed p l g r j h =
    let inside = order_inside tree p l in
    omega (arith, link_below tree well_formed (in_order tree p) inside g r j h)

-- a node's turn touches its own place alone
pub gates_local : (U : ℕ) (tree : List ℕ) → Local (gate_turn U tree) (in_order tree)
gates_local U tree = record {
  same_length = λ p s. kept (in_order tree p) (read_node tree (in_order tree p)) s;
  others = λ p s m ne. left (in_order tree p) (read_node tree (in_order tree p)) s m ne;
}
  where
    kept : (i : ℕ) (x : Node) (s : Slices) → SameLength (gate_put U tree i x s) s
    kept i (node.Event e) s p = refl
    kept i (node.Gate g) s p = put_length i (gate_enclosure U tree g s) s p

    left : (i : ℕ) (x : Node) (s : Slices) (m : ℕ) → m ≢ i → SameAt (gate_put U tree i x s) s m
    left i (node.Event e) s m ne p = refl
    left i (node.Gate g) s m ne p = put_other i (gate_enclosure U tree g s) s m ne p

-- A property of the place of a done node: it turns on that place alone, holds of events, and of a gate by its inputs.
pub record Carried (U : ℕ) (tree : List ℕ) (s₀ : Slices) (Q : ℕ → Slices → Type 0) : Type 1 where
  pub stays : (m : ℕ) (s t : Slices) → SameAt s t m → Q m t → Q m s
  pub event : (m e : ℕ) → m < node_count tree → read_node tree m ≡ node.Event e → Q m s₀
  pub gate : (i : ℕ) (g : Gate) (s : Slices) → i < node_count tree → read_node tree i ≡ node.Gate g
      → Long (node_count tree) s → ((j : ℕ) → j < g.inputs → Q (linked (links_from tree g.first) j) s)
      → Q i (put i (gate_enclosure U tree g s) s)

module _ (U : ℕ) (tree : List ℕ) (well_formed : WellFormed tree) (s₀ : Slices) (long : Long (node_count tree) s₀)
    (Q : ℕ → Slices → Type 0) (carried : Carried U tree s₀ Q) where
  -- the slices stay long enough
  longer : (p : ℕ) → Long (node_count tree) (after_turns (gate_turn U tree) p s₀)
  longer p = same_long (turns_length (gates_local U tree) p s₀) (le_refl (node_count tree)) long

  -- the node whose turn it is
  at_turn : (p : ℕ) → p < node_count tree → (x : Node) → read_node tree (in_order tree p) ≡ x
      → ((m : ℕ) → m < node_count tree → Done tree p m → Q m (after_turns (gate_turn U tree) p s₀))
      → Q (in_order tree p) (gate_put U tree (in_order tree p) x (after_turns (gate_turn U tree) p s₀))
  at_turn p l (node.Event e) r earlier = earlier (in_order tree p) (order_inside tree p l) (basic_event e r)
  at_turn p l (node.Gate g) r earlier =
      carried.gate (in_order tree p) g (after_turns (gate_turn U tree) p s₀) (order_inside tree p l) r (longer p)
      (λ j h. earlier _ (linked_inside tree well_formed p l g r j h) (inputs_done tree well_formed p l g r j h))

  -- it holds of every node that is done
  pub done_holds : (p : ℕ) → p ≤ node_count tree → (m : ℕ) → m < node_count tree → Done tree p m
      → Q m (after_turns (gate_turn U tree) p s₀)
  unfolding after_turns
  done_holds zero l m inside (basic_event e r) = carried.event m e inside r
  done_holds zero l m inside (in_place q h r) = absurd (omega arith)
  done_holds (suc p) l m inside done =
      go (λ m. done_holds p (omega arith) m) (ℕ_discrete m (in_order tree p)) done
    where
      node : Node
      node = read_node tree (in_order tree p)

      before : Slices
      before = after_turns (gate_turn U tree) p s₀

      earlier_done : (m ≡ in_order tree p → ⊥) → Done tree (suc p) m → Done tree p m
      earlier_done ne (basic_event e r) = basic_event e r
      earlier_done ne (in_place q h r) =
          let other : q ≡ p → ⊥ = λ e. ne (sym r ∙ ap (in_order tree) e) in
          in_place q (omega (arith, other)) r

      go : ((m : ℕ) → m < node_count tree → Done tree p m → Q m before) → Dec (m ≡ in_order tree p)
          → Done tree (suc p) m → Q m (gate_put U tree (in_order tree p) node before)
      go earlier (yes e) d =
          subst (λ (m : ℕ). Q m (gate_put U tree (in_order tree p) node before)) (sym e)
          (at_turn p (omega arith) node refl earlier)
      go earlier (no ne) d =
          carried.stays m (gate_put U tree (in_order tree p) node before) before
          ((gates_local U tree).others p before m ne) (earlier m inside (earlier_done ne d))
