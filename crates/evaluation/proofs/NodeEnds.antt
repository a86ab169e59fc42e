-- A node's end by those of the nodes that its links name, whatever the ends of the basic events are.
use Prim.Native.Nat.{ℕ, zero, suc, ◌+◌, ◌-◌, ◌<◌}
use mathlib.Core.Path.{◌≡◌, refl, sym, ap, ap₂, subst, ◌∙◌}
use mathlib.Core.List.{List}
use native.Mathlib.Nat.{zero-add}
use native.Mathlib.Omega.{arith}
use Rattle.theory.specs.FaultTree.{GateKind}
use Rattle.theory.specs.Rounding.{Direction, End, step, evaluated}
use Rattle.theory.specs.NodeTable.{HasLink}
use Rattle.theory.specs.GateFold.{seen, turned, folded}
use Rattle.theory.proofs.GateFold.{end_by_inputs, end_by_links}
use Rattle.tree_file.specs.Format.{link, linked, links_from, node_count}
use Rattle.tree_file.specs.WellFormed.{WellFormed}
use Rattle.tree_file.specs.NodeTable.{kind_as, node_as, read_node, table_of, fault_tree, rank}
use Rattle.tree_file.specs.declared.node.Gate.{Gate}
use Rattle.tree_file.specs.declared.node.Node.{Node}
use Rattle.tree_file.specs.declared.node.Node.TheVariants as node
use Rattle.tree_file.proofs.NodeTable.{table_ranked}
use Rattle.tree_file.proofs.Nodes.{inputs_least, link_in_part}
use Rattle.evaluation.specs.Phases.{fold_end}

-- a fold from link a on is the fold of what it meets there
fold_shift : (U : ℕ) (w : Direction) (f g : ℕ → End) (a m : ℕ) → ((j : ℕ) → j < m → f j ≡ g (a + j))
    → folded U w f 0 m ≡ folded U w g a m
fold_shift U w f g a zero h = refl
fold_shift U w f g a (suc m) h =
    ap₂ (step U w) (fold_shift U w f g a m (λ j l. h j (omega arith)))
    (ap f (zero-add m) ∙ h m (omega arith))

module _ (tree : List ℕ) (well_formed : WellFormed tree) (U : ℕ) (w : Direction) (leaf : ℕ → End) (i : ℕ)
    (l : i < node_count tree) where
  -- the end of every node
  abbrev end : ℕ → End
  end m = evaluated U w leaf (fault_tree tree m)

  -- node i's end by stored ends, whatever node it is
  by_links : (x : Node) → read_node tree i ≡ x → (store : ℕ → End)
      → ((j : ℕ) → HasLink (node_as x) j → store (link tree j) ≡ end (link tree j))
      → end i ≡ end_by_inputs U w leaf store (link tree) (node_as x)
  by_links x r store h =
      end_by_links (table_of tree) (rank tree) (table_ranked tree well_formed) U w leaf store i l
      (λ j o. h j (subst (λ (y : Node). HasLink (node_as y) j) r o))
      ∙ ap (λ (y : Node). end_by_inputs U w leaf store (link tree) (node_as y)) r

  -- a basic event's end is its own
  pub event_end : (e : ℕ) → read_node tree i ≡ node.Event e → end i ≡ leaf e
  event_end e r = by_links (node.Event e) r end (λ j o. refl)

  -- a gate's end is the fold of its inputs' ends
  pub gate_end_by_inputs : (g : Gate) → read_node tree i ≡ node.Gate g → (store : ℕ → End)
      → ((j : ℕ) → j < g.inputs
      → store (linked (links_from tree g.first) j) ≡ end (linked (links_from tree g.first) j))
      → end i ≡ fold_end U w (kind_as g.kind) (links_from tree g.first) g.inputs store
  gate_end_by_inputs g r store h =
      by_links (node.Gate g) r store stored
      ∙ ap (λ (m : ℕ). seen kind U (folded U (turned kind w) (λ j. seen kind U (store (link tree j))) g.first m)) all
      ∙ ap (seen kind U) (sym (fold_shift U (turned kind w) (λ j. seen kind U (store (linked part j)))
      (λ j. seen kind U (store (link tree j))) g.first g.inputs
      (λ j m. ap (λ (x : ℕ). seen kind U (store x)) (in_part j))))
    where
      kind : GateKind
      kind = kind_as g.kind

      part : List ℕ
      part = links_from tree g.first

      in_part : (j : ℕ) → linked part j ≡ link tree (g.first + j)
      in_part j = link_in_part tree g.first j

      all : suc (g.inputs - 1) ≡ g.inputs
      all = omega (arith, inputs_least tree well_formed i l g r)

      stored : (j : ℕ) → HasLink (node_as (node.Gate g)) j → store (link tree j) ≡ end (link tree j)
      stored j o =
          let place : g.first + (j - g.first) ≡ j = omega arith in
          subst (λ (x : ℕ). store x ≡ end x) (in_part (j - g.first) ∙ ap (link tree) place)
          (h (j - g.first) (omega (arith, inputs_least tree well_formed i l g r)))
