-- What the ends of a gate ask: its links, and its inputs' stored ends.
use Prim.Native.Nat.{ℕ}
use mathlib.Core.Path.{◌≡◌, refl, sym}
use mathlib.Core.List.{List}
use native.Mathlib.Omega.{arith}
use Rattle.tree_file.specs.NodeTable.{read_node}
use Rattle.tree_file.specs.declared.node.Gate.{Gate}
use Rattle.tree_file.specs.declared.node.Node.TheVariants as node
use Rattle.tree_file.proofs.Nodes.{inputs_least, link_inside, link_below, links_inside}
use Rattle.work_slices.specs.Slices.{Slices}
use Rattle.evaluation.specs.Requirements.{GateStored, GateAsked}
use Rattle.work_slices.proofs.Places.{same_long}

module _ {U : ℕ} {tree : List ℕ} {i : ℕ} {s : Slices} (asked : GateAsked U tree i s) {g : Gate}
    (e : node.Gate g ≡ read_node tree i) where
  -- its inputs have their places, before it
  pub gate_stored : GateStored U tree g s
  gate_stored =
      let is = sym e in
      let inside = links_inside tree asked.well_formed i asked.inside g is in
      record {
        well_formed = asked.well_formed;
        first_inside = omega (arith, inside);
        inputs_stored = record {
          some_input = inputs_least tree asked.well_formed i asked.inside g is;
          input_stored = λ j l. record {
            has_link = link_inside tree asked.well_formed i asked.inside g is j l;
            has_place =
                let below = link_below tree asked.well_formed i asked.inside g is j l in
                same_long (λ p. refl) (omega (arith, below, asked.inside)) asked.long;
            in_units = λ w. asked.in_units w g is j l;
          };
        };
      }
