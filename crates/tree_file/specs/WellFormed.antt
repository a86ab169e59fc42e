-- The rules of document 01's section "The tree file", each by itself and in no order. `judged` of tree_judging
-- accepts exactly the well-formed files (`accepted_well_formed` and `well_formed_accepted` of its proofs/Accepted).
use Rattle.std.specs.Prelude.{ℕ, ◌+◌, ◌≤◌, ◌<◌, ◌≡◌, true, List, length}
use Rattle.tree_file.specs.Format.{event_kind, field_a, field_b, has_letters, kind, link, link_count, max_inputs}
use Rattle.tree_file.specs.Format.{max_nodes, node_count, or_kind, required_length, version, version_read}
use Rattle.tree_file.specs.Tallies.{events_before, input_count, inputs_before}

-- The header, and the length that it asks for.
pub record WellFormedHeader (file : List ℕ) : Type 0 where
  pub letters : has_letters file ≡ true
  pub version_value : version file ≡ version_read
  pub nodes_least : 1 ≤ node_count file
  pub nodes_most : node_count file ≤ max_nodes
  pub length_value : length file ≡ required_length file

-- The record of node i.
pub record WellFormedRecord (file : List ℕ) (i : ℕ) : Type 0 where
  -- it is a basic event, AND or OR
  pub known_kind : kind file i ≤ or_kind
  -- a basic event's a counts the basic records before it, and its b is 0
  pub event_number : kind file i ≡ event_kind → field_a file i ≡ events_before file i
  pub event_inputs : kind file i ≡ event_kind → field_b file i ≡ 0
  -- a gate has 1 to 16 inputs, and its a is the sum of b over earlier gates
  pub gate_least : event_kind < kind file i → 1 ≤ field_b file i
  pub gate_most : event_kind < kind file i → field_b file i ≤ max_inputs
  pub gate_first : event_kind < kind file i → field_a file i ≡ inputs_before file i

pub record WellFormed (file : List ℕ) : Type 0 where
  pub header : WellFormedHeader file
  pub node : (i : ℕ) → i < node_count file → WellFormedRecord file i
  -- all b together make N − 1
  pub all_inputs : inputs_before file (node_count file) ≡ link_count file
  -- each link of gate g names a node below g
  pub below : (g k : ℕ) → g < node_count file → k < input_count file g → link file (field_a file g + k) < g
  -- no node is linked twice
  pub once : (i j : ℕ) → i < j → j < link_count file → link file i ≡ link file j → ⊥
