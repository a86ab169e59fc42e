-- What the functions of this crate ask and leave: the counts of nodes at their places, and the sets that they number.
use Rattle.std.specs.Prelude.{ℕ, ◌+◌, ◌*◌, ◌≤◌, ◌<◌, ◌≡◌, List, [], length, get_or}
use Rattle.std.specs.Int.Bits.{bit_or}
use Rattle.theory.specs.FaultTree.{GateKind, all, any}
use Rattle.theory.specs.NodeTable.{Owns}
use Rattle.theory.specs.MinimalCutSets.{Family, SameSet}
use Rattle.theory.specs.CutSetFamily.{gate_family, family, union}
use Rattle.tree_file.specs.Format.{link, node_count}
use Rattle.tree_file.specs.Tallies.{event_count}
use Rattle.tree_file.specs.WellFormed.{WellFormed}
use Rattle.tree_file.specs.NodeTable.{fault_tree, table_of}
use Rattle.node_sets.specs.Numbers.{members, most_events}

-- The number of sets of a gate without inputs.
abbrev pub neutral_count : GateKind → ℕ
neutral_count k = (gate_family k []).count

-- The number of sets of a gate with one input more.
abbrev pub joined_count : GateKind → ℕ → ℕ → ℕ
joined_count all total count = total * count
joined_count any total count = total + count

-- The sets of node i, numbered.
abbrev pub node_sets : List ℕ → ℕ → Family
node_sets tree i = family (fault_tree tree i)

-- Node m is node i or stands beneath it.
pub data Beneath (tree : List ℕ) : ℕ → ℕ → Type 0 where
  itself : {i : ℕ} → Beneath tree i i
  through : {i m : ℕ} (j : ℕ) → Owns (table_of tree) i j → Beneath tree (link tree j) m → Beneath tree i m

-- The place of node m holds its count.
abbrev pub RightAt : List ℕ → List ℕ → ℕ → Type 0
RightAt tree counts m = get_or counts m 0 ≡ (node_sets tree m).count

-- The places of node i and of all nodes beneath it hold their counts.
abbrev pub RightBeneath : List ℕ → List ℕ → ℕ → Type 0
RightBeneath tree counts i = (m : ℕ) → Beneath tree i m → RightAt tree counts m

-- A node of a well-formed tree of at most 64 events.
pub record Small (tree : List ℕ) (i : ℕ) : Type 0 where
  pub well_formed : WellFormed tree
  pub few_events : event_count tree ≤ most_events
  pub inside : i < node_count tree

-- A node, and a place for each node.
pub record Countable (tree : List ℕ) (i : ℕ) (counts : List ℕ) : Type 0 where
  pub small : Small tree i
  pub long : node_count tree ≤ length counts

-- What counting leaves: the counts at and beneath node i, and those that were right before.
pub record CountedBeneath (tree : List ℕ) (i : ℕ) (before after : List ℕ) : Type 0 where
  pub right : RightBeneath tree after i
  pub kept : (m : ℕ) → RightAt tree before m → RightAt tree after m

-- Every place from n on is as it was.
abbrev pub KeptFrom : ℕ → List ℕ → List ℕ → Type 0
KeptFrom n before after = (p : ℕ) → n ≤ p → p < length before → get_or after p 0 ≡ get_or before p 0

-- A set joined to each of the first m: the unions stand from place `to` on.
pub record Block (m to x : ℕ) (before after : List ℕ) : Type 0 where
  pub each : (p : ℕ) → p < m → get_or after (to + p) 0 ≡ bit_or (get_or before p 0) x
  pub below : (p : ℕ) → p < to → get_or after p 0 ≡ get_or before p 0
  pub rest : KeptFrom (to + m) before after

-- What writing leaves: place r holds set number r of the family, and every place from the count on is as it was.
pub record Written (f : Family) (before after : List ℕ) : Type 0 where
  pub each : (r : ℕ) → r < f.count → SameSet (members (get_or after r 0)) (f.set r)
  pub rest : KeptFrom f.count before after

-- Each set of a family joined to each of the first m.
pub record UnionsWritten (f : Family) (m : ℕ) (before after : List ℕ) : Type 0 where
  pub each : (p q : ℕ) → p < m → q < f.count
      → SameSet (members (get_or after (p + m * q) 0)) (union (members (get_or before p 0)) (f.set q))
  pub rest : KeptFrom (m * f.count) before after
