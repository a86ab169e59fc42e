-- A table of nodes and links, and the fault tree that each node of it stands for (01, "The tree file").
use Rattle.std.specs.Prelude.{ℕ, zero, suc, ◌+◌, ◌≤◌, ◌<◌, ◌≡◌, ◌≢◌}
use Rattle.theory.specs.FaultTree.{GateKind, Tree, Inputs, basic, gate, only, more}

-- a node: a basic event with its number, or a gate with its kind, its first link and how many links it has
-- beyond that one
pub data Node : Type 0 where
  event : ℕ → Node
  joint : GateKind → ℕ → ℕ → Node

-- nodes are numbered from 0 up to `size`; a link names a node
pub record Table : Type 0 where
  pub size : ℕ
  pub node : ℕ → Node
  pub link : ℕ → ℕ

-- the inputs named by a link and the n after it
abbrev pub inputs : (ℕ → Tree) → (ℕ → ℕ) → ℕ → ℕ → Inputs
inputs tree link a zero = only (tree (link a))
inputs tree link a (suc n) = more (tree (link a)) (inputs tree link (suc a) n)

-- the tree of a node, by the trees of the nodes
abbrev pub build : (ℕ → Tree) → (ℕ → ℕ) → Node → Tree
build tree link (event e) = basic e
build tree link (joint k a n) = gate k (inputs tree link a n)

-- the tree of node i, grown so many levels deep; from `tree_of` level 0 is never met: ranks fall along links (`Ranked`)
abbrev pub grown : Table → ℕ → ℕ → Tree
grown table zero i = basic 0
grown table (suc depth) i = build (grown table depth) table.link (table.node i)

-- The fault tree that node i stands for: as many levels as there are nodes are enough.
unfoldable pub tree_of : Table → ℕ → Tree
tree_of table i = grown table table.size i

-- how many links a node has
abbrev pub links_of : Node → ℕ
links_of (event e) = 0
links_of (joint k a n) = suc n

-- how many basic events a node is
abbrev pub events_of : Node → ℕ
events_of (event e) = 1
events_of (joint k a n) = 0

-- the number of links of the gates among the first i nodes
abbrev pub links_before : Table → ℕ → ℕ
links_before table zero = 0
links_before table (suc i) = links_before table i + links_of (table.node i)

-- the number of basic events among the first i nodes
abbrev pub events_before : Table → ℕ → ℕ
events_before table zero = 0
events_before table (suc i) = events_before table i + events_of (table.node i)

-- the number of links of a table
abbrev pub link_count : Table → ℕ
link_count table = links_before table table.size

-- the number of basic events of a table (E)
abbrev pub event_count : Table → ℕ
event_count table = events_before table table.size

-- link j is one of a node's links
abbrev pub HasLink : Node → ℕ → Type 0
HasLink (event e) j = ⊥
HasLink (joint k a n) j = (a ≤ j) × (j ≤ a + n)

-- link j is one of node i's links
abbrev pub Owns : Table → ℕ → ℕ → Type 0
Owns table i j = HasLink (table.node i) j

-- Events and links are numbered in the order of the nodes.
pub record Numbered (table : Table) : Type 0 where
  -- a basic event's number counts the basic events before it
  pub event_number : (i e : ℕ) → i < table.size → table.node i ≡ event e → e ≡ events_before table i
  -- a gate's first link counts the links of the gates before it
  pub first_link : (i : ℕ) (k : GateKind) (a n : ℕ) → i < table.size → table.node i ≡ joint k a n →
      a ≡ links_before table i

-- Links stay inside the table, and lead to a lower rank: following them never returns to where it began.
pub record Ranked (table : Table) (rank : ℕ → ℕ) : Type 0 where
  -- a gate's links name nodes of the table
  pub link_inside : (i j : ℕ) → i < table.size → Owns table i j → table.link j < table.size
  -- an input's rank is below its gate's
  pub rank_falls : (i j : ℕ) → i < table.size → Owns table i j → rank (table.link j) < rank i
  -- there are no more ranks than nodes
  pub rank_below : (i : ℕ) → i < table.size → rank i < table.size

-- no node is linked twice: a later link names another node than an earlier one
abbrev pub LinkedOnce : Table → Type 0
LinkedOnce table = (i j : ℕ) → i < j → j < link_count table → table.link i ≢ table.link j

-- The root is a node that no link names, and every other node is named by a link.
pub record OthersLinked (table : Table) (root : ℕ) : Type 0 where
  -- the root is a node of the table
  pub root_inside : root < table.size
  -- no link names the root
  pub root_not_linked : (j : ℕ) → j < link_count table → table.link j ≢ root
  -- every other node is named by some link
  pub linked : (i : ℕ) → i < table.size → i ≢ root → (j : ℕ) × (j < link_count table) × (table.link j ≡ i)
