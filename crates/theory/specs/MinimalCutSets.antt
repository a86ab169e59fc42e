-- Minimal cut sets, by their meaning (003, Definition 3; 02, request 1): a set of events at or beneath a node under
-- which it fails, and under no set strictly inside it does.
use Rattle.std.specs.Prelude.{ℕ, ◌<◌, ◌≡◌, not, T}
use Rattle.theory.specs.FaultTree.{Tree, beneath, contains}
use Rattle.theory.specs.Unreliability.{EventSet, fails}

-- every event of s is in u
abbrev pub Within : EventSet → EventSet → Type 0
Within s u = (e : ℕ) → T (s e) → T (u e)

-- s lies strictly inside u: an event of u is not in s
abbrev pub StrictlyWithin : EventSet → EventSet → Type 0
StrictlyWithin s u = Within s u × ((e : ℕ) × T (u e) × T (not (s e)))

-- s and u have the same events
abbrev pub SameSet : EventSet → EventSet → Type 0
SameSet s u = (e : ℕ) → s e ≡ u e

-- the events at or beneath the node that the tree stands for
abbrev pub own_events : Tree → EventSet
own_events t e = contains e (beneath t)

pub record MinimalCutSet (t : Tree) (s : EventSet) : Type 0 where
  pub own : Within s (own_events t)
  pub cuts : T (fails t s)
  pub least : (u : EventSet) → StrictlyWithin u s → T (not (fails t u))

-- sets numbered from 0 on, of which those below `count` are meant
pub record Family : Type 0 where
  pub count : ℕ
  pub set : ℕ → EventSet

-- The family has every minimal cut set of the tree once, and no other set.
pub record Enumerates (t : Tree) (f : Family) : Type 0 where
  pub each : (r : ℕ) → r < f.count → MinimalCutSet t (f.set r)
  pub every : (s : EventSet) → MinimalCutSet t s → (r : ℕ) × (r < f.count) × SameSet (f.set r) s
  pub once : (q r : ℕ) → q < f.count → r < f.count → SameSet (f.set q) (f.set r) → q ≡ r
