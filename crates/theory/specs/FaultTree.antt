-- Fault trees (004, Definition 5, for trees): a basic event with its number, or a gate over at least one input.
use Rattle.std.specs.Prelude.{ℕ, Bool, false, cond, ◌||◌, List, [], ◌∷◌, ◌++◌, eqb}

-- AND fails when all its inputs fail, OR when any does
pub data GateKind : Type 0 where
  all any : GateKind

-- the inputs of a gate stand in link order: `only` the last one, or one and `more`
mutual
  pub data Tree : Type 0 where
    basic : ℕ → Tree
    gate : GateKind → Inputs → Tree

  pub data Inputs : Type 0 where
    only : Tree → Inputs
    more : Tree → Inputs → Inputs

-- the basic events of a tree, as often as they stand in it
abbrev mutual
  pub events : Tree → List ℕ
  events (basic e) = e ∷ []
  events (gate k ts) = all_events ts

  pub all_events : Inputs → List ℕ
  all_events (only t) = events t
  all_events (more t ts) = events t ++ all_events ts

-- whether e stands in a list
abbrev pub contains : ℕ → List ℕ → Bool
contains e [] = false
contains e (x ∷ xs) = eqb e x || contains e xs

-- a list without its repeats
abbrev pub each_once : List ℕ → List ℕ
each_once [] = []
each_once (e ∷ es) = cond (contains e es) (each_once es) (e ∷ each_once es)

-- the events at or beneath the node that the tree stands for, each once
abbrev pub beneath : Tree → List ℕ
beneath t = each_once (events t)

-- every event of a list has the property P
abbrev pub Each : (ℕ → Type 0) → List ℕ → Type 0
Each P [] = Unit {0}
Each P (e ∷ es) = P e × Each P es
