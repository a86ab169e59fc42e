-- The structure function, cut sets and the unreliability (004, Definitions 6 and 7; 01, "A level, and the way up").
-- The unreliability is the literal sum over all cut sets, unrounded.
use Rattle.std.specs.Prelude.{ℕ, Bool, true, false, cond, ◌&&◌, ◌||◌, List, [], ◌∷◌, ◌++◌, map, eqb}
use Rattle.theory.specs.Fraction.{Fraction, complement, product, total}
use Rattle.theory.specs.FaultTree.{GateKind, all, any, Tree, Inputs, basic, gate, only, more, beneath}

-- a set of events (004's safety event): for each event, whether it is in the set
abbrev pub EventSet : Type 0
EventSet = ℕ → Bool

abbrev pub empty_set : EventSet
empty_set i = false

abbrev pub with_event : ℕ → EventSet → EventSet
with_event e s i = eqb e i || s i

-- every set of the listed events, the empty one too
abbrev pub subsets : List ℕ → List EventSet
subsets [] = empty_set ∷ []
subsets (e ∷ es) = subsets es ++ map (with_event e) (subsets es)

-- every input fails
abbrev pub every : List Bool → Bool
every [] = true
every (b ∷ bs) = b && every bs

-- at least one input fails
abbrev pub some : List Bool → Bool
some [] = false
some (b ∷ bs) = b || some bs

-- whether a gate fails, by which of its inputs fail
abbrev pub verdict : GateKind → List Bool → Bool
verdict all bs = every bs
verdict any bs = some bs

-- Definition 6, the structure function: whether the tree fails when just the events of s have failed
abbrev mutual
  pub fails : Tree → EventSet → Bool
  fails (basic e) s = s e
  fails (gate k ts) s = verdict k (which_fail ts s)

  pub which_fail : Inputs → EventSet → List Bool
  which_fail (only t) s = fails t s ∷ []
  which_fail (more t ts) s = fails t s ∷ which_fail ts s

-- the sets of a list that pass a test
abbrev pub those : (EventSet → Bool) → List EventSet → List EventSet
those f [] = []
those f (s ∷ ss) = cond (f s) (s ∷ those f ss) (those f ss)

-- the sets of events at or beneath the node under which it fails
abbrev pub cut_sets : Tree → List EventSet
cut_sets t = those (fails t) (subsets (beneath t))

-- an event's factor in the weight of a set: its probability where it is in the set, 1 minus that where it is not
abbrev pub factor : (ℕ → Fraction) → EventSet → ℕ → Fraction
factor p s e = cond (s e) (p e) (complement (p e))

-- the weight of a set: the product of the listed events' factors
abbrev pub weight : (ℕ → Fraction) → List ℕ → EventSet → Fraction
weight p es s = product (map (factor p s) es)

-- Definition 7: the sum of the weights of all the tree's cut sets
unfoldable pub unreliability : (ℕ → Fraction) → Tree → Fraction
unreliability p t = total (map (weight p (beneath t)) (cut_sets t))
