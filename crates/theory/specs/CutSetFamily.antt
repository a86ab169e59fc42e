-- The minimal cut sets of a gate from those of its inputs, where no event stands twice: unions of one from each input
-- for AND, those of all inputs for OR. That a tree's family is of its minimal cut sets is `family_enumerates`.
use Rattle.std.specs.Prelude.{ℕ, zero, suc, ◌+◌, ◌-◌, ◌*◌, ◌/◌, ◌%◌, cond, ◌||◌, List, [], ◌∷◌, ltb}
use Rattle.theory.specs.FaultTree.{GateKind, all, any, Tree, Inputs, basic, gate, only, more}
use Rattle.theory.specs.Unreliability.{EventSet, empty_set, with_event}
use Rattle.theory.specs.MinimalCutSets.{Family}

-- the events of either set
abbrev pub union : EventSet → EventSet → EventSet
union s u e = s e || u e

-- every union of one set from each family: a number is taken apart by the families' counts, the first one's first
abbrev pub unions : List Family → Family
unions [] = record { count = 1; set = λ r. empty_set }
unions (f ∷ fs) = record {
  count = f.count * (unions fs).count;
  set = λ r. union (f.set (r % f.count)) ((unions fs).set (r / f.count));
}

-- the sets of all families, those of the first one first
abbrev pub alternatives : List Family → Family
alternatives [] = record { count = 0; set = λ r. empty_set }
alternatives (f ∷ fs) = record {
  count = f.count + (alternatives fs).count;
  set = λ r. cond (ltb r f.count) (f.set r) ((alternatives fs).set (r - f.count));
}

-- a gate's family by those of its inputs
abbrev pub gate_family : GateKind → List Family → Family
gate_family all fs = unions fs
gate_family any fs = alternatives fs

-- the family of a tree
abbrev mutual
  pub family : Tree → Family
  family (basic e) = record { count = 1; set = λ r. with_event e empty_set }
  family (gate k ts) = gate_family k (families ts)

  pub families : Inputs → List Family
  families (only t) = family t ∷ []
  families (more t ts) = family t ∷ families ts

-- the families of m links, from link a on, where f gives that of each
abbrev pub linked_families : (ℕ → Family) → ℕ → ℕ → List Family
linked_families f a zero = []
linked_families f a (suc m) = f a ∷ linked_families f (suc a) m
