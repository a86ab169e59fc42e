-- The structure function depends on the events of its tree alone, and rises with every further failed event.
use Prim.Native.Nat.{ℕ, zero-le, ◌≤◌}
use mathlib.Core.Path.{◌≡◌, ap, ap₂}
use mathlib.Core.Bool.{Bool, true, false, ◌||◌}
use mathlib.Core.List.{List, [], ◌∷◌}
use native.Mathlib.Nat.{le_refl}
use lib.Dec.{T, eqb}
use Rattle.theory.specs.FaultTree.{GateKind, all, any, Tree, Inputs, basic, gate, only, more, events, all_events}
use Rattle.theory.specs.FaultTree.{contains}
use Rattle.theory.specs.Unreliability.{EventSet, with_event, every, some, verdict, fails, which_fail}
use Rattle.theory.proofs.Missing.{or_lacks, or_right, and_implied, or_implied}
use Rattle.theory.proofs.Distinct.{lacks_append}
use Rattle.theory.proofs.Expectation.{bit, Ignores}
use Rattle.theory.proofs.ExpectationRises.{Rises}

mutual
  -- a tree ignores each event that is not among its own
  pub fails_ignores : (t : Tree) (e : ℕ) → contains e (events t) ≡ false → Ignores e (fails t)
  fails_ignores (basic x) e h s = ap (λ (b : Bool). b || s x) (or_lacks (eqb e x) false h).0
  fails_ignores (gate k ts) e h s = ap (verdict k) (which_fail_ignores ts e h s)

  -- so do the inputs of a gate
  pub which_fail_ignores : (ts : Inputs) (e : ℕ) → contains e (all_events ts) ≡ false → Ignores e (which_fail ts)
  which_fail_ignores (only t) e h s = ap (λ (b : Bool). b ∷ []) (fails_ignores t e h s)
  which_fail_ignores (more t ts) e h s =
      let (first, rest) = lacks_append e (events t) (all_events ts) h in
      ap₂ ◌∷◌ (fails_ignores t e first s) (which_fail_ignores ts e rest s)

-- whatever holds in the first list of tests holds in the second
abbrev Implied : List Bool → List Bool → Type 0
Implied [] [] = Unit {0}
Implied [] (c ∷ cs) = ⊥
Implied (b ∷ bs) [] = ⊥
Implied (b ∷ bs) (c ∷ cs) = (T b → T c) × Implied bs cs

-- a gate that fails still fails where all its failed inputs do
verdict_implied : (k : GateKind) (bs cs : List Bool) → Implied bs cs → T (verdict k bs) → T (verdict k cs)
verdict_implied k [] [] h t = t
verdict_implied k [] (c ∷ cs) h t = absurd h
verdict_implied k (b ∷ bs) [] h t = absurd h
verdict_implied all (b ∷ bs) (c ∷ cs) h t =
    and_implied b (every bs) c (every cs) h.0 (verdict_implied all bs cs h.1) t
verdict_implied any (b ∷ bs) (c ∷ cs) h t =
    or_implied b (some bs) c (some cs) h.0 (verdict_implied any bs cs h.1) t

mutual
  -- a tree that fails still fails with one more event failed
  fails_kept : (t : Tree) (e : ℕ) (s : EventSet) → T (fails t s) → T (fails t (with_event e s))
  fails_kept (basic x) e s h = or_right (eqb e x) (s x) h
  fails_kept (gate k ts) e s h =
      verdict_implied k (which_fail ts s) (which_fail ts (with_event e s)) (which_fail_kept ts e s) h

  -- so do the inputs of a gate
  which_fail_kept : (ts : Inputs) (e : ℕ) (s : EventSet) → Implied (which_fail ts s) (which_fail ts (with_event e s))
  which_fail_kept (only t) e s = (λ h. fails_kept t e s h, tt)
  which_fail_kept (more t ts) e s = (λ h. fails_kept t e s h, which_fail_kept ts e s)

-- an implied test has at least the bit
bit_implied : (a b : Bool) → (T a → T b) → bit a ≤ bit b
bit_implied true true h = le_refl 1
bit_implied true false h = absurd (h tt)
bit_implied false b h = zero-le

-- the structure function rises with every further failed event
pub fails_rises : (t : Tree) → Rises (λ s. bit (fails t s))
fails_rises t e s = bit_implied (fails t s) (fails t (with_event e s)) (fails_kept t e s)
