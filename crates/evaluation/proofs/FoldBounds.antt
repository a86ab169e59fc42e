-- No fold passes U where no end that it goes by does.
use Prim.Native.Nat.{ℕ, zero, suc, ◌+◌, ◌≤◌, ◌<◌}
use mathlib.Core.List.{List}
use native.Mathlib.Nat.{le_refl, mul-le-mul, sub-le}
use native.Mathlib.Omega.{arith}
use Rattle.theory.specs.FaultTree.{GateKind, all, any}
use Rattle.theory.specs.Rounding.{Direction, End, start, end_complement, step}
use Rattle.theory.specs.GateFold.{seen, turned, folded}
use Rattle.theory.proofs.Rescaled.{rescaled_at_most}
use Rattle.tree_file.specs.Format.{linked}
use Rattle.evaluation.specs.Phases.{fold_end}

module _ (U : ℕ) (positive : 0 < U) where
  -- an end as a gate sees it
  seen_at_most : (k : GateKind) (x : End) → x.value ≤ U → (seen k U x).value ≤ U
  unfolding end_complement
  seen_at_most all x h = h
  seen_at_most any x h = sub-le U x.value

  -- the running number
  folded_at_most : (w : Direction) (f : ℕ → End) (m : ℕ) → ((j : ℕ) → j < m → (f j).value ≤ U)
      → (folded U w f 0 m).value ≤ U
  unfolding start step
  folded_at_most w f zero h = le_refl U
  folded_at_most w f (suc m) h =
      rescaled_at_most U w _ U positive
      (mul-le-mul (folded_at_most w f m (λ j l. h j (omega arith))) (h (0 + m) (omega arith)))

  -- a gate's end
  pub fold_at_most : (w : Direction) (k : GateKind) (links : List ℕ) (inputs : ℕ) (end : ℕ → End)
      → ((j : ℕ) → j < inputs → (end (linked links j)).value ≤ U) → (fold_end U w k links inputs end).value ≤ U
  fold_at_most w k links inputs end h =
      let input : ℕ → End = λ j. seen k U (end (linked links j)) in
      seen_at_most k (folded U (turned k w) input 0 inputs)
      (folded_at_most (turned k w) input inputs (λ j l. seen_at_most k (end (linked links j)) (h j l)))
