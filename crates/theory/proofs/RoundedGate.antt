-- The gap of a gate's end by those of its inputs' ends. What each input is off, and 1 more for the rounding at its
-- step, add up; the first step rounds nothing.
use Prim.Native.Nat.{ℕ, ◌+◌, ◌-◌, ◌<◌}
use native.Mathlib.Omega.{arith}
use mathlib.Core.Path.{◌≡◌, refl, sym, ◌∙◌}
use mathlib.Core.List.{List, [], ◌∷◌, map}
use Rattle.theory.specs.Fraction.{Fraction, Probability, ◌⊗◌, complement, product}
use Rattle.theory.specs.FaultTree.{GateKind, all, any}
use Rattle.theory.specs.BottomUp.{joined}
use Rattle.theory.specs.Rounding.{Direction, down, up, opposite, End, start, end_complement, run, gate_end}
use Rattle.theory.proofs.FractionEqual.{times_assoc, times_one, one_times}
use Rattle.theory.proofs.BottomUpProbability.{AllProbable, one_probability, product_probability}
use Rattle.theory.proofs.BottomUpProbability.{products_probable, complements_probable}
use Rattle.theory.proofs.Rounded.{EndGap, end_gap_respects, step_gap, step_start, complement_gap}

-- ends stand in for fractions, one for one; the number is the sum over them of 1 + what each is off
pub data EndGaps (U : ℕ) (w : Direction) : ℕ → List End → List Fraction → Type 0 where
  no_gaps : EndGaps U w 0 [] []
  add_gap : {A n : ℕ} {r : End} {f : Fraction} {rs : List End} {fs : List Fraction}
      → EndGap U w A r f → EndGaps U w n rs fs → EndGaps U w (A + 1 + n) (r ∷ rs) (f ∷ fs)

-- the number may be written otherwise
pub end_gaps_respects : {U n k : ℕ} {w : Direction} {rs : List End} {fs : List Fraction}
    → n ≡ k → EndGaps U w n rs fs → EndGaps U w k rs fs
end_gaps_respects e g = rw (← e) g

-- a running end that takes in further ones
pub run_gap : {U : ℕ} {w : Direction} {A n : ℕ} {r : End} {f : Fraction} {xs : List End} {gs : List Fraction}
    → 0 < U → Probability f → AllProbable gs → EndGap U w A r f → EndGaps U w n xs gs
    → EndGap U w (A + n) (run U w r xs) (f ⊗ product gs)
run_gap i p q k no_gaps = end_gap_respects (omega arith) (sym (times_one _)) k
run_gap {A = A} i p q k (add_gap {A = B} g gs) = end_gap_respects (omega arith) (times_assoc _ _ _)
    (run_gap {A = A + B + 1} i (product_probability _ _ p q.0) q.1 (step_gap i p q.0 k g) gs)

-- an AND of at least one input: the first step rounds nothing
pub product_gap : {U n : ℕ} {w : Direction} {xs : List End} {gs : List Fraction}
    → 0 < U → 0 < n → AllProbable gs → EndGaps U w n xs gs → EndGap U w (n - 1) (run U w (start U) xs) (product gs)
product_gap i z q no_gaps = absurd (omega arith)
product_gap i z q (add_gap g gs) = end_gap_respects (omega arith) (times_assoc _ _ _ ∙ one_times _)
    (run_gap i (product_probability _ _ one_probability q.0) q.1 (step_start i g) gs)

-- U minus each end stands in for 1 minus each fraction
pub complement_gaps : {U : ℕ} {w : Direction} {n : ℕ} {xs : List End} {gs : List Fraction} → AllProbable gs
    → EndGaps U w n xs gs → EndGaps U (opposite w) n (map (end_complement U) xs) (map complement gs)
complement_gaps q no_gaps = no_gaps
complement_gaps q (add_gap g gs) = add_gap (complement_gap q.0 g) (complement_gaps q.1 gs)

-- the opposite of the opposite
opposite_twice : (w : Direction) → opposite (opposite w) ≡ w
opposite_twice down = refl
opposite_twice up = refl

-- a gate of at least one input
pub gate_gap : {U n : ℕ} {w : Direction} {xs : List End} {gs : List Fraction} (k : GateKind)
    → 0 < U → 0 < n → AllProbable gs → EndGaps U w n xs gs → EndGap U w (n - 1) (gate_end U w k xs) (joined k gs)
gate_gap all i z q g = product_gap i z q g
gate_gap {w} {gs} any i z q g =
    let c : AllProbable (map complement gs) = complements_probable gs q in
    let h : Probability (product (map complement gs)) = products_probable (map complement gs) c in
    rw (opposite_twice w) at (complement_gap h (product_gap i z c (complement_gaps q g)))
