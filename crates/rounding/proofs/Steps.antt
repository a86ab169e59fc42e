-- A step's answer with its mark, by what it is times U.
use Prim.Native.Nat.{ℕ, ◌*◌, ◌<◌}
use mathlib.Core.Path.{◌≡◌, ap}
use mathlib.Core.Bool.{Bool, ◌&&◌, ◌||◌}
use lib.Dec.{eqb}
use Rattle.theory.specs.Rounding.{Direction, rescaled, true_zero, step}
use Rattle.theory.proofs.Rescaled.{whole_drops_nothing}
use Rattle.rounding.specs.declared.end.End.{End}
use Rattle.rounding.specs.Ends.{as_theory, as_code}

-- an answer with its mark: both ends are marked and nothing was dropped, or an end is marked and 0
abbrev pub with_mark : End → End → ℕ → Bool → End
with_mark r x v whole = record {
  value = v;
  exact = r.exact && x.exact && whole || (r.exact && eqb r.value 0 || x.exact && eqb x.value 0);
}

-- the answer of a step, marked by what it is times U
pub with_mark_is_step : (U : ℕ) → 0 < U → (w : Direction) (r x : End) {v : ℕ}
    → v ≡ rescaled U w (r.value * x.value)
    → with_mark r x v (eqb (v * U) (r.value * x.value)) ≡ as_code (step U w (as_theory r) (as_theory x))
unfolding step true_zero
with_mark_is_step U positive w r x e =
    rw e (ap (with_mark r x _) (whole_drops_nothing U w (r.value * x.value) positive))
