-- The counts over the first records: a node's inputs by its kind, and that the counts never fall.
use Prim.Native.Nat.{ℕ, zero, suc, ◌+◌, ◌-◌, ◌≤◌, ◌<◌}
use mathlib.Core.Path.{◌≡◌, refl, sym, ap, subst}
use mathlib.Core.Logic.{⊎_elim}
use mathlib.Core.Bool.{cond}
use mathlib.Core.List.{List}
use native.Mathlib.Nat.{add-zero, add-suc, eq-zero-or-pos, le_of_eq, not-suc-le-zero}
use native.Mathlib.Omega.{arith}
use borrow.Author.Tests.{eq-eqb, ne_eqb}
use Rattle.tree_file.specs.Format.{field_b, kind}
use Rattle.tree_file.specs.Tallies.{events_before, input_count, inputs_before, is_basic}

-- The inputs of a basic event and of a gate.
pub basic_inputs : (file : List ℕ) (i : ℕ) → kind file i ≡ 0 → input_count file i ≡ 0
unfolding input_count
basic_inputs file i z = rw (eq-eqb (kind file i) 0 z)

pub gate_inputs : (file : List ℕ) (i : ℕ) → 0 < kind file i → input_count file i ≡ field_b file i
unfolding input_count
gate_inputs file i gate = rw (ne_eqb (kind file i) 0 (λ z. omega arith))

-- A node with an input is a gate.
pub with_input : (file : List ℕ) (i k : ℕ) → k < input_count file i → 0 < kind file i
with_input file i k h =
    ⊎_elim (λ z. absurd (not-suc-le-zero (subst (λ (n : ℕ). k < n) (basic_inputs file i z) h))) (λ g. g)
    (eq-zero-or-pos (kind file i))

-- A running sum never falls.
module _ (F G : ℕ → ℕ) (step : (i : ℕ) → F (suc i) ≡ F i + G i) where
  sum_add : (i d : ℕ) → F i ≤ F (i + d)
  sum_add i zero = le_of_eq (ap F (sym (add-zero i)))
  sum_add i (suc d) = rw (add-suc i d) (omega (arith, step (i + d), sum_add i d))

  sum_monotone : (i n : ℕ) → i ≤ n → F i ≤ F n
  sum_monotone i n h = subst (λ (m : ℕ). F i ≤ F m) (omega arith) (sum_add i (n - i))

pub inputs_monotone : (file : List ℕ) (i n : ℕ) → i ≤ n → inputs_before file i ≤ inputs_before file n
unfolding inputs_before
inputs_monotone file = sum_monotone (λ i. inputs_before file i) (λ i. input_count file i) (λ i. refl)

pub events_monotone : (file : List ℕ) (i n : ℕ) → i ≤ n → events_before file i ≤ events_before file n
unfolding events_before
events_monotone file = sum_monotone (λ i. events_before file i) (λ i. cond (is_basic file i) 1 0) (λ i. refl)

-- The number of a basic event is below the count of any run that has the event.
pub event_below : (file : List ℕ) (i n : ℕ) → i < n → kind file i ≡ 0 → events_before file i < events_before file n
unfolding events_before
event_below file i n lt z =
    let one_more : events_before file (suc i) ≡ events_before file i + 1 = rw (eq-eqb (kind file i) 0 z) in
    omega (arith, events_monotone file (suc i) n lt)
