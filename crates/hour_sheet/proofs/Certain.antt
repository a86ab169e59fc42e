-- An event in an open window is certain at every level: its reported cut is from U to U, both ends exact.
use Prim.Native.Nat.{ℕ, ◌+◌, ◌-◌, ◌*◌, ◌%◌, ◌<◌}
use mathlib.Core.Path.{◌≡◌, ap, ◌∙◌}
use mathlib.Core.Bool.{Bool, true}
use mathlib.Core.List.{List}
use native.Mathlib.Nat.{mul_comm, mul-pos, zero-mul}
use native.Mathlib.Omega.{arith}
use lib.Dec.{eqb, lit<}
use Rattle.theory.specs.Unit.{billion}
use Rattle.theory.specs.Trapezoid.{Trapezoid, cut}
use Rattle.theory.specs.Rounding.{Direction, down, up, start, cut_end, end_of, rounded, nothing_dropped, carry}
use Rattle.theory.proofs.RoundingMeaning.{rounded_whole, carry_whole}
use Rattle.rounding.specs.Ends.{enclosure}
use Rattle.rounding.proofs.Marks.{same_ends}
use Rattle.opinion_sheet.specs.Format.{event_count, unit}
use Rattle.event_cut.specs.Level.{IsLevel}
use Rattle.opinion_sheet.specs.Entries.{entry_of}
use Rattle.event_cut.specs.EventCut.{cut_at}
use Rattle.opinion_sheet.specs.declared.entry.Entry.TheVariants as entry
use Rattle.hour_sheet.specs.Sheet.{Written}

module _ (U k n : ℕ) (positive : 0 < U) (level : IsLevel k n) where
  -- four numbers U
  abbrev four : Trapezoid
  four = record { den = U; a = U; b = U; c = U; d = U }

  -- a whole number of units, of which nothing is dropped
  whole_end : (w : Direction) (num : ℕ) → num ≡ U * n → cut_end U w (record { num = num; den = U * n }) ≡ start U
  unfolding cut_end start nothing_dropped
  whole_end w num e =
      let value : rounded w (num * U) (U * n) ≡ U =
      ap (λ (x : ℕ). rounded w x (U * n)) (ap (λ (x : ℕ). x * U) e ∙ mul_comm (U * n) U)
      ∙ rounded_whole w U (U * n) (mul-pos positive level.n_positive) in
      let exact : eqb (carry (num * U % (U * n))) 0 ≡ true =
      ap (λ (x : ℕ). eqb (carry (x * U % (U * n))) 0) e ∙ ap (λ (x : ℕ). eqb x 0) (carry_whole U (U * n)) in
      λ i. record { value = value i; exact = exact i }

  -- the sides of the trapezoid do not slope
  no_slope : (U - U) * k ≡ 0
  no_slope =
      let level_sides : U - U ≡ 0 = omega arith in
      ap (λ (x : ℕ). x * k) level_sides ∙ zero-mul k

  -- each end of the cut is 1
  certain_end : (w : Direction) → cut_end U w (end_of w (cut four k n)) ≡ start U
  unfolding cut
  certain_end down = whole_end down (U * n + (U - U) * k) (omega (arith, no_slope))
  certain_end up = whole_end up (U * n - (U - U) * k) (omega (arith, no_slope))

-- Of an event that is out of service, in the sheet of the hour.
module _ (sheet : List ℕ) (out : ℕ → Bool) (after : List ℕ) (w : Written sheet out after) where
  pub certain_cut : (e : ℕ) → e < event_count sheet → out e ≡ true → (k n : ℕ) → IsLevel k n
      → cut_at (unit after) after e k n ≡ enclosure (λ w. start (unit after))
  certain_cut e l o k n level =
      let read : entry_of after e ≡ entry.Numbers (record { a = billion; b = billion; c = billion; d = billion }) =
      rw (w.certain_kind e l o) (ap entry.Numbers (w.certain_numbers e l o)) in
      rw read (same_ends _ _ (certain_end billion k n (lit< tt) level))
