-- An enclosure is its two ends; each is read off it, and each mark off a mark byte, as it was put in.
use Prim.Native.Nat.{ℕ, ◌+◌, ◌*◌}
use mathlib.Core.Path.{◌≡◌, refl, ap, ap₂}
use mathlib.Core.Bool.{Bool, true, false, cond}
use Rattle.theory.specs.Rounding.{Direction, down, up, End}
use Rattle.rounding.specs.declared.end.End.{End as CodeEnd}
use Rattle.rounding.specs.Ends.{as_code, enclosure, end_in}
use Rattle.rounding.specs.Marks.{mark_byte, exact_in}

-- the end in a direction
pub end_in_enclosure : (w : Direction) (f : Direction → End) → end_in w (enclosure f) ≡ f w
end_in_enclosure down f = refl
end_in_enclosure up f = refl

-- an enclosure by its ends
pub with_ends : (f : Direction → End) {low high : CodeEnd} → low ≡ as_code (f down) → high ≡ as_code (f up)
    → record { lower = low; upper = high } ≡ enclosure f
with_ends f l h = ap₂ (λ (a b : CodeEnd). record { lower = a; upper = b }) l h

-- equal ends make one enclosure
pub same_ends : (f g : Direction → End) → ((w : Direction) → f w ≡ g w) → enclosure f ≡ enclosure g
same_ends f g h = with_ends g (ap as_code (h down)) (ap as_code (h up))

-- both marks are read off as they were put in
read_off : (l u : Bool) → let m : ℕ = cond l 1 0 + 2 * cond u 1 0 in (exact_in down m ≡ l) × (exact_in up m ≡ u)
read_off true true = (refl, refl)
read_off true false = (refl, refl)
read_off false true = (refl, refl)
read_off false false = (refl, refl)

-- so is the mark of the end in a direction
pub marked_as_put : (w : Direction) (f : Direction → End) → exact_in w (mark_byte (enclosure f)) ≡ (f w).exact
marked_as_put down f = (read_off (f down).exact (f up).exact).0
marked_as_put up f = (read_off (f down).exact (f up).exact).1
