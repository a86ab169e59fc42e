-- Outward rounding to units of which U make 1: the step of a gate with its mark, and the rounded evaluation of a tree
-- (01, "A level, and the way up"). One definition serves both directions: lower ends are rounded down, upper ends up.
use Rattle.std.specs.Prelude.{ℕ, zero, suc, ◌+◌, ◌-◌, ◌*◌, ◌/◌, ◌%◌, ◌≤◌, ◌<◌, Bool, true, ◌&&◌, ◌||◌, List, [], ◌∷◌, map, eqb}
use Rattle.theory.specs.Fraction.{Fraction}
use Rattle.theory.specs.FaultTree.{GateKind, all, any, Tree, Inputs, basic, gate, only, more}
use Rattle.theory.specs.Interval.{Interval}

pub data Direction : Type 0 where
  down up : Direction

abbrev pub opposite : Direction → Direction
opposite down = up
opposite up = down

-- v lies on the safe side of a / b: at or below it, or at or above it
abbrev pub Safe : Direction → ℕ → ℕ → ℕ → Type 0
Safe down a b v = v * b ≤ a
Safe up a b v = a ≤ v * b

-- of two numbers on the safe side, u lies no nearer than v
abbrev pub NoNearer : Direction → ℕ → ℕ → Type 0
NoNearer down u v = u ≤ v
NoNearer up u v = v ≤ u

-- What rounding a / b means: v is the greatest number at or below it, or the least at or above it.
pub record IsRounded (w : Direction) (a b v : ℕ) : Type 0 where
  pub safe : Safe w a b v
  pub nearest : (u : ℕ) → Safe w a b u → NoNearer w u v

-- 0 for a remainder of 0, and 1 for any other
abbrev pub carry : ℕ → ℕ
carry zero = 0
carry (suc r) = 1

-- a / b rounded: for b above 0 the one number of which `IsRounded` speaks (`rounded_is_rounded`, `rounded_unique`)
unfoldable pub rounded : Direction → ℕ → ℕ → ℕ
rounded down a b = a / b
rounded up a b = a / b + carry (a % b)

-- rounding a / b drops nothing
unfoldable pub nothing_dropped : ℕ → ℕ → Bool
nothing_dropped a b = eqb (carry (a % b)) 0

-- an end of a node's interval, in units, with the mark that says whether it is exact
pub record End : Type 0 where
  pub value : ℕ
  pub exact : Bool

-- a / b rounded, exact where nothing was dropped
abbrev pub divided : Direction → ℕ → ℕ → End
divided w a b = record { value = rounded w a b; exact = nothing_dropped a b }

-- r is the least whole number that, times U, reaches the product: it does, and nothing less does
pub record LeastReaching (U product r : ℕ) : Type 0 where
  pub reaches : product ≤ r * U
  pub nothing_less : (u : ℕ) → u < r → u * U < product

-- a product of two ends over U, rounded: up without a test for a remainder. For U above 0 it is `rounded`
-- (`rescaled_is_rounded`), and up it is the one number of which `LeastReaching` speaks (`rescaled_up_is_least`,
-- `least_is_rescaled_up`)
unfoldable pub rescaled : ℕ → Direction → ℕ → ℕ
rescaled U down product = product / U
rescaled U up product = (product + U - 1) / U

-- the number that AND starts with
unfoldable pub start : ℕ → End
start U = record { value = U; exact = true }

-- U minus a number is exact as the number is. ℕ's − stops at 0, never met as no end passes U (`reported_at_most`)
unfoldable pub end_complement : ℕ → End → End
end_complement U r = record { value = U - r.value; exact = r.exact }

-- an end that is exact and 0
unfoldable pub true_zero : End → Bool
true_zero r = r.exact && eqb r.value 0

-- the running number r times a factor x
unfoldable pub step : ℕ → Direction → End → End → End
step U w r x =
    let product : ℕ = r.value * x.value in
    record {
      value = rescaled U w product;
      exact = r.exact && x.exact && nothing_dropped product U || (true_zero r || true_zero x);
    }

-- a basic event's end: the exact end f of its cut, rounded once
unfoldable pub cut_end : ℕ → Direction → Fraction → End
cut_end U w f = divided w (f.num * U) f.den

-- the running number after the inputs of a list, in their order
abbrev pub run : ℕ → Direction → End → List End → End
run U w r [] = r
run U w r (x ∷ xs) = run U w (step U w r x) xs

-- a gate's end by its inputs' ends: OR is U minus the AND of U minus each, rounded the other way
abbrev pub gate_end : ℕ → Direction → GateKind → List End → End
gate_end U w all xs = run U w (start U) xs
gate_end U w any xs = end_complement U (run U (opposite w) (start U) (map (end_complement U) xs))

-- the end of a tree in a direction, by the ends of its basic events
abbrev mutual
  pub evaluated : ℕ → Direction → (ℕ → End) → Tree → End
  evaluated U w leaf (basic e) = leaf e
  evaluated U w leaf (gate k ts) = gate_end U w k (all_evaluated U w leaf ts)

  pub all_evaluated : ℕ → Direction → (ℕ → End) → Inputs → List End
  all_evaluated U w leaf (only t) = evaluated U w leaf t ∷ []
  all_evaluated U w leaf (more t ts) = evaluated U w leaf t ∷ all_evaluated U w leaf ts

-- the rounded end of a tree, by the exact ends of its events' cuts in that direction
abbrev pub rounded_end : ℕ → Direction → (ℕ → Fraction) → Tree → End
rounded_end U w p t = evaluated U w (λ e. cut_end U w (p e)) t

-- the end of an interval in a direction
abbrev pub end_of : Direction → Interval → Fraction
end_of down x = x.lower
end_of up x = x.upper

-- what is reported of a node: the end in a direction, by the events' cuts
abbrev pub reported : ℕ → Direction → (ℕ → Interval) → Tree → End
reported U w cuts t = rounded_end U w (λ e. end_of w (cuts e)) t
