-- The laws of document 01's order: it is strict and decided, and the first broken rule is one.
use Prim.Native.Nat.{◌≤◌, ◌<◌}
use mathlib.Core.Path.{◌≡◌, sym, ◌∙◌}
use mathlib.Core.Logic.{◌⊎◌, inl, inr, ⊎_elim}
use native.Mathlib.Nat.{eq-or-lt_of_le}
use native.Mathlib.Decide.{dec_lt, ℕ_discrete}
use native.Mathlib.Omega.{arith}
use Rattle.refusals.specs.Number.{number_of}
use Rattle.refusals.specs.Order.{stage, order_place, Earlier, by_stage, by_place, by_number, First}
use Rattle.refusals.specs.declared.refusal.Refusal.{Refusal}

-- No refusal comes before itself.
pub earlier_irreflexive : (r : Refusal) → Earlier r r → ⊥
earlier_irreflexive r (by_stage s) = omega arith
earlier_irreflexive r (by_place s p) = omega arith
earlier_irreflexive r (by_number s p n) = omega arith

-- In one stage, what has no later place and a lower number is earlier.
pub by_place_or_number : {r q : Refusal} → stage r ≡ stage q → order_place r ≤ order_place q
    → number_of r.rule < number_of q.rule → Earlier r q
by_place_or_number s p n = ⊎_elim (λ e. by_number s e n) (λ l. by_place s l) (eq-or-lt_of_le p)

-- What comes before an earlier one is earlier.
pub earlier_transitive : {r q p : Refusal} → Earlier r q → Earlier q p → Earlier r p
earlier_transitive (by_stage s) (by_stage t) = by_stage (omega arith)
earlier_transitive (by_stage s) (by_place t b) = by_stage (omega arith)
earlier_transitive (by_stage s) (by_number t b n) = by_stage (omega arith)
earlier_transitive (by_place s a) (by_stage t) = by_stage (omega arith)
earlier_transitive (by_place s a) (by_place t b) = by_place (s ∙ t) (omega arith)
earlier_transitive (by_place s a) (by_number t b n) = by_place (s ∙ t) (omega arith)
earlier_transitive (by_number s a m) (by_stage t) = by_stage (omega arith)
earlier_transitive (by_number s a m) (by_place t b) = by_place (s ∙ t) (omega arith)
earlier_transitive (by_number s a m) (by_number t b n) = by_number (s ∙ t) (a ∙ b) (omega arith)

module _ (r q : Refusal) where
  not_earlier : (stage r < stage q → ⊥) → (stage r ≡ stage q → order_place r < order_place q → ⊥)
      → (stage r ≡ stage q → order_place r ≡ order_place q → number_of r.rule < number_of q.rule → ⊥)
      → Earlier r q → ⊥
  not_earlier x y z (by_stage s) = x s
  not_earlier x y z (by_place s p) = y s p
  not_earlier x y z (by_number s p n) = z s p n

  -- Whether one comes before another is decided.
  pub earlier_decided : Dec (Earlier r q)
  earlier_decided =
      go (dec_lt (stage r) (stage q)) (ℕ_discrete (stage r) (stage q)) (dec_lt (order_place r) (order_place q))
      (ℕ_discrete (order_place r) (order_place q)) (dec_lt (number_of r.rule) (number_of q.rule))
    where
      go : Dec (stage r < stage q) → Dec (stage r ≡ stage q) → Dec (order_place r < order_place q)
          → Dec (order_place r ≡ order_place q) → Dec (number_of r.rule < number_of q.rule) → Dec (Earlier r q)
      go (yes s) e p d n = yes (by_stage s)
      go (no s) (no e) p d n = no (not_earlier s (λ x y. e x) (λ x y z. e x))
      go (no s) (yes e) (yes p) d n = yes (by_place e p)
      go (no s) (yes e) (no p) (no d) n = no (not_earlier s (λ x y. p y) (λ x y z. d y))
      go (no s) (yes e) (no p) (yes d) (yes n) = yes (by_number e d n)
      go (no s) (yes e) (no p) (yes d) (no n) = no (not_earlier s (λ x y. p y) (λ x y z. n z))

-- The first broken rule is one.
pub first_unique : {Broken : Refusal → Type 0} {r q : Refusal} → First Broken r → First Broken q → r ≡ q
first_unique {Broken} {r} {q} a b = go (a.no_earlier q b.broken) (b.no_earlier r a.broken)
  where
    go : (q ≡ r) ⊎ Earlier r q → (r ≡ q) ⊎ Earlier q r → r ≡ q
    go (inl e) y = sym e
    go (inr x) (inl e) = e
    go (inr x) (inr y) = absurd (earlier_irreflexive r (earlier_transitive x y))
