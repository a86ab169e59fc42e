-- The expectation of a product is the product of the expectations, where the two functions depend on no common event or
-- only on events that are sure to fail or never do.
use Prim.Native.Nat.{ℕ, ◌+◌, ◌-◌, ◌*◌}
use mathlib.Core.Path.{◌≡◌, ap, ◌∙◌}
use mathlib.Core.List.{List, [], ◌∷◌}
use native.Mathlib.Nat.{mul_comm, mul-one, sub-add_cancel}
use native.Mathlib.Omega.{arith}
use Rattle.theory.specs.Fraction.{Fraction, Probability}
use Rattle.theory.specs.FaultTree.{Each}
use Rattle.theory.specs.Unreliability.{EventSet, empty_set, with_event}
use Rattle.theory.proofs.Each.{each_map}
use Rattle.theory.proofs.Expectation.{expect, common_denominator, Ignores, Probable, expect_with, with_swap}

-- an event of probability x separates two things: F or G says that one ignores it, or x is 0 or 1
pub data Separated (x : Fraction) (F G : Type 0) : Type 0 where
  left : F → Separated x F G
  right : G → Separated x F G
  never : x.num ≡ 0 → Separated x F G
  always : x.num ≡ x.den → Separated x F G

-- what F and G imply is separated where they are
pub separated_map : {F G K L : Type 0} (x : Fraction) → (F → K) → (G → L) → Separated x F G → Separated x K L
separated_map x u v (left h) = left (u h)
separated_map x u v (right h) = right (v h)
separated_map x u v (never h) = never h
separated_map x u v (always h) = always h

-- the event e separates the functions f and g
abbrev pub SeparatedAt : (ℕ → Fraction) → (EventSet → ℕ) → (EventSet → ℕ) → ℕ → Type 0
SeparatedAt p f g e = Separated (p e) (Ignores e f) (Ignores e g)

-- what ignores an event ignores it when another has failed too
pub ignores_with : (e i : ℕ) (f : EventSet → ℕ) → Ignores i f → Ignores i (λ s. f (with_event e s))
ignores_with e i f h s = ap f (with_swap e i s) ∙ h (with_event e s)

-- an event that separates functions does so when another has failed
separated_with : (p : ℕ → Fraction) (e : ℕ) (f g : EventSet → ℕ) (i : ℕ) → SeparatedAt p f g i
    → SeparatedAt p (λ s. f (with_event e s)) (λ s. g (with_event e s)) i
separated_with p e f g i h = separated_map (p i) (ignores_with e i f) (ignores_with e i g) h

-- One event's part of the product law, on plain numbers: q and n are its weights, d its denominator; a, b, c are the
-- expectations of f × g, f and g without the event, and aₑ, bₑ, cₑ those with it. Here f ignores the event.
event_left : (q n d D a aₑ b c cₑ : ℕ) → q + n ≡ d → a * D ≡ b * c → aₑ * D ≡ b * cₑ
    → (q * a + n * aₑ) * (d * D) ≡ (q * b + n * b) * (q * c + n * cₑ)
event_left q n d D a aₑ b c cₑ whole h hₑ =
    rw (← whole) (omega (arith, ap (λ x. q * (q + n) * x) h, ap (λ x. n * (q + n) * x) hₑ))

-- here the event never fails
event_never : (q n d D a aₑ b bₑ c cₑ : ℕ) → n ≡ 0 → q + n ≡ d → a * D ≡ b * c
    → (q * a + n * aₑ) * (d * D) ≡ (q * b + n * bₑ) * (q * c + n * cₑ)
event_never q n d D a aₑ b bₑ c cₑ none whole h =
    let same : d ≡ q = omega arith in
    rw (none, same) (omega (arith, ap (λ x. x * (q * q)) h))

-- here it is sure to fail
event_always : (q n d D a aₑ b bₑ c cₑ : ℕ) → n ≡ d → q + n ≡ d → aₑ * D ≡ bₑ * cₑ
    → (q * a + n * aₑ) * (d * D) ≡ (q * b + n * bₑ) * (q * c + n * cₑ)
event_always q n d D a aₑ b bₑ c cₑ sure whole h =
    let none : q ≡ 0 = omega arith in
    rw (none, sure) (omega (arith, ap (λ x. x * (d * d)) h))

-- the three together, and the case that g ignores the event
event_product : (x : Fraction) → Probability x → (D a aₑ b bₑ c cₑ : ℕ) → Separated x (bₑ ≡ b) (cₑ ≡ c)
    → a * D ≡ b * c → aₑ * D ≡ bₑ * cₑ
    → ((x.den - x.num) * a + x.num * aₑ) * (x.den * D)
    ≡ ((x.den - x.num) * b + x.num * bₑ) * ((x.den - x.num) * c + x.num * cₑ)
event_product x h D a aₑ b bₑ c cₑ separated k kₑ = go separated
  where
    q : ℕ
    q = x.den - x.num

    n : ℕ
    n = x.num

    whole : q + n ≡ x.den
    whole = sub-add_cancel h.at_most_one

    go : Separated x (bₑ ≡ b) (cₑ ≡ c) → (q * a + n * aₑ) * (x.den * D) ≡ (q * b + n * bₑ) * (q * c + n * cₑ)
    go (left i) = rw i (event_left q n x.den D a aₑ b c cₑ whole k (kₑ ∙ ap (λ y. y * cₑ) i))
    go (right i) =
        rw i
        (event_left q n x.den D a aₑ c b bₑ whole (k ∙ mul_comm b c) (kₑ ∙ ap (◌*◌ bₑ) i ∙ mul_comm bₑ c)
        ∙ mul_comm (q * c + n * c) (q * b + n * bₑ))
    go (never z) = event_never q n x.den D a aₑ b bₑ c cₑ z whole k
    go (always z) = event_always q n x.den D a aₑ b bₑ c cₑ z whole kₑ

-- the expectation of a product of functions that each event separates is the product of their expectations
pub expect_product : (p : ℕ → Fraction) (es : List ℕ) (f g : EventSet → ℕ) → Each (Probable p) es
    → Each (SeparatedAt p f g) es
    → expect p es (λ s. f s * g s) * common_denominator p es ≡ expect p es f * expect p es g
expect_product p [] f g h k = mul-one (f empty_set * g empty_set)
expect_product p (e ∷ es) f g h k =
    event_product (p e) h.0 (common_denominator p es)
    (expect p es (λ s. f s * g s)) _ (expect p es f) _ (expect p es g) _
    (separated_map (p e) (expect_with p e es f) (expect_with p e es g) k.0)
    (expect_product p es f g h.1 k.1)
    (expect_product p es (λ s. f (with_event e s)) (λ s. g (with_event e s)) h.1
    (each_map (SeparatedAt p f g) _ (separated_with p e f g) es k.1))
