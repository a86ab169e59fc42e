-- A listed event fails with its own probability, however many others are listed.
use Prim.Native.Nat.{ℕ, ◌*◌}
use mathlib.Core.Path.{◌≡◌, refl, ap, ◌∙◌}
use mathlib.Core.Bool.{Bool, true, false, ◌||◌}
use mathlib.Core.List.{List, [], ◌∷◌}
use native.Mathlib.Nat.{mul-zero}
use native.Mathlib.Omega.{arith}
use lib.Dec.{T, eqb}
use borrow.Author.Tests.{eqb-true}
use Rattle.theory.specs.Fraction.{Fraction}
use Rattle.theory.specs.FaultTree.{contains, Each}
use Rattle.theory.proofs.Missing.{false_of_not, or_lacks, eqb_same, eqb_comm}
use Rattle.theory.proofs.Distinct.{Distinct}
use Rattle.theory.proofs.Expectation.{bit, expect, common_denominator, Ignores, Probable, expect_one, expect_ignored}
use Rattle.theory.proofs.TestHolds.{Holds}

-- whether e fails does not depend on another event
event_ignores : (e x : ℕ) → eqb e x ≡ false → Ignores x (λ s. bit (s e))
event_ignores e x other s = ap (λ (b : Bool). bit (b || s e)) (eqb_comm x e ∙ other)

-- an event that is not listed never fails
absent_zero : (p : ℕ → Fraction) (e : ℕ) (es : List ℕ) → Each (Probable p) es → contains e es ≡ false
    → expect p es (λ s. bit (s e)) ≡ 0
absent_zero p e [] h out = refl
absent_zero p e (x ∷ xs) h out =
    let (other, rest) = or_lacks (eqb e x) (contains e xs) out in
    expect_ignored p x xs (λ s. bit (s e)) h.0 (event_ignores e x other)
    ∙ ap (◌*◌ (p x).den) (absent_zero p e xs h.1 rest) ∙ mul-zero (p x).den

-- the first listed event fails with its own probability
first_holds : (p : ℕ → Fraction) (e : ℕ) (es : List ℕ) → contains e es ≡ false → Each (Probable p) es
    → Holds p (e ∷ es) (λ s. s e) (p e)
first_holds p e es out h =
    let with : expect p es (λ s. bit (eqb e e || s e)) ≡ common_denominator p es
    = rw (eqb_same e) (expect_one p es h) in
    rw (absent_zero p e es h out, with) (omega arith)

-- another event listed first changes no probability
later_holds : (p : ℕ → Fraction) (e x : ℕ) (es : List ℕ) → eqb e x ≡ false → Probable p x
    → Holds p es (λ s. s e) (p e) → Holds p (x ∷ es) (λ s. s e) (p e)
later_holds p e x es other h k =
    rw (expect_ignored p x es (λ s. bit (s e)) h (event_ignores e x other)) (omega (arith, ap (◌*◌ (p x).den) k))

-- a listed event fails with its own probability
pub event_holds : (p : ℕ → Fraction) (e : ℕ) (es : List ℕ) → Distinct es → Each (Probable p) es → T (contains e es)
    → Holds p es (λ s. s e) (p e)
event_holds p e [] d h k = absurd k
event_holds p e (x ∷ xs) d h k = go (eqb e x) refl k (λ t. event_holds p e xs d.1 h.1 t)
  where
    first : e ≡ x → Holds p (x ∷ xs) (λ s. s e) (p e)
    first q = rw (← q) (first_holds p e xs (rw q (false_of_not (contains x xs) d.0)) h.1)

    go : (b : Bool) → eqb e x ≡ b → T (b || contains e xs) → (T (contains e xs) → Holds p xs (λ s. s e) (p e))
        → Holds p (x ∷ xs) (λ s. s e) (p e)
    go true q t later = first (eqb-true e x q)
    go false q t later = later_holds p e x xs q h.0 (later t)
