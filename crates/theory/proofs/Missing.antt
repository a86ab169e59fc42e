-- What the kit's library should have had: tests joined by && and ||, and laws of plain numbers.
use Prim.Native.Nat.{ℕ, zero, suc, ◌+◌, ◌-◌, ◌*◌, ◌≤◌, ◌<◌}
use native.Mathlib.Nat.{zero-mul, suc-mul, mul_comm, mul-sub}
use native.Mathlib.Omega.{arith}
use native.Mathlib.Decide.{dec_lt}
use mathlib.Core.Path.{◌≡◌, refl, ap₂, sym, ◌∙◌}
use mathlib.Core.Bool.{Bool, true, false, not, ◌&&◌, ◌||◌, false≢true}
use mathlib.Core.Logic.{◌⊎◌, inl, inr}
use lib.Dec.{T, not_T, eqb, eqb-suc-zero}
use borrow.Author.Tests.{eqb-true, eqb-false, eq-eqb, ne_eqb}

-- a test that fails is false
pub false_of_not : (b : Bool) → T (not b) → b ≡ false
false_of_not true t = absurd t
false_of_not false t = refl

-- both tests of a passed conjunction pass
pub both_of_and : (a b : Bool) → T (a && b) → T a × T b
both_of_and true b t = (tt, t)
both_of_and false b t = absurd t

-- one of the tests of a failed conjunction fails
pub either_of_not_and : {X : Type 0} (a b : Bool) → (T (not a) → X) → (T (not b) → X) → T (not (a && b)) → X
either_of_not_and true b f g t = g t
either_of_not_and false b f g t = f tt

-- one of the tests of a passed disjunction passes
pub either_of_or : {X : Type 0} (a b : Bool) → (T a → X) → (T b → X) → T (a || b) → X
either_of_or true b f g t = f tt
either_of_or false b f g t = g t

-- both tests of a failed disjunction fail
pub both_of_not_or : (a b : Bool) → T (not (a || b)) → T (not a) × T (not b)
both_of_not_or true b t = absurd t
both_of_not_or false b t = (tt, t)

-- both tests of a false disjunction are false
pub or_lacks : (a b : Bool) → a || b ≡ false → (a ≡ false) × (b ≡ false)
or_lacks true b h = absurd (false≢true (sym h))
or_lacks false b h = (refl, h)

-- a disjunction passes where its second test does
pub or_right : (a b : Bool) → T b → T (a || b)
or_right true b t = tt
or_right false b t = t

-- a conjunction passes where one passes whose tests imply its own
pub and_implied : (a b c d : Bool) → (T a → T c) → (T b → T d) → T (a && b) → T (c && d)
and_implied true b true d h k t = k t
and_implied true b false d h k t = absurd (h tt)
and_implied false b c d h k t = absurd t

-- so does a disjunction
pub or_implied : (a b c d : Bool) → (T a → T c) → (T b → T d) → T (a || b) → T (c || d)
or_implied true b true d h k t = tt
or_implied true b false d h k t = absurd (h tt)
or_implied false b true d h k t = tt
or_implied false b false d h k t = k t

-- the first two tests of a disjunction may change places
pub or_swap : (a b c : Bool) → a || (b || c) ≡ b || (a || c)
or_swap true true c = refl
or_swap true false c = refl
or_swap false b c = refl

-- the negation of a conjunction whose first test is negated
pub not_and : (a b : Bool) → not (not a && b) ≡ a || not b
not_and true b = refl
not_and false b = refl

-- a passed conjunction, from its tests
pub and_of_both : (a b : Bool) → T a → T b → T (a && b)
and_of_both true b t u = u
and_of_both false b t u = absurd t

-- a disjunction passes where its first test does
pub or_left : (a b : Bool) → T a → T (a || b)
or_left true b t = tt
or_left false b t = absurd t

-- a test that passes is true
pub true_of : (b : Bool) → T b → b ≡ true
true_of true t = refl
true_of false t = absurd t

-- a test that can't pass is false
pub false_of : (b : Bool) → (T b → ⊥) → b ≡ false
false_of b h = false_of_not b (not_T b h)

-- a disjunction is the test that can pass alone
pub or_first : (a b : Bool) → (T b → ⊥) → a || b ≡ a
or_first true b h = refl
or_first false b h = false_of b h

pub or_second : (a b : Bool) → (T a → ⊥) → a || b ≡ b
or_second true b h = absurd (h tt)
or_second false b h = refl

-- whether a test passes
pub passes_or_not : (b : Bool) → T b ⊎ T (not b)
passes_or_not true = inl tt
passes_or_not false = inr tt

-- a number equals itself
pub eqb_same : (a : ℕ) → eqb a a ≡ true
eqb_same a = eq-eqb a a refl

-- the test whether two numbers are equal does not turn on their order
pub eqb_comm : (a b : ℕ) → eqb a b ≡ eqb b a
eqb_comm a b = go (eqb a b) refl
  where
    go : (t : Bool) → eqb a b ≡ t → eqb a b ≡ eqb b a
    go true h = h ∙ sym (eq-eqb b a (sym (eqb-true a b h)))
    go false h = h ∙ sym (ne_eqb b a (λ q. eqb-false a b h (sym q)))

-- one of two numbers with a sum above 0 is above 0
pub either_positive : {X : Type 0} (a b : ℕ) → (0 < a → X) → (0 < b → X) → 0 < a + b → X
either_positive zero b f g h = g (omega arith)
either_positive (suc a) b f g h = f (omega arith)

-- a number that is not 0 is above 0
pub positive_of_not_zero : (n : ℕ) → T (not (eqb n 0)) → 0 < n
positive_of_not_zero zero t = absurd t
positive_of_not_zero (suc n) t = omega arith

-- a number times one above 0 is 0 where the number is
pub eqb_zero_times : (n k : ℕ) → 0 < k → eqb (n * k) 0 ≡ eqb n 0
eqb_zero_times zero k p = rw zero-mul refl
eqb_zero_times (suc n) k p = ne_eqb (suc n * k) 0 (λ e. omega (arith, suc-mul n k)) ∙ sym (eqb-suc-zero n)

-- a difference times a factor
pub sub_mul : (a b c : ℕ) → (a - b) * c ≡ a * c - b * c
sub_mul a b c = mul_comm (a - b) c ∙ mul-sub c a b ∙ ap₂ ◌-◌ (mul_comm c a) (mul_comm c b)

-- a number is below another or not
pub below_or_not : (r c : ℕ) → (r < c) ⊎ (c ≤ r)
below_or_not r c = go (dec_lt r c)
  where
    go : Dec (r < c) → (r < c) ⊎ (c ≤ r)
    go (yes h) = inl h
    go (no h) = inr (omega arith)
