-- A gate's family with one input more behind the others: for AND each set of the others with each set of the new
-- input, for OR the sets of the new input behind those of the others.
use Prim.Native.Nat.{ℕ, ◌+◌, ◌-◌, ◌*◌, ◌/◌, ◌%◌, ◌≤◌, ◌<◌}
use mathlib.Core.Path.{◌≡◌, sym, ap, ◌∙◌}
use mathlib.Core.Bool.{or_assoc, or-false}
use mathlib.Core.List.{List, [], ◌∷◌, ◌++◌}
use native.Mathlib.Nat.{add-mul-mod_self_left, add-mul-div_left, mul_assoc, mul_comm, mod-eq_of_lt}
use native.Mathlib.Omega.{arith}
use mathlib.Core.Logic.{◌⊎◌, inl, inr}
use borrow.Author.Tests.{lt-ltb, le-ltb}
use Rattle.theory.specs.MinimalCutSets.{SameSet, Family}
use Rattle.theory.specs.CutSetFamily.{union, unions, alternatives}
use Rattle.theory.proofs.Missing.{below_or_not}
use Rattle.theory.proofs.MinimalFamilies.{product_rest}

module _ (g : Family) where
  -- AND: the counts are multiplied
  pub unions_more_count : (fs : List Family) → (unions (fs ++ (g ∷ []))).count ≡ (unions fs).count * g.count
  unions_more_count [] = mul_comm g.count 1
  unions_more_count (f ∷ fs) =
      ap (◌*◌ f.count) (unions_more_count fs) ∙ sym (mul_assoc f.count (unions fs).count g.count)

  -- AND: the new input's set changes slowest
  pub unions_more_set : (fs : List Family) (p q : ℕ) → p < (unions fs).count → q < g.count
      → SameSet ((unions (fs ++ (g ∷ []))).set (p + (unions fs).count * q)) (union ((unions fs).set p) (g.set q))
  unions_more_set [] p q h k e =
      let first : p + 1 * q ≡ q = omega arith in
      rw (first, mod-eq_of_lt k) (or-false (g.set q e))
  unions_more_set (f ∷ fs) p q h k e =
      let m : ℕ = (unions fs).count in
      let (rest, quotient) = product_rest p f.count m h in
      let positive : 0 < f.count = omega arith in
      rw (
        mul_assoc f.count m q,
        add-mul-mod_self_left p f.count (m * q),
        add-mul-div_left p (m * q) positive,
        unions_more_set fs (p / f.count) q quotient k e,
      )
      (sym (or_assoc (f.set (p % f.count) e) ((unions fs).set (p / f.count) e) (g.set q e)))

  -- OR: the counts are added
  pub alternatives_more_count : (fs : List Family)
      → (alternatives (fs ++ (g ∷ []))).count ≡ (alternatives fs).count + g.count
  alternatives_more_count [] = omega arith
  alternatives_more_count (f ∷ fs) = omega (arith, alternatives_more_count fs)

  -- OR: the sets of the others keep their numbers
  pub alternatives_more_old : (fs : List Family) (r : ℕ) → r < (alternatives fs).count
      → (alternatives (fs ++ (g ∷ []))).set r ≡ (alternatives fs).set r
  alternatives_more_old [] r h = absurd (omega arith)
  alternatives_more_old (f ∷ fs) r h =
      go (below_or_not r f.count) (λ l. alternatives_more_old fs (r - f.count) (omega arith))
    where
      go : (r < f.count) ⊎ (f.count ≤ r)
          → (f.count ≤ r → (alternatives (fs ++ (g ∷ []))).set (r - f.count) ≡ (alternatives fs).set (r - f.count))
          → (alternatives ((f ∷ fs) ++ (g ∷ []))).set r ≡ (alternatives (f ∷ fs)).set r
      go (inl l) later = rw (lt-ltb r f.count l)
      go (inr l) later = rw (le-ltb r f.count l) (later l)

  -- OR: those of the new input follow
  pub alternatives_more_new : (fs : List Family) (q : ℕ) → q < g.count
      → (alternatives (fs ++ (g ∷ []))).set ((alternatives fs).count + q) ≡ g.set q
  alternatives_more_new [] q k = let first : 0 + q ≡ q = omega arith in rw (first, lt-ltb q g.count k)
  alternatives_more_new (f ∷ fs) q k =
      let past : f.count + (alternatives fs).count + q - f.count ≡ (alternatives fs).count + q = omega arith in
      rw (le-ltb (f.count + (alternatives fs).count + q) f.count (omega arith), past) (alternatives_more_new fs q k)
