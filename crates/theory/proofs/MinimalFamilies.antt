-- Families of minimal sets: that of a conjunction has the unions, that of a disjunction the sets of both.
use Prim.Native.Nat.{ℕ, zero, suc, ◌+◌, ◌-◌, ◌*◌, ◌/◌, ◌%◌, ◌≤◌, ◌<◌}
use mathlib.Core.Path.{◌≡◌, refl, sym, ap, ap₂, ◌∙◌}
use mathlib.Core.Bool.{Bool, true, false, cond, ◌&&◌, ◌||◌}
use native.Mathlib.Nat.{add-mul-mod_self_left, add-mul-div_left, div-add-mod, div-eq_of_lt, div-lt_iff_lt-mul}
use native.Mathlib.Nat.{mod-eq_of_lt, mod-lt, mul-le-mul, mul_comm, le_refl, zero-mul, zero-add, zero-lt-suc}
use native.Mathlib.Omega.{arith}
use mathlib.Core.Logic.{◌⊎◌, inl, inr}
use lib.Dec.{T, ltb}
use borrow.Author.Tests.{lt-ltb, le-ltb}
use Rattle.theory.specs.Unreliability.{EventSet, empty_set}
use Rattle.theory.specs.MinimalCutSets.{Within, SameSet, Family}
use Rattle.theory.specs.CutSetFamily.{union}
use Rattle.theory.proofs.Missing.{both_of_and, either_of_or, or_right, and_of_both, or_left, true_of, below_or_not}
use Rattle.theory.proofs.MinimalSets.{Depends, ApartSets, Minimal, kept, minimal_of_weaker, and_part, and_whole}
use Rattle.theory.proofs.MinimalSets.{or_whole, or_apart}

-- `Enumerates` of specs/, for any test of sets
pub record Lists (own : EventSet) (f : EventSet → Bool) (fam : Family) : Type 0 where
  pub each : (r : ℕ) → r < fam.count → Minimal own f (fam.set r)
  pub every : (s : EventSet) → Minimal own f s → (r : ℕ) × (r < fam.count) × SameSet (fam.set r) s
  pub once : (q r : ℕ) → q < fam.count → r < fam.count → SameSet (fam.set q) (fam.set r) → q ≡ r

-- a number below a product, taken apart, and put together again
pub product_rest : (r a b : ℕ) → r < a * b → (r % a < a) × (r / a < b)
product_rest r zero b l = absurd (omega (arith, zero-mul b))
product_rest r (suc a) b l = (mod-lt r (zero-lt-suc a), (div-lt_iff_lt-mul (zero-lt-suc a)).1 (rw mul_comm at l))

product_index : (p q a b : ℕ) → p < a → q < b → (p + a * q < a * b) × ((p + a * q) % a ≡ p) × ((p + a * q) / a ≡ q)
product_index p q a b h k = (
  omega (arith, mul-le-mul (le_refl a) k),
  add-mul-mod_self_left p a q ∙ mod-eq_of_lt h,
  add-mul-div_left p q (omega arith) ∙ ap (λ x. x + q) (div-eq_of_lt h) ∙ zero-add q,
)

parts_equal : (q r a : ℕ) → q % a ≡ r % a → q / a ≡ r / a → q ≡ r
parts_equal q r a m d = sym (div-add-mod q a) ∙ ap₂ (λ x y. a * x + y) d m ∙ div-add-mod r a

-- a set is the union of its parts
parts_union : (x k l : Bool) → (T x → T (k || l)) → (x && k) || (x && l) ≡ x
parts_union true true l h = refl
parts_union true false true h = refl
parts_union true false false h = absurd (h tt)
parts_union false k l h = refl

-- a part of a union is the set that it came from
union_first : (x y k : Bool) → (T x → T k) → (T y → T k → ⊥) → (x || y) && k ≡ x
union_first true y true h n = refl
union_first true y false h n = absurd (h tt)
union_first false true true h n = absurd (n tt tt)
union_first false true false h n = refl
union_first false false k h n = refl

union_second : (x y k : Bool) → (T y → T k) → (T x → T k → ⊥) → (x || y) && k ≡ y
union_second true true k h n = absurd (n tt (h tt))
union_second true false true h n = absurd (n tt tt)
union_second true false false h n = refl
union_second false true k h n = true_of k (h tt)
union_second false false k h n = refl

module _ (a b : EventSet) (apart : ApartSets a b) (s v s' v' : EventSet) (in_a : Within s a) (in_b : Within v b)
    (in_a' : Within s' a) (in_b' : Within v' b) (same : SameSet (union s v) (union s' v')) where
  -- the parts of equal unions are equal
  firsts_same : SameSet s s'
  firsts_same e =
      sym (union_first (s e) (v e) (a e) (in_a e) (λ y k. apart e k (in_b e y)))
      ∙ ap (λ x. x && a e) (same e) ∙ union_first (s' e) (v' e) (a e) (in_a' e) (λ y k. apart e k (in_b' e y))

  seconds_same : SameSet v v'
  seconds_same e =
      sym (union_second (s e) (v e) (b e) (in_b e) (λ y k. apart e (in_a e y) k))
      ∙ ap (λ x. x && b e) (same e) ∙ union_second (s' e) (v' e) (b e) (in_b' e) (λ y k. apart e (in_a' e y) k)

module _ (f g : EventSet → Bool) (a b : EventSet) (df : Depends f a) (dg : Depends g b) (apart : ApartSets a b)
    (F G : Family) (lf : Lists a f F) (lg : Lists b g G) where
  abbrev both : EventSet → Bool
  both u = f u && g u

  abbrev product_family : Family
  product_family = record {
    count = F.count * G.count;
    set = λ r. union (F.set (r % F.count)) (G.set (r / F.count));
  }

  pub and_lists : Lists (union a b) both product_family
  and_lists = record { each = each; every = every; once = once }
    where
      each : (r : ℕ) → r < F.count * G.count → Minimal (union a b) both (product_family.set r)
      each r l =
          let (m, d) = product_rest r F.count G.count l in
          and_whole f g a b df dg apart (F.set (r % F.count)) (G.set (r / F.count)) (lf.each _ m) (lg.each _ d)

      every : (s : EventSet) → Minimal (union a b) both s
          → (r : ℕ) × (r < F.count * G.count) × SameSet (product_family.set r) s
      every s m = go (lf.every (kept a s) first) (lg.every (kept b s) second)
        where
          passes : T (f s) × T (g s)
          passes = both_of_and (f s) (g s) m.passes

          first : Minimal a f (kept a s)
          first = and_part f g a b df dg apart s passes.0 passes.1
              (λ u w p q. m.least u w (and_of_both (f u) (g u) p q))

          second : Minimal b g (kept b s)
          second = and_part g f b a dg df (λ e k l. apart e l k) s passes.1 passes.0
              (λ u w p q. m.least u w (and_of_both (f u) (g u) q p))

          go : (p : ℕ) × (p < F.count) × SameSet (F.set p) (kept a s)
              → (q : ℕ) × (q < G.count) × SameSet (G.set q) (kept b s)
              → (r : ℕ) × (r < F.count * G.count) × SameSet (product_family.set r) s
          go (p, h, same_a) (q, k, same_b) =
              let (l, m_p, d_q) = product_index p q F.count G.count h k in (
                p + F.count * q,
                l,
                λ e. rw (m_p, d_q, same_a e, same_b e)
                    (parts_union (s e) (a e) (b e) (m.inside e)),
              )

      once : (q r : ℕ) → q < F.count * G.count → r < F.count * G.count
          → SameSet (product_family.set q) (product_family.set r) → q ≡ r
      once q r h k same = parts_equal q r F.count
          (lf.once (q % F.count) (r % F.count) rest_q.0 rest_r.0
          (firsts_same a b apart (F.set (q % F.count)) (G.set (q / F.count)) (F.set (r % F.count))
          (G.set (r / F.count)) first_q second_q first_r second_r same))
          (lg.once (q / F.count) (r / F.count) rest_q.1 rest_r.1
          (seconds_same a b apart (F.set (q % F.count)) (G.set (q / F.count)) (F.set (r % F.count))
          (G.set (r / F.count)) first_q second_q first_r second_r same))
        where
          rest_q : (q % F.count < F.count) × (q / F.count < G.count)
          rest_q = product_rest q F.count G.count h

          rest_r : (r % F.count < F.count) × (r / F.count < G.count)
          rest_r = product_rest r F.count G.count k

          first_q : Within (F.set (q % F.count)) a
          first_q = (lf.each (q % F.count) rest_q.0).inside

          first_r : Within (F.set (r % F.count)) a
          first_r = (lf.each (r % F.count) rest_r.0).inside

          second_q : Within (G.set (q / F.count)) b
          second_q = (lg.each (q / F.count) rest_q.1).inside

          second_r : Within (G.set (r / F.count)) b
          second_r = (lg.each (r / F.count) rest_r.1).inside

  abbrev either : EventSet → Bool
  either u = f u || g u

  abbrev sum_family : Family
  sum_family = record {
    count = F.count + G.count;
    set = λ r. cond (ltb r F.count) (F.set r) (G.set (r - F.count));
  }

  -- a set of the first family, or of the second
  sum_first : (r : ℕ) → r < F.count → sum_family.set r ≡ F.set r
  sum_first r l = rw (lt-ltb r F.count l)

  sum_second : (r : ℕ) → F.count ≤ r → sum_family.set r ≡ G.set (r - F.count)
  sum_second r l = rw (le-ltb r F.count l)

  module _ (f_empty : f empty_set ≡ false) (g_empty : g empty_set ≡ false) where
    -- what is minimal for one of the tests is minimal for either
    from_first : (s : EventSet) → Minimal a f s → Minimal (union a b) either s
    from_first = or_whole f g a b df dg apart either (union a b) (λ u. or_left (f u) (g u))
        (λ u t. either_of_or (f u) (g u) inl inr t) (λ e. or_left (a e) (b e)) g_empty

    from_second : (s : EventSet) → Minimal b g s → Minimal (union a b) either s
    from_second = or_whole g f b a dg df (λ e k l. apart e l k) either (union a b) (λ u. or_right (f u) (g u))
        (λ u t. either_of_or (f u) (g u) inr inl t) (λ e. or_right (a e) (b e)) f_empty

    pub or_lists : Lists (union a b) either sum_family
    or_lists = record { each = each; every = every; once = once }
      where
        each : (r : ℕ) → r < F.count + G.count → Minimal (union a b) either (sum_family.set r)
        each r l = go (below_or_not r F.count)
          where
            go : (r < F.count) ⊎ (F.count ≤ r) → Minimal (union a b) either (sum_family.set r)
            go (inl h) = rw (sum_first r h) (from_first (F.set r) (lf.each r h))
            go (inr h) = rw (sum_second r h)
                (from_second (G.set (r - F.count)) (lg.each (r - F.count) (omega arith)))

        every : (s : EventSet) → Minimal (union a b) either s
            → (r : ℕ) × (r < F.count + G.count) × SameSet (sum_family.set r) s
        every s m = either_of_or (f s) (g s) by_first by_second m.passes
          where
            by_first : T (f s) → (r : ℕ) × (r < F.count + G.count) × SameSet (sum_family.set r) s
            by_first t = go (lf.every s (minimal_of_weaker f a df s t (λ u w p. m.least u w (or_left (f u) (g u) p))))
              where
                go : (r : ℕ) × (r < F.count) × SameSet (F.set r) s
                    → (r : ℕ) × (r < F.count + G.count) × SameSet (sum_family.set r) s
                go (r, l, same) = (r, omega arith, rw (sum_first r l) same)

            by_second : T (g s) → (r : ℕ) × (r < F.count + G.count) × SameSet (sum_family.set r) s
            by_second t =
                go (lg.every s (minimal_of_weaker g b dg s t (λ u w p. m.least u w (or_right (f u) (g u) p))))
              where
                go : (r : ℕ) × (r < G.count) × SameSet (G.set r) s
                    → (r : ℕ) × (r < F.count + G.count) × SameSet (sum_family.set r) s
                go (r, l, same) =
                    let back : F.count + r - F.count ≡ r = omega arith in
                    (F.count + r, omega arith, rw (sum_second (F.count + r) (omega arith), back) same)

        once : (q r : ℕ) → q < F.count + G.count → r < F.count + G.count
            → SameSet (sum_family.set q) (sum_family.set r) → q ≡ r
        once q r h k same = go (below_or_not q F.count) (below_or_not r F.count)
          where
            mixed : (p o : ℕ) → p < F.count → F.count ≤ o → o < F.count + G.count
                → SameSet (F.set p) (G.set (o - F.count)) → ⊥
            mixed p o x y z e = or_apart f g a b df dg apart f_empty (F.set p) (G.set (o - F.count)) e (lf.each p x)
                (lg.each (o - F.count) (omega arith))

            go : (q < F.count) ⊎ (F.count ≤ q) → (r < F.count) ⊎ (F.count ≤ r) → q ≡ r
            go (inl x) (inl y) = lf.once q r x y (rw (sum_first q x, sum_first r y) at same)
            go (inl x) (inr y) = absurd (mixed q r x y k (rw (sum_first q x, sum_second r y) at same))
            go (inr x) (inl y) = absurd (mixed r q y x h (λ e. sym ((rw (sum_second q x, sum_first r y) at same) e)))
            go (inr x) (inr y) = omega (
              arith,
              lg.once (q - F.count) (r - F.count) (omega arith) (omega arith)
                  (rw (sum_second q x, sum_second r y) at same),
            )
