-- Lists without repeats, by membership and by how often a number stands in a list.
use Prim.Native.Nat.{ℕ, ◌+◌, ◌≤◌, ◌<◌}
use mathlib.Core.Path.{◌≡◌, refl, sym, ap, ◌∙◌}
use mathlib.Core.Bool.{Bool, true, false, cond, not, ◌||◌, or_assoc}
use mathlib.Core.List.{List, [], ◌∷◌, ◌++◌}
use native.Mathlib.Nat.{zero-add}
use native.Mathlib.Omega.{arith}
use lib.Dec.{T, eqb, ltb, lt→ltb, ltb→lt, nltb→le, not_T}
use borrow.Author.Tests.{eqb-true, lt-ltb}
use Rattle.theory.specs.FaultTree.{contains, each_once}
use Rattle.theory.proofs.Missing.{eqb_same, or_lacks}
use Rattle.theory.proofs.Sums.{summed, summed_append}

-- no number of the list stands again later in it
abbrev pub Distinct : List ℕ → Type 0
Distinct [] = Unit {0}
Distinct (e ∷ es) = T (not (contains e es)) × Distinct es

-- 1 for e itself, and 0 for any other number
abbrev pub is : ℕ → ℕ → ℕ
is e x = cond (eqb e x) 1 0

-- how often e stands in a list
abbrev pub multiplicity : ℕ → List ℕ → ℕ
multiplicity e es = summed (is e) es

-- the test whether a list contains e is the test whether e stands in it at least once
pub contains_counted : (e : ℕ) (es : List ℕ) → contains e es ≡ ltb 0 (multiplicity e es)
contains_counted e [] = refl
contains_counted e (x ∷ xs) = go (eqb e x) (contains_counted e xs)
  where
    go : (b : Bool) → contains e xs ≡ ltb 0 (multiplicity e xs) →
        (b || contains e xs) ≡ ltb 0 (cond b 1 0 + multiplicity e xs)
    go true h = sym (lt-ltb 0 (1 + multiplicity e xs) (omega arith))
    go false h = rw zero-add h

module _ (e : ℕ) (es : List ℕ) where
  -- what a list contains stands in it at least once
  pub contained_counted : T (contains e es) → 0 < multiplicity e es
  contained_counted t = ltb→lt 0 (multiplicity e es) (rw (contains_counted e es) at t)

  -- what stands in a list at least once is contained in it
  pub counted_contained : 0 < multiplicity e es → T (contains e es)
  counted_contained h = rw (contains_counted e es) (lt→ltb 0 (multiplicity e es) h)

  -- what a list does not contain stands in it 0 times
  pub absent_not_counted : T (not (contains e es)) → multiplicity e es ≡ 0
  absent_not_counted t =
      let h : multiplicity e es ≤ 0 = nltb→le 0 (multiplicity e es) (rw (contains_counted e es) at t) in
      omega arith

  -- what stands in a list 0 times is not contained in it
  pub not_counted_absent : multiplicity e es ≡ 0 → T (not (contains e es))
  not_counted_absent h =
      not_T (contains e es) (λ t. let p : 0 < multiplicity e es = contained_counted t in omega arith)

-- what stands in a joined list stands in one of its parts
pub contains_append : (e : ℕ) (xs ys : List ℕ) → contains e (xs ++ ys) ≡ (contains e xs || contains e ys)
contains_append e [] ys = refl
contains_append e (x ∷ xs) ys =
    ap (◌||◌ (eqb e x)) (contains_append e xs ys) ∙ sym (or_assoc (eqb e x) (contains e xs) (contains e ys))

-- what does not stand in a joined list stands in neither of its parts
pub lacks_append : (e : ℕ) (xs ys : List ℕ) → contains e (xs ++ ys) ≡ false →
    (contains e xs ≡ false) × (contains e ys ≡ false)
lacks_append e xs ys h = or_lacks (contains e xs) (contains e ys) (sym (contains_append e xs ys) ∙ h)

-- in a list without repeats nothing stands twice
pub distinct_at_most_once : (es : List ℕ) → Distinct es → (e : ℕ) → multiplicity e es ≤ 1
distinct_at_most_once [] d e = omega arith
distinct_at_most_once (x ∷ xs) d e = go (eqb e x) refl (distinct_at_most_once xs d.1 e)
  where
    go : (b : Bool) → eqb e x ≡ b → multiplicity e xs ≤ 1 → cond b 1 0 + multiplicity e xs ≤ 1
    go true q h =
        let z : multiplicity e xs ≡ 0 = absent_not_counted e xs (rw (eqb-true e x q) d.0) in
        omega arith
    go false q h = omega arith

-- a list in which nothing stands twice has no repeats
pub at_most_once_distinct : (es : List ℕ) → ((e : ℕ) → multiplicity e es ≤ 1) → Distinct es
at_most_once_distinct [] h = tt
at_most_once_distinct (x ∷ xs) h = (not_counted_absent x xs first, at_most_once_distinct xs rest)
  where
    first : multiplicity x xs ≡ 0
    first = let t : 1 + multiplicity x xs ≤ 1 = rw (eqb_same x) at (h x) in omega arith

    rest : (e : ℕ) → multiplicity e xs ≤ 1
    rest e = omega (arith, h e)

-- what is known of the parts of a list without repeats
pub record Apart (xs ys : List ℕ) : Type 0 where
  pub left : Distinct xs
  pub right : Distinct ys
  pub nothing_shared : (e : ℕ) → T (contains e xs) → T (not (contains e ys))

-- the parts of a list without repeats have no repeats and share nothing
pub distinct_append : (xs ys : List ℕ) → Distinct (xs ++ ys) → Apart xs ys
distinct_append xs ys d = record {
  left = at_most_once_distinct xs (λ e. omega (arith, together e));
  right = at_most_once_distinct ys (λ e. omega (arith, together e));
  nothing_shared = λ e t. not_counted_absent e ys (omega (arith, together e, contained_counted e xs t));
}
  where
    together : (e : ℕ) → multiplicity e xs + multiplicity e ys ≤ 1
    together e = rw (summed_append (is e) xs ys) at (distinct_at_most_once (xs ++ ys) d e)

-- nothing is removed where nothing stands twice
pub distinct_each_once : (es : List ℕ) → Distinct es → each_once es ≡ es
distinct_each_once [] d = refl
distinct_each_once (e ∷ es) d = go (contains e es) d.0 (distinct_each_once es d.1)
  where
    go : (b : Bool) → T (not b) → each_once es ≡ es → cond b (each_once es) (e ∷ each_once es) ≡ e ∷ es
    go true t h = absurd t
    go false t h = ap (λ l. e ∷ l) h

-- removing repeats loses no number and adds none
pub contains_each_once : (e : ℕ) (es : List ℕ) → contains e (each_once es) ≡ contains e es
contains_each_once e [] = refl
contains_each_once e (x ∷ xs) = go (contains x xs) refl (eqb e x) refl (contains_each_once e xs)
  where
    go : (b : Bool) → contains x xs ≡ b → (c : Bool) → eqb e x ≡ c → contains e (each_once xs) ≡ contains e xs →
        contains e (cond b (each_once xs) (x ∷ each_once xs)) ≡ (c || contains e xs)
    go true p true q h = h ∙ rw (eqb-true e x q) p
    go true p false q h = h
    go false p true q h = rw q
    go false p false q h = rw q h

-- what is left after removing repeats has none
pub each_once_distinct : (es : List ℕ) → Distinct (each_once es)
each_once_distinct [] = tt
each_once_distinct (x ∷ xs) = go (contains x xs) refl (each_once_distinct xs)
  where
    go : (b : Bool) → contains x xs ≡ b → Distinct (each_once xs) →
        Distinct (cond b (each_once xs) (x ∷ each_once xs))
    go true p d = d
    go false p d = (rw (contains_each_once x xs, p) tt, d)
