-- Minimal sets of a test on sets of events, and those of a conjunction and of a disjunction of two tests that depend on
-- events apart from each other.
use Prim.Native.Nat.{ℕ}
use mathlib.Core.Path.{◌≡◌, refl, ◌∙◌}
use mathlib.Core.Bool.{Bool, true, false, not, ◌&&◌}
use mathlib.Core.Logic.{◌⊎◌, ⊎_elim}
use lib.Dec.{T, T_not, not_T}
use Rattle.theory.specs.Unreliability.{EventSet, empty_set}
use Rattle.theory.specs.MinimalCutSets.{Within, StrictlyWithin, SameSet}
use Rattle.theory.specs.CutSetFamily.{union}
use Rattle.theory.proofs.Missing.{both_of_and, either_of_or, or_right, and_of_both, or_left, true_of, false_of}
use Rattle.theory.proofs.Missing.{or_first, or_second, passes_or_not}

-- a test of sets turns on its own events alone
abbrev pub Depends : (EventSet → Bool) → EventSet → Type 0
Depends f own = (s u : EventSet) → ((e : ℕ) → T (own e) → s e ≡ u e) → f s ≡ f u

-- no event is in both sets
abbrev pub ApartSets : EventSet → EventSet → Type 0
ApartSets a b = (e : ℕ) → T (a e) → T (b e) → ⊥

-- `MinimalCutSet` of specs/, for any test of sets
pub record Minimal (own : EventSet) (f : EventSet → Bool) (s : EventSet) : Type 0 where
  pub inside : Within s own
  pub passes : T (f s)
  pub least : (u : EventSet) → StrictlyWithin u s → T (f u) → ⊥

-- the events of s that are in own
abbrev pub kept : EventSet → EventSet → EventSet
kept own s e = s e && own e

-- a test does not see what is left out
kept_agrees : (own s : EventSet) (e : ℕ) → T (own e) → kept own s e ≡ s e
kept_agrees own s e t = go (s e) (own e) t
  where
    go : (a b : Bool) → T b → a && b ≡ a
    go true b k = true_of b k
    go false b k = refl

module _ (f : EventSet → Bool) (own : EventSet) (depends : Depends f own) where
  -- a set and the part of it that a test sees pass or fail together
  pub kept_test : (s : EventSet) → f (kept own s) ≡ f s
  kept_test s = depends (kept own s) s (kept_agrees own s)

  -- a set with the same events is minimal too
  pub minimal_same : (s u : EventSet) → SameSet s u → Minimal own f s → Minimal own f u
  minimal_same s u same m = record {
    inside = λ e t. m.inside e (rw (same e) t);
    passes = rw (← depends s u (λ e t. same e)) m.passes;
    least = λ v w. m.least v (λ e t. rw (same e) (w.0 e t), (w.1.0, rw (same w.1.0) w.1.1, w.1.2));
  }

  -- where nothing strictly inside a passing set passes, the test sees all of the set
  pub sees_all : (s : EventSet) → T (f s) → ((u : EventSet) → StrictlyWithin u s → T (f u) → ⊥) → Within s own
  sees_all s t least e h = ⊎_elim (λ k. k) (λ k. absurd (least (kept own s) (smaller k) (rw (kept_test s) t)))
      (passes_or_not (own e))
    where
      smaller : T (not (own e)) → StrictlyWithin (kept own s) s
      smaller k = (
        λ x y. (both_of_and (s x) (own x) y).0,
        (e, h, not_T (s e && own e) (λ y. T_not (own e) k (both_of_and (s e) (own e) y).1)),
      )

  -- so a set that is minimal for a weaker test and passes the stronger one is minimal for that
  pub minimal_of_weaker : (s : EventSet) → T (f s) → ((u : EventSet) → StrictlyWithin u s → T (f u) → ⊥)
      → Minimal own f s
  minimal_of_weaker s t least = record { inside = sees_all s t least; passes = t; least = least }

module _ (f g : EventSet → Bool) (a b : EventSet) (df : Depends f a) (dg : Depends g b) (apart : ApartSets a b) where
  -- AND: where nothing strictly inside a set passes both tests, its part for the first test is minimal
  pub and_part : (s : EventSet) → T (f s) → T (g s)
      → ((u : EventSet) → StrictlyWithin u s → T (f u) → T (g u) → ⊥) → Minimal a f (kept a s)
  and_part s t v least = record {
    inside = λ e h. (both_of_and (s e) (a e) h).1;
    passes = rw (kept_test f a df s) t;
    least = smaller;
  }
    where
      -- a smaller part with the other part as it was is a smaller set
      smaller : (u : EventSet) → StrictlyWithin u (kept a s) → T (f u) → ⊥
      smaller u (w, (e, h, out)) p = least (union u (kept b s)) (within, (e, (both_of_and (s e) (a e) h).0, misses))
          (rw (df (union u (kept b s)) u first) p) (rw (dg (union u (kept b s)) s second) v)
        where
          within : Within (union u (kept b s)) s
          within x k = either_of_or (u x) (kept b s x) (λ y. (both_of_and (s x) (a x) (w x y)).0)
              (λ y. (both_of_and (s x) (b x) y).0) k

          misses : T (not (union u (kept b s) e))
          misses = not_T (union u (kept b s) e) (λ y. either_of_or (u e) (kept b s e) (T_not (u e) out)
              (λ z. apart e (both_of_and (s e) (a e) h).1 (both_of_and (s e) (b e) z).1) y)

          first : (x : ℕ) → T (a x) → union u (kept b s) x ≡ u x
          first x k = or_first (u x) (kept b s x) (λ z. apart x k (both_of_and (s x) (b x) z).1)

          second : (x : ℕ) → T (b x) → union u (kept b s) x ≡ s x
          second x k = or_second (u x) (kept b s x) (λ y. apart x (both_of_and (s x) (a x) (w x y)).1 k)
              ∙ kept_agrees b s x k

  -- AND: the part for the first test of a set inside a union lies inside the first set
  kept_within : (s v u : EventSet) → Within v b → Within u (union s v) → Within (kept a u) s
  kept_within s v u inside w e t =
      let (in_u, in_a) = both_of_and (u e) (a e) t in
      either_of_or (s e) (v e) (λ y. y) (λ y. absurd (apart e in_a (inside e y))) (w e in_u)

  -- AND: no set inside a union that passes the first test lacks an event of the first set, where that is minimal
  lacks_nothing : (s v u : EventSet) → Minimal a f s → Within v b → Within u (union s v) → T (f u)
      → (e : ℕ) → T (s e) → T (not (u e)) → ⊥
  lacks_nothing s v u m inside w t e h out =
      m.least (kept a u) (kept_within s v u inside w, (e, h, misses)) (rw (kept_test f a df u) t)
    where
      misses : T (not (kept a u e))
      misses = not_T (kept a u e) (λ y. T_not (u e) out (both_of_and (u e) (a e) y).0)

  -- OR: a set that is minimal for the first test is so for a test that passes where the first or the second does
  pub or_whole : (h : EventSet → Bool) (own : EventSet) → ((u : EventSet) → T (f u) → T (h u))
      → ((u : EventSet) → T (h u) → T (f u) ⊎ T (g u)) → Within a own → g empty_set ≡ false
      → (s : EventSet) → Minimal a f s → Minimal own h s
  or_whole h own weaker either inside none s m = record {
    inside = λ e t. inside e (m.inside e t);
    passes = weaker s m.passes;
    least = λ u w t. ⊎_elim (m.least u w) (unseen u w.0) (either u t);
  }
    where
      -- the second test sees nothing of a set inside s
      unseen : (u : EventSet) → Within u s → T (g u) → ⊥
      unseen u w t = rw (dg u empty_set (λ e k. false_of (u e) (λ y. apart e (m.inside e (w e y)) k)), none) at t

  -- OR: no set is minimal for both tests
  pub or_apart : f empty_set ≡ false → (s u : EventSet) → SameSet s u → Minimal a f s → Minimal b g u → ⊥
  or_apart none s u same m n = rw (df s empty_set (λ e k. false_of (s e) (shared e)), none) at m.passes
    where
      shared : (e : ℕ) → T (s e) → ⊥
      shared e t = apart e (m.inside e t) (n.inside e (rw (same e) at t))

module _ (f g : EventSet → Bool) (a b : EventSet) (df : Depends f a) (dg : Depends g b) (apart : ApartSets a b) where
  -- AND: the union of a minimal set for each test is minimal for both
  pub and_whole : (s v : EventSet) → Minimal a f s → Minimal b g v
      → Minimal (union a b) (λ u. f u && g u) (union s v)
  and_whole s v m n = record {
    inside = λ e t. either_of_or (s e) (v e) (λ y. or_left (a e) (b e) (m.inside e y))
        (λ y. or_right (a e) (b e) (n.inside e y)) t;
    passes = and_of_both (f (union s v)) (g (union s v)) first second;
    least = λ u (w, (e, h, out)) t.
        let (p, q) = both_of_and (f u) (g u) t in
        either_of_or (s e) (v e)
        (λ y. lacks_nothing f g a b df dg apart s v u m n.inside w p e y out)
        (λ y. lacks_nothing g f b a dg df (λ x k l. apart x l k) v s u n m.inside (turned u w) q e y out) h;
  }
    where
      turned : (u : EventSet) → Within u (union s v) → Within u (union v s)
      turned u w e t = either_of_or (s e) (v e) (or_right (v e) (s e)) (or_left (v e) (s e)) (w e t)

      first : T (f (union s v))
      first = rw (df (union s v) s (λ e k. or_first (s e) (v e) (λ y. apart e k (n.inside e y)))) m.passes

      second : T (g (union s v))
      second = rw (dg (union s v) v (λ e k. or_second (s e) (v e) (λ y. apart e (m.inside e y) k))) n.passes
