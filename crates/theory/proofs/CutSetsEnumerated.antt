-- The family of a tree without repeated events has every minimal cut set of it once, and no other set.
use Prim.Native.Nat.{ℕ, ◌≤◌, ◌<◌}
use mathlib.Core.Path.{◌≡◌, refl, sym, ap, ap₂, ◌∙◌}
use mathlib.Core.Bool.{Bool, true, false, ◌||◌, or-false}
use mathlib.Core.List.{List, [], ◌∷◌, ◌++◌}
use native.Mathlib.Omega.{arith}
use native.Mathlib.Decide.{dec_lt}
use lib.Dec.{T, T_not, not_T, eqb, eqb→eq, eqb_refl, lit<}
use Rattle.theory.specs.FaultTree.{GateKind, all, any, Tree, Inputs, basic, gate, only, more, events, all_events}
use Rattle.theory.specs.FaultTree.{contains}
use Rattle.theory.specs.Unreliability.{EventSet, empty_set, with_event, verdict, fails, which_fail}
use Rattle.theory.specs.MinimalCutSets.{StrictlyWithin, SameSet, MinimalCutSet, Family, Enumerates}
use Rattle.theory.specs.CutSetFamily.{unions, alternatives, gate_family, family, families}
use borrow.Author.Tests.{eqb-true}
use Rattle.theory.proofs.Missing.{eqb_comm, either_of_or, or_right, or_left, true_of, false_of}
use Rattle.theory.proofs.Distinct.{Distinct, Apart, contains_append, contains_each_once, distinct_append}
use Rattle.theory.proofs.MinimalSets.{Depends, ApartSets, Minimal, minimal_same}
use Rattle.theory.proofs.MinimalFamilies.{Lists, and_lists, or_lists}
use Rattle.theory.proofs.Pigeonhole.{at_most}

-- whether a list of events has an event
abbrev among : List ℕ → EventSet
among es e = contains e es

mutual
  -- whether a tree fails turns on its own events alone
  pub fails_depends : (t : Tree) → Depends (fails t) (among (events t))
  fails_depends (basic x) s u h = h x (or_left (eqb x x) false (eqb_refl x))
  fails_depends (gate k ts) s u h = ap (verdict k) (inputs_depend ts s u h)

  inputs_depend : (ts : Inputs) (s u : EventSet) → ((e : ℕ) → T (contains e (all_events ts)) → s e ≡ u e)
      → which_fail ts s ≡ which_fail ts u
  inputs_depend (only t) s u h = ap (λ b. b ∷ []) (fails_depends t s u h)
  inputs_depend (more t ts) s u h = ap₂ ◌∷◌
      (fails_depends t s u (λ e k. h e (rw contains_append (or_left (contains e (events t)) _ k))))
      (inputs_depend ts s u (λ e k. h e (rw contains_append (or_right (contains e (events t)) _ k))))

mutual
  -- a tree does not fail where no event has failed
  pub fails_not_empty : (t : Tree) → fails t empty_set ≡ false
  fails_not_empty (basic x) = refl
  fails_not_empty (gate k ts) = inputs_not_empty ts k

  inputs_not_empty : (ts : Inputs) (k : GateKind) → verdict k (which_fail ts empty_set) ≡ false
  inputs_not_empty (only t) all = rw (fails_not_empty t)
  inputs_not_empty (only t) any = rw (fails_not_empty t)
  inputs_not_empty (more t ts) all = rw (fails_not_empty t)
  inputs_not_empty (more t ts) any = rw (fails_not_empty t) (inputs_not_empty ts any)

-- the family is the same for equal sets of own events
lists_own : (a b : EventSet) (f : EventSet → Bool) (fam : Family) → SameSet a b → Lists a f fam → Lists b f fam
lists_own a b f fam same l = record {
  each = λ r h. moved a b same (fam.set r) (l.each r h);
  every = λ s m. l.every s (moved b a (λ e. sym (same e)) s m);
  once = l.once;
}
  where
    moved : (x y : EventSet) → SameSet x y → (s : EventSet) → Minimal x f s → Minimal y f s
    moved x y q s m = record {
      inside = λ e t. rw (q e) at (m.inside e t);
      passes = m.passes;
      least = m.least;
    }

-- with no inputs AND always fails, and OR never
none_of_all : Lists empty_set (λ s. true) (unions [])
none_of_all = record {
  each = λ r h. record { inside = λ e t. t; passes = tt; least = λ u w t. w.1.1 };
  every = λ s m. (0, lit< tt, λ e. sym (false_of (s e) (m.inside e)));
  once = λ q r h k same. omega arith;
}

none_of_any : Lists empty_set (λ s. false) (alternatives [])
none_of_any = record {
  each = λ r h. absurd (omega arith);
  every = λ s m. absurd m.passes;
  once = λ q r h k same. omega arith;
}

-- the set of one event has that event alone
single : (x e : ℕ) → T (with_event x empty_set e) → x ≡ e
single x e t = either_of_or (eqb x e) false (eqb→eq x e) absurd t

-- a basic event's one minimal cut set is itself
basic_lists : (x : ℕ) → Lists (among (x ∷ [])) (fails (basic x)) (family (basic x))
basic_lists x = record {
  each = λ r h. record { inside = inside; passes = or_left (eqb x x) false (eqb_refl x); least = least };
  every = λ s m. (0, lit< tt, λ e. same s m e (eqb x e) refl);
  once = λ q r h k same. omega arith;
}
  where
    inside : (e : ℕ) → T (with_event x empty_set e) → T (eqb e x || false)
    inside e t = rw (eqb_comm e x) t

    least : (u : EventSet) → StrictlyWithin u (with_event x empty_set) → T (u x) → ⊥
    least u (w, (e, h, out)) t = T_not (u e) out (rw (← single x e h) t)

    same : (s : EventSet) → Minimal (among (x ∷ [])) (fails (basic x)) s → (e : ℕ) (b : Bool) → eqb x e ≡ b
        → with_event x empty_set e ≡ s e
    same s m e true q = rw q (sym (true_of (s e) (rw (← eqb-true x e q) m.passes)))
    same s m e false q =
        rw q (sym (false_of (s e) (λ t. rw (eqb_comm e x, q) at (m.inside e t))))

-- what the parts of a list without repeats share
apart_events : (xs ys : List ℕ) → Distinct (xs ++ ys) → ApartSets (among xs) (among ys)
apart_events xs ys d e h k = T_not (contains e ys) ((distinct_append xs ys d).nothing_shared e h) k

mutual
  -- the family of a tree, for the test whether it fails
  tree_lists : (t : Tree) → Distinct (events t) → Lists (among (events t)) (fails t) (family t)
  tree_lists (basic x) d = basic_lists x
  tree_lists (gate k ts) d = inputs_list ts k d

  inputs_list : (ts : Inputs) (k : GateKind) → Distinct (all_events ts)
      → Lists (among (all_events ts)) (λ s. verdict k (which_fail ts s)) (gate_family k (families ts))
  inputs_list (only t) all d =
      lists_own _ _ _ _ (λ e. or-false (contains e (events t)))
      (and_lists (fails t) (λ s. true) (among (events t)) empty_set (fails_depends t) (λ s u h. refl) (λ e h k. k)
      (family t) (unions []) (tree_lists t d) none_of_all)
  inputs_list (only t) any d =
      lists_own _ _ _ _ (λ e. or-false (contains e (events t)))
      (or_lists (fails t) (λ s. false) (among (events t)) empty_set (fails_depends t) (λ s u h. refl) (λ e h k. k)
      (family t) (alternatives []) (tree_lists t d) none_of_any (fails_not_empty t) refl)
  inputs_list (more t ts) all d =
      let apart : Apart (events t) (all_events ts) = distinct_append (events t) (all_events ts) d in
      lists_own _ _ _ _ (λ e. sym (contains_append e (events t) (all_events ts)))
      (and_lists (fails t) (fails (gate all ts)) (among (events t)) (among (all_events ts)) (fails_depends t)
      (fails_depends (gate all ts)) (apart_events (events t) (all_events ts) d) (family t) (family (gate all ts))
      (tree_lists t apart.left) (inputs_list ts all apart.right))
  inputs_list (more t ts) any d =
      let apart : Apart (events t) (all_events ts) = distinct_append (events t) (all_events ts) d in
      lists_own _ _ _ _ (λ e. sym (contains_append e (events t) (all_events ts)))
      (or_lists (fails t) (fails (gate any ts)) (among (events t)) (among (all_events ts)) (fails_depends t)
      (fails_depends (gate any ts)) (apart_events (events t) (all_events ts) d) (family t) (family (gate any ts))
      (tree_lists t apart.left) (inputs_list ts any apart.right) (fails_not_empty t)
      (fails_not_empty (gate any ts)))

module _ (t : Tree) where
  -- a minimal cut set is a minimal set of the test whether the tree fails
  minimal_as_test : (s : EventSet) → MinimalCutSet t s → Minimal (among (events t)) (fails t) s
  minimal_as_test s m = record {
    inside = λ e k. rw (contains_each_once e (events t)) at (m.own e k);
    passes = m.cuts;
    least = λ u w. T_not (fails t u) (m.least u w);
  }

  minimal_as_cut_set : (s : EventSet) → Minimal (among (events t)) (fails t) s → MinimalCutSet t s
  minimal_as_cut_set s m = record {
    own = λ e k. rw (contains_each_once e (events t)) (m.inside e k);
    cuts = m.passes;
    least = λ u w. not_T (fails t u) (m.least u w);
  }

  -- a set with the same events as a minimal cut set is one
  pub minimal_cut_set_same : (s u : EventSet) → SameSet s u → MinimalCutSet t s → MinimalCutSet t u
  minimal_cut_set_same s u same m =
      minimal_as_cut_set u (minimal_same (fails t) (among (events t)) (fails_depends t) s u same (minimal_as_test s m))

  -- the family of a tree without repeated events has each of its minimal cut sets once, and no other set
  pub family_enumerates : Distinct (events t) → Enumerates t (family t)
  family_enumerates d = record {
    each = λ r h. minimal_as_cut_set ((family t).set r) (lists.each r h);
    every = λ s m. lists.every s (minimal_as_test s m);
    once = lists.once;
  }
    where
      lists : Lists (among (events t)) (fails t) (family t)
      lists = tree_lists t d

  -- so has a family of the same sets
  pub enumerates_same : (f g : Family) → g.count ≡ f.count
      → ((r : ℕ) → r < f.count → SameSet (g.set r) (f.set r)) → Enumerates t f → Enumerates t g
  enumerates_same f g counts sets h = record {
    each = λ r l. minimal_cut_set_same (f.set r) (g.set r) (λ e. sym (sets r (below r l) e)) (h.each r (below r l));
    every = λ s m. go s (h.every s m);
    once = λ q r k l same. h.once q r (below q k) (below r l)
        (λ e. sym (sets q (below q k) e) ∙ same e ∙ sets r (below r l) e);
  }
    where
      below : (r : ℕ) → r < g.count → r < f.count
      below r l = omega arith

      go : (s : EventSet) → (r : ℕ) × (r < f.count) × SameSet (f.set r) s
          → (r : ℕ) × (r < g.count) × SameSet (g.set r) s
      go s (r, l, same) = (r, omega arith, λ e. sets r l e ∙ same e)

  -- no enumeration has more sets than another
  enumeration_at_most : (f g : Family) → Enumerates t f → Enumerates t g → f.count ≤ g.count
  enumeration_at_most f g h k = at_most g.count f.count number record { below = below; apart = apart }
    where
      -- the number in g of set number r of f
      at : (r : ℕ) → Dec (r < f.count) → ℕ
      at r (yes l) = (k.every (f.set r) (h.each r l)).0
      at r (no l) = 0

      number : ℕ → ℕ
      number r = at r (dec_lt r f.count)

      found : (r : ℕ) (d : Dec (r < f.count)) → r < f.count
          → (at r d < g.count) × SameSet (g.set (at r d)) (f.set r)
      found r (yes l) m = ((k.every (f.set r) (h.each r l)).1, (k.every (f.set r) (h.each r l)).2)
      found r (no l) m = absurd (l m)

      below : (r : ℕ) → r < f.count → number r < g.count
      below r l = (found r (dec_lt r f.count) l).0

      same : (r : ℕ) → r < f.count → SameSet (g.set (number r)) (f.set r)
      same r l = (found r (dec_lt r f.count) l).1

      apart : (q r : ℕ) → q < f.count → r < f.count → number q ≡ number r → q ≡ r
      apart q r l m e = h.once q r l m (λ x. sym (same q l x) ∙ ap (λ n. g.set n x) e ∙ same r m x)

  -- so all have as many: the count is the number of minimal cut sets, however they are enumerated
  pub enumerations_agree : (f g : Family) → Enumerates t f → Enumerates t g → f.count ≡ g.count
  enumerations_agree f g h k = omega (arith, enumeration_at_most f g h k, enumeration_at_most g f k h)
