-- The unreliability, the sum over all cut sets, is what the bottom-up method reckons (demand 2), for trees in which an
-- event that stands under two inputs of one gate has the probability 0 or 1. Trees with distinct events meet that
-- outright.
use Prim.Native.Nat.{ℕ, ◌<◌}
use mathlib.Core.Path.{◌≡◌, refl, ap}
use mathlib.Core.Bool.{Bool, true, false}
use mathlib.Core.List.{List, [], ◌∷◌}
use mathlib.Core.Logic.{◌⊎◌, inl, inr}
use lib.Dec.{T, T_not}
use Rattle.theory.specs.Fraction.{Fraction, ◌≈◌}
use Rattle.theory.specs.FaultTree.{Tree, Inputs, basic, gate, only, more, events, all_events, contains, beneath, Each}
use Rattle.theory.specs.Unreliability.{EventSet, verdict, fails, which_fail, cut_sets, unreliability}
use Rattle.theory.specs.BottomUp.{joined, bottom_up, all_bottom_up}
use Rattle.theory.proofs.Distinct.{Distinct, each_once_distinct, lacks_append, distinct_append}
use Rattle.theory.proofs.Each.{each_of_all, each_left, each_right, each_beneath, events_beneath}
use Rattle.theory.proofs.BottomUpProbability.{all_bottom_up_probable}
use Rattle.theory.proofs.FractionEqual.{equal_trans}
use Rattle.theory.proofs.Expectation.{bit, expect, common_denominator, Ignores, Probable, denominator_positive}
use Rattle.theory.proofs.ExpectationProduct.{Separated, left, right, never, always}
use Rattle.theory.proofs.CutSetSum.{sum_is_expectation, sum_positive}
use Rattle.theory.proofs.StructureFunction.{fails_ignores}
use Rattle.theory.proofs.TestHolds.{Holds, AllIgnore, AllSeparated, AllHold, values, holds_agree, verdict_holds}
use Rattle.theory.proofs.EventHolds.{event_holds}

-- the probability x is 0 or 1
abbrev pub Settled : Fraction → Type 0
Settled x = (x.num ≡ 0) ⊎ (x.num ≡ x.den)

-- an event that stands under two inputs of a gate has the probability 0 or 1
abbrev mutual
  pub RepeatsCertain : (ℕ → Fraction) → Tree → Type 0
  RepeatsCertain p (basic e) = Unit {0}
  RepeatsCertain p (gate k ts) = RepeatsCertainInputs p ts

  -- so it is beneath each input, and between an input and those after it
  pub RepeatsCertainInputs : (ℕ → Fraction) → Inputs → Type 0
  RepeatsCertainInputs p (only t) = RepeatsCertain p t
  RepeatsCertainInputs p (more t ts) =
      RepeatsCertain p t × RepeatsCertainInputs p ts
      × ((e : ℕ) → T (contains e (events t)) → T (contains e (all_events ts)) → Settled (p e))

-- the tests whether each input fails
abbrev tests : Inputs → List (EventSet → Bool)
tests (only t) = fails t ∷ []
tests (more t ts) = fails t ∷ tests ts

-- the inputs of which those tests hold are those that fail
tests_values : (ts : Inputs) (s : EventSet) → values (tests ts) s ≡ which_fail ts s
tests_values (only t) s = refl
tests_values (more t ts) s = ap (λ (bs : List Bool). fails t s ∷ bs) (tests_values ts s)

-- the tests ignore each event that is not among the inputs' own
tests_ignore : (ts : Inputs) (e : ℕ) → contains e (all_events ts) ≡ false → AllIgnore e (tests ts)
tests_ignore (only t) e h = (fails_ignores t e h, tt)
tests_ignore (more t ts) e h =
    let (first, rest) = lacks_append e (events t) (all_events ts) h in
    (fails_ignores t e first, tests_ignore ts e rest)

-- an event of probability 0 or 1 separates anything
settled_separated : {F G : Type 0} (x : Fraction) → Settled x → Separated x F G
settled_separated x (inl z) = never z
settled_separated x (inr z) = always z

-- an event separates two tests if the event, where it stands under both, has the probability 0 or 1
separated_by : {F G : Type 0} (x : Fraction) (a b : Bool) → (a ≡ false → F) → (b ≡ false → G)
    → (T a → T b → Settled x) → Separated x F G
separated_by x false b f g h = left (f refl)
separated_by x true false f g h = right (g refl)
separated_by x true true f g h = settled_separated x (h tt tt)

-- each event separates the tests of inputs whose repeated events are certain
tests_separated : (ts : Inputs) (p : ℕ → Fraction) (es : List ℕ) → RepeatsCertainInputs p ts
    → AllSeparated p es (tests ts)
tests_separated (only t) p es h = (each_of_all _ (λ e. right tt) es, tt)
tests_separated (more t ts) p es h = (each_of_all _ at_event es, tests_separated ts p es h.1)
  where
    at_event : (e : ℕ) → Separated (p e) (Ignores e (fails t)) (AllIgnore e (tests ts))
    at_event e = separated_by (p e) (contains e (events t)) (contains e (all_events ts))
        (fails_ignores t e) (tests_ignore ts e) (h.2 e)

mutual
  -- every tree fails with the probability that the bottom-up method reckons
  tree_holds : (t : Tree) (p : ℕ → Fraction) (es : List ℕ) → Distinct es → Each (Probable p) es
      → Each (λ e. T (contains e es)) (events t) → Each (Probable p) (events t) → RepeatsCertain p t
      → Holds p es (fails t) (bottom_up p t)
  tree_holds (basic e) p es d h k q i = event_holds p e es d h k.0
  tree_holds (gate g ts) p es d h k q i =
      holds_agree p es _ (fails (gate g ts)) (joined g (all_bottom_up p ts)) (λ s. ap (verdict g) (tests_values ts s))
      (verdict_holds g p es (tests ts) (all_bottom_up p ts) h (all_bottom_up_probable ts p q)
      (tests_separated ts p es i) (inputs_hold ts p es d h k q i))

  -- so do the inputs of a gate
  inputs_hold : (ts : Inputs) (p : ℕ → Fraction) (es : List ℕ) → Distinct es → Each (Probable p) es
      → Each (λ e. T (contains e es)) (all_events ts) → Each (Probable p) (all_events ts) → RepeatsCertainInputs p ts
      → AllHold p es (tests ts) (all_bottom_up p ts)
  inputs_hold (only t) p es d h k q i = (tree_holds t p es d h k q i, tt)
  inputs_hold (more t ts) p es d h k q i =
      let xs = events t in
      let ys = all_events ts in (
        tree_holds t p es d h (each_left _ xs ys k) (each_left _ xs ys q) i.0,
        inputs_hold ts p es d h (each_right _ xs ys k) (each_right _ xs ys q) i.1,
      )

-- the expectation of the structure function
abbrev pub expected : (ℕ → Fraction) → Tree → Fraction
expected p t = record { num = expect p (beneath t) (λ s. bit (fails t s)); den = common_denominator p (beneath t) }

-- the unreliability is that expectation
pub unreliability_expected : (p : ℕ → Fraction) (t : Tree) → unreliability p t ≈ expected p t
unfolding unreliability
unreliability_expected p t = sum_is_expectation p (beneath t) (fails t) (each_once_distinct (events t))

-- its denominator is above 0 for probabilities
pub unreliability_positive : (p : ℕ → Fraction) (t : Tree) → Each (Probable p) (beneath t)
    → 0 < (unreliability p t).den
unfolding unreliability
unreliability_positive p t h = sum_positive p (beneath t) (cut_sets t) (denominator_positive p (beneath t) h)

-- demand 2: the sum over all cut sets is the bottom-up reckoning, as a fraction
pub unreliability_is_bottom_up : (p : ℕ → Fraction) (t : Tree) → Each (Probable p) (events t) → RepeatsCertain p t
    → unreliability p t ≈ bottom_up p t
unreliability_is_bottom_up p t h i =
    let probable = each_beneath (Probable p) t h in
    equal_trans (unreliability p t) (expected p t) (bottom_up p t) (denominator_positive p (beneath t) probable)
    (unreliability_expected p t)
    (tree_holds t p (beneath t) (each_once_distinct (events t)) probable (events_beneath t) h i)

mutual
  -- distinct events repeat none
  pub distinct_repeats_certain : (t : Tree) (p : ℕ → Fraction) → Distinct (events t) → RepeatsCertain p t
  distinct_repeats_certain (basic e) p d = tt
  distinct_repeats_certain (gate g ts) p d = distinct_inputs_certain ts p d

  -- so do those of a gate's inputs
  distinct_inputs_certain : (ts : Inputs) (p : ℕ → Fraction) → Distinct (all_events ts) → RepeatsCertainInputs p ts
  distinct_inputs_certain (only t) p d = distinct_repeats_certain t p d
  distinct_inputs_certain (more t ts) p d =
      let apart = distinct_append (events t) (all_events ts) d in (
        distinct_repeats_certain t p apart.left,
        distinct_inputs_certain ts p apart.right,
        λ e k l. absurd (T_not (contains e (all_events ts)) (apart.nothing_shared e k) l),
      )
