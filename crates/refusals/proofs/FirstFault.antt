-- The laws of the first fault: of two, of a rule, of a list, and of a row that a loop goes through.
use Prim.Native.Nat.{ℕ, zero, suc, ◌+◌, ◌-◌, ◌≤◌, ◌<◌}
use mathlib.Core.Path.{◌≡◌, refl, subst, sym, ap, ◌∙◌}
use mathlib.Core.Bool.{Bool, true, false}
use mathlib.Core.List.{List, [], ◌∷◌, ◌++◌}
use native.Mathlib.Nat.{add-suc, add-zero, not-suc-le-zero}
use native.Mathlib.Numerals.{add-one}
use native.Mathlib.Omega.{arith}
use native.Mathlib.Decide.{dec_lt}
use Rattle.refusals.specs.FirstFault.{unless, ◌or_else◌, first_of, first_among, judged_by}
use Rattle.refusals.specs.declared.rule.Rule.{Rule}
use Rattle.refusals.specs.declared.refusal.Refusal.{Refusal}
use Rattle.refusals.specs.FirstFault.{FirstFault}
use Rattle.std.specs.Prelude.{Ok, Err}

-- A fault is not no fault.
pub found_not_absent : {A : Type 0} {r : Refusal} → ◌≡◌ {A = FirstFault} (Err r) (Ok tt) → A
found_not_absent e =
    let z : ◌≡◌ {A = ℕ} 0 1 = cc in
    absurd (omega arith)

-- The fault behind a judgement, and what is held.
pub accepted_absent : {C : Type 0} (f : FirstFault) (k c : C) → judged_by f k ≡ Ok c → (f ≡ Ok tt) × (c ≡ k)
accepted_absent (Err r) k c e =
    let z : ◌≡◌ {A = ℕ} 0 1 = cc in
    absurd (omega arith)
accepted_absent (Ok tt) k c e = (refl, cc)

pub refused_found : {C : Type 0} (f : FirstFault) (k : C) (r : Refusal) → judged_by f k ≡ Err r → f ≡ Err r
refused_found (Err q) k r e = cc
refused_found (Ok tt) k r e =
    let z : ◌≡◌ {A = ℕ} 0 1 = cc in
    absurd (omega arith)

-- Of two without a fault neither has one.
pub both_absent : (f g : FirstFault) → f or_else g ≡ Ok tt → (f ≡ Ok tt) × (g ≡ Ok tt)
both_absent (Ok tt) g e = (refl, e)
both_absent (Err r) g e = found_not_absent e

-- A fault that no rule follows stands alone.
pub or_else_absent : (f : FirstFault) → f or_else Ok tt ≡ f
or_else_absent (Ok tt) = refl
or_else_absent (Err r) = refl

-- A rule without a fault is kept.
pub unless_holds : (b : Bool) (rule : Rule) (place : ℕ) → unless b rule place ≡ Ok tt → b ≡ true
unless_holds true rule place e = refl
unless_holds false rule place e = found_not_absent e

-- The faults of a list are all absent.
abbrev pub AllAbsent : List FirstFault → Type 0
AllAbsent [] = Unit {0}
AllAbsent (f ∷ fs) = (f ≡ Ok tt) × AllAbsent fs

-- A list without a fault has none at any of its rules.
pub first_of_absent : (fs : List FirstFault) → first_of fs ≡ Ok tt → AllAbsent fs
first_of_absent [] e = tt
first_of_absent (f ∷ fs) e =
    let both = both_absent f (first_of fs) e in
    (both.0, first_of_absent fs both.1)

-- A list whose rules are all without a fault has none.
pub absent_first_of : (fs : List FirstFault) → AllAbsent fs → first_of fs ≡ Ok tt
absent_first_of [] all = refl
absent_first_of (f ∷ fs) all = rw (all.0, absent_first_of fs all.1)

-- The first fault of a list before another.
pub first_of_append : (fs gs : List FirstFault) → first_of (fs ++ gs) ≡ first_of fs or_else first_of gs
first_of_append [] gs = refl
first_of_append (Err r ∷ fs) gs = refl
first_of_append ((Ok tt) ∷ fs) gs = first_of_append fs gs

module _ (fault : ℕ → FirstFault) where
  -- among no things there is no fault
  pub among_none : first_among fault 0 ≡ Ok tt
  unfolding first_among
  among_none = refl

  -- one thing more
  pub among_next : (i : ℕ) → first_among fault (suc i) ≡ first_among fault i or_else fault i
  unfolding first_among
  among_next i = refl

  -- a fault stays the first, d things later
  among_stays : (r : Refusal) (i d : ℕ) → first_among fault i ≡ Err r → first_among fault (i + d) ≡ Err r
  among_stays r i zero e = rw add-zero e
  among_stays r i (suc d) e = rw (add-suc i d, among_next (i + d), among_stays r i d e)

  -- the first fault of a row is that of the first thing that has one
  pub among_found : (r : Refusal) (i n : ℕ) → i < n → first_among fault i ≡ Ok tt → fault i ≡ Err r
      → first_among fault n ≡ Err r
  among_found r i n l none bad =
      let here : first_among fault (suc i) ≡ Err r = rw (among_next i, none, bad) in
      subst (λ (m : ℕ). first_among fault m ≡ Err r) (omega arith) (among_stays r (suc i) (n - suc i) here)

  -- a row without a fault has none at any of its things
  pub among_each : (n : ℕ) → first_among fault n ≡ Ok tt → (i : ℕ) → i < n → fault i ≡ Ok tt
  among_each zero e i l = absurd (not-suc-le-zero l)
  among_each (suc n) e i l = go (λ k. among_each n both.0 i k) (dec_lt i n)
    where
      both : (first_among fault n ≡ Ok tt) × (fault n ≡ Ok tt)
      both = both_absent (first_among fault n) (fault n) (sym (among_next n) ∙ e)

      go : (i < n → fault i ≡ Ok tt) → Dec (i < n) → fault i ≡ Ok tt
      go earlier (yes k) = earlier k
      go earlier (no k) =
          let same : i ≡ n = omega arith in
          ap fault same ∙ both.1

  -- a row of things without a fault has none
  pub among_absent : (n : ℕ) → ((i : ℕ) → i < n → fault i ≡ Ok tt) → first_among fault n ≡ Ok tt
  among_absent zero h = among_none
  among_absent (suc n) h = rw (among_next n, among_absent n (λ i l. h i (omega arith)), h n (omega arith))

-- A loop over n things that stops at the first fault has passed i of them.
pub record Passed (fault : ℕ → FirstFault) (n i : ℕ) : Type 0 where
  pub within : i ≤ n
  pub absent : first_among fault i ≡ Ok tt

-- it has passed none
pub passed_none : (fault : ℕ → FirstFault) (n : ℕ) → Passed fault n 0
passed_none fault n = record { within = omega arith; absent = among_none fault }

module _ {fault : ℕ → FirstFault} {n i : ℕ} (passed : Passed fault n i) where
  -- one thing more that has no fault
  pub passed_more : i < n → fault i ≡ Ok tt → Passed fault n (i + 1)
  passed_more l e = record {
    within = omega arith;
    absent = rw (add-one i, among_next fault i, passed.absent, e);
  }

  -- all of them
  pub passed_all : n ≤ i → (Ok tt) ≡ first_among fault n
  passed_all l =
      let same : i ≡ n = omega arith in
      sym (subst (λ (k : ℕ). first_among fault k ≡ Ok tt) same passed.absent)

  -- the next thing is the first with a fault
  pub passed_found : {r : Refusal} → i < n → fault i ≡ Err r → Err r ≡ first_among fault n
  passed_found {r} l bad = sym (among_found fault r i n l passed.absent bad)
