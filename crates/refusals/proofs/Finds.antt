-- What judging finds, put together from its parts: one rule, one part before another, a row; and what a judgement means
-- that is found so.
use Prim.Native.Nat.{ℕ, zero, suc, ◌≤◌, ◌<◌}
use mathlib.Core.Path.{◌≡◌, refl, sym, subst, ap, ◌∙◌}
use mathlib.Core.Bool.{Bool, true, false, cond, true≢false}
use mathlib.Core.Logic.{◌⊎◌, inl, inr, ⊎_elim}
use native.Mathlib.Nat.{not-suc-le-zero}
use native.Mathlib.Decide.{dec_lt}
use native.Mathlib.Omega.{arith}
use Rattle.refusals.specs.Number.{number_of}
use Rattle.refusals.specs.FirstFault.{unless, ◌or_else◌, first_among, judged_by}
use Rattle.refusals.specs.Order.{refusal, stage_of, stage, place_of, order_place, Earlier, by_place, First, Finds}
use Rattle.refusals.specs.declared.rule.Rule.{Rule}
use Rattle.refusals.specs.declared.refusal.Refusal.{Refusal}
use Rattle.refusals.specs.FirstFault.{FirstFault}
use Rattle.std.specs.Prelude.{Ok, Err}
use Rattle.refusals.proofs.FirstFault.{unless_holds, among_none, among_next, accepted_absent, refused_found}
use Rattle.refusals.proofs.Order.{first_unique}

-- A rule broken at a place.
abbrev pub Case : Type 0 → Rule → ℕ → Refusal → Type 0
Case Broken rule place q = Broken × (q ≡ refusal rule place)

-- What comes before a rule's refusal comes before what is it.
pub behind : {r : Refusal} {Broken : Type 0} {rule : Rule} {place : ℕ} → Earlier r (refusal rule place)
    → (q : Refusal) → Case Broken rule place q → Earlier r q
behind {r} e q b = subst (Earlier r) (sym b.1) e

-- The stage and the number of a refusal, by what it is.
pub same_stage : {q m : Refusal} → q ≡ m → stage q ≡ stage m
same_stage e = ap stage e

pub same_number : {q m : Refusal} → q ≡ m → number_of q.rule ≡ number_of m.rule
same_number e = ap (λ (x : Refusal). number_of x.rule) e

-- A refusal of a stage, at a place from one on and before another.
pub record Inside (s from to : ℕ) (q : Refusal) : Type 0 where
  pub stage_is : stage q ≡ s
  pub from_place : from ≤ order_place q
  pub to_place : order_place q < to

-- a rule's, by its place
pub inside_case : {Broken : Type 0} {rule : Rule} {place from to : ℕ} → from ≤ place_of rule place
    → place_of rule place < to → (q : Refusal) → Case Broken rule place q → Inside (stage_of rule) from to q
inside_case {Broken} {rule} {place} {from} {to} l h q b =
    subst (Inside (stage_of rule) from to) (sym b.1) (record { stage_is = refl; from_place = l; to_place = h })

-- in a wider span
pub inside_wider : {s from to low high : ℕ} {q : Refusal} → low ≤ from → to ≤ high → Inside s from to q
    → Inside s low high q
inside_wider l h x =
    record {
      stage_is = x.stage_is;
      from_place = omega (arith, x.from_place);
      to_place = omega (arith, x.to_place);
    }

-- before one in a later span
pub inside_before : {s from to low high : ℕ} {r q : Refusal} → to ≤ low → Inside s from to r → Inside s low high q
    → Earlier r q
inside_before l x y = by_place (x.stage_is ∙ sym y.stage_is) (omega (arith, x.to_place, y.from_place))

-- The same refusals, said in another way.
pub finds_same : {P Q : Refusal → Type 0} (f : FirstFault) → ((q : Refusal) → P q → Q q)
    → ((q : Refusal) → Q q → P q) → Finds P f → Finds Q f
finds_same (Err r) to from h =
    record { broken = to r h.broken; no_earlier = λ q b. h.no_earlier q (from q b) }
finds_same (Ok tt) to from h = λ q b. h q (from q b)

-- A rule that is broken exactly where a test fails.
pub finds_unless : (holds : Bool) (rule : Rule) (place : ℕ) (Broken : Type 0) → (holds ≡ false → Broken)
    → (Broken → holds ≡ false) → Finds (Case Broken rule place) (unless holds rule place)
finds_unless true rule place Broken says shows = λ q b. true≢false (shows b.0)
finds_unless false rule place Broken says shows =
    record { broken = (says refl, refl); no_earlier = λ q b. inl b.1 }

-- One part before another, which is judged where the first has no fault.
pub finds_either : {P Q : Refusal → Type 0} (f g : FirstFault) → Finds P f → (f ≡ Ok tt → Finds Q g)
    → ((r q : Refusal) → P r → Q q → Earlier r q) → Finds (λ q. P q ⊎ Q q) (f or_else g)
finds_either (Err r) g h k order = record {
  broken = inl h.broken;
  no_earlier = λ q b. ⊎_elim (h.no_earlier q) (λ c. inr (order r q h.broken c)) b;
}
finds_either (Ok tt) g h k order =
    finds_same g (λ q b. inr b) (λ q b. ⊎_elim (λ p. absurd (h q p)) (λ c. c) b) (k refl)

-- The last part.
pub finds_last : (P : Refusal → Type 0) (f : FirstFault) → Finds P f → Finds P (f or_else Ok tt)
finds_last P (Err r) h = h
finds_last P (Ok tt) h = h

-- The last rule.
pub finds_last_rule : (holds : Bool) (rule : Rule) (place : ℕ) (Broken : Type 0) → (holds ≡ false → Broken)
    → (Broken → holds ≡ false) → Finds (Case Broken rule place) (unless holds rule place or_else Ok tt)
finds_last_rule holds rule place Broken says shows =
    finds_last (Case Broken rule place) (unless holds rule place) (finds_unless holds rule place Broken says shows)

-- A choice by a test, where what one branch finds is broken only if the test holds, and what the other finds if not.
pub finds_choice : {P Q : Refusal → Type 0} (test : Bool) (f g : FirstFault) → (test ≡ true → Finds P f)
    → (test ≡ false → Finds Q g) → ((q : Refusal) → P q → test ≡ true) → ((q : Refusal) → Q q → test ≡ false)
    → Finds (λ q. P q ⊎ Q q) (cond test f g)
finds_choice true f g k l holds fails =
    finds_same f (λ q b. inl b) (λ q b. ⊎_elim (λ p. p) (λ c. absurd (true≢false (fails q c))) b) (k refl)
finds_choice false f g k l holds fails =
    finds_same g (λ q b. inr b) (λ q b. ⊎_elim (λ p. absurd (true≢false (sym (holds q p)))) (λ c. c) b) (l refl)

-- One rule before what follows it.
pub finds_rule : (holds : Bool) (rule : Rule) (place : ℕ) (Broken : Type 0) → (holds ≡ false → Broken)
    → (Broken → holds ≡ false) → {Q : Refusal → Type 0} (g : FirstFault) → (holds ≡ true → Finds Q g)
    → ((q : Refusal) → Q q → Earlier (refusal rule place) q)
    → Finds (λ q. Case Broken rule place q ⊎ Q q) (unless holds rule place or_else g)
finds_rule holds rule place Broken says shows g k order =
    finds_either (unless holds rule place) g (finds_unless holds rule place Broken says shows)
    (λ e. k (unless_holds holds rule place e))
    (λ r q p b. subst (λ (x : Refusal). Earlier x q) (sym p.1) (order q b))

-- One of the first n of a row.
abbrev pub Among : (ℕ → Refusal → Type 0) → ℕ → Refusal → Type 0
Among P n q = (i : ℕ) × ((i < n) × P i q)

-- A row, of which each comes before the next.
pub finds_among : (fault : ℕ → FirstFault) (P : ℕ → Refusal → Type 0)
    → (n : ℕ) → ((i j : ℕ) (r q : Refusal) → i < j → j < n → P i r → P j q → Earlier r q)
    → ((i : ℕ) → i < n → Finds (P i) (fault i)) → Finds (Among P n) (first_among fault n)
finds_among fault P zero order each = rw (among_none fault) (λ q b. not-suc-le-zero b.1.0)
finds_among fault P (suc n) order each =
    rw (among_next fault n)
    (finds_same (first_among fault n or_else fault n) to from
    (finds_either (first_among fault n) (fault n)
    (finds_among fault P n (λ i j r q l m. order i j r q l (omega arith)) (λ i l. each i (omega arith)))
    (λ e. each n (omega arith)) (λ r q p b. order p.0 n r q p.1.0 (omega arith) p.1.1 b)))
  where
    to : (q : Refusal) → Among P n q ⊎ P n q → Among P (suc n) q
    to q (inl b) = (b.0, (omega (arith, b.1.0), b.1.1))
    to q (inr b) = (n, (omega arith, b))

    from : (q : Refusal) → Among P (suc n) q → Among P n q ⊎ P n q
    from q b = go (dec_lt b.0 n)
      where
        go : Dec (b.0 < n) → Among P n q ⊎ P n q
        go (yes l) = inl (b.0, (l, b.1.1))
        go (no l) =
            let last : b.0 ≡ n = omega (arith, b.1.0) in
            inr (subst (λ (i : ℕ). P i q) last b.1.1)

-- A row of things that stand one behind another, each with its refusals inside it.
pub finds_rows : (s : ℕ) (from to : ℕ → ℕ) → ((i j : ℕ) → i < j → to i ≤ from j) → (fault : ℕ → FirstFault)
    → (P : ℕ → Refusal → Type 0) (n : ℕ) → ((i : ℕ) → i < n → (q : Refusal) → P i q → Inside s (from i) (to i) q)
    → ((i : ℕ) → i < n → Finds (P i) (fault i)) → Finds (Among P n) (first_among fault n)
finds_rows s from to rise fault P n inside each =
    finds_among fault P n
    (λ i j r q l m p b. inside_before (rise i j l) (inside i (omega arith) r p) (inside j m q b)) each

-- What a judgement means, where its fault is found as it must be: a refusal is by the first rule that is broken,
pub found_first : {C : Type 0} (Broken : Refusal → Type 0) (fault : FirstFault) (held : C) → Finds Broken fault
    → (r : Refusal) → judged_by fault held ≡ Err r → First Broken r
found_first Broken fault held found r e = subst (Finds Broken) (refused_found fault held r e) found

-- which is given under its condition and not otherwise,
pub first_found : {C : Type 0} (Broken : Refusal → Type 0) (fault : FirstFault) (held : C) → Finds Broken fault
    → (r : Refusal) → First Broken r → judged_by fault held ≡ Err r
first_found Broken (Err q) held found r first = ap Err (first_unique found first)
first_found Broken (Ok tt) held none r first = absurd (none r first.broken)

-- and acceptance means that none is broken.
pub accepted_none : {C : Type 0} (Broken : Refusal → Type 0) (fault : FirstFault) (held : C) → Finds Broken fault
    → (c : C) → judged_by fault held ≡ Ok c → (q : Refusal) → Broken q → ⊥
accepted_none Broken fault held found c e = subst (Finds Broken) (accepted_absent fault held c e).0 found
