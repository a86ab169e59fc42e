-- Silence is no agreement in a sheet either: where a listed expert's term is put to 0, the cut of the event is wider at
-- every level.
use Prim.Native.Nat.{ℕ, zero, suc, ◌+◌, ◌≤◌, ◌<◌}
use mathlib.Core.Path.{◌≡◌, refl, ap, ap₂, ◌∙◌}
use mathlib.Core.Logic.{◌≢◌}
use mathlib.Core.List.{List, [], ◌∷◌, ◌++◌, append_assoc}
use lib.ListN.{set}
use lib.Seq.{get_or-set_same, get_or-set_other}
use native.Mathlib.Nat.{not-suc-le-zero, le_refl}
use native.Mathlib.Decide.{dec_lt}
use native.Mathlib.Omega.{arith}
use borrow.Author.Tests.{eq-eqb, ne_eqb}
use Rattle.theory.specs.Interval.{Wider}
use Rattle.theory.specs.Trapezoid.{cut}
use Rattle.theory.specs.Opinion.{Term, Opinion, says, silent, mean}
use Rattle.theory.proofs.SilenceWidens.{silence_widens}
use Rattle.fields.specs.Fields.{byte}
use Rattle.opinion_sheet.specs.Format.{event_count, expert_count, score, entry_at, kind, opinions_kind, terms_at}
use Rattle.opinion_sheet.specs.Format.{term, unit}
use Rattle.opinion_sheet.specs.WellFormed.{WellFormed}
use Rattle.event_cut.specs.Opinion.{term_of, opinion_of, opinions_among}
use Rattle.event_cut.specs.EventCut.{event_cut}

-- Two lists of opinions that differ in one: said in the one, silent in the other.
record Parted (os ps : List Opinion) (given : ℕ) (t : Term) : Type 0 where
  before : List Opinion
  after : List Opinion
  said : os ≡ before ++ (says given t ∷ after)
  gone : ps ≡ before ++ (silent given ∷ after)

-- They differ in that one with another opinion more in both.
parted_more : {os ps : List Opinion} {given : ℕ} {t : Term} (o : Opinion) → Parted os ps given t
    → Parted (os ++ (o ∷ [])) (ps ++ (o ∷ [])) given t
parted_more {os} {ps} {given} {t} o p =
    record {
      before = p.before;
      after = p.after ++ (o ∷ []);
      said =
          ap (λ (l : List Opinion). l ++ (o ∷ [])) p.said
          ∙ append_assoc p.before (says given t ∷ p.after) (o ∷ []);
      gone =
          ap (λ (l : List Opinion). l ++ (o ∷ [])) p.gone
          ∙ append_assoc p.before (silent given ∷ p.after) (o ∷ []);
    }

-- Two sheets in which the first so many experts have the same scores and terms, but expert i, who is silent in the
-- other.
module _ (file other : List ℕ) (terms i most : ℕ) (scores : (j : ℕ) → j < most → score other j ≡ score file j)
    (others : (j : ℕ) → j ≢ i → term other terms j ≡ term file terms j) (said : 1 ≤ term file terms i)
    (gone : term other terms i ≡ 0) where
  same_opinion : (j : ℕ) → j < most → j ≢ i
      → opinion_of (score other j) (term other terms j) ≡ opinion_of (score file j) (term file terms j)
  same_opinion j l ne = ap₂ opinion_of (scores j l) (others j ne)

  same_before : (n : ℕ) → n ≤ i → n ≤ most → opinions_among other terms n ≡ opinions_among file terms n
  unfolding opinions_among
  same_before zero l m = refl
  same_before (suc n) l m =
      ap₂ (λ (os : List Opinion) (o : Opinion). os ++ (o ∷ [])) (same_before n (omega arith) (omega arith))
      (same_opinion n (omega arith) (λ e. omega arith))

  parted : (n : ℕ) → i < n → n ≤ most
      → Parted (opinions_among file terms n) (opinions_among other terms n) (score file i) (term_of (term file terms i))
  unfolding opinions_among
  parted zero l m = absurd (not-suc-le-zero l)
  parted (suc n) l m = go (λ k. parted n k (omega arith)) (dec_lt i n)
    where
      go : (i < n
          → Parted (opinions_among file terms n) (opinions_among other terms n) (score file i)
          (term_of (term file terms i)))
          → Dec (i < n)
          → Parted (opinions_among file terms (suc n)) (opinions_among other terms (suc n)) (score file i)
          (term_of (term file terms i))
      go earlier (yes k) =
          rw (same_opinion n (omega arith) (λ e. omega arith))
          (parted_more (opinion_of (score file n) (term file terms n)) (earlier k))
      go earlier (no k) =
          let here : n ≡ i = omega arith in
          rw (
            here,
            same_before i (omega arith) (omega arith),
            scores i (omega arith),
            eq-eqb (term other terms i) 0 gone,
          )
          (rw (ne_eqb (term file terms i) 0 (λ e. omega arith))
          (record { before = opinions_among file terms i; after = []; said = refl; gone = refl }))

  -- The cut of the other mean is wider.
  mean_wider : i < most → 0 < score file i → (k n : ℕ) → 0 < n → k ≤ n
      → Wider (cut (mean (opinions_among other terms most)) k n) (cut (mean (opinions_among file terms most)) k n)
  mean_wider l counts k n pos level =
      let p = parted most l (le_refl most) in
      rw (p.said, p.gone)
      (silence_widens p.before p.after (score file i) (term_of (term file terms i)) counts k n pos level)

module _ (file : List ℕ) (w : WellFormed file) (e : ℕ) (l : e < event_count file)
    (opinions : kind file e ≡ opinions_kind) (i : ℕ) (listed : i < expert_count file)
    (said : 1 ≤ term file (terms_at file e) i) where
  -- The sheet with the term of expert i for event e put to 0.
  abbrev pub withdrawn : List ℕ
  withdrawn = set file (terms_at file e + i) 0

  -- Every other byte is as it was.
  elsewhere : (at : ℕ) → at ≢ terms_at file e + i → byte withdrawn at ≡ byte file at
  elsewhere at ne = get_or-set_other file (terms_at file e + i) at 0 0 ne

  -- The cut of the event is wider at every level.
  pub withdrawn_wider : (k n : ℕ) → 0 < n → k ≤ n
      → Wider (event_cut (unit file) withdrawn k n e) (event_cut (unit file) file k n e)
  withdrawn_wider k n pos level =
      let experts = w.header.experts_most in
      let count : expert_count withdrawn ≡ expert_count file = elsewhere 9 (λ q. omega arith) in
      let kept : kind withdrawn e ≡ 1 = elsewhere (entry_at file e) (λ q. omega arith) ∙ opinions in
      rw (
        ne_eqb (kind withdrawn e) 0 (λ q. omega arith),
        eq-eqb (kind withdrawn e) 1 kept,
        ne_eqb (kind file e) 0 (λ q. omega arith),
        eq-eqb (kind file e) 1 opinions,
        count,
      )
      (mean_wider file withdrawn (terms_at file e) i (expert_count file)
      (λ j h. elsewhere (10 + j) (λ q. omega arith))
      (λ j ne. elsewhere (terms_at file e + j) (λ q. ne (omega arith))) said
      (get_or-set_same file (terms_at file e + i) 0 0 (omega (arith, w.header.length_value))) listed
      (w.scores.score_least i listed) k n pos level)
