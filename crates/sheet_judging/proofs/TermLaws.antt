-- The opinions of an entry: whether somebody spoke, and that their fault is absent exactly where they are well-formed.
use Prim.Native.Nat.{ℕ, zero, suc, ◌+◌, ◌≤◌, ◌<◌}
use mathlib.Core.Path.{◌≡◌, refl, ap}
use mathlib.Core.Bool.{Bool, true, not, ◌||◌, or-false}
use mathlib.Core.List.{List, [], ◌∷◌}
use lib.Dec.{eqb}
use lib.ListN.{length, get_or, take, drop}
use Rattle.std.specs.List.{list_any}
use Rattle.std.proofs.Math.Seq.{take-suc}
use Rattle.std.proofs.lemmas.List.{get_or-drop}
use Rattle.std.proofs.lemmas.List.Folds.{list_any-append}
use Rattle.std.proofs.Common.{length-drop}
use Rattle.std.proofs.lemmas.Bool.Decides.{nat_tests}
use native.Mathlib.Omega.{arith}
use Rattle.refusals.specs.declared.rule.Rule.TheVariants as rule
use Rattle.std.specs.Prelude.{Ok}
use Rattle.refusals.proofs.FirstFault.{unless_holds, first_of_absent, among_each, among_absent}
use Rattle.opinion_sheet.specs.Format.{expert_count, term}
use Rattle.sheet_judging.specs.TermRules.{term_fault, spoke_among, opinion_rules, opinions_fault}
use Rattle.opinion_sheet.specs.WellFormed.{WellFormedOpinions}

-- Whether somebody spoke, by the bytes of the terms.
pub spoken_bytes : (file : List ℕ) (terms n : ℕ) → terms + n ≤ length file
    → list_any (λ (t : ℕ). not (eqb t 0)) (take n (drop terms file)) ≡ spoke_among file terms n
unfolding spoke_among
spoken_bytes file terms zero h = refl
spoken_bytes file terms (suc n) h =
    rw (
      take-suc (drop terms file) n 0 (omega (arith, length-drop terms file)),
      list_any-append (λ (t : ℕ). not (eqb t 0)) (take n (drop terms file)) (get_or (drop terms file) n 0 ∷ []),
      spoken_bytes file terms n (omega arith),
      get_or-drop terms file n 0,
    )
    (ap (λ (b : Bool). spoke_among file terms n || b) (or-false _))

module _ (file : List ℕ) where
  module _ (terms : ℕ) where
    -- Somebody who spoke, where somebody did.
    pub speaker_among : (n : ℕ) → spoke_among file terms n ≡ true → (i : ℕ) × ((i < n) × (1 ≤ term file terms i))
    unfolding spoke_among
    speaker_among zero h = absurd (grind arith)
    speaker_among (suc n) h = grind (arith, nat_tests, speaker_among n)

    -- One expert who spoke is enough.
    pub spoke_found : (i n : ℕ) → i < n → 1 ≤ term file terms i → spoke_among file terms n ≡ true
    unfolding spoke_among
    spoke_found i zero l s = absurd (omega arith)
    spoke_found i (suc n) l s = grind (arith, nat_tests, spoke_found i n)

  pub opinions_well_formed : expert_count file ≤ 16 → (at : ℕ) → opinions_fault file at ≡ Ok tt
      → WellFormedOpinions file (at + 1)
  opinions_well_formed m at h =
      let rules = first_of_absent (opinion_rules file at) h in
      let each = among_each (term_fault file (at + 1)) 16 rules.0 in
      let found = speaker_among (at + 1) 16 (unless_holds _ rule.NobodySpoke at rules.1.0) in
      record {
        term_most = λ i l. grind (arith, nat_tests, each i);
        term_after = λ i a l. grind (arith, nat_tests, each i);
        speaker = record {
          expert = found.0;
          listed = grind (arith, nat_tests, each found.0);
          spoke = found.1.1;
        };
      }

  pub opinions_absent : expert_count file ≤ 16 → (at : ℕ) → WellFormedOpinions file (at + 1)
      → opinions_fault file at ≡ Ok tt
  opinions_absent m at w =
      let terms_absent =
      among_absent (term_fault file (at + 1)) 16 (λ i l. grind (arith, nat_tests, w.term_most, w.term_after)) in
      rw (terms_absent, spoke_found (at + 1) w.speaker.expert 16 (omega arith) w.speaker.spoke)
