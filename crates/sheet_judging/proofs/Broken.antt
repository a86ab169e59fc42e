-- Judging a sheet finds the first rule that it breaks, and none where it breaks none.
use Prim.Native.Nat.{ℕ, suc, ◌+◌, ◌≤◌, ◌<◌}
use mathlib.Core.Path.{◌≡◌, refl, sym, ◌∙◌, ap, subst}
use mathlib.Core.Bool.{true, false}
use mathlib.Core.List.{List}
use mathlib.Core.Logic.{◌⊎◌, inl, inr, ⊎_elim}
use lib.ListN.{length, drop}
use lib.Dec.{eqb, lit<}
use native.Mathlib.Decide.{dec_lt}
use native.Mathlib.Omega.{arith}
use borrow.Author.Tests.{eqb-true, eqb-false, eq-eqb, ne_eqb}
use Rattle.std.proofs.lemmas.Bool.Decides.{nat_tests}
use Rattle.refusals.specs.FirstFault.{unless, ◌or_else◌, first_of, first_among}
use Rattle.refusals.specs.Order.{refusal, stage_of, stage, order_place, Earlier, by_stage, by_place, First, Finds}
use Rattle.refusals.specs.declared.rule.Rule.TheVariants as rule
use Rattle.refusals.specs.declared.refusal.Refusal.{Refusal}
use Rattle.std.specs.Prelude.{Ok, Err}
use Rattle.refusals.proofs.FirstFault.{unless_holds, among_each}
use Rattle.refusals.proofs.Order.{by_place_or_number}
use Rattle.refusals.proofs.Finds.{Case, Among, Inside, behind, same_stage, same_number, inside_case, inside_wider}
use Rattle.refusals.proofs.Finds.{inside_before, finds_same, finds_unless, finds_either, finds_last, finds_choice}
use Rattle.refusals.proofs.Finds.{finds_rule, finds_last_rule, finds_rows, found_first, first_found, accepted_none}
use Rattle.refusals.proofs.Header.{Opening, Header, behind_header, finds_header, header_stage}
use Rattle.opinion_sheet.specs.Format.{header_length, letters_place, version_place, events_place, experts_place}
use Rattle.opinion_sheet.specs.Format.{scores_place, version_read, max_events, expert_places, numbers_kind}
use Rattle.opinion_sheet.specs.Format.{opinions_kind, fractions_kind}
use Rattle.opinion_sheet.specs.Format.{has_letters, version, event_count, expert_count, required_length, score}
use Rattle.opinion_sheet.specs.Format.{entry_at, kind, terms_at, term, unit}
use Rattle.sheet_judging.specs.HeaderRules.{within, header_rules, header_fault}
use Rattle.sheet_judging.specs.ScoreRules.{score_rule, score_fault, scores_fault}
use Rattle.sheet_judging.specs.TermRules.{term_rule, term_fault, spoke_among, opinions_fault}
use Rattle.opinion_sheet.specs.Entries.{numbers_of, fractions_of, last_byte}
use Rattle.sheet_judging.specs.EntryRules.{numbers_rule, fractions_rule, entry_fault, entries_fault}
use Rattle.sheet_judging.specs.Judged.{fault_of, counts_of, judged}
use Rattle.opinion_sheet.specs.WellFormed.{WellFormedHeader, WellFormedNumbers, WellFormedFractions}
use Rattle.sheet_judging.specs.Broken.{Outside, WrongScore, WrongTerm, Breaks, too_short, wrong_letters}
use Rattle.sheet_judging.specs.Broken.{wrong_version, wrong_events, wrong_experts, wrong_length, unknown_kind}
use Rattle.sheet_judging.specs.Broken.{wrong_score, number_order, wrong_term, nobody_spoke, wrong_fractions}
use Rattle.opinion_sheet.specs.declared.numbers.Numbers.{Numbers}
use Rattle.opinion_sheet.specs.declared.fractions.Fractions.{Fractions}
use Rattle.sheet_judging.specs.declared.judgement.Counts.{Counts}
use Rattle.sheet_judging.proofs.HeaderLaws.{header_well_formed}
use Rattle.sheet_judging.proofs.BrokenRules.{outside_says, outside_shows, score_says, score_shows, term_says}
use Rattle.sheet_judging.proofs.BrokenRules.{term_shows, silence_says, silence_shows, order_says, order_shows}
use Rattle.sheet_judging.proofs.BrokenRules.{fractions_says, fractions_shows}

-- The header: E before the experts, and the length that they require.
module _ (file : List ℕ) where
  abbrev Stands : Type 0
  Stands = header_length ≤ length file

  abbrev Length : Refusal → Type 0
  Length = Case (Stands × (length file ≡ required_length file → ⊥)) rule.WrongLength (length file)

  abbrev Experts : Refusal → Type 0
  Experts q = Case (Stands × Outside 0 expert_places (expert_count file)) rule.WrongCount experts_place q ⊎ Length q

  abbrev Sizes : Refusal → Type 0
  Sizes q = Case (Stands × Outside 1 max_events (event_count file)) rule.WrongCount events_place q ⊎ Experts q

  abbrev opening : Opening
  opening = record {
    size = length file;
    least = header_length;
    letters = has_letters file;
    letters_place = letters_place;
    version = version file;
    version_read = version_read;
    version_place = version_place;
  }

  abbrev Front : Refusal → Type 0
  Front = Header opening Sizes

  -- E stands before the experts.
  events_first : (q : Refusal) → Experts q → Earlier (refusal rule.WrongCount events_place) q
  events_first q = ⊎_elim (behind (by_place refl (lit< tt)) q) (behind (by_stage (lit< tt)) q)

  finds_sizes : Stands → Finds Sizes (first_of (drop 3 (header_rules file)))
  finds_sizes long =
      finds_rule (within 1 max_events (event_count file)) rule.WrongCount events_place _
      (λ e. (long, outside_says _ _ _ e)) (λ b. outside_shows _ _ _ b.1) _
      (λ t.
      finds_rule (within 0 expert_places (expert_count file)) rule.WrongCount experts_place _
      (λ e. (long, outside_says _ _ _ e)) (λ b. outside_shows _ _ _ b.1) _
      (λ u.
      finds_last_rule (eqb (length file) (required_length file)) rule.WrongLength (length file) _
      (λ e. (long, eqb-false _ _ e)) (λ b. ne_eqb _ _ b.1))
      (behind (by_stage (lit< tt)))) events_first

  sizes_stage : (q : Refusal) → Sizes q
      → (stage_of rule.WrongCount ≤ stage q) × (stage q ≤ stage_of rule.WrongLength)
  sizes_stage q (inl b) = (omega (arith, same_stage b.1), omega (arith, same_stage b.1))
  sizes_stage q (inr (inl b)) = (omega (arith, same_stage b.1), omega (arith, same_stage b.1))
  sizes_stage q (inr (inr b)) = (omega (arith, same_stage b.1), omega (arith, same_stage b.1))

  finds_front : Finds Front (header_fault file)
  unfolding header_fault
  finds_front = finds_header opening Sizes sizes_stage _ finds_sizes

  -- The scores.
  abbrev Score : ℕ → Refusal → Type 0
  Score i = Case (Stands × WrongScore file i) rule.WrongField (scores_place + i)

  finds_scores : Stands → Finds (Among Score expert_places) (scores_fault file)
  finds_scores long =
      finds_rows behind_header (λ i. scores_place + i) (λ i. scores_place + suc i) (λ i j l. omega arith)
      (score_fault file) Score expert_places (λ i l. inside_case (omega arith) (omega arith))
      (λ i l.
      finds_unless (score_rule (expert_count file) i (score file i)) rule.WrongField (scores_place + i) _
      (λ e. (long, score_says file i e)) (λ b. score_shows file i b.1))

-- The entry of event e.
module _ (file : List ℕ) (e : ℕ) where
  abbrev four : Numbers ℕ
  four = numbers_of file (entry_at file e)

  abbrev given : Fractions
  given = fractions_of file (entry_at file e)

  abbrev last : ℕ
  last = last_byte file (entry_at file e)

  abbrev Falling : Refusal → Type 0
  Falling =
      Case ((kind file e ≡ numbers_kind) × (WellFormedNumbers (unit file) four → ⊥)) rule.NumberOrder (entry_at file e)

  abbrev Term : ℕ → Refusal → Type 0
  Term i =
      Case ((kind file e ≡ opinions_kind) × WrongTerm file (terms_at file e) i) rule.WrongTerm (terms_at file e + i)

  abbrev Silence : Refusal → Type 0
  Silence =
      Case
      ((kind file e ≡ opinions_kind) × ((i : ℕ) → i < expert_count file → term file (terms_at file e) i ≡ 0))
      rule.NobodySpoke (entry_at file e)

  abbrev Opinions : Refusal → Type 0
  Opinions q = Among Term expert_places q ⊎ Silence q

  abbrev Fraction : Refusal → Type 0
  Fraction =
      Case ((kind file e ≡ fractions_kind) × (WellFormedFractions given last → ⊥)) rule.WrongFractions (entry_at file e)

  abbrev Kind : Refusal → Type 0
  Kind =
      Case
      ((kind file e ≡ numbers_kind → ⊥)
      × ((kind file e ≡ opinions_kind → ⊥) × (kind file e ≡ fractions_kind → ⊥)))
      rule.UnknownKind (entry_at file e)

  abbrev Entry : Refusal → Type 0
  Entry q = Falling q ⊎ (Opinions q ⊎ (Fraction q ⊎ Kind q))

  -- An entry's refusals lie inside it.
  entry_inside : (q : Refusal) → Entry q → Inside behind_header (entry_at file e) (entry_at file (suc e)) q
  entry_inside q (inl b) = inside_case (omega arith) (omega arith) q b
  entry_inside q (inr (inl (inl b))) = inside_case (omega arith) (omega (arith, b.1.0)) q b.1.1
  entry_inside q (inr (inl (inr b))) = inside_case (omega arith) (omega arith) q b
  entry_inside q (inr (inr (inl b))) = inside_case (omega arith) (omega arith) q b
  entry_inside q (inr (inr (inr b))) = inside_case (omega arith) (omega arith) q b

  module _ (m : expert_count file ≤ expert_places) (z : kind file e ≡ opinions_kind) where
    finds_terms : Finds (Among Term expert_places) (first_among (term_fault file (terms_at file e)) expert_places)
    finds_terms =
        finds_rows behind_header (λ i. terms_at file e + i) (λ i. terms_at file e + suc i) (λ i j l. omega arith)
        (term_fault file (terms_at file e)) Term expert_places (λ i l. inside_case (omega arith) (omega arith))
        (λ i l.
        finds_unless (term_rule (expert_count file) i (term file (terms_at file e) i)) rule.WrongTerm
        (terms_at file e + i) _ (λ n. (z, term_says file (terms_at file e) i n))
        (λ b. term_shows file (terms_at file e) i b.1))

    -- Where no term is out of rule, nobody spoke if no listed expert did.
    all_silent : first_among (term_fault file (terms_at file e)) expert_places ≡ Ok tt
        → ((i : ℕ) → i < expert_count file → term file (terms_at file e) i ≡ 0)
        → (i : ℕ) → i < expert_places → term file (terms_at file e) i ≡ 0
    all_silent none silent i l = go (dec_lt i (expert_count file))
      where
        go : Dec (i < expert_count file) → term file (terms_at file e) i ≡ 0
        go (yes k) = silent i k
        go (no k) =
            let kept : term_rule (expert_count file) i (term file (terms_at file e) i) ≡ true =
            unless_holds _ _ _ (among_each (term_fault file (terms_at file e)) expert_places none i l) in
            grind (arith, nat_tests)

    finds_silence : first_among (term_fault file (terms_at file e)) expert_places ≡ Ok tt
        → Finds Silence
        (unless (spoke_among file (terms_at file e) expert_places) rule.NobodySpoke (entry_at file e) or_else Ok tt)
    finds_silence none =
        finds_last_rule (spoke_among file (terms_at file e) expert_places) rule.NobodySpoke (entry_at file e) _
        (λ n. (z, λ i l. silence_says file (terms_at file e) expert_places n i (omega arith)))
        (λ b. silence_shows file (terms_at file e) expert_places (all_silent none b.1))

    -- 11 before 12, which is seen at the last term.
    finds_opinions : Finds Opinions (opinions_fault file (entry_at file e))
    finds_opinions =
        finds_either (first_among (term_fault file (terms_at file e)) expert_places) _ finds_terms finds_silence
        (λ r q p b.
        by_place_or_number (same_stage p.1.1.1 ∙ sym (same_stage b.1))
        (omega (arith, ap order_place p.1.1.1, ap order_place b.1, p.1.0))
        (omega (arith, same_number p.1.1.1, same_number b.1)))

  -- What is broken says which kind the entry is of.
  opinions_are : (q : Refusal) → Opinions q → kind file e ≡ opinions_kind
  opinions_are q = ⊎_elim (λ b. b.1.1.0.0) (λ b. b.0.0)

  not_opinions : (q : Refusal) → Fraction q ⊎ Kind q → kind file e ≡ opinions_kind → ⊥
  not_opinions q b z = ⊎_elim (λ c. omega (arith, c.0.0)) (λ c. c.0.1.0 z) b

  not_numbers : (q : Refusal) → Opinions q ⊎ (Fraction q ⊎ Kind q) → kind file e ≡ numbers_kind → ⊥
  not_numbers q b z =
      ⊎_elim (λ c. omega (arith, opinions_are q c)) (⊎_elim (λ c. omega (arith, c.0.0)) (λ c. c.0.0 z)) b

  finds_entry : expert_count file ≤ expert_places → Finds Entry (entry_fault (unit file) file e)
  finds_entry m =
      finds_choice (eqb (kind file e) numbers_kind) _ _
      (λ t.
      finds_unless (numbers_rule (unit file) four) rule.NumberOrder (entry_at file e) _
      (λ n. (eqb-true _ _ t, order_says (unit file) four n)) (λ b. order_shows (unit file) four b.1))
      (λ n.
      finds_choice (eqb (kind file e) opinions_kind) _ _ (λ t. finds_opinions m (eqb-true _ _ t))
      (λ o.
      finds_choice (eqb (kind file e) fractions_kind) _ _
      (λ t.
      finds_unless (fractions_rule given last) rule.WrongFractions (entry_at file e) _
      (λ n. (eqb-true _ _ t, fractions_says given last n)) (λ b. fractions_shows given last b.1))
      (λ p.
      finds_unless false rule.UnknownKind (entry_at file e) _
      (λ h. (eqb-false _ _ n, (eqb-false _ _ o, eqb-false _ _ p))) (λ b. refl))
      (λ q b. eq-eqb _ _ b.0.0) (λ q b. ne_eqb _ _ b.0.1.1))
      (λ q b. eq-eqb _ _ (opinions_are q b)) (λ q b. ne_eqb _ _ (not_opinions q b)))
      (λ q b. eq-eqb _ _ b.0.0) (λ q b. ne_eqb _ _ (not_numbers q b))

-- The entries, and the whole file.
module _ (file : List ℕ) where
  abbrev Scores : Refusal → Type 0
  Scores = Among (Score file) expert_places

  abbrev Entries : Refusal → Type 0
  Entries = Among (Entry file) (event_count file)

  finds_entries : WellFormedHeader file → Finds Entries (entries_fault (unit file) file)
  finds_entries w =
      finds_rows behind_header (entry_at file) (λ e. entry_at file (suc e)) (λ i j l. omega arith)
      (entry_fault (unit file) file) (Entry file) (event_count file) (λ e l. entry_inside file e)
      (λ e l. finds_entry file e w.experts_most)

  -- The scores stand before the place of the entries.
  scores_inside : (q : Refusal) → Scores q → Inside behind_header scores_place header_length q
  scores_inside q b = inside_case (omega arith) (omega (arith, b.1.0)) q b.1.1

  entries_inside : (q : Refusal) → Entries q → Inside behind_header header_length (required_length file) q
  entries_inside q b = inside_wider (omega arith) (omega (arith, b.1.0)) (entry_inside file b.0 q b.1.1)

  abbrev Body : Refusal → Type 0
  Body q = Scores q ⊎ (WellFormedHeader file × Entries q)

  body_stage : (q : Refusal) → Body q → stage q ≡ behind_header
  body_stage q = ⊎_elim (λ b. (scores_inside q b).stage_is) (λ b. (entries_inside q b.1).stage_is)

  abbrev Whole : Refusal → Type 0
  Whole q = Front file q ⊎ Body q

  finds_whole : Finds Whole (fault_of file)
  unfolding fault_of
  finds_whole =
      finds_either (header_fault file) _ (finds_front file)
      (λ h.
      let w = header_well_formed file h in
      finds_either (scores_fault file) _ (finds_scores file (omega (arith, w.length_value)))
      (λ s.
      finds_same _ (λ q b. (w, b)) (λ q b. b.1)
      (finds_last Entries (entries_fault (unit file) file) (finds_entries w)))
      (λ r q p b. inside_before (omega arith) (scores_inside r p) (entries_inside q b.1)))
      (λ r q p b. by_stage (omega (arith, header_stage (opening file) (Sizes file) (sizes_stage file) r p, body_stage q b)))

  -- A part's refusal is a rule that the file breaks,
  breaks : (q : Refusal) → Whole q → Breaks file q
  breaks q (inl (inl b)) = subst (Breaks file) (sym b.1) (too_short b.0)
  breaks q (inl (inr (inl b))) = subst (Breaks file) (sym b.1) (wrong_letters b.0.0 b.0.1)
  breaks q (inl (inr (inr (inl b)))) = subst (Breaks file) (sym b.1) (wrong_version b.0.0 b.0.1)
  breaks q (inl (inr (inr (inr (inl b))))) = subst (Breaks file) (sym b.1) (wrong_events b.0.0 b.0.1)
  breaks q (inl (inr (inr (inr (inr (inl b)))))) = subst (Breaks file) (sym b.1) (wrong_experts b.0.0 b.0.1)
  breaks q (inl (inr (inr (inr (inr (inr b)))))) = subst (Breaks file) (sym b.1) (wrong_length b.0.0 b.0.1)
  breaks q (inr (inl (i, (l, b)))) = subst (Breaks file) (sym b.1) (wrong_score b.0.0 i l b.0.1)
  breaks q (inr (inr (w, (e, (l, inl b))))) = subst (Breaks file) (sym b.1) (number_order w e l b.0.0 b.0.1)
  breaks q (inr (inr (w, (e, (l, inr (inl (inl (i, (j, b))))))))) =
      subst (Breaks file) (sym b.1) (wrong_term w e l b.0.0 i j b.0.1)
  breaks q (inr (inr (w, (e, (l, inr (inl (inr b))))))) =
      subst (Breaks file) (sym b.1) (nobody_spoke w e l b.0.0 b.0.1)
  breaks q (inr (inr (w, (e, (l, inr (inr (inl b))))))) =
      subst (Breaks file) (sym b.1) (wrong_fractions w e l b.0.0 b.0.1)
  breaks q (inr (inr (w, (e, (l, inr (inr (inr b))))))) =
      subst (Breaks file) (sym b.1) (unknown_kind w e l b.0.0 b.0.1.0 b.0.1.1)

  -- and every rule that it breaks is one of a part.
  parted : (q : Refusal) → Breaks file q → Whole q
  parted q (too_short b) = inl (inl (b, refl))
  parted q (wrong_letters s b) = inl (inr (inl ((s, b), refl)))
  parted q (wrong_version s b) = inl (inr (inr (inl ((s, b), refl))))
  parted q (wrong_events s b) = inl (inr (inr (inr (inl ((s, b), refl)))))
  parted q (wrong_experts s b) = inl (inr (inr (inr (inr (inl ((s, b), refl))))))
  parted q (wrong_length s b) = inl (inr (inr (inr (inr (inr ((s, b), refl))))))
  parted q (unknown_kind w e l n o p) = inr (inr (w, (e, (l, inr (inr (inr ((n, (o, p)), refl)))))))
  parted q (wrong_score s i l b) = inr (inl (i, (l, ((s, b), refl))))
  parted q (number_order w e l k b) = inr (inr (w, (e, (l, inl ((k, b), refl)))))
  parted q (wrong_fractions w e l k b) = inr (inr (w, (e, (l, inr (inr (inl ((k, b), refl)))))))
  parted q (wrong_term w e l k i j b) = inr (inr (w, (e, (l, inr (inl (inl (i, (j, ((k, b), refl)))))))))
  parted q (nobody_spoke w e l k b) = inr (inr (w, (e, (l, inr (inl (inr ((k, b), refl)))))))

  -- Judging finds the first rule that the file breaks, in document 01's order, and nothing where it breaks none.
  pub first_broken : Finds (Breaks file) (fault_of file)
  first_broken = finds_same (fault_of file) breaks parted finds_whole

  pub refused_first : (r : Refusal) → judged file ≡ Err r → First (Breaks file) r
  refused_first = found_first (Breaks file) (fault_of file) (counts_of file) first_broken

  -- A refusal is given under its condition and not otherwise: the first broken rule is the one refused by.
  pub first_refused : (r : Refusal) → First (Breaks file) r → judged file ≡ Err r
  first_refused = first_found (Breaks file) (fault_of file) (counts_of file) first_broken

  pub accepted_unbroken : (counts : Counts) → judged file ≡ Ok counts → (q : Refusal) → Breaks file q → ⊥
  accepted_unbroken = accepted_none (Breaks file) (fault_of file) (counts_of file) first_broken
