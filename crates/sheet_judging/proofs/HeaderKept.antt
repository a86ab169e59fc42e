-- A file with the header and the length of a well-formed one: its counts, its header and its scores.
use Prim.Native.Nat.{ℕ, ◌+◌, ◌*◌, ◌<◌}
use mathlib.Core.Path.{◌≡◌, sym, ap, ◌∙◌}
use mathlib.Core.List.{List}
use native.Mathlib.Omega.{arith}
use lib.Dec.{lit<}
use lib.ListN.{length}
use Rattle.fields.specs.Fields.{byte, field16}
use Rattle.fields.proofs.Alike.{field16_alike}
use Rattle.opinion_sheet.specs.Format.{event_count, expert_count, score}
use Rattle.sheet_judging.specs.Judged.{counts_of}
use Rattle.opinion_sheet.specs.WellFormed.{WellFormed, WellFormedHeader, WellFormedScores}

module _ (sheet after : List ℕ) (kept : (p : ℕ) → p < 26 → byte after p ≡ byte sheet p) where
  same_field : (p : ℕ) → p + 1 < 26 → field16 after p ≡ field16 sheet p
  same_field p l = field16_alike after p sheet p (λ j k. kept (p + j) (omega arith))

  pub same_events : event_count after ≡ event_count sheet
  same_events = same_field 7 (lit< tt)

  pub same_experts : expert_count after ≡ expert_count sheet
  same_experts = kept 9 (lit< tt)

  -- the counts are those of the other
  pub same_counts : counts_of after ≡ counts_of sheet
  same_counts = λ i. record { number = same_field 5 (lit< tt) i; events = same_events i; experts = same_experts i }

  module _ (formed : WellFormed sheet) where
    pub header_formed : length after ≡ length sheet → WellFormedHeader after
    header_formed same_length = record {
      letters = rw (kept 0 (lit< tt), kept 1 (lit< tt), kept 2 (lit< tt)) formed.header.letters;
      version_value = same_field 3 (lit< tt) ∙ formed.header.version_value;
      events_least = rw same_events formed.header.events_least;
      events_most = rw same_events formed.header.events_most;
      experts_most = rw same_experts formed.header.experts_most;
      length_value =
          same_length ∙ formed.header.length_value ∙ ap (λ (n : ℕ). 26 + 17 * n) (sym same_events);
    }

    same_score : (i : ℕ) → i < 16 → score after i ≡ score sheet i
    same_score i l = kept (10 + i) (omega arith)

    pub scores_formed : WellFormedScores after
    scores_formed = record {
      score_least = λ i l. rw (same_score i (few i l)) (formed.scores.score_least i (listed i l));
      score_most = λ i l. rw (same_score i (few i l)) (formed.scores.score_most i (listed i l));
      score_after = λ i l k. same_score i k ∙ formed.scores.score_after i (rw same_experts at l) k;
    }
      where
        listed : (i : ℕ) → i < expert_count after → i < expert_count sheet
        listed i l = rw same_experts at l

        few : (i : ℕ) → i < expert_count after → i < 16
        few i l = omega (arith, listed i l, formed.header.experts_most)
