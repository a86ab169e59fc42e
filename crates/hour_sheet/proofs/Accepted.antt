-- The hour's sheet is an accepted one.
use Prim.Native.Nat.{ℕ, ◌+◌, ◌<◌}
use mathlib.Core.Path.{◌≡◌, refl, sym, ◌∙◌}
use mathlib.Core.Bool.{Bool, true, false}
use mathlib.Core.List.{List}
use native.Mathlib.Omega.{arith}
use lib.Dec.{lit<, lit≤}
use Rattle.fields.specs.Fields.{field24, field32}
use Rattle.fields.proofs.Alike.{Alike, alike_from, byte_alike, field24_alike, field32_alike}
use Rattle.std.specs.Prelude.{Ok}
use Rattle.opinion_sheet.specs.Format.{entry_at, event_count, expert_count, kind, term, terms_at, unit}
use Rattle.opinion_sheet.specs.Entries.{numbers_of, fractions_of}
use Rattle.sheet_judging.specs.Judged.{fault_of, counts_of}
use Rattle.opinion_sheet.specs.WellFormed.{WellFormed, WellFormedEntry, WellFormedOpinions}
use Rattle.sheet_judging.proofs.HeaderKept.{same_events, same_experts, header_formed, scores_formed}
use Rattle.refusals.proofs.FirstFault.{accepted_absent}
use Rattle.sheet_judging.proofs.Accepted.{well_formed_accepted}
use Rattle.hour_sheet.specs.Sheet.{Written}

module _ (sheet : List ℕ) (out : ℕ → Bool) (after : List ℕ) (w : Written sheet out after) where
  abbrev experts_kept : expert_count after ≡ expert_count sheet
  experts_kept = same_experts sheet after w.header_kept

  module _ (formed : WellFormed sheet) where
    module _ (e : ℕ) (l : e < event_count sheet) where
      abbrev at : ℕ
      at = entry_at sheet e

      -- an entry as held is well formed as it was
      module _ (o : out e ≡ false) (held : WellFormedEntry (unit sheet) sheet e) where
        alike : Alike 17 after at sheet at
        alike = w.entry_kept e l o

        alike_at : (m d : ℕ) → d + m < 18 → Alike m after (at + d) sheet (at + d)
        alike_at m d k = alike_from after at sheet at 17 m d k alike

        same_kind : kind after e ≡ kind sheet e
        same_kind = byte_alike after at sheet at (λ j k. alike j (omega arith))

        number : (d : ℕ) → d + 4 < 18 → field32 after (at + d) ≡ field32 sheet (at + d)
        number d k = field32_alike after (at + d) sheet (at + d) (alike_at 4 d k)

        same_numbers : numbers_of after at ≡ numbers_of sheet at
        same_numbers = λ i. record {
          a = number 1 (lit< tt) i;
          b = number 5 (lit< tt) i;
          c = number 9 (lit< tt) i;
          d = number 13 (lit< tt) i;
        }

        part : (d : ℕ) → d + 3 < 18 → field24 after (at + d) ≡ field24 sheet (at + d)
        part d k = field24_alike after (at + d) sheet (at + d) (alike_at 3 d k)

        same_fractions : fractions_of after at ≡ fractions_of sheet at
        same_fractions = λ i. record {
          den = part 1 (lit< tt) i;
          numerators = record {
            a = part 4 (lit< tt) i;
            b = part 7 (lit< tt) i;
            c = part 10 (lit< tt) i;
            d = part 13 (lit< tt) i;
          };
        }

        same_term : (i : ℕ) → i < 16 → term after (terms_at after e) i ≡ term sheet (terms_at sheet e) i
        same_term i k = alike_at 16 1 (lit< tt) i k

        opinions_kept : WellFormedOpinions sheet (terms_at sheet e) → WellFormedOpinions after (terms_at after e)
        opinions_kept x = record {
          term_most = λ i k. rw (same_term i (few i k)) (x.term_most i (rw experts_kept at k));
          term_after = λ i k m. same_term i m ∙ x.term_after i (rw experts_kept at k) m;
          speaker =
              let s = x.speaker in
              let among : s.expert < 16 = omega (arith, s.listed, formed.header.experts_most) in
              record {
                expert = s.expert;
                listed = rw experts_kept s.listed;
                spoke = rw (same_term s.expert among) s.spoke;
              };
        }
          where
            few : (i : ℕ) → i < expert_count after → i < 16
            few i k =
                let listed : i < expert_count sheet = rw experts_kept at k in
                omega (arith, listed, formed.header.experts_most)

        entry_as_held : WellFormedEntry (unit after) after e
        entry_as_held = record {
          known_kind = rw same_kind held.known_kind;
          numbers = λ k. rw same_numbers (held.numbers (sym same_kind ∙ k));
          opinions = λ k. opinions_kept (held.opinions (sym same_kind ∙ k));
          fractions = λ k.
              rw (same_fractions, alike 16 (lit< tt)) (held.fractions (sym same_kind ∙ k));
        }

      -- the certain entry is well formed
      module _ (o : out e ≡ true) where
        other_kind : {A : Type 0} (k : ℕ) → 0 < k → kind after e ≡ k → A
        other_kind k m q = absurd (omega (arith, w.certain_kind e l o))

        entry_certain : WellFormedEntry (unit after) after e
        entry_certain = record {
          known_kind = omega (arith, w.certain_kind e l o);
          numbers = λ k.
              rw (w.certain_numbers e l o)
              (record { a_b = lit≤ tt; b_c = lit≤ tt; c_d = lit≤ tt; d_unit = lit≤ tt });
          opinions = λ k. other_kind 1 (lit< tt) k;
          fractions = λ k. other_kind 2 (lit< tt) k;
        }

      entry_formed : WellFormedEntry (unit sheet) sheet e → WellFormedEntry (unit after) after e
      entry_formed held = go (out e) refl
        where
          go : (b : Bool) → out e ≡ b → WellFormedEntry (unit after) after e
          go true o = entry_certain o
          go false o = entry_as_held o held

    -- the hour's sheet is well formed,
    pub written_well_formed : WellFormed after
    written_well_formed = record {
      header = header_formed sheet after w.header_kept formed w.length_kept;
      scores = scores_formed sheet after w.header_kept formed;
      entry = λ e l.
          let inside : e < event_count sheet = rw (same_events sheet after w.header_kept) at l in
          entry_formed e inside (formed.entry e inside);
    }

    -- and so without a fault
    pub written_unfaulted : fault_of after ≡ Ok tt
    written_unfaulted =
        (accepted_absent (fault_of after) (counts_of after) (counts_of after)
        (well_formed_accepted after written_well_formed)).0
