-- The complement sheet is what specs/Sheet says of it, and an accepted one.
use Prim.Native.Nat.{ℕ, ◌<◌}
use mathlib.Core.Path.{◌≡◌}
use mathlib.Core.List.{List}
use native.Mathlib.Omega.{arith}
use Rattle.theory.specs.Trapezoid.{Rising}
use Rattle.std.specs.Prelude.{Ok}
use Rattle.opinion_sheet.specs.Format.{event_count, kind, unit}
use Rattle.sheet_judging.specs.Judged.{fault_of, counts_of}
use Rattle.opinion_sheet.specs.WellFormed.{WellFormed, WellFormedEntry}
use Rattle.sheet_judging.proofs.HeaderKept.{same_events, header_formed, scores_formed}
use Rattle.refusals.proofs.FirstFault.{accepted_absent}
use Rattle.sheet_judging.proofs.Accepted.{well_formed_accepted}
use Rattle.dual_files.specs.Sheet.{complement_sheet, ComplementSheet}
use Rattle.dual_files.proofs.SheetWritten.{TurnedEntry, numbers_stay, fractions_come, turned_entry, numbers_turned}
use Rattle.dual_files.proofs.SheetWritten.{numbers, numbers_rising, sheet_long, header_bytes}

module _ (sheet : List ℕ) (formed : WellFormed sheet) where
  abbrev after : List ℕ
  after = complement_sheet sheet

  -- the kind of an entry
  numbers_kind_kept : (e : ℕ) (l : e < event_count sheet) → kind sheet e ≡ 0 → kind after e ≡ 0
  numbers_kind_kept e l z = go (turned_entry sheet formed e l)
    where
      go : TurnedEntry sheet formed e l → kind after e ≡ 0
      go (numbers_stay k y read den) = y
      go (fractions_come k y read last most) = absurd (omega arith)

  other_kind_turned : (e : ℕ) (l : e < event_count sheet) → 0 < kind sheet e → kind after e ≡ 2
  other_kind_turned e l z = go (turned_entry sheet formed e l)
    where
      go : TurnedEntry sheet formed e l → kind after e ≡ 2
      go (numbers_stay k y read den) = absurd (omega arith)
      go (fractions_come k y read last most) = y

  -- what it is
  pub sheet_means : ComplementSheet sheet after
  sheet_means = record {
    length_kept = sheet_long sheet formed.header;
    header_kept = header_bytes sheet formed.header;
    numbers_kept = numbers_kind_kept;
    opinions_turned = λ e l k. other_kind_turned e l (omega arith);
    fractions_kept = λ e l k. other_kind_turned e l (omega arith);
    numbers_turned = numbers_turned sheet formed;
  }

  entry_formed : (e : ℕ) (l : e < event_count sheet) → WellFormedEntry (unit after) after e
  entry_formed e l = go (turned_entry sheet formed e l)
    where
      r : Rising (numbers sheet formed e l)
      r = numbers_rising sheet formed e l

      go : TurnedEntry sheet formed e l → WellFormedEntry (unit after) after e
      go (numbers_stay k y read den) = record {
        known_kind = omega arith;
        numbers = λ z.
            rw read (record { a_b = r.a_b; b_c = r.b_c; c_d = r.c_d; d_unit = omega (arith, r.d_den, den) });
        opinions = λ z. absurd (omega arith);
        fractions = λ z. absurd (omega arith);
      }
      go (fractions_come k y read last most) = record {
        known_kind = omega arith;
        numbers = λ z. absurd (omega arith);
        opinions = λ z. absurd (omega arith);
        fractions = λ z.
            rw (read, last)
            (record {
              den_least = r.positive;
              den_most = most;
              rising = record { a_b = r.a_b; b_c = r.b_c; c_d = r.c_d; d_unit = r.d_den };
              last_zero = omega arith;
            });
      }

  -- it is well formed,
  pub sheet_well_formed : WellFormed after
  sheet_well_formed =
      let kept = header_bytes sheet formed.header in
      record {
        header = header_formed sheet after kept formed (sheet_long sheet formed.header);
        scores = scores_formed sheet after kept formed;
        entry = λ e l. entry_formed e (rw (same_events sheet after kept) at l);
      }

  -- and so without a fault
  pub sheet_unfaulted : fault_of after ≡ Ok tt
  sheet_unfaulted =
      (accepted_absent (fault_of after) (counts_of after) (counts_of after)
      (well_formed_accepted after sheet_well_formed)).0
