-- A file is accepted exactly where it is well-formed.
use Prim.Native.Nat.{ℕ}
use mathlib.Core.Path.{◌≡◌}
use mathlib.Core.List.{List}
use Rattle.std.specs.Prelude.{Ok}
use Rattle.refusals.proofs.FirstFault.{accepted_absent, first_of_absent, among_each, among_absent}
use Rattle.opinion_sheet.specs.Format.{event_count, unit}
use Rattle.sheet_judging.specs.EntryRules.{entry_fault}
use Rattle.sheet_judging.specs.Judged.{counts_of, rules, fault_of, judged}
use Rattle.opinion_sheet.specs.WellFormed.{WellFormed}
use Rattle.sheet_judging.specs.declared.judgement.Counts.{Counts}
use Rattle.sheet_judging.proofs.HeaderLaws.{header_well_formed, header_absent}
use Rattle.sheet_judging.proofs.ScoreLaws.{scores_well_formed, scores_absent}
use Rattle.sheet_judging.proofs.EntryLaws.{entry_well_formed, entry_absent}

module _ (file : List ℕ) where
  absent_well_formed : fault_of file ≡ Ok tt → WellFormed file
  unfolding fault_of
  absent_well_formed h =
      let parts = first_of_absent (rules file) h in
      let header = header_well_formed file parts.0 in
      record {
        header = header;
        scores = scores_well_formed file header.experts_most parts.1.0;
        entry = λ e l.
            entry_well_formed file (unit file) header.experts_most e
            (among_each (entry_fault (unit file) file) (event_count file) parts.1.1.0 e l);
      }

  pub accepted_well_formed : (counts : Counts) → judged file ≡ Ok counts → WellFormed file
  accepted_well_formed counts h = absent_well_formed (accepted_absent (fault_of file) (counts_of file) counts h).0

  pub accepted_counts : (counts : Counts) → judged file ≡ Ok counts → counts ≡ counts_of file
  accepted_counts counts h = (accepted_absent (fault_of file) (counts_of file) counts h).1

  pub well_formed_accepted : WellFormed file → judged file ≡ Ok (counts_of file)
  unfolding fault_of
  well_formed_accepted w =
      rw (
        header_absent file w.header,
        scores_absent file w.scores,
        among_absent (entry_fault (unit file) file) (event_count file)
            (λ e l. entry_absent file (unit file) w.header.experts_most e (w.entry e l)),
      )
