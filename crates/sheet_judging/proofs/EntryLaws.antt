-- The entries: their fault is absent exactly where they are well-formed.
use Prim.Native.Nat.{ℕ, ◌≤◌}
use mathlib.Core.Path.{◌≡◌}
use mathlib.Core.List.{List}
use native.Mathlib.Omega.{arith}
use Rattle.std.proofs.lemmas.Bool.Decides.{nat_tests}
use Rattle.std.specs.Prelude.{Ok}
use Rattle.opinion_sheet.specs.Format.{expert_count, entry_at}
use Rattle.sheet_judging.specs.EntryRules.{entry_fault}
use Rattle.opinion_sheet.specs.WellFormed.{WellFormedEntry}
use Rattle.sheet_judging.proofs.TermLaws.{opinions_well_formed, opinions_absent}

module _ (file : List ℕ) (U : ℕ) (m : expert_count file ≤ 16) (e : ℕ) where
  pub entry_well_formed : entry_fault U file e ≡ Ok tt → WellFormedEntry U file e
  entry_well_formed h = record {
    known_kind = grind (arith, nat_tests);
    numbers = λ z. grind (arith, nat_tests);
    opinions = λ z. opinions_well_formed file m (entry_at file e) (grind (arith, nat_tests));
    fractions = λ z. grind (arith, nat_tests);
  }

  pub entry_absent : WellFormedEntry U file e → entry_fault U file e ≡ Ok tt
  entry_absent w =
      grind (arith, nat_tests, w.numbers, w.opinions, w.fractions, opinions_absent file m (entry_at file e))
