-- The scores: their fault is absent exactly where they are well-formed.
use Prim.Native.Nat.{ℕ, ◌≤◌}
use mathlib.Core.Path.{◌≡◌}
use mathlib.Core.List.{List}
use native.Mathlib.Omega.{arith}
use Rattle.std.specs.Prelude.{Ok}
use Rattle.std.proofs.lemmas.Bool.Decides.{nat_tests}
use Rattle.refusals.proofs.FirstFault.{among_each, among_absent}
use Rattle.opinion_sheet.specs.Format.{expert_count}
use Rattle.sheet_judging.specs.ScoreRules.{score_fault, scores_fault}
use Rattle.opinion_sheet.specs.WellFormed.{WellFormedScores}

pub scores_well_formed : (file : List ℕ) → expert_count file ≤ 16 → scores_fault file ≡ Ok tt → WellFormedScores file
scores_well_formed file m h =
    let each = among_each (score_fault file) 16 h in
    record {
      score_least = λ i l. grind (arith, nat_tests, each i);
      score_most = λ i l. grind (arith, nat_tests, each i);
      score_after = λ i a l. grind (arith, nat_tests, each i);
    }

pub scores_absent : (file : List ℕ) → WellFormedScores file → scores_fault file ≡ Ok tt
scores_absent file w =
    among_absent (score_fault file) 16
    (λ i l. grind (arith, nat_tests, w.score_least, w.score_most, w.score_after))
