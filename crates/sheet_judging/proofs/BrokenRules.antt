-- The test of each rule fails exactly where the rule is broken.
use Prim.Native.Nat.{ℕ, ◌<◌}
use mathlib.Core.Path.{◌≡◌}
use mathlib.Core.Bool.{false}
use mathlib.Core.List.{List}
use native.Mathlib.Omega.{arith}
use Rattle.std.proofs.lemmas.Bool.Decides.{nat_tests}
use Rattle.opinion_sheet.specs.Format.{expert_count, score, term}
use Rattle.sheet_judging.specs.HeaderRules.{within}
use Rattle.sheet_judging.specs.ScoreRules.{score_rule}
use Rattle.sheet_judging.specs.TermRules.{term_rule, spoke_among}
use Rattle.sheet_judging.specs.EntryRules.{numbers_rule, fractions_rule}
use Rattle.opinion_sheet.specs.WellFormed.{WellFormedNumbers, WellFormedFractions}
use Rattle.sheet_judging.specs.Broken.{Outside, WrongScore, WrongTerm}
use Rattle.opinion_sheet.specs.declared.numbers.Numbers.{Numbers}
use Rattle.opinion_sheet.specs.declared.fractions.Fractions.{Fractions}
use Rattle.sheet_judging.proofs.TermLaws.{speaker_among, spoke_found}

pub outside_says : (low high x : ℕ) → within low high x ≡ false → Outside low high x
outside_says low high x h = grind (arith, nat_tests)

pub outside_shows : (low high x : ℕ) → Outside low high x → within low high x ≡ false
outside_shows low high x h = grind (arith, nat_tests)

module _ (file : List ℕ) (expert : ℕ) where
  pub score_says : score_rule (expert_count file) expert (score file expert) ≡ false → WrongScore file expert
  score_says h = grind (arith, nat_tests)

  pub score_shows : WrongScore file expert → score_rule (expert_count file) expert (score file expert) ≡ false
  score_shows h = grind (arith, nat_tests)

module _ (file : List ℕ) (terms expert : ℕ) where
  pub term_says : term_rule (expert_count file) expert (term file terms expert) ≡ false → WrongTerm file terms expert
  term_says h = grind (arith, nat_tests)

  pub term_shows : WrongTerm file terms expert → term_rule (expert_count file) expert (term file terms expert) ≡ false
  term_shows h = grind (arith, nat_tests)

module _ (file : List ℕ) (terms n : ℕ) where
  pub silence_says : spoke_among file terms n ≡ false → (i : ℕ) → i < n → term file terms i ≡ 0
  silence_says h i l = grind (arith, nat_tests, spoke_found file terms i n)

  pub silence_shows : ((i : ℕ) → i < n → term file terms i ≡ 0) → spoke_among file terms n ≡ false
  silence_shows silent = grind (arith, nat_tests, silent, speaker_among file terms n)

module _ (U : ℕ) (x : Numbers ℕ) where
  pub order_says : numbers_rule U x ≡ false → WellFormedNumbers U x → ⊥
  order_says h w = grind (arith, nat_tests)

  pub order_shows : (WellFormedNumbers U x → ⊥) → numbers_rule U x ≡ false
  order_shows broken = grind (arith, nat_tests)

module _ (x : Fractions) (last : ℕ) where
  pub fractions_says : fractions_rule x last ≡ false → WellFormedFractions x last → ⊥
  fractions_says h w = grind (arith, nat_tests)

  pub fractions_shows : (WellFormedFractions x last → ⊥) → fractions_rule x last ≡ false
  fractions_shows broken = grind (arith, nat_tests)
