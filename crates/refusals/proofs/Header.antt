-- What judging finds at the front of a file's header, which a tree file and a sheet have alike: that the file is
-- shorter than its header, its letters, its version; then the counts, and the length that they require.
use Prim.Native.Nat.{ℕ, ◌≤◌, ◌<◌}
use mathlib.Core.Path.{◌≡◌}
use mathlib.Core.Bool.{Bool, false}
use mathlib.Core.Logic.{◌⊎◌, ⊎_elim}
use native.Mathlib.Omega.{arith}
use lib.Dec.{leb, eqb}
use borrow.Author.Tests.{leb-true, leb-false, lt-leb, eqb-false, ne_eqb}
use Rattle.refusals.specs.FirstFault.{FirstFault, unless, ◌or_else◌}
use Rattle.refusals.specs.Order.{stage_of, stage, by_stage, Finds}
use Rattle.refusals.specs.declared.rule.Rule.TheVariants as rule
use Rattle.refusals.specs.declared.refusal.Refusal.{Refusal}
use Rattle.refusals.proofs.Finds.{Case, same_stage, finds_rule}

-- The stage of all that stands behind a header.
abbrev pub behind_header : ℕ
behind_header = stage_of rule.UnknownKind

-- A file of a length, the length of its header, the test of its letters, its version and the one that is read.
pub record Opening : Type 0 where
  pub size : ℕ
  pub least : ℕ
  pub letters : Bool
  pub letters_place : ℕ
  pub version : ℕ
  pub version_read : ℕ
  pub version_place : ℕ

-- What can be wrong with a header: its opening, then the counts.
module _ (file : Opening) (Counts : Refusal → Type 0) where
  abbrev pub Long : Type 0
  Long = file.least ≤ file.size

  abbrev Version : Refusal → Type 0
  Version q = Case (Long × (file.version ≡ file.version_read → ⊥)) rule.WrongVersion file.version_place q ⊎ Counts q

  abbrev Letters : Refusal → Type 0
  Letters q = Case (Long × (file.letters ≡ false)) rule.WrongLetters file.letters_place q ⊎ Version q

  abbrev pub Header : Refusal → Type 0
  Header q = Case (file.size < file.least) rule.TooShort file.size q ⊎ Letters q

  abbrev from_version : FirstFault → FirstFault
  from_version counts = unless (eqb file.version file.version_read) rule.WrongVersion file.version_place or_else counts

  abbrev from_letters : FirstFault → FirstFault
  from_letters counts = unless file.letters rule.WrongLetters file.letters_place or_else from_version counts

  -- Where what is wrong with the counts is of their stages,
  module _
      (of_counts : (q : Refusal) → Counts q
      → (stage_of rule.WrongCount ≤ stage q) × (stage q ≤ stage_of rule.WrongLength))
    where
      version_stage : (q : Refusal) → Version q → stage_of rule.WrongVersion ≤ stage q
      version_stage q = ⊎_elim (λ b. omega (arith, same_stage b.1)) (λ b. omega (arith, (of_counts q b).0))

      letters_stage : (q : Refusal) → Letters q → stage_of rule.WrongLetters ≤ stage q
      letters_stage q = ⊎_elim (λ b. omega (arith, same_stage b.1)) (λ b. omega (arith, version_stage q b))

      finds_letters : Long → (counts : FirstFault) → Finds Counts counts → Finds Letters (from_letters counts)
      finds_letters long counts finds =
          finds_rule file.letters rule.WrongLetters file.letters_place _ (λ e. (long, e)) (λ b. b.1) _
          (λ t.
          finds_rule (eqb file.version file.version_read) rule.WrongVersion file.version_place _
          (λ e. (long, eqb-false _ _ e)) (λ b. ne_eqb _ _ b.1) counts (λ u. finds)
          (λ q b. by_stage (omega (arith, (of_counts q b).0))))
          (λ q b. by_stage (omega (arith, version_stage q b)))

      -- judging finds the first of all, in a file that is as long as its header that of the counts,
      pub finds_header : (counts : FirstFault) → (Long → Finds Counts counts)
          → Finds Header (unless (leb file.least file.size) rule.TooShort file.size or_else from_letters counts)
      finds_header counts finds =
          finds_rule (leb file.least file.size) rule.TooShort file.size _ (leb-false _ _) (lt-leb _ _) _
          (λ t. finds_letters (leb-true _ _ t) counts (finds (leb-true _ _ t)))
          (λ q b. by_stage (omega (arith, letters_stage q b)))

      -- and all of it comes before what stands behind the header.
      pub header_stage : (q : Refusal) → Header q → stage q ≤ stage_of rule.WrongLength
      header_stage q =
          ⊎_elim (λ b. omega (arith, same_stage b.1))
          (⊎_elim (λ b. omega (arith, same_stage b.1))
          (⊎_elim (λ b. omega (arith, same_stage b.1)) (λ b. (of_counts q b).1)))
