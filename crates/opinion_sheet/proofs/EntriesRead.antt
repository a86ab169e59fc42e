-- What a well-formed entry holds, by the kind as which it is read.
use Prim.Native.Nat.{ℕ}
use mathlib.Core.Path.{◌≡◌, ◌∙◌, ap, subst}
use mathlib.Core.List.{List}
use native.Mathlib.Omega.{arith}
use Rattle.std.proofs.lemmas.Bool.Decides.{nat_tests}
use borrow.Author.Tests.{eq-eqb, ne_eqb}
use Rattle.opinion_sheet.specs.Format.{entry_at, kind, terms_at}
use Rattle.opinion_sheet.specs.Entries.{numbers_of, fractions_of, last_byte, entry_of}
use Rattle.opinion_sheet.specs.WellFormed.{WellFormedNumbers, WellFormedOpinions, WellFormedFractions, WellFormedEntry}
use Rattle.opinion_sheet.specs.declared.numbers.Numbers.{Numbers}
use Rattle.opinion_sheet.specs.declared.fractions.Fractions.{Fractions}
use Rattle.opinion_sheet.specs.declared.entry.Entry.{Entry}
use Rattle.opinion_sheet.specs.declared.entry.Entry.TheVariants as entry

-- The number of an entry's kind.
abbrev pub kind_number : Entry → ℕ
kind_number (entry.Numbers x) = 0
kind_number (entry.Opinions terms) = 1
kind_number (entry.Fractions x) = 2

-- What a well-formed entry that was read as of a kind holds.
module _ (file : List ℕ) (U e : ℕ) (w : WellFormedEntry U file e) where
  pub kind_read : kind file e ≡ kind_number (entry_of file e)
  kind_read = grind (arith, nat_tests)

  pub entry_numbers : {x : Numbers ℕ} → entry_of file e ≡ entry.Numbers x → WellFormedNumbers U x
  entry_numbers {x} h =
      let z : kind file e ≡ 0 = kind_read ∙ ap kind_number h in
      let read : entry.Numbers (numbers_of file (entry_at file e)) ≡ entry.Numbers x =
      rw (eq-eqb (kind file e) 0 z) at h in
      let same : numbers_of file (entry_at file e) ≡ x = cc in
      subst (WellFormedNumbers U) same (w.numbers z)

  pub entry_opinions : {terms : ℕ} → entry_of file e ≡ entry.Opinions terms
      → (terms_at file e ≡ terms) × WellFormedOpinions file terms
  entry_opinions {terms} h =
      let z : kind file e ≡ 1 = kind_read ∙ ap kind_number h in
      let read : entry.Opinions (terms_at file e) ≡ entry.Opinions terms =
      rw (ne_eqb (kind file e) 0 (λ y. omega arith), eq-eqb (kind file e) 1 z) at h in
      let same : terms_at file e ≡ terms = cc in
      (same, subst (WellFormedOpinions file) same (w.opinions z))

  pub entry_fractions : {x : Fractions} → entry_of file e ≡ entry.Fractions x
      → WellFormedFractions x (last_byte file (entry_at file e))
  entry_fractions {x} h =
      let z : kind file e ≡ 2 = kind_read ∙ ap kind_number h in
      let read : entry.Fractions (fractions_of file (entry_at file e)) ≡ entry.Fractions x =
      rw (ne_eqb (kind file e) 0 (λ y. omega arith), ne_eqb (kind file e) 1 (λ y. omega arith)) at h in
      let same : fractions_of file (entry_at file e) ≡ x = cc in
      subst (λ (y : Fractions). WellFormedFractions y (last_byte file (entry_at file e))) same (w.fractions z)
