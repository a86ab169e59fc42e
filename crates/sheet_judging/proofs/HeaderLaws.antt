-- The header: its fault is absent exactly where it is well-formed.
use Prim.Native.Nat.{ℕ}
use mathlib.Core.Path.{◌≡◌}
use mathlib.Core.List.{List}
use native.Mathlib.Omega.{arith}
use Rattle.std.specs.Prelude.{Ok}
use Rattle.std.proofs.lemmas.Bool.Decides.{nat_tests}
use Rattle.sheet_judging.specs.HeaderRules.{header_fault}
use Rattle.opinion_sheet.specs.WellFormed.{WellFormedHeader}

pub header_well_formed : (file : List ℕ) → header_fault file ≡ Ok tt → WellFormedHeader file
unfolding header_fault
header_well_formed file h = grind (arith, nat_tests)

pub header_absent : (file : List ℕ) → WellFormedHeader file → header_fault file ≡ Ok tt
unfolding header_fault
header_absent file w = grind (arith, nat_tests)
