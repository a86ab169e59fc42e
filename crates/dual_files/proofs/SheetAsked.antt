-- What an accepted sheet gives the functions that write its complement.
use Prim.Native.Nat.{ℕ}
use mathlib.Core.Path.{◌≡◌, refl}
use mathlib.Core.List.{List}
use lib.ListN.{length}
use Rattle.theory.specs.Trapezoid.{Trapezoid}
use Rattle.opinion_sheet.specs.Entries.{entry_of}
use Rattle.opinion_sheet.specs.declared.entry.Entry.{Entry}
use Rattle.opinion_sheet.specs.declared.entry.Entry.TheVariants as entry
use Rattle.dual_files.specs.Sheet.{entry_with, complement_entry}

-- an entry is 17 bytes long
entry_with_long : (x : Entry) (z : Trapezoid) → length (entry_with x z) ≡ 17
entry_with_long (entry.Numbers x) z = refl
entry_with_long (entry.Opinions terms) z = refl
entry_with_long (entry.Fractions x) z = refl

pub dual_long : (sheet : List ℕ) (e : ℕ) → length (complement_entry sheet e) ≡ 17
dual_long sheet e = entry_with_long (entry_of sheet e) _
