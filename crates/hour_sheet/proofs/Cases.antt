-- Cases computed by the prover: the windows that are open at an hour, and the sheet of an hour.
use Rattle.std.specs.Prelude.{ℕ, ◌≡◌, refl, true, false, List, [], ◌∷◌, ◌++◌, map, replicate}
use Rattle.fields.specs.Fields.{bytes32, field16, field32, joined}
use Rattle.hour_sheet.specs.OutOfService.{out_among, out_of_service}
use Rattle.hour_sheet.specs.Sheet.{sheet_with, written_sheet}
use Rattle.work_book.proofs.SampleBooks.{plan}

-- Before the first hour and at it; with one window open, with both, and with the other; at the last hour and at the
-- end.
pub hours : map (λ hour. out_of_service plan hour 1) (99 ∷ 100 ∷ 101 ∷ 103 ∷ 104 ∷ 105 ∷ 106 ∷ [])
    ≡ false ∷ true ∷ true ∷ true ∷ true ∷ true ∷ false ∷ []
unfolding out_among field16 field32
hours = refl

-- The highest end that a window can have: no window is open there.
pub last_hours : map (λ hour. out_of_service plan hour 0) (4294967293 ∷ 4294967294 ∷ 4294967295 ∷ [])
    ≡ false ∷ true ∷ false ∷ []
unfolding out_among field16 field32
last_hours = refl

-- A sheet for tree 7 with two events, of which the first has the numbers 1, 2, 3 and 4.
abbrev header : List ℕ
header = (70 ∷ 84 ∷ 83 ∷ 1 ∷ 0 ∷ 7 ∷ 0 ∷ 2 ∷ 0 ∷ 0 ∷ []) ++ replicate 16 0

abbrev first_entry : List ℕ
first_entry = 0 ∷ (bytes32 1 ++ (bytes32 2 ++ (bytes32 3 ++ bytes32 4)))

abbrev sheet : List ℕ
sheet = header ++ (first_entry ++ replicate 17 0)

-- The entry with four times the bytes of U.
abbrev largest : List ℕ
largest =
    0
    ∷ 0 ∷ 202 ∷ 154 ∷ 59
    ∷ 0 ∷ 202 ∷ 154 ∷ 59
    ∷ 0 ∷ 202 ∷ 154 ∷ 59
    ∷ 0 ∷ 202 ∷ 154 ∷ 59
    ∷ []

-- At hour 105 the second event is out of service, at hour 4,294,967,294 the first, and at hour 99 none.
pub sheets : map (written_sheet sheet plan) (105 ∷ 4294967294 ∷ 99 ∷ [])
    ≡ (header ++ (first_entry ++ largest)) ∷ (header ++ (largest ++ replicate 17 0)) ∷ sheet ∷ []
unfolding sheet_with joined out_among field16 field32
sheets = refl
