-- Cases computed by the prover: the faults of a book.
use Rattle.std.specs.Prelude.{ℕ, ◌≡◌, refl, false, [], ◌∷◌, ◌++◌, map, replicate, Ok}
use Rattle.fields.specs.Fields.{field16, field32}
use Rattle.refusals.specs.FirstFault.{FirstFault, unless, first_among}
use Rattle.refusals.specs.declared.rule.Rule.TheVariants.{WrongBook}
use Rattle.work_book.specs.BookRules.{book_fault}
use Rattle.work_book.proofs.SampleBooks.{window, plan}

-- A fault of a book.
abbrev at : ℕ → FirstFault
at place = unless false WrongBook place

-- For two events: no window; the plan; a byte too few and one too many; a window too many; an event that is not below
-- 2; an end that is the first hour, and one before it; both in one window, of which the event comes first; a wrong end
-- in the first window and a wrong event in the second; a wrong length and a wrong event.
pub faults : map (book_fault 2)
    ([]
    ∷ plan
    ∷ replicate 9 0
    ∷ (window 1 0 1 ++ (0 ∷ []))
    ∷ replicate 2570 0
    ∷ window 2 0 1
    ∷ window 1 7 7
    ∷ window 1 7 6
    ∷ window 2 7 7
    ∷ (window 1 7 7 ++ window 2 0 1)
    ∷ (window 2 0 1 ++ (0 ∷ []))
    ∷ [])
    ≡ Ok tt ∷ Ok tt ∷ at 9 ∷ at 11 ∷ at 2570 ∷ at 0 ∷ at 6 ∷ at 6 ∷ at 0 ∷ at 6 ∷ at 11 ∷ []
unfolding book_fault first_among field16 field32
faults = refl
