-- The bytes of an entry, by those of its numbers, and what is read of them.
use Prim.Native.Nat.{ℕ, ◌+◌, ◌<◌}
use mathlib.Core.Path.{◌≡◌, refl, ap, ◌∙◌}
use mathlib.Core.List.{List, [], ◌∷◌}
use native.Mathlib.Nat.{add_assoc}
use native.Mathlib.Omega.{arith}
use lib.Dec.{lit<}
use lib.ListN.{get_or}
use Rattle.theory.specs.Trapezoid.{Trapezoid}
use Rattle.fields.specs.Fields.{byte, bytes24, bytes32, field16, field24, field32}
use Rattle.fields.proofs.Alike.{field24_alike, field32_alike}
use Rattle.fields.proofs.Written.{field24_bytes24, field32_bytes32}
use Rattle.opinion_sheet.specs.Entries.{numbers_of, fractions_of}
use Rattle.dual_files.specs.Sheet.{numbers_entry, fractions_entry}

-- What is read of an entry that stands at a place of a file.
module _ (file : List ℕ) (at : ℕ) (z : Trapezoid) where
  -- of a number entry: its numbers, where each has 32 bits
  module _ (written : (j : ℕ) → j < 17 → byte file (at + j) ≡ byte (numbers_entry z) j) where
    number_read : (d : ℕ) → d + 3 < 17 → (n : ℕ) → n < 4294967296
        → field32 (numbers_entry z) d ≡ field32 (bytes32 n) 0 → field32 file (at + d) ≡ n
    number_read d l n small q =
        field32_alike file (at + d) (numbers_entry z) d
        (λ j k. ap (byte file) (add_assoc at d j) ∙ written (d + j) (omega arith))
        ∙ q
        ∙ field32_bytes32 n small

    pub numbers_read : z.a < 4294967296 → z.b < 4294967296 → z.c < 4294967296 → z.d < 4294967296
        → numbers_of file at ≡ record { a = z.a; b = z.b; c = z.c; d = z.d }
    unfolding field32 field16
    numbers_read a b c d = λ i. record {
      a = number_read 1 (lit< tt) z.a a refl i;
      b = number_read 5 (lit< tt) z.b b refl i;
      c = number_read 9 (lit< tt) z.c c refl i;
      d = number_read 13 (lit< tt) z.d d refl i;
    }

  -- of a fraction entry: its fractions, where each number has 24 bits
  module _ (written : (j : ℕ) → j < 17 → byte file (at + j) ≡ byte (fractions_entry z) j) where
    part_read : (d : ℕ) → d + 2 < 17 → (n : ℕ) → n < 16777216
        → field24 (fractions_entry z) d ≡ field24 (bytes24 n) 0 → field24 file (at + d) ≡ n
    part_read d l n small q =
        field24_alike file (at + d) (fractions_entry z) d
        (λ j k. ap (byte file) (add_assoc at d j) ∙ written (d + j) (omega arith))
        ∙ q
        ∙ field24_bytes24 n small

    pub fractions_read : z.den < 16777216 → z.a < 16777216 → z.b < 16777216 → z.c < 16777216 → z.d < 16777216
        → fractions_of file at ≡ record { den = z.den; numerators = record { a = z.a; b = z.b; c = z.c; d = z.d } }
    unfolding field24
    fractions_read e a b c d = λ i. record {
      den = part_read 1 (lit< tt) z.den e refl i;
      numerators = record {
        a = part_read 4 (lit< tt) z.a a refl i;
        b = part_read 7 (lit< tt) z.b b refl i;
        c = part_read 10 (lit< tt) z.c c refl i;
        d = part_read 13 (lit< tt) z.d d refl i;
      };
    }

-- Four numbers of four bytes each.
pub four_numbers : (z : Trapezoid) (a b c d : List ℕ) → a ≡ bytes32 z.a → b ≡ bytes32 z.b → c ≡ bytes32 z.c
    → d ≡ bytes32 z.d
    → 0
    ∷ get_or a 0 0
    ∷ get_or a 1 0
    ∷ get_or a 2 0
    ∷ get_or a 3 0
    ∷ get_or b 0 0
    ∷ get_or b 1 0
    ∷ get_or b 2 0
    ∷ get_or b 3 0
    ∷ get_or c 0 0
    ∷ get_or c 1 0
    ∷ get_or c 2 0
    ∷ get_or c 3 0
    ∷ get_or d 0 0
    ∷ get_or d 1 0
    ∷ get_or d 2 0
    ∷ get_or d 3 0
    ∷ []
    ≡ numbers_entry z
four_numbers z a b c d ea eb ec ed = rw (ea, eb, ec, ed) refl

-- A denominator and four numerators of three bytes each.
pub five_numbers : (z : Trapezoid) (den a b c d : List ℕ) → den ≡ bytes24 z.den → a ≡ bytes24 z.a
    → b ≡ bytes24 z.b → c ≡ bytes24 z.c → d ≡ bytes24 z.d
    → 2
    ∷ get_or den 0 0
    ∷ get_or den 1 0
    ∷ get_or den 2 0
    ∷ get_or a 0 0
    ∷ get_or a 1 0
    ∷ get_or a 2 0
    ∷ get_or b 0 0
    ∷ get_or b 1 0
    ∷ get_or b 2 0
    ∷ get_or c 0 0
    ∷ get_or c 1 0
    ∷ get_or c 2 0
    ∷ get_or d 0 0
    ∷ get_or d 1 0
    ∷ get_or d 2 0
    ∷ 0
    ∷ []
    ≡ fractions_entry z
five_numbers z den a b c d e ea eb ec ed = rw (e, ea, eb, ec, ed) refl
