-- Fields of the same bytes are the same number, wherever each stands.
use Prim.Native.Nat.{ℕ, ◌+◌, ◌<◌}
use mathlib.Core.Path.{◌≡◌}
use mathlib.Core.List.{List}
use native.Mathlib.Nat.{add-zero, add_assoc}
use lib.Dec.{lit<}
use native.Mathlib.Omega.{arith}
use Rattle.fields.specs.Fields.{byte, field16, field24, field32}

-- So many bytes from p on in s are those from q on in t.
abbrev pub Alike : ℕ → List ℕ → ℕ → List ℕ → ℕ → Type 0
Alike n s p t q = (j : ℕ) → j < n → byte s (p + j) ≡ byte t (q + j)

module _ (s : List ℕ) (p : ℕ) (t : List ℕ) (q : ℕ) where
  -- a byte
  pub byte_alike : Alike 1 s p t q → byte s p ≡ byte t q
  byte_alike h = rw (add-zero p, add-zero q) at (h 0 (lit< tt))

  -- fewer bytes, from a later one on
  pub alike_from : (n m d : ℕ) → d + m < n + 1 → Alike n s p t q → Alike m s (p + d) t (q + d)
  alike_from n m d l h j k = rw (add_assoc p d j, add_assoc q d j) (h (d + j) (omega arith))

module _ (s : List ℕ) (p : ℕ) (t : List ℕ) (q : ℕ) where
  pub field16_alike : Alike 2 s p t q → field16 s p ≡ field16 t q
  unfolding field16
  field16_alike h = rw (byte_alike s p t q (λ j l. h j (omega arith)), h 1 (lit< tt))

  pub field24_alike : Alike 3 s p t q → field24 s p ≡ field24 t q
  unfolding field24
  field24_alike h = rw (byte_alike s p t q (λ j l. h j (omega arith)), h 1 (lit< tt), h 2 (lit< tt))

module _ (s : List ℕ) (p : ℕ) (t : List ℕ) (q : ℕ) where
  pub field32_alike : Alike 4 s p t q → field32 s p ≡ field32 t q
  unfolding field32
  field32_alike h =
      rw (
        field16_alike s p t q (λ j l. h j (omega arith)),
        field16_alike s (p + 2) t (q + 2) (alike_from s p t q 4 2 2 (lit< tt) h),
      )
