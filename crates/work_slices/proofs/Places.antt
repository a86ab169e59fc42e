-- The places of the slices: what is put at one is there, the others stay, and slices with the same places are the same.
use Prim.Native.Nat.{ℕ, ◌≤◌, ◌<◌}
use mathlib.Core.Path.{◌≡◌, refl, ap, ap₂, ◌∙◌}
use mathlib.Core.Logic.{◌≢◌}
use mathlib.Core.Bool.{Bool}
use native.Mathlib.Nat.{le_trans, lt_of_lt_of_le}
use lib.ListN.{length, get_or, set, length-set}
use lib.Seq.{ext_get_or, get_or-set_same, get_or-set_other}
use Rattle.theory.specs.Rounding.{Direction, down, up, End}
use Rattle.rounding.specs.Ends.{as_code, enclosure}
use Rattle.rounding.specs.Marks.{exact_in}
use Rattle.rounding.specs.declared.end.Enclosure.{Enclosure}
use Rattle.rounding.proofs.Marks.{marked_as_put}
use Rattle.work_slices.specs.Slices.{Slices, Part, ends, mark_bytes, slice, content, stored_end, Long, put}

-- the slices hold an enclosure at a place
abbrev pub At : Slices → ℕ → Enclosure → Type 0
At s i x = (p : Part) → get_or (slice p s) i 0 ≡ content p x

-- two slices hold the same at a place
abbrev pub SameAt : Slices → Slices → ℕ → Type 0
SameAt s t i = (p : Part) → get_or (slice p s) i 0 ≡ get_or (slice p t) i 0

-- two slices have the same lengths
abbrev pub SameLength : Slices → Slices → Type 0
SameLength s t = (p : Part) → length (slice p s) ≡ length (slice p t)

-- slices that are long enough, one by one
pub long_part : {n : ℕ} {s : Slices} → Long n s → (p : Part) → n ≤ length (slice p s)
long_part l (ends down) = l.lower_long
long_part l (ends up) = l.upper_long
long_part l mark_bytes = l.marks_long

-- slices of the same lengths have as many places, and so have places for fewer
pub same_long : {m n : ℕ} {s t : Slices} → SameLength s t → m ≤ n → Long n t → Long m s
same_long e h l = record {
  lower_long = rw (e (ends down)) (le_trans h l.lower_long);
  upper_long = rw (e (ends up)) (le_trans h l.upper_long);
  marks_long = rw (e mark_bytes) (le_trans h l.marks_long);
}

-- slices with the same lengths and the same at every place are the same
pub same_slices : (s t : Slices) → SameLength s t → ((i : ℕ) → SameAt s t i) → s ≡ t
same_slices s t e h = λ i. record { lower = same (ends down) i; upper = same (ends up) i; marks = same mark_bytes i }
  where
    same : (p : Part) → slice p s ≡ slice p t
    same p = ext_get_or 0 (slice p s) (slice p t) (e p) (λ m l. h m p)

-- an enclosure is known by its end in each direction
pub same_enclosure : (f g : Direction → End) → ((w : Direction) → f w ≡ g w) → enclosure f ≡ enclosure g
same_enclosure f g h = λ i. record { lower = as_code (h down i); upper = as_code (h up i) }

-- a slice of ends holds the value of the end in its direction
pub content_value : (w : Direction) (f : Direction → End) → content (ends w) (enclosure f) ≡ (f w).value
content_value down f = refl
content_value up f = refl

-- the end stored at a place that holds an enclosure
pub stored_at : {s : Slices} {i : ℕ} (f : Direction → End) → At s i (enclosure f) → (w : Direction)
    → stored_end w s i ≡ f w
stored_at f h w =
    ap₂ (λ (v : ℕ) (m : Bool). record { value = v; exact = m }) (h (ends w) ∙ content_value w f)
    (ap (exact_in w) (h mark_bytes) ∙ marked_as_put w f)

module _ (i : ℕ) (x : Enclosure) (s : Slices) where
  -- each slice is set at the place
  put_sets : (p : Part) → slice p (put i x s) ≡ set (slice p s) i (content p x)
  put_sets (ends down) = refl
  put_sets (ends up) = refl
  put_sets mark_bytes = refl

  -- putting keeps the lengths
  pub put_length : SameLength (put i x s) s
  put_length p = rw (put_sets p, length-set)

  -- what is put at a place is there
  pub put_here : {n : ℕ} → i < n → Long n s → At (put i x s) i x
  put_here l long p =
      rw (put_sets p) (get_or-set_same (slice p s) i (content p x) 0 (lt_of_lt_of_le l (long_part long p)))

  -- the other places stay
  pub put_other : (m : ℕ) → m ≢ i → SameAt (put i x s) s m
  put_other m ne p = rw (put_sets p) (get_or-set_other (slice p s) i m (content p x) 0 ne)
