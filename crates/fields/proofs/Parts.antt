-- The part of a file from an offset on, as a caller lends it: its fields are the file's, and what is copied to its
-- front comes to that offset of the file.
use Prim.Native.Nat.{ℕ, ◌+◌, ◌-◌}
use mathlib.Core.Path.{◌≡◌}
use mathlib.Core.List.{List, [], ◌++◌, append-nil}
use native.Mathlib.Nat.{add_assoc, le_of_eq}
use lib.ListN.{length, take, drop, length-drop, drop_of_length-le}
use lib.Seq.{take-length, get_or-drop, drop-drop}
use borrow.Rule.Slice.PartMut.{put_mid}
use Rattle.fields.specs.Fields.{field16}
-- `&s[at..]` is s without its first bytes.
pub use Rattle.std.proofs.lemmas.List.{take_rest as part_from}

pub field16_drop : (s : List ℕ) (n at : ℕ) → field16 (drop n s) at ≡ field16 s (n + at)
unfolding field16
field16_drop s n at = simp (get_or-drop, add_assoc)

-- Bytes copied to the part from an offset on: they stand there, and the rest of the file is as it was.
module _ (file word : List ℕ) (at : ℕ) (copied : List ℕ)
    (copy : copied ≡ take (length word) word ++ drop (length word) (take (length file - at) (drop at file))) where
  pub copied_at : put_mid at (length file - at) file copied ≡ take at file ++ (word ++ drop (at + length word) file)
  copied_at =
      let none : drop (length file - at) (drop at file) ≡ [] =
      drop_of_length-le (drop at file) {i = length file - at} (le_of_eq (length-drop at file)) in
      simp (none, append-nil, copy, take-length, part_from, drop-drop)
