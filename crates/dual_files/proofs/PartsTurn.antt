-- Parts of one length written over a buffer, one after the other: what holds at each turn.
use Prim.Native.Nat.{ℕ, ◌+◌, ◌-◌, ◌*◌, ◌≤◌, ◌<◌}
use mathlib.Core.Path.{◌≡◌, refl, sym, ap, ◌∙◌}
use mathlib.Core.List.{List, ◌++◌, append_assoc}
use native.Mathlib.Nat.{add_assoc, add-zero, mul-suc, mul-zero}
use native.Mathlib.Numerals.{add-one}
use native.Mathlib.Omega.{arith}
use lib.ListN.{length, take, drop, length-append, take-append-drop}
use lib.Seq.{length-take-le, take-length}
use borrow.Rule.Slice.PartMut.{put_mid}
use Rattle.fields.specs.Fields.{joined, with_parts}
use Rattle.fields.proofs.Parts.{copied_at}
use Rattle.fields.proofs.Joined.{joined_next, grown, with_rest}

-- i of the parts are written to the buffer.
pub record Writing (at m : ℕ) (part : ℕ → List ℕ) (before buffer : List ℕ) (i : ℕ) : Type 0 where
  pub long : length (joined part i) ≡ m * i
  pub written : buffer ≡ with_parts at m part i before

module _ (at m : ℕ) (part : ℕ → List ℕ) (before : List ℕ) where
  -- none is written
  pub writing_starts : Writing at m part before before 0
  unfolding joined
  writing_starts = record { long = sym (mul-zero m); written = simp (mul-zero, add-zero, take-append-drop) refl }

  -- one more is written, by a word that is the next part, copied to its place
  pub writing_goes : (count : ℕ) → at + m * count ≤ length before → (buffer : List ℕ) → length buffer ≡ length before
      → (i : ℕ) → i < count → Writing at m part before buffer i
      → (word : List ℕ) → word ≡ part i → length word ≡ m → (copied : List ℕ)
      → let place = at + m * i in
      copied ≡ take (length word) word ++ drop (length word) (take (length buffer - place) (drop place buffer))
      → Writing at m part before (put_mid place (length buffer - place) buffer copied) (i + 1)
  writing_goes count room buffer same i l w word is_part sized copied copy =
      let place = at + m * i in
      let done = take at before ++ joined part i in
      let done_long : length done ≡ place = simp (length-append, length-take-le at before (omega arith), w.long) refl in
      let more : joined part (i + 1) ≡ joined part i ++ word = simp (add-one, joined_next, is_part) refl in
      let next : m * (i + 1) ≡ m * i + m = simp (add-one, mul-suc) refl in
      record {
        long = simp (more, length-append, w.long, next, sized) refl;
        written =
            grown done word before buffer _ place done_long (w.written ∙ sym (append_assoc (take at before) (joined part i) (drop place before)))
            (copied_at buffer word place copied copy)
            ∙ simp (more, next, sized, append_assoc, add_assoc) refl;
      }

-- All are written.
pub writing_ends : (at m : ℕ) (part : ℕ → List ℕ) (count : ℕ) (before buffer : List ℕ) (i : ℕ) → i ≤ count
    → buffer ≡ with_parts at m part i before → count ≤ i → buffer ≡ with_parts at m part count before
writing_ends at m part count before buffer i within w l =
    let all : i ≡ count = omega arith in
    w ∙ ap (λ k. with_parts at m part k before) all

-- The parts written over a copied file come to the file with these parts, and the rest of the buffer.
pub parts_written : (at m : ℕ) (part : ℕ → List ℕ) (n : ℕ) (file buffer : List ℕ) → at + m * n ≤ length file
    → (copied : List ℕ) → copied ≡ take (length file) file ++ drop (length file) buffer
    → (after : List ℕ) → after ≡ with_parts at m part n copied
    → after ≡ with_parts at m part n file ++ drop (length file) buffer
parts_written at m part n file buffer inside copied copy after e =
    e
    ∙ ap (with_parts at m part n) (copy ∙ ap (λ (xs : List ℕ). xs ++ drop (length file) buffer) (take-length file))
    ∙ with_rest at m part n file inside (drop (length file) buffer)
