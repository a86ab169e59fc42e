-- Parts of one length, one after the other: how long they are together, and where a byte of a part stands; a file grown
-- part by part; and a file with such parts in place of its own.
use Prim.Native.Nat.{ℕ, zero, suc, ◌+◌, ◌*◌, ◌≤◌, ◌<◌}
use mathlib.Core.Path.{◌≡◌, refl, sym, ap, ◌∙◌}
use mathlib.Core.List.{List, [], ◌++◌, append_assoc}
use native.Mathlib.Decide.{ℕ_discrete}
use native.Mathlib.Nat.{not-suc-le-zero, add_assoc, mul-suc, mul-zero, mul-le-mul_left}
use native.Mathlib.Omega.{arith}
use lib.ListN.{length, take, drop, length-append, length-drop, take-append-drop, get_or-append}
use lib.Seq.{length-take-le, take-add, drop-drop, take_at, take-append-le, drop-append-le, drop-append-add, get_or-take}
use lib.Seq.{drop_at, get_or-drop, get_or-append-add}
use Rattle.fields.specs.Fields.{byte, joined, with_parts}

-- none, and one more
pub joined_none : (part : ℕ → List ℕ) → joined part 0 ≡ []
unfolding joined
joined_none part = refl

pub joined_next : (part : ℕ → List ℕ) (n : ℕ) → joined part (suc n) ≡ joined part n ++ part n
unfolding joined
joined_next part n = refl

-- only the first n parts count
pub joined_alike : (part other : ℕ → List ℕ) (n : ℕ) → ((e : ℕ) → e < n → part e ≡ other e)
    → joined part n ≡ joined other n
unfolding joined
joined_alike part other zero h = refl
joined_alike part other (suc n) h = rw (joined_alike part other n (λ e l. h e (omega arith)), h n (omega arith))

-- the parts of a file, joined, are the file's
pub joined_parts : (file : List ℕ) (at m n : ℕ) → joined (λ e. take m (drop (at + m * e) file)) n
    ≡ take (m * n) (drop at file)
unfolding joined
joined_parts file at m zero = simp mul-zero
joined_parts file at m (suc n) = simp (mul-suc, take-add, drop-drop, joined_parts file at m n)

module _ (m : ℕ) (part : ℕ → List ℕ) where
  pub joined_long : (n : ℕ) → ((e : ℕ) → e < n → length (part e) ≡ m) → length (joined part n) ≡ m * n
  unfolding joined
  joined_long zero h = sym (mul-zero m)
  joined_long (suc n) h =
      simp (length-append, mul-suc, joined_long n (λ e l. h e (omega arith)), h n (omega arith))

  -- a byte of a part
  pub joined_byte : (n : ℕ) → ((e : ℕ) → e < n → length (part e) ≡ m) → (e j : ℕ) → e < n → j < m
      → byte (joined part n) (m * e + j) ≡ byte (part e) j
  unfolding joined
  joined_byte zero h e j le lj = absurd (not-suc-le-zero le)
  joined_byte (suc n) h e j le lj =
      go (λ k. joined_byte n (λ e l. h e (omega arith)) e j k lj) (ℕ_discrete e n)
    where
      long : length (joined part n) ≡ m * n
      long = joined_long n (λ e l. h e (omega arith))

      go : (e < n → byte (joined part n) (m * e + j) ≡ byte (part e) j) → Dec (e ≡ n)
          → byte (joined part n ++ part n) (m * e + j) ≡ byte (part e) j
      go earlier (yes same) = simp (same, ← long, get_or-append-add)
      go earlier (no other) =
          let below : e < n = omega arith in
          let inside : m * e + j < m * n = omega (arith, mul-le-mul_left m below, mul-suc m e) in
          get_or-append (joined part n) (part n) 0 (m * e + j) (rw long inside)
          ∙ earlier below

-- A file that has been written so far, and the rest of the buffer: one more part at the end of what is written.
module _ (done part before now after : List ℕ) (at : ℕ) (long : length done ≡ at)
    (written : now ≡ done ++ drop at before) (put : after ≡ take at now ++ (part ++ drop (at + length part) now)) where
  pub grown : after ≡ (done ++ part) ++ drop (at + length part) before
  grown =
      let front : take at now ≡ done = ap (take at) written ∙ take_at done (drop at before) at long in
      let rest : drop (at + length part) now ≡ drop (at + length part) before =
      simp (written, ← long, drop-append-add, drop-drop) in
      simp (put, front, rest, append_assoc)

-- A file with parts in place of its own.
module _ (at m : ℕ) (part : ℕ → List ℕ) (n : ℕ) (file : List ℕ) (inside : at + m * n ≤ length file) where
  front_long : length (take at file) ≡ at
  front_long = length-take-le at file (omega arith)

  -- what stands behind it stays behind it
  pub with_rest : (rest : List ℕ) → with_parts at m part n (file ++ rest) ≡ with_parts at m part n file ++ rest
  with_rest rest =
      simp (take-append-le at file rest (omega arith), drop-append-le (at + m * n) file rest inside, append_assoc)

  -- with its own parts it is as it was
  pub with_own : ((e : ℕ) → e < n → part e ≡ take m (drop (at + m * e) file)) → with_parts at m part n file ≡ file
  with_own own =
      let all : joined part n ≡ take (m * n) (drop at file) =
      joined_alike part _ n own ∙ joined_parts file at m n in
      simp (all, ← drop-drop, take-append-drop)

  -- a byte before them is as it was
  pub with_before : (p : ℕ) → p < at → byte (with_parts at m part n file) p ≡ byte file p
  with_before p l =
      get_or-append (take at file) _ 0 p (omega (arith, front_long)) ∙ get_or-take at file p 0 l

  module _ (each : (e : ℕ) → e < n → length (part e) ≡ m) where
    abbrev all_long : length (joined part n) ≡ m * n
    all_long = joined_long m part n each

    -- the file keeps its length
    pub with_length : length (with_parts at m part n file) ≡ length file
    with_length = simp (length-append, front_long, all_long, length-drop) (omega arith)

    -- behind the front
    past_front : (p : ℕ) → byte (with_parts at m part n file) (at + p)
        ≡ byte (joined part n ++ drop (at + m * n) file) p
    past_front p =
        ap (λ k. byte (with_parts at m part n file) (k + p)) (sym front_long)
        ∙ get_or-append-add (take at file) (joined part n ++ drop (at + m * n) file) p 0

    -- a byte of a part
    pub with_part : (e j : ℕ) → e < n → j < m → byte (with_parts at m part n file) (at + m * e + j) ≡ byte (part e) j
    with_part e j le lj =
        let within : m * e + j < m * n = omega (arith, mul-le-mul_left m le, mul-suc m e) in
        simp (
          add_assoc,
          past_front,
          get_or-append (joined part n) (drop (at + m * n) file) 0 (m * e + j) (rw all_long within),
          joined_byte m part n each e j le lj,
        )

    -- a byte behind them is as it was
    pub with_after : (j : ℕ) → byte (with_parts at m part n file) (at + m * n + j) ≡ byte file (at + m * n + j)
    with_after j =
        ap (byte (with_parts at m part n file)) (add_assoc at (m * n) j)
        ∙ past_front (m * n + j)
        ∙ simp (← all_long, get_or-append-add, get_or-drop)

    -- other parts in their place leave nothing of them
    pub with_again : (other : ℕ → List ℕ) → with_parts at m other n (with_parts at m part n file)
        ≡ with_parts at m other n file
    with_again other =
        let back = drop (at + m * n) file in
        let front : take at (with_parts at m part n file) ≡ take at file = take_at (take at file) _ at front_long in
        let long : length (take at file ++ joined part n) ≡ at + m * n = simp (length-append, front_long, all_long) in
        let behind : drop (at + m * n) (with_parts at m part n file) ≡ back =
        simp (← append_assoc) (drop_at (take at file ++ joined part n) back _ long) in
        simp (front, behind)
