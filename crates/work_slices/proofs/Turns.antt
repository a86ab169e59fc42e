-- Something that is done to the slices place by place: each turn touches its own place alone.
use Prim.Native.Nat.{ℕ, zero, suc, ◌+◌, ◌≤◌, ◌<◌}
use mathlib.Core.Path.{◌≡◌, refl, subst, ◌∙◌}
use mathlib.Core.Logic.{◌≢◌}
use native.Mathlib.Decide.{dec_lt}
use native.Mathlib.Nat.{le_refl}
use native.Mathlib.Numerals.{add-one}
use native.Mathlib.Omega.{arith}
use Rattle.rounding.specs.declared.end.Enclosure.{Enclosure}
use Rattle.work_slices.specs.Slices.{Slices, Long, put, after_turns, filled}
use Rattle.work_slices.proofs.Places.{At, SameAt, SameLength, same_long, put_length, put_here, put_other}

-- A turn keeps the lengths, and leaves every place but its own.
pub record Local (turn : ℕ → Slices → Slices) (place : ℕ → ℕ) : Type 0 where
  pub same_length : (p : ℕ) (s : Slices) → SameLength (turn p s) s
  pub others : (p : ℕ) (s : Slices) (m : ℕ) → m ≢ place p → SameAt (turn p s) s m

-- The slices after the first p of n turns, as a loop holds them.
pub record Reached (turn : ℕ → Slices → Slices) (s₀ : Slices) (n : ℕ) (s : Slices) (p : ℕ) : Type 0 where
  pub within : p ≤ n
  pub same : s ≡ after_turns turn p s₀

-- before the first turn
pub reached_start : (turn : ℕ → Slices → Slices) (s₀ : Slices) (n : ℕ) → Reached turn s₀ n s₀ 0
unfolding after_turns
reached_start turn s₀ n = record { within = omega arith; same = refl }

module _ {turn : ℕ → Slices → Slices} {s₀ : Slices} {n : ℕ} {s : Slices} {p : ℕ} (r : Reached turn s₀ n s p) where
  -- after one turn more
  pub reached_next : p < n → {after : Slices} → after ≡ turn p s → Reached turn s₀ n after (p + 1)
  unfolding after_turns
  reached_next l e = record { within = omega arith; same = e ∙ rw (r.same, add-one p) }

module _ {turn : ℕ → Slices → Slices} {place : ℕ → ℕ} (local : Local turn place) where
  -- the lengths stay
  pub turns_length : (n : ℕ) (s : Slices) → SameLength (after_turns turn n s) s
  unfolding after_turns
  turns_length zero s q = refl
  turns_length (suc n) s q = local.same_length n (after_turns turn n s) q ∙ turns_length n s q

  -- as they do in a loop
  pub reached_length : {s₀ : Slices} {n : ℕ} {s : Slices} {p : ℕ} → Reached turn s₀ n s p → SameLength s s₀
  reached_length {s₀} {p} r q = rw r.same (turns_length p s₀ q)

  -- a place that no turn has stays
  pub turns_past : (n : ℕ) (s : Slices) (m : ℕ) → ((p : ℕ) → p < n → m ≢ place p) → SameAt (after_turns turn n s) s m
  unfolding after_turns
  turns_past zero s m h q = refl
  turns_past (suc n) s m h q =
      local.others n (after_turns turn n s) m (h n (omega arith)) q
      ∙ turns_past n s m (λ p l. h p (omega arith)) q

-- where the turns go place by place, what the turn of a place puts there is there at the end
pub turns_at : {turn : ℕ → Slices → Slices} → Local turn (λ p. p) → (i : ℕ) (x : Enclosure)
    → ((s : Slices) → Long (suc i) s → At (turn i s) i x) → (n : ℕ) (s : Slices) → i < n → Long n s
    → At (after_turns turn n s) i x
unfolding after_turns
turns_at local i x h zero s l long = absurd (omega arith)
turns_at {turn} local i x h (suc n) s l long =
    go (λ k. turns_at local i x h n s k (same_long (λ p. refl) (omega arith) long)) (dec_lt i n)
  where
    before : Slices
    before = after_turns turn n s

    go : (i < n → At before i x) → Dec (i < n) → At (turn n before) i x
    go earlier (yes k) = λ p. local.others n before i (λ e. omega arith) p ∙ earlier k p
    go earlier (no k) =
        let last : i ≡ n = omega arith in
        subst (λ (m : ℕ). At (turn m before) i x) last (h before (same_long (turns_length local n s) l long))

module _ (f : ℕ → Enclosure) where
  -- filling goes place by place
  pub filled_local : Local (λ i. put i (f i)) (λ i. i)
  filled_local = record {
    same_length = λ p s. put_length p (f p) s;
    others = λ p s m ne. put_other p (f p) s m ne;
  }

  -- a filled place holds its enclosure
  pub filled_at : (s : Slices) (n i : ℕ) → i < n → Long n s → At (filled f n s) i (f i)
  filled_at s n i l long =
      turns_at filled_local i (f i) (λ s long. put_here i (f i) s (le_refl (suc i)) long) n s l long
