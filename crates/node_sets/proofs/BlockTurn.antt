-- One turn of a block of unions, and the places that one block more has, when a family's sets are spread.
use Prim.Native.Nat.{ℕ, suc, ◌+◌, ◌-◌, ◌*◌, ◌≤◌, ◌<◌}
use mathlib.Core.Path.{◌≡◌, refl, ap, ◌∙◌}
use mathlib.Core.List.{List}
use native.Mathlib.Decide.{dec_lt, ℕ_discrete}
use native.Mathlib.Nat.{le_refl, mul_comm, mul-le-mul}
use native.Mathlib.Omega.{arith}
use lib.Bits.{bit_or}
use lib.ListN.{length, get_or, set, length-set}
use lib.Seq.{get_or-set_other, get_or-set_same}
use Rattle.theory.specs.MinimalCutSets.{Family}
use Rattle.node_sets.specs.Requirements.{Block, Countable, UnionsWritten}
use Rattle.node_sets.proofs.Spreading.{Spreading}

-- The first p places of the block are written.
pub record JoiningBlock (m to x : ℕ) (before sets : List ℕ) (p : ℕ) : Type 0 where
  pub within : p ≤ m
  pub each : (r : ℕ) → r < p → get_or sets (to + r) 0 ≡ bit_or (get_or before r 0) x
  pub below : (r : ℕ) → r < to → get_or sets r 0 ≡ get_or before r 0
  pub rest : (r : ℕ) → to + p ≤ r → get_or sets r 0 ≡ get_or before r 0
  pub same_length : length sets ≡ length before

-- before the first
pub block_start : (m to x : ℕ) (before : List ℕ) → JoiningBlock m to x before before 0
block_start m to x before = record {
  within = omega arith;
  each = λ r l. absurd (omega arith);
  below = λ r l. refl;
  rest = λ r l. refl;
  same_length = refl;
}

module _ {m to x : ℕ} {before sets : List ℕ} {p : ℕ} (s : JoiningBlock m to x before sets p) where
  module _ (room : to + m ≤ length before) (apart : 0 < to → m ≤ to) (l : p < m) where
    -- the set to join to is as it was
    own_kept : get_or sets p 0 ≡ get_or before p 0
    own_kept = go (dec_lt p to) (dec_lt 0 to)
      where
        go : Dec (p < to) → Dec (0 < to) → get_or sets p 0 ≡ get_or before p 0
        go (yes h) d = s.below p h
        go (no h) (yes k) = let far = apart k in absurd (omega arith)
        go (no h) (no k) = s.rest p (omega arith)

    -- the union has its place
    union_placed : to + p < length sets
    union_placed = omega (arith, s.same_length)

    -- one union more
    pub block_next : JoiningBlock m to x before (set sets (to + p) (bit_or (get_or sets p 0) x)) (p + 1)
    block_next = record {
      within = omega arith;
      each = λ r h. go r h (ℕ_discrete r p);
      below = λ r h. get_or-set_other sets (to + p) r _ 0 (λ q. omega arith) ∙ s.below r h;
      rest = λ r h. get_or-set_other sets (to + p) r _ 0 (λ q. omega arith) ∙ s.rest r (omega arith);
      same_length = rw length-set s.same_length;
    }
      where
        go : (r : ℕ) → r < p + 1 → Dec (r ≡ p)
            → get_or (set sets (to + p) (bit_or (get_or sets p 0) x)) (to + r) 0 ≡ bit_or (get_or before r 0) x
        go r h (yes e) =
            rw (e, get_or-set_same sets (to + p) (bit_or (get_or sets p 0) x) 0 union_placed) (rw own_kept)
        go r h (no d) = get_or-set_other sets (to + p) (to + r) _ 0 (λ q. d (omega arith)) ∙ s.each r (omega arith)

  -- after the last
  pub block_end : m ≤ p → Block m to x before sets
  block_end l = record {
    each = λ r h. s.each r (omega arith);
    below = s.below;
    rest = λ r h k. s.rest r (omega (arith, s.within));
  }

-- A node has its place among the counts.
pub own_placed : {tree : List ℕ} {i : ℕ} {counts : List ℕ} → Countable tree i counts → i < length counts
own_placed countable = omega (arith, countable.small.inside, countable.long)

-- The block before block q, where so many of a family's sets are to come.
module _ (q : ℕ) (l : 0 < q) where
  abbrev last : ℕ
  last = q - 1

  -- its set can be taken
  pub last_listable : (f : Family) → q ≤ f.count → q - 1 < f.count
  last_listable f within = omega (arith, within)

  -- it has its places
  pub block_placed : (f : Family) (m : ℕ) (sets : List ℕ) → q ≤ f.count → m * f.count ≤ length sets
      → (q - 1) * m + m ≤ length sets
  block_placed f m sets within room =
      let next : q ≡ suc last = omega arith in
      let inside : m * q ≤ m * f.count = mul-le-mul (le_refl m) within in
      omega (arith, ap (λ n. m * n) next, mul_comm last m, inside, room)

  -- it is the first, or behind the sets to join to
  pub block_apart : (m : ℕ) → 0 < (q - 1) * m → m ≤ (q - 1) * m
  block_apart m h = go (dec_lt 0 last)
    where
      go : Dec (0 < last) → m ≤ last * m
      go (yes k) = omega (arith, mul-le-mul k (le_refl m))
      go (no k) = let none : last ≡ 0 = omega arith in absurd (omega (arith, ap (λ n. n * m) none))

-- After the first block, each set is joined to each.
pub spreading_end : {f : Family} {m : ℕ} {before sets : List ℕ} {q : ℕ} → Spreading f m before sets q → q ≤ 0
    → UnionsWritten f m before sets
spreading_end s l = record { each = λ p n h k. s.each p n h (omega arith) k; rest = s.rest }
