-- One turn of spreading a family's sets over those at the front, block by block, the first block last.
use Rattle.std.proofs.Common.{ℕ, suc, ◌≡◌, ◌+◌, ◌-◌, ◌*◌, ◌<◌, ◌≤◌, ap, ◌∙◌, List, length, get_or, arith}
use native.Mathlib.Decide.{ℕ_discrete}
use native.Mathlib.Nat.{le_refl, mul_comm, mul-le-mul}
use Rattle.theory.specs.MinimalCutSets.{Family, SameSet}
use Rattle.theory.specs.CutSetFamily.{union}
use Rattle.node_sets.specs.Numbers.{members}
use Rattle.node_sets.specs.Requirements.{Block, KeptFrom}
use Rattle.node_sets.proofs.Bits.{members_join}

-- The blocks from number q on are written, and every place before them is as it was.
pub record Spreading (f : Family) (m : ℕ) (before sets : List ℕ) (q : ℕ) : Type 0 where
  pub each : (p n : ℕ) → p < m → q ≤ n → n < f.count
      → SameSet (members (get_or sets (p + m * n) 0)) (union (members (get_or before p 0)) (f.set n))
  pub below : (p : ℕ) → p < m * q → get_or sets p 0 ≡ get_or before p 0
  pub rest : KeptFrom (m * f.count) before sets

module _ {f : Family} {m : ℕ} {before sets : List ℕ} {q : ℕ} (s : Spreading f m before sets q) (some : 0 < q)
    (within : q ≤ f.count) where
  abbrev k : ℕ
  k = q - 1

  next : q ≡ suc k
  next = omega arith

  -- the places before block q are those before the block before it, and its own
  own_end : k * m + m ≡ m * q
  own_end = omega (arith, ap (λ n. m * n) next, mul_comm k m)

  inside : m * q ≤ m * f.count
  inside = mul-le-mul (le_refl m) within

  -- one block more
  pub spread_next : {x : ℕ} → SameSet (members x) (f.set (q - 1)) → {after : List ℕ}
      → Block m ((q - 1) * m) x sets after → m * f.count ≤ length before → length sets ≡ length before
      → Spreading f m before after (q - 1)
  spread_next {x} h {after} b room same = record {
    each = λ p n l least u. each p n l least u (ℕ_discrete n k);
    below = λ p l. b.below p (omega (arith, mul_comm k m)) ∙ s.below p (omega (arith, own_end, mul_comm k m));
    rest = λ p l u. b.rest p (omega (arith, own_end, inside)) (omega arith) ∙ s.rest p l u;
  }
    where
      each : (p n : ℕ) → p < m → k ≤ n → n < f.count → Dec (n ≡ k)
          → SameSet (members (get_or after (p + m * n) 0)) (union (members (get_or before p 0)) (f.set n))
      each p n l least u (yes own) y =
          let place : p + m * n ≡ k * m + p = omega (arith, ap (λ n. m * n) own, mul_comm k m) in
          let kept : get_or sets p 0 ≡ get_or before p 0 = s.below p (omega (arith, own_end)) in
          rw (place, b.each p l, kept, members_join (get_or before p 0) x y, h y, own)
      each p n l least u (no other) y =
          let later : m * q ≤ m * n = mul-le-mul (le_refl m) (omega arith) in
          let place : m * suc n ≤ m * f.count = mul-le-mul (le_refl m) u in
          rw (b.rest (p + m * n) (omega (arith, own_end)) (omega arith)) (s.each p n l (omega arith) u y)
