-- Sets at the front of a slice: a single one, and those of a gate with one input more, for an OR behind the others, and
-- for an AND joined to each of them.
use Rattle.std.proofs.Common.{ℕ, ◌+◌, ◌-◌, ◌*◌, ◌/◌, ◌%◌, ◌≤◌, ◌<◌, ◌≡◌, sym, ap, ◌∙◌, ◌||◌, List, [], ◌∷◌}
use Rattle.std.proofs.Common.{◌++◌, length, get_or, set, length-take, rules, arith, get_or-set_other, get_or-set_same}
use Rattle.std.proofs.Math.Bool.{or_comm}
use lib.ListN.{length-drop}
use native.Mathlib.Decide.{dec_lt}
use native.Mathlib.Nat.{div-lt_iff_lt-mul, le_refl, mod-add-div, mod-lt, mul_comm, mul-le-mul}
use Rattle.std.proofs.lemmas.List.{places}
use borrow.Rule.Slice.PartMut.{mid_of, put_mid}
use Rattle.std.specs.Int.Bits.{bit_or}
use Rattle.theory.specs.MinimalCutSets.{Family, SameSet}
use Rattle.theory.specs.CutSetFamily.{alternatives, union, unions}
use Rattle.theory.proofs.FamilyGrowth.{alternatives_more_count, alternatives_more_new, alternatives_more_old}
use Rattle.theory.proofs.FamilyGrowth.{unions_more_count, unions_more_set}
use Rattle.node_sets.specs.Numbers.{members}
use Rattle.node_sets.specs.Requirements.{Block, KeptFrom, UnionsWritten, Written}
use Rattle.node_sets.proofs.Bits.{members_join, members_none}

-- a single set
pub single_written : {f : Family} (before : List ℕ) (x : ℕ) → f.count ≡ 1 → SameSet (members x) (f.set 0)
    → 0 < length before → Written f before (set before 0 x)
single_written {f} before x one own room = record {
  each = λ r l y.
      (let first : r ≡ 0 = omega arith in
      rw (first, get_or-set_same before 0 x 0 room) (own y));
  rest = λ p h l. get_or-set_other before 0 p x 0 (λ q. omega arith);
}

module _ (fs : List Family) (f : Family) where
  -- OR: the places from `total` on, and the new input's sets written there
  module _ {before sets : List ℕ} (w : Written (alternatives fs) before sets) (same : length sets ≡ length before)
      {total : ℕ} (t : total ≡ (alternatives fs).count) (room : total + f.count ≤ length before) where
    abbrev behind : List ℕ
    behind = mid_of total (length sets - total) sets

    behind_length : length behind ≡ length sets - total
    behind_length = simp (length-take, length-drop) (omega arith)

    pub behind_written : {part : List ℕ} → Written f behind part → length part ≡ length behind
        → Written (alternatives (fs ++ (f ∷ []))) before (put_mid total (length sets - total) sets part)
    behind_written {part} new n = record {
      each = λ r l. each r l (dec_lt r total);
      rest = λ p h l. rest p h l;
    }
      where
        after : List ℕ
        after = put_mid total (length sets - total) sets part

        all : (alternatives (fs ++ (f ∷ []))).count ≡ total + f.count
        all = rw t (alternatives_more_count f fs)

        front : (r : ℕ) → r < total → get_or after r 0 ≡ get_or sets r 0
        front r l = search (rules, places)

        own : (q : ℕ) → q < length sets - total → get_or after (total + q) 0 ≡ get_or part q 0
        own q l = search (rules, places)

        each : (r : ℕ) → r < (alternatives (fs ++ (f ∷ []))).count → Dec (r < total)
            → SameSet (members (get_or after r 0)) ((alternatives (fs ++ (f ∷ []))).set r)
        each r l (yes old) y = rw (front r old, alternatives_more_old f fs r (rw t at old)) (w.each r (rw t at old) y)
        each r l (no far) y =
            let q : ℕ = r - total in
            let place : total + q ≡ r = omega arith in
            let set : (alternatives (fs ++ (f ∷ []))).set (total + q) ≡ f.set q =
            ap (λ n. (alternatives (fs ++ (f ∷ []))).set (n + q)) t
            ∙ alternatives_more_new f fs q (omega (arith, all)) in
            rw (← place, own q (omega (arith, all)), set) (new.each q (omega (arith, all)) y)

        rest : KeptFrom (alternatives (fs ++ (f ∷ []))).count before after
        rest p h l =
            let q : ℕ = p - total in
            let place : total + q ≡ p = omega (arith, all) in
            let kept : get_or after (total + q) 0 ≡ get_or before (total + q) 0 =
            own q (omega (arith, all)) ∙ new.rest q (omega (arith, all)) (omega (arith, behind_length))
            ∙ search (rules, places) ∙ w.rest (total + q) (omega arith) (omega arith) in
            rw place at kept

  -- AND: the new input's sets joined to each
  module _ {before sets after : List ℕ} (w : Written (unions fs) before sets) (same : length sets ≡ length before)
      {total : ℕ} (t : total ≡ (unions fs).count) (u : UnionsWritten f total sets after) (some : 0 < f.count) where
    all : (unions (fs ++ (f ∷ []))).count ≡ total * f.count
    all = rw t (unions_more_count f fs)

    union_each : (r : ℕ) → r < total * f.count → Dec (0 < total)
        → SameSet (members (get_or after r 0)) ((unions (fs ++ (f ∷ []))).set r)
    union_each r l (no h) y =
        let none : total ≡ 0 = omega arith in
        absurd (omega (arith, ap (λ n. n * f.count) none))
    union_each r l (yes h) y =
        let p : ℕ = r % total in
        let q : ℕ = r / total in
        let rest : p < total = mod-lt r h in
        let quotient : q < f.count = (div-lt_iff_lt-mul h).1 (rw (mul_comm f.count total) l) in
        let new : (unions (fs ++ (f ∷ []))).set (p + total * q) y ≡ union ((unions fs).set p) (f.set q) y =
        ap (λ n. (unions (fs ++ (f ∷ []))).set (p + n * q) y) t
        ∙ unions_more_set f fs p q (omega (arith, rest)) quotient y in
        let own : members (get_or after (p + total * q) 0) y ≡ (unions (fs ++ (f ∷ []))).set (p + total * q) y =
        u.each p q rest quotient y ∙ ap (λ b. b || f.set q y) (w.each p (omega (arith, rest)) y) ∙ sym new in
        rw (mod-add-div r total) at own

    pub unions_written : Written (unions (fs ++ (f ∷ []))) before after
    unions_written = record {
      each = λ r l. union_each r (rw all at l) (dec_lt 0 total);
      rest = λ p h l. u.rest p (omega (arith, all)) (omega arith)
          ∙ w.rest p (omega (arith, all, mul-le-mul (le_refl total) some)) l;
    }

-- a family's own sets at the front, where they are joined to a single set
module _ {f : Family} {before mid : List ℕ} (w : Written f before mid) where
  alone : {after : List ℕ} → ((q : ℕ) → q < f.count
      → SameSet (members (get_or after q 0)) (union (members (get_or before 0 0)) (f.set q)))
      → KeptFrom f.count before after → UnionsWritten f 1 before after
  alone {after} each rest = record {
    each = λ p q l h y.
        (let first : p ≡ 0 = omega arith in
        let place : p + 1 * q ≡ q = omega arith in
        rw (place, first) (each q h y));
    rest = λ p h l. rest p (omega arith) l;
  }

  -- that is the empty set
  pub alone_written : get_or before 0 0 ≡ 0 → UnionsWritten f 1 before mid
  alone_written none = alone (λ q l y. w.each q l y ∙ rw (none, members_none y)) w.rest

  -- or another
  pub joined_written : {after : List ℕ} → Block f.count 0 (get_or before 0 0) mid after
      → length mid ≡ length before → UnionsWritten f 1 before after
  joined_written {after} b n = alone each (λ p h l. b.rest p (omega arith) (omega arith) ∙ w.rest p h l)
    where
      each : (q : ℕ) → q < f.count
          → SameSet (members (get_or after q 0)) (union (members (get_or before 0 0)) (f.set q))
      each q l y =
          let own : get_or after (0 + q) 0 ≡ bit_or (get_or mid q 0) (get_or before 0 0) = b.each q l in
          let place : 0 + q ≡ q = omega arith in
          ap (λ x. members x y) (rw place at own) ∙ members_join (get_or mid q 0) (get_or before 0 0) y
          ∙ ap (λ a. a || members (get_or before 0 0) y) (w.each q l y)
          ∙ or_comm (f.set q y) (members (get_or before 0 0) y)
