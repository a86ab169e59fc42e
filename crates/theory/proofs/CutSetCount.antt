-- A tree has at least one minimal cut set, and fewer than it has sets of events.
use Prim.Native.Nat.{ℕ, ◌+◌, ◌*◌, ◌^◌, ◌<◌}
use native.Mathlib.Nat.{mul-le-mul}
use native.Mathlib.Omega.{arith}
use lib.Dec.{lit<}
use lib.ListN.{length, length-append}
use lib.Pow.{pow-add}
use Rattle.theory.specs.FaultTree.{GateKind, all, any, Tree, Inputs, basic, gate, only, more, events, all_events}
use Rattle.theory.specs.CutSetFamily.{gate_family, family, families}

mutual
  -- a tree has a minimal cut set
  pub count_positive : (t : Tree) → 0 < (family t).count
  count_positive (basic e) = lit< tt
  count_positive (gate k ts) = inputs_positive ts k

  inputs_positive : (ts : Inputs) (k : GateKind) → 0 < (gate_family k (families ts)).count
  inputs_positive (only t) all = omega (arith, count_positive t)
  inputs_positive (only t) any = omega (arith, count_positive t)
  inputs_positive (more t ts) all = mul-le-mul (count_positive t) (inputs_positive ts all)
  inputs_positive (more t ts) any = omega (arith, count_positive t)

module _ (a b x y : ℕ) (h : a < x) (k : b < y) where
  -- two numbers below two others have their sum and their product below the others' product
  sum_below : a + b < x * y
  sum_below = omega (arith, mul-le-mul h k)

  product_below : a * b < x * y
  product_below = omega (arith, mul-le-mul h k)

mutual
  -- a tree has fewer minimal cut sets than sets of its events
  pub count_fits : (t : Tree) → (family t).count < 2 ^ length (events t)
  count_fits (basic e) = lit< tt
  count_fits (gate k ts) = inputs_fit ts k

  inputs_fit : (ts : Inputs) (k : GateKind) → (gate_family k (families ts)).count < 2 ^ length (all_events ts)
  inputs_fit (only t) all = omega (arith, count_fits t)
  inputs_fit (only t) any = omega (arith, count_fits t)
  inputs_fit (more t ts) all = rw (length-append, pow-add) (product_below _ _ _ _ (count_fits t) (inputs_fit ts all))
  inputs_fit (more t ts) any = rw (length-append, pow-add) (sum_below _ _ _ _ (count_fits t) (inputs_fit ts any))
