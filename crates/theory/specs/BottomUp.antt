-- The bottom-up method without rounding (004, equation (5)).
use Rattle.std.specs.Prelude.{ℕ, List, [], ◌∷◌, map}
use Rattle.theory.specs.Fraction.{Fraction, complement, product}
use Rattle.theory.specs.FaultTree.{GateKind, all, any, Tree, Inputs, basic, gate, only, more}

-- a gate's probability by those of its inputs: AND their product, OR 1 − the product of 1 − each
abbrev pub joined : GateKind → List Fraction → Fraction
joined all ps = product ps
joined any ps = complement (product (map complement ps))

abbrev mutual
  pub bottom_up : (ℕ → Fraction) → Tree → Fraction
  bottom_up p (basic e) = p e
  bottom_up p (gate k ts) = joined k (all_bottom_up p ts)

  pub all_bottom_up : (ℕ → Fraction) → Inputs → List Fraction
  all_bottom_up p (only t) = bottom_up p t ∷ []
  all_bottom_up p (more t ts) = bottom_up p t ∷ all_bottom_up p ts
