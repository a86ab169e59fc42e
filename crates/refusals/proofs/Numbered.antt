-- No rule has number 0.
use mathlib.Core.Path.{◌≡◌}
use native.Mathlib.Omega.{arith}
use Rattle.refusals.specs.Number.{number_of}
use Rattle.refusals.specs.declared.rule.Rule.{Rule}
use Rattle.refusals.specs.declared.rule.Rule.TheVariants as rule

pub numbered : (r : Rule) → number_of r ≡ 0 → ⊥
numbered r e = grind (arith)
