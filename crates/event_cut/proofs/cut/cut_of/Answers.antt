-- What is cut is at most the top, d × n, and that bounds every product.
use native.Mathlib.Nat.{sub-le}
use Rattle.theory.specs.Trapezoid.{cut}
use Rattle.theory.specs.Rounding.{cut_end}
use Rattle.event_cut.proofs.CutBounds as bounds
use Rattle.event_cut.proofs.cut.cut_of.Goals as goal

pub overflow_mul-low-3 : goal.overflow_mul-low-3
overflow_mul-low-3 c =
    bounds.fits_64
    (bounds.scaled_bounded _ _ _ _ c.requires c.args.level.in_range _
    (bounds.lower_bounded _ _ _ _ c.requires c.args.level.in_range))

pub overflow_mul-high-3 : goal.overflow_mul-high-3
overflow_mul-high-3 c =
    bounds.fits_64 (bounds.scaled_bounded _ _ _ _ c.requires c.args.level.in_range _ (sub-le _ _))

pub divided-lower-requires : goal.divided-lower-requires
divided-lower-requires c = (
  bounds.denominator_positive _ _ _ _ c.requires c.args.level.in_range,
  bounds.top_units _ _ _ _ c.requires c.args.level.in_range _
      (bounds.lower_bounded _ _ _ _ c.requires c.args.level.in_range),
)

pub divided-upper-requires : goal.divided-upper-requires
divided-upper-requires c = (
  bounds.denominator_positive _ _ _ _ c.requires c.args.level.in_range,
  bounds.top_units _ _ _ _ c.requires c.args.level.in_range _ (sub-le _ _),
)

pub returns : goal.returns
unfolding cut cut_end
returns c = λ i. record { lower = c.divided-lower.ensures.0 i; upper = c.divided-upper.ensures.0 i }
