-- P1 to P12 of document 01, 004's examples 4 and 5 and the road trip's minimal cut sets, computed from the
-- definitions.
use mathlib.Core.Path.{◌≡◌, refl}
use mathlib.Core.List.{map}
use Rattle.theory.specs.Trapezoid.{cut}
use Rattle.theory.specs.Rounding.{down, up, rounded, nothing_dropped, start, end_complement, true_zero, step}
use Rattle.theory.specs.Rounding.{rescaled, cut_end}
use Rattle.theory.specs.Unreliability.{unreliability}
use Rattle.theory.specs.Examples.{outcome, table, Examples4And5, RoadTripMinimal}

-- every row's ends and marks are those that the rounded evaluation reports
pub examples_hold : (map (outcome down) table ≡ map (λ x. x.lower) table)
    × (map (outcome up) table ≡ map (λ x. x.upper) table)
unfolding cut rounded nothing_dropped rescaled start end_complement true_zero step cut_end
examples_hold = (refl, refl)

-- the road trip's cut sets, weights and unreliability are those of the paper
pub examples_4_5_hold : Examples4And5
unfolding unreliability
examples_4_5_hold =
    record { cut_sets_are = refl; weights_are = refl; unreliability_is = refl; bottom_up_is = refl }

-- its minimal cut sets are two
pub road_trip_minimal_holds : RoadTripMinimal
road_trip_minimal_holds = record { count_is = refl; sets_are = refl }
