-- What inner functions ask of their callers, so that every read is inside the file and every sum fits. It stands for
-- contracts of inner functions only: a well-formed file gives all of this to `cut_at`.
use Rattle.std.specs.Prelude.{ℕ, ◌+◌, ◌*◌, ◌≤◌, ◌<◌, List, length}
use Rattle.theory.specs.Trapezoid.{Trapezoid}
use Rattle.theory.specs.Opinion.{total_score}
use Rattle.opinion_sheet.specs.Format.{header_length, expert_count, expert_places, term, max_term}
use Rattle.event_cut.specs.Opinion.{opinions_among}
use Rattle.opinion_sheet.specs.declared.numbers.Numbers.{Numbers}
use Rattle.event_cut.specs.declared.mean.Sums.{Sums}

-- The scores and the terms of the listed experts lie inside the file, each term is a row of the table or 0, and
-- there is a score.
pub record OpinionsInside (file : List ℕ) (terms : ℕ) : Type 0 where
  pub header_inside : header_length ≤ length file
  pub experts_most : expert_count file ≤ expert_places
  pub terms_inside : terms + expert_places ≤ length file
  pub term_most : (i : ℕ) → i < expert_count file → term file terms i ≤ max_term
  pub score_least : 1 ≤ total_score (opinions_among file terms (expert_count file))

-- The sums leave room in 32 bits for one opinion more, whose numbers are at most 100.
pub record SumsRoom (sums : Sums) (numbers : Numbers ℕ) (given : ℕ) : Type 0 where
  pub scores_room : sums.scores ≤ 1_000_000
  pub a_room : sums.weighted.a ≤ 1_000_000
  pub b_room : sums.weighted.b ≤ 1_000_000
  pub c_room : sums.weighted.c ≤ 1_000_000
  pub d_room : sums.weighted.d ≤ 1_000_000
  pub a_value : numbers.a ≤ 100
  pub b_value : numbers.b ≤ 100
  pub c_value : numbers.c ≤ 100
  pub d_value : numbers.d ≤ 100
  pub score_room : given ≤ 255

-- Numerators rise to at most U when counted in so many units to 1, over a denominator small enough for 64 bits.
pub record Cuttable (U units : ℕ) (x : Trapezoid) : Type 0 where
  pub a_b : x.a ≤ x.b
  pub b_c : x.b ≤ x.c
  pub c_d : x.c ≤ x.d
  pub d_unit : x.d * units ≤ U * x.den
  pub units_positive : 0 < units
  pub den_positive : 0 < x.den
  pub den_bounded : x.den ≤ 1_000_000
