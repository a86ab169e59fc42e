-- The four numbers of each event of a well-formed file rise to at most 1, and can be cut.
use Prim.Native.Nat.{ℕ, ◌≤◌, ◌<◌}
use mathlib.Core.Path.{◌≡◌, refl}
use mathlib.Core.List.{List}
use native.Mathlib.Nat.{mul-le-mul_right}
use native.Mathlib.Omega.{arith}
use Rattle.theory.specs.Trapezoid.{Trapezoid, Rising}
use Rattle.theory.specs.Opinion.{mean, total_score}
use Rattle.theory.proofs.MeanRising.{mean_rising}
use Rattle.opinion_sheet.specs.Format.{event_count, expert_count, unit}
use Rattle.opinion_sheet.specs.Entries.{entry_of}
use Rattle.opinion_sheet.specs.WellFormed.{WellFormed, WellFormedScores, WellFormedOpinions, WellFormedEntry}
use Rattle.opinion_sheet.specs.WellFormed.{WellFormedNumbers, WellFormedFractions}
use Rattle.event_cut.specs.Opinion.{opinions_among}
use Rattle.event_cut.specs.EventCut.{numbers_trapezoid, fractions_trapezoid, entry_trapezoid, event_trapezoid}
use Rattle.event_cut.specs.Requirements.{Cuttable, OpinionsInside}
use Rattle.opinion_sheet.specs.declared.numbers.Numbers.{Numbers}
use Rattle.opinion_sheet.specs.declared.fractions.Fractions.{Fractions}
use Rattle.opinion_sheet.specs.declared.entry.Entry.{Entry}
use Rattle.opinion_sheet.specs.declared.entry.Entry.TheVariants as entry
use Rattle.opinion_sheet.proofs.EntriesRead.{entry_numbers, entry_opinions, entry_fractions}
use Rattle.event_cut.proofs.MeanOfOpinions.{total_most, total_least}

-- Four fractions that rise to at most 1 can be cut, where their denominator leaves room.
rising_cuttable : (U : ℕ) → 0 < U → (x : Trapezoid) → Rising x → x.den ≤ 1000000 → Cuttable U U x
rising_cuttable U units x rising most =
    record {
      a_b = rising.a_b;
      b_c = rising.b_c;
      c_d = rising.c_d;
      d_unit = omega (arith, mul-le-mul_right U rising.d_den);
      units_positive = units;
      den_positive = rising.positive;
      den_bounded = most;
    }

-- Four numbers in units of which U make 1 rise to at most 1.
numbers_rising : (U : ℕ) → 0 < U → (x : Numbers ℕ) → WellFormedNumbers U x → Rising (numbers_trapezoid U x)
numbers_rising U units x w =
    record { a_b = w.a_b; b_c = w.b_c; c_d = w.c_d; d_den = w.d_unit; positive = units }

-- The fractions of a well-formed entry rise, and can be cut.
fractions_rising : (x : Fractions) (last : ℕ) → WellFormedFractions x last → Rising (fractions_trapezoid x)
fractions_rising x last w = numbers_rising x.den w.den_least x.numerators w.rising

pub fractions_cuttable : (U : ℕ) → 0 < U → (x : Fractions) (last : ℕ) → WellFormedFractions x last
    → Cuttable U U (fractions_trapezoid x)
fractions_cuttable U units x last w = rising_cuttable U units _ (fractions_rising x last w) w.den_most

-- Somebody is listed, with a score.
pub opinions_scored : (file : List ℕ) → WellFormedScores file → (terms : ℕ) → WellFormedOpinions file terms
    → 1 ≤ total_score (opinions_among file terms (expert_count file))
opinions_scored file scores terms w =
    let one = w.speaker in
    omega (
      arith,
      total_least file terms one.expert (expert_count file) one.listed,
      scores.score_least one.expert one.listed,
    )

module _ (file : List ℕ) (U : ℕ) (units : 0 < U) (scores : WellFormedScores file) where
  opinions_rising : (terms : ℕ) → WellFormedOpinions file terms
      → Rising (mean (opinions_among file terms (expert_count file)))
  opinions_rising terms w =
      mean_rising (opinions_among file terms (expert_count file)) (opinions_scored file scores terms w)

  -- The mean of opinions can be cut.
  pub opinions_cuttable : expert_count file ≤ 16 → (terms : ℕ) → WellFormedOpinions file terms
      → Cuttable U U (mean (opinions_among file terms (expert_count file)))
  opinions_cuttable m terms w =
      let most = total_most file terms 100 (expert_count file) scores.score_most in
      rising_cuttable U units _ (opinions_rising terms w) (omega arith)

  entry_rising : (e : ℕ) → WellFormedEntry U file e → Rising (event_trapezoid U file e)
  entry_rising e w = go (entry_of file e) refl
    where
      go : (read : Entry) → entry_of file e ≡ read → Rising (entry_trapezoid U file read)
      go (entry.Numbers x) h = numbers_rising U units x (entry_numbers file U e w h)
      go (entry.Opinions terms) h = opinions_rising terms (entry_opinions file U e w h).1
      go (entry.Fractions x) h = fractions_rising x _ (entry_fractions file U e w h)

-- The four numbers of each event of a well-formed file rise.
pub event_rising : (file : List ℕ) → WellFormed file → (e : ℕ) → e < event_count file
    → Rising (event_trapezoid (unit file) file e)
event_rising file w e l = entry_rising file (unit file) (omega arith) w.scores e (w.entry e l)

-- The opinions of an event of a well-formed file lie inside it, with a score.
pub opinions_inside : (file : List ℕ) → WellFormed file → (e : ℕ) → e < event_count file → (terms : ℕ)
    → entry_of file e ≡ entry.Opinions terms → OpinionsInside file terms
opinions_inside file w e l terms read =
    let (place, opinions) = entry_opinions file (unit file) e (w.entry e l) read in
    record {
      header_inside = omega (arith, w.header.length_value);
      experts_most = w.header.experts_most;
      terms_inside = omega (arith, w.header.length_value, place);
      term_most = opinions.term_most;
      score_least = opinions_scored file w.scores terms opinions;
    }
