-- The rules of document 01's section "The opinion sheet" and of document 02's request 2, each by itself and in no
-- order. `judged` of sheet_judging accepts exactly the well-formed files (`accepted_well_formed` and
-- `well_formed_accepted` of its proofs/Accepted).
use Rattle.std.specs.Prelude.{ℕ, ◌≤◌, ◌<◌, ◌≡◌, true, List, length}
use Rattle.opinion_sheet.specs.Format.{has_letters, version, version_read, event_count, max_events, expert_count}
use Rattle.opinion_sheet.specs.Format.{expert_places, required_length, score, max_score, entry_at, kind}
use Rattle.opinion_sheet.specs.Format.{numbers_kind, opinions_kind, fractions_kind, terms_at, term, max_term}
use Rattle.opinion_sheet.specs.Format.{max_denominator, unit}
use Rattle.opinion_sheet.specs.Entries.{numbers_of, fractions_of, last_byte}
use Rattle.opinion_sheet.specs.declared.numbers.Numbers.{Numbers}
use Rattle.opinion_sheet.specs.declared.fractions.Fractions.{Fractions}

-- The header, and the length that it asks for. Any tree number will do.
pub record WellFormedHeader (file : List ℕ) : Type 0 where
  -- bytes 0 to 2 are `FTS`, and the version is 1
  pub letters : has_letters file ≡ true
  pub version_value : version file ≡ version_read
  -- E is 1 to 1,024
  pub events_least : 1 ≤ event_count file
  pub events_most : event_count file ≤ max_events
  -- there are 0 to 16 experts
  pub experts_most : expert_count file ≤ expert_places
  -- the length is 26 + 17 × E
  pub length_value : length file ≡ required_length file

-- The sixteen scores.
pub record WellFormedScores (file : List ℕ) : Type 0 where
  -- 1 to 100 for each expert
  pub score_least : (i : ℕ) → i < expert_count file → 1 ≤ score file i
  pub score_most : (i : ℕ) → i < expert_count file → score file i ≤ max_score
  -- 0 after the last
  pub score_after : (i : ℕ) → expert_count file ≤ i → i < expert_places → score file i ≡ 0

-- Four numbers, in units of which U make 1: a ≤ b ≤ c ≤ d ≤ U.
pub record WellFormedNumbers (U : ℕ) (x : Numbers ℕ) : Type 0 where
  pub a_b : x.a ≤ x.b
  pub b_c : x.b ≤ x.c
  pub c_d : x.c ≤ x.d
  pub d_unit : x.d ≤ U

-- Fractions and the byte after them.
pub record WellFormedFractions (x : Fractions) (last : ℕ) : Type 0 where
  -- the denominator is 1 to 1,000,000
  pub den_least : 1 ≤ x.den
  pub den_most : x.den ≤ max_denominator
  -- the numerators rise to at most the denominator
  pub rising : WellFormedNumbers x.den x.numerators
  -- the byte is 0
  pub last_zero : last ≡ 0

-- A listed expert who gave a term.
pub record Speaker (file : List ℕ) (terms : ℕ) : Type 0 where
  pub expert : ℕ
  pub listed : expert < expert_count file
  pub spoke : 1 ≤ term file terms expert

-- Opinions whose sixteen term bytes begin at a place.
pub record WellFormedOpinions (file : List ℕ) (terms : ℕ) : Type 0 where
  -- one of seven terms for each expert, or 0 where the expert said nothing
  pub term_most : (i : ℕ) → i < expert_count file → term file terms i ≤ max_term
  -- 0 after the last expert
  pub term_after : (i : ℕ) → expert_count file ≤ i → i < expert_places → term file terms i ≡ 0
  -- somebody spoke
  pub speaker : Speaker file terms

-- The entry of an event.
pub record WellFormedEntry (U : ℕ) (file : List ℕ) (event : ℕ) : Type 0 where
  -- it is of kind 0, 1 or 2
  pub known_kind : kind file event ≤ fractions_kind
  -- kind 0 gives four numbers, kind 1 opinions, kind 2 fractions
  pub numbers : kind file event ≡ numbers_kind → WellFormedNumbers U (numbers_of file (entry_at file event))
  pub opinions : kind file event ≡ opinions_kind → WellFormedOpinions file (terms_at file event)
  pub fractions : kind file event ≡ fractions_kind
      → WellFormedFractions (fractions_of file (entry_at file event)) (last_byte file (entry_at file event))

-- The sheet: its header, its scores, and the entry of each of its E events.
pub record WellFormed (file : List ℕ) : Type 0 where
  pub header : WellFormedHeader file
  pub scores : WellFormedScores file
  pub entry : (e : ℕ) → e < event_count file → WellFormedEntry (unit file) file e
