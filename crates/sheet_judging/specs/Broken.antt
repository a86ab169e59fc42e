-- What is wrong with a sheet: `Breaks file r` says that the file breaks that rule at that place. One clause for each
-- rule, 1 to 7 and 10 to 12 of document 01's list and 28 of document 02, and no order among them. Judging finds the
-- first of them in document 01's order, and nothing exactly where none is broken: `first_broken` of proofs/Broken.
--
-- A clause says what must be there to be spoken of: the header's fields, the scores among them, in a file as long as a
-- header; entries where the header, and the length with it, is well-formed.
use Rattle.std.specs.Prelude.{ℕ, ◌+◌, ◌≤◌, ◌<◌, ◌≡◌, false, List, length}
use Rattle.refusals.specs.Order.{refusal}
use Rattle.refusals.specs.declared.refusal.Refusal.{Refusal}
use Rattle.refusals.specs.declared.rule.Rule.TheVariants as rule
use Rattle.opinion_sheet.specs.Format.{header_length, letters_place, version_place, events_place, experts_place}
use Rattle.opinion_sheet.specs.Format.{scores_place, has_letters, version, version_read, event_count, max_events}
use Rattle.opinion_sheet.specs.Format.{expert_count, expert_places, required_length, score, max_score, entry_at}
use Rattle.opinion_sheet.specs.Format.{kind, numbers_kind, opinions_kind, fractions_kind, terms_at, term}
use Rattle.opinion_sheet.specs.Format.{max_term, unit}
use Rattle.opinion_sheet.specs.Entries.{numbers_of, fractions_of, last_byte}
use Rattle.opinion_sheet.specs.WellFormed.{WellFormedHeader, WellFormedNumbers, WellFormedFractions}

-- A number out of a range.
pub data Outside (low high x : ℕ) : Type 0 where
  below : x < low → Outside low high x
  above : high < x → Outside low high x

-- A score out of rule: not 1 to 100 for a listed expert, or not 0 after the last.
pub data WrongScore (file : List ℕ) (expert : ℕ) : Type 0 where
  listed : expert < expert_count file → Outside 1 max_score (score file expert) → WrongScore file expert
  after : expert_count file ≤ expert → 0 < score file expert → WrongScore file expert

-- A term out of rule, where the terms begin at a place: above 7, or not 0 after the last expert.
pub data WrongTerm (file : List ℕ) (terms expert : ℕ) : Type 0 where
  above_all : max_term < term file terms expert → WrongTerm file terms expert
  after : expert_count file ≤ expert → 0 < term file terms expert → WrongTerm file terms expert

pub data Breaks (file : List ℕ) : Refusal → Type 0 where
  -- 1: the file is shorter than its header; place is the file's length
  too_short : length file < header_length → Breaks file (refusal rule.TooShort (length file))
  -- 2: wrong letters; place 0
  wrong_letters : header_length ≤ length file → has_letters file ≡ false
      → Breaks file (refusal rule.WrongLetters letters_place)
  -- 3: version not 1; place 3
  wrong_version : header_length ≤ length file → (version file ≡ version_read → ⊥)
      → Breaks file (refusal rule.WrongVersion version_place)
  -- 4: E out of range; the field's place
  wrong_events : header_length ≤ length file → Outside 1 max_events (event_count file)
      → Breaks file (refusal rule.WrongCount events_place)
  -- 4: the number of experts out of range; the field's place
  wrong_experts : header_length ≤ length file → Outside 0 expert_places (expert_count file)
      → Breaks file (refusal rule.WrongCount experts_place)
  -- 5: the length is not 26 + 17 × E; the file's length
  wrong_length : header_length ≤ length file → (length file ≡ required_length file → ⊥)
      → Breaks file (refusal rule.WrongLength (length file))
  -- 6: an entry of unknown kind; its byte, the entry's first
  unknown_kind : WellFormedHeader file → (e : ℕ) → e < event_count file → (kind file e ≡ numbers_kind → ⊥)
      → (kind file e ≡ opinions_kind → ⊥) → (kind file e ≡ fractions_kind → ⊥)
      → Breaks file (refusal rule.UnknownKind (entry_at file e))
  -- 7: a score out of rule; its byte
  wrong_score : header_length ≤ length file → (i : ℕ) → i < expert_places → WrongScore file i
      → Breaks file (refusal rule.WrongField (scores_place + i))
  -- 10: four numbers that are not a ≤ b ≤ c ≤ d ≤ U; the entry's place
  number_order : WellFormedHeader file → (e : ℕ) → e < event_count file → kind file e ≡ numbers_kind
      → (WellFormedNumbers (unit file) (numbers_of file (entry_at file e)) → ⊥)
      → Breaks file (refusal rule.NumberOrder (entry_at file e))
  -- 11: a term above 7, or not 0 after the last expert; its byte
  wrong_term : WellFormedHeader file → (e : ℕ) → e < event_count file → kind file e ≡ opinions_kind → (i : ℕ)
      → i < expert_places → WrongTerm file (terms_at file e) i
      → Breaks file (refusal rule.WrongTerm (terms_at file e + i))
  -- 12: an opinion entry in which none of the listed experts spoke; the entry's place
  nobody_spoke : WellFormedHeader file → (e : ℕ) → e < event_count file → kind file e ≡ opinions_kind
      → ((i : ℕ) → i < expert_count file → term file (terms_at file e) i ≡ 0)
      → Breaks file (refusal rule.NobodySpoke (entry_at file e))
  -- 28: numerators that are not a ≤ b ≤ c ≤ d ≤ denominator, a denominator out of range, or a last byte that is not 0;
  -- the entry's place
  wrong_fractions : WellFormedHeader file → (e : ℕ) → e < event_count file → kind file e ≡ fractions_kind
      → (WellFormedFractions (fractions_of file (entry_at file e)) (last_byte file (entry_at file e)) → ⊥)
      → Breaks file (refusal rule.WrongFractions (entry_at file e))
