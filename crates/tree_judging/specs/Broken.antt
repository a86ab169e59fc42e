-- What is wrong with a tree file: `Breaks file r` says that the file breaks that rule at that place. One clause for
-- each rule of document 01's list, 1 to 9, and no order among them. Judging finds the first of them in document 01's
-- order, and nothing exactly where none is broken: `first_broken` of proofs/Broken.
--
-- A clause says what must be there to be spoken of: the header's fields in a file as long as a header; a length for N
-- nodes where there is a node; records and links where the header, and the length with it, is well-formed.
use Rattle.std.specs.Prelude.{ℕ, ◌+◌, ◌*◌, ◌≤◌, ◌<◌, ◌≡◌, ◌⊎◌, false, List, length}
use Rattle.refusals.specs.Order.{refusal}
use Rattle.refusals.specs.declared.refusal.Refusal.{Refusal}
use Rattle.refusals.specs.declared.rule.Rule.TheVariants.{TooShort, WrongLetters, WrongVersion, WrongCount}
use Rattle.refusals.specs.declared.rule.Rule.TheVariants.{WrongLength, UnknownKind, WrongField, WrongLink, LinkedBefore}
use Rattle.tree_file.specs.Format.{event_kind, field_a, field_b, has_letters, header_length, kind, letters_place}
use Rattle.tree_file.specs.Format.{link, link_at, link_count, max_inputs, max_nodes, node_count}
use Rattle.tree_file.specs.Format.{nodes_place, or_kind, record_at, version, version_place, version_read}
use Rattle.tree_file.specs.Tallies.{events_before, inputs_before}
use Rattle.tree_file.specs.WellFormed.{WellFormedHeader}

-- Node i is a gate, AND or OR.
abbrev pub IsGate : List ℕ → ℕ → Type 0
IsGate file i = (event_kind < kind file i) × (kind file i ≤ or_kind)

-- A wrong a or b of record i, or a gate's a + b above N − 1. The sum of b over earlier gates takes an earlier record of
-- unknown kind for a gate; that record is refused before.
pub data WrongFields (file : List ℕ) (i : ℕ) : Type 0 where
  -- a basic event's a is not its event number, which counts the basic records before it
  event_number : kind file i ≡ event_kind → (field_a file i ≡ events_before file i → ⊥) → WrongFields file i
  -- a basic event's b is not 0
  event_inputs : kind file i ≡ event_kind → 0 < field_b file i → WrongFields file i
  -- a gate has no input, or more than 16
  inputs_least : IsGate file i → field_b file i ≡ 0 → WrongFields file i
  inputs_most : IsGate file i → max_inputs < field_b file i → WrongFields file i
  -- a gate's a is not the sum of b over earlier gates
  first_link : IsGate file i → (field_a file i ≡ inputs_before file i → ⊥) → WrongFields file i
  -- a gate's a + b is above N − 1
  links_end : IsGate file i → link_count file < field_a file i + field_b file i → WrongFields file i

pub data Breaks (file : List ℕ) : Refusal → Type 0 where
  -- 1: the file is shorter than its header; place is the file's length
  too_short : length file < header_length → Breaks file (refusal TooShort (length file))
  -- 2: wrong letters; place 0
  wrong_letters : header_length ≤ length file → has_letters file ≡ false
      → Breaks file (refusal WrongLetters letters_place)
  -- 3: version not 1; place 3
  wrong_version : header_length ≤ length file → (version file ≡ version_read → ⊥)
      → Breaks file (refusal WrongVersion version_place)
  -- 4: N out of range; the field's place
  wrong_count : header_length ≤ length file → (node_count file < 1) ⊎ (max_nodes < node_count file)
      → Breaks file (refusal WrongCount nodes_place)
  -- 5: the length is not 7 × N + 7; the file's length
  wrong_length : header_length ≤ length file → 1 ≤ node_count file → (length file ≡ 7 * node_count file + 7 → ⊥)
      → Breaks file (refusal WrongLength (length file))
  -- 6: a record of unknown kind; its byte, the record's first
  unknown_kind : WellFormedHeader file → (i : ℕ) → i < node_count file → or_kind < kind file i
      → Breaks file (refusal UnknownKind (record_at file i))
  -- 7: a wrong a or b, or a gate's a + b above N − 1; the record's place
  wrong_fields : WellFormedHeader file → (i : ℕ) → i < node_count file → WrongFields file i
      → Breaks file (refusal WrongField (record_at file i))
  -- 7: the sum of all b below N − 1; place 9 + 5 × N
  sum_below : WellFormedHeader file → inputs_before file (node_count file) < link_count file
      → Breaks file (refusal WrongField (9 + 5 * node_count file))
  -- 8: a link not below its gate, which is input k of gate g, inside the file; the link's place
  wrong_link : WellFormedHeader file → (g k : ℕ) → g < node_count file → IsGate file g → k < field_b file g
      → field_a file g + k < link_count file → g ≤ link file (field_a file g + k)
      → Breaks file (refusal WrongLink (link_at file (field_a file g + k)))
  -- 9: link j names a node that link i before it names; the link's place
  linked_before : WellFormedHeader file → (i j : ℕ) → i < j → j < link_count file → link file i ≡ link file j
      → Breaks file (refusal LinkedBefore (link_at file j))
