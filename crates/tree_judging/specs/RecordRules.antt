-- The rules of the records, rising, the kind before a and b, and then that of the sum of b: refusals 6 and 7.
use Rattle.std.specs.Prelude.{ℕ, ◌+◌, Bool, ◌&&◌, cond, List, [], ◌∷◌, leb, eqb}
use Rattle.refusals.specs.FirstFault.{first_among, first_of, unless, FirstFault}
use Rattle.refusals.specs.declared.rule.Rule.TheVariants.{UnknownKind, WrongField}
use Rattle.tree_file.specs.Format.{event_kind, field_a, field_b, kind, link_count, links_at, max_inputs}
use Rattle.tree_file.specs.Format.{node_count, or_kind, record_at}
use Rattle.tree_file.specs.Tallies.{events_before, inputs_before}

-- A basic event's a is its event number, counting basic records from 0, and its b is 0.
abbrev pub is_event : ℕ → ℕ → ℕ → Bool
is_event a b events = eqb a events && eqb b 0

-- A gate has 1 to 16 inputs, its a is the sum of b over earlier gates, and a + b is at most N − 1, the number of links.
abbrev pub is_gate : ℕ → ℕ → ℕ → ℕ → Bool
is_gate a b inputs links = leb 1 b && leb b max_inputs && eqb a inputs && leb (a + b) links

-- Fields a and b of a record of kind k, with so many basic events and inputs of gates before it. An unknown kind is
-- taken for a gate here, but rule 6 comes first and refuses it.
unfoldable pub has_fields : ℕ → ℕ → ℕ → ℕ → ℕ → ℕ → Bool
has_fields k a b events inputs links = cond (eqb k event_kind) (is_event a b events) (is_gate a b inputs links)

-- The rules of record i.
abbrev pub record_rules : List ℕ → ℕ → List FirstFault
record_rules file i =
    unless (leb (kind file i) or_kind) UnknownKind (record_at file i)
    ∷ unless
    (has_fields (kind file i) (field_a file i) (field_b file i) (events_before file i) (inputs_before file i)
    (link_count file)) WrongField (record_at file i)
    ∷ []

-- The first fault of record i.
unfoldable pub record_fault : List ℕ → ℕ → FirstFault
record_fault file i = first_of (record_rules file i)

-- The first fault of the records.
abbrev pub records_fault : List ℕ → FirstFault
records_fault file = first_among (record_fault file) (node_count file)

-- The fault of the sum: all b together make N − 1. Above it they can't be, since no gate's a + b is.
unfoldable pub sum_fault : List ℕ → FirstFault
sum_fault file = unless (leb (link_count file) (inputs_before file (node_count file))) WrongField (links_at file)
