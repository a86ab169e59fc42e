-- A record's first fault by the test of its fields. `k`, `a` and `b` are the fields as they were read.
use Prim.Native.Nat.{ℕ, ◌-◌, ◌≤◌}
use mathlib.Core.Path.{◌≡◌}
use mathlib.Core.Bool.{Bool}
use mathlib.Core.List.{List, [], ◌∷◌}
use borrow.Author.Tests.{le-leb}
use Rattle.fields.specs.Fields.{Is16}
use Rattle.refusals.specs.FirstFault.{first_of, unless}
use Rattle.refusals.specs.declared.rule.Rule.TheVariants.{WrongField}
use Rattle.tree_file.specs.Format.{field_a, field_b, kind, record_at}
use Rattle.tree_judging.specs.RecordRules.{has_fields, record_fault}
use Rattle.tree_judging.specs.Requirements.{Sized, Tallied}

-- What is left of a record's rules where its kind is known.
pub last_rule : (file : List ℕ) (nodes i k a b events inputs : ℕ) → Sized file nodes → Tallied file i events inputs
    → k ≡ kind file i → Is16 a (field_a file i) → Is16 b (field_b file i) → k ≤ 2 → (r : Bool)
    → r ≡ has_fields k a b events inputs (nodes - 1)
    → record_fault file i ≡ first_of (unless r WrongField (record_at file i) ∷ [])
unfolding record_fault
last_rule file nodes i k a b events inputs s t ke ae be known r found =
    rw (
      found,
      s.nodes_value,
      t.events_value,
      t.inputs_value,
      ke,
      ae.value,
      be.value,
      le-leb (kind file i) 2 (rw ke at known),
    )
