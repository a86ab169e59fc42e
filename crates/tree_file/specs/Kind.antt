-- The kind that a record's first byte says.
use Rattle.std.specs.Prelude.{ℕ, cond, eqb, Result, Ok, Err}
use Rattle.tree_file.specs.Format.{and_kind, event_kind, or_kind}
use Rattle.refusals.specs.declared.rule.Rule.{Rule}
use Rattle.refusals.specs.declared.rule.Rule.TheVariants.{UnknownKind}
use Rattle.tree_file.specs.declared.kind.RecordKind.{RecordKind}
use Rattle.tree_file.specs.declared.kind.RecordKind.TheVariants.{Event, And, Or}

-- The kind of a byte: 0 to 2, and rule 6 for any other.
abbrev pub kind_of : ℕ → Result RecordKind Rule
kind_of k =
    cond (eqb k event_kind) (Ok Event) (cond (eqb k and_kind) (Ok And) (cond (eqb k or_kind) (Ok Or) (Err UnknownKind)))
