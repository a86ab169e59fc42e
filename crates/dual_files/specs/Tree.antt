-- The dual tree file: AND and OR exchanged, all else as held.
use Rattle.std.specs.Prelude.{ℕ, ◌+◌, ◌<◌, ◌≡◌, cond, List, [], ◌∷◌, length, eqb}
use Rattle.fields.specs.Fields.{byte, with_parts}
use Rattle.tree_file.specs.Format.{header_length, event_kind, and_kind, or_kind, node_count, link_count}
use Rattle.tree_file.specs.Format.{record_length, records_at, record_at, kind, field_a, field_b, link}

-- The kind byte of the dual node: AND and OR are exchanged, any other stays.
abbrev pub exchanged : ℕ → ℕ
exchanged k = cond (eqb k and_kind) or_kind (cond (eqb k or_kind) and_kind k)

-- The record of node i: its kind, and the four bytes of a and b as held.
abbrev pub dual_record : List ℕ → ℕ → List ℕ
dual_record tree i =
    let at = record_at tree i in
    exchanged (kind tree i)
    ∷ byte tree (at + 1)
    ∷ byte tree (at + 2)
    ∷ byte tree (at + 3)
    ∷ byte tree (at + 4)
    ∷ []

-- The held file with these records in place of its own.
unfoldable pub dual_tree : List ℕ → List ℕ
dual_tree tree = with_parts (records_at tree) record_length (dual_record tree) (node_count tree) tree

-- What the fields of a dual tree file are. Those of `dual_tree` are so, of every accepted file: `tree_means` of
-- proofs/TreeWritten.
pub record DualTree (tree after : List ℕ) : Type 0 where
  pub length_kept : length after ≡ length tree
  -- the header is as held
  pub header_kept : (p : ℕ) → p < header_length → byte after p ≡ byte tree p
  -- a basic event stays one, AND becomes OR, OR becomes AND
  pub event_kept : (i : ℕ) → i < node_count tree → kind tree i ≡ event_kind → kind after i ≡ event_kind
  pub and_turned : (i : ℕ) → i < node_count tree → kind tree i ≡ and_kind → kind after i ≡ or_kind
  pub or_turned : (i : ℕ) → i < node_count tree → kind tree i ≡ or_kind → kind after i ≡ and_kind
  -- a and b are as held
  pub a_kept : (i : ℕ) → i < node_count tree → field_a after i ≡ field_a tree i
  pub b_kept : (i : ℕ) → i < node_count tree → field_b after i ≡ field_b tree i
  -- so is every link
  pub link_kept : (j : ℕ) → j < link_count tree → link after j ≡ link tree j
