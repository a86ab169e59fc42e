-- The header's first fault by the tests that lead to it. `v` and `n` are the version and the node count as they were
-- read.
use Prim.Native.Nat.{ℕ, ◌≤◌, ◌<◌}
use mathlib.Core.Path.{◌≡◌, ◌∙◌, sym}
use mathlib.Core.Bool.{Bool, false, not, ◌&&◌, and-eq-true_iff}
use mathlib.Core.List.{List, [], ◌∷◌}
use lib.ListN.{length}
use lib.Dec.{leb, eqb}
use borrow.Author.Tests.{le-leb, lt-leb, leb-true, eq-eqb, not-false}
use Rattle.fields.specs.Fields.{Is16}
use Rattle.refusals.specs.FirstFault.{first_of, unless}
use Rattle.refusals.specs.Order.{refusal}
use Rattle.refusals.specs.declared.refusal.Refusal.{Refusal}
use Rattle.std.specs.Prelude.{Err}
use Rattle.refusals.specs.declared.rule.Rule.TheVariants.{TooShort, WrongLength}
use Rattle.tree_file.specs.Format.{has_letters, header_length, max_nodes, node_count, required_length, version}
use Rattle.tree_judging.specs.HeaderRules.{header_fault}

-- A file shorter than the header is that, and nothing else of it is read.
pub too_short : (file : List ℕ) (r : Refusal) → r ≡ refusal TooShort (length file) → length file < header_length
    → Err r ≡ header_fault file
unfolding header_fault
too_short file r re h = rw (re, lt-leb header_length (length file) h)

-- What is left of the header's rules where its own fields have none.
pub last_rule : (file : List ℕ) → header_length ≤ length file → (l : Bool) → l ≡ has_letters file → not l ≡ false
    → (v : ℕ) → Is16 v (version file) → v ≡ 1 → (n : ℕ) → Is16 n (node_count file)
    → not (leb 1 n && leb n max_nodes) ≡ false
    → header_fault file ≡ first_of (unless (eqb (length file) (required_length file)) WrongLength (length file) ∷ [])
unfolding header_fault
last_rule file long l le h v ve v1 n ne r =
    rw (
      le-leb header_length (length file) long,
      ← le,
      not-false l h,
      eq-eqb (version file) 1 (sym ve.value ∙ v1),
      not-false (leb 1 (node_count file) && leb (node_count file) max_nodes) (rw ne.value at r),
    )

-- A count in range is at least 1.
pub least_node : (n : ℕ) → not (leb 1 n && leb n max_nodes) ≡ false → 1 ≤ n
least_node n r =
    let range = not-false (leb 1 n && leb n max_nodes) r in
    leb-true 1 n ((and-eq-true_iff (leb 1 n) (leb n max_nodes)).0 range).0
