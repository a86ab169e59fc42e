-- The dual tree file: what its fields are, and that it is the held one again when it is turned over again.
use Prim.Native.Nat.{ℕ, zero, suc, ◌+◌, ◌*◌, ◌≤◌, ◌<◌}
use mathlib.Core.Path.{◌≡◌, refl, sym, ap, ◌∙◌}
use mathlib.Core.List.{List, [], ◌∷◌, ◌++◌}
use native.Mathlib.Nat.{add_assoc, add-zero}
use native.Mathlib.Omega.{arith}
use lib.Dec.{lit<}
use lib.ListN.{length, take, drop, length-drop}
use lib.Seq.{length-take-le, take_at, get_or-take, get_or-drop, ext_get_or}
use Rattle.fields.specs.Fields.{byte, field16, with_parts}
use Rattle.fields.proofs.Alike.{field16_alike}
use Rattle.fields.proofs.Joined.{with_own, with_before, with_length, with_part, with_after, with_again}
use Rattle.tree_file.specs.Format.{node_count, record_at, link_at, kind}
use Rattle.tree_file.specs.WellFormed.{WellFormedHeader}
use Rattle.dual_files.specs.Tree.{exchanged, dual_record, dual_tree, DualTree}
use Rattle.dual_files.proofs.DualKind.{and_exchanged, or_exchanged, other_exchanged, exchanged_twice}

-- a file's part of five bytes, byte by byte
five_bytes : (file : List ℕ) (p : ℕ) → p + 5 ≤ length file
    → byte file p ∷ byte file (p + 1) ∷ byte file (p + 2) ∷ byte file (p + 3) ∷ byte file (p + 4) ∷ []
    ≡ take 5 (drop p file)
five_bytes file p l =
    ext_get_or 0 _ (take 5 (drop p file)) (sym (length-take-le 5 (drop p file) (omega (arith, length-drop p file)))) bytes
  where
    read : (j : ℕ) → j < 5 → byte file (p + j) ≡ byte (take 5 (drop p file)) j
    read j k = sym (get_or-take 5 (drop p file) j 0 k ∙ get_or-drop p file j 0)

    bytes : (j : ℕ) → j < 5
        → byte (byte file p ∷ byte file (p + 1) ∷ byte file (p + 2) ∷ byte file (p + 3) ∷ byte file (p + 4) ∷ []) j
        ≡ byte (take 5 (drop p file)) j
    bytes zero k = ap (byte file) (sym (add-zero p)) ∙ read 0 k
    bytes (suc zero) k = read 1 k
    bytes (suc (suc zero)) k = read 2 k
    bytes (suc (suc (suc zero))) k = read 3 k
    bytes (suc (suc (suc (suc zero)))) k = read 4 k
    bytes (suc (suc (suc (suc (suc j))))) k = absurd (omega arith)

module _ (tree : List ℕ) (header : WellFormedHeader tree) where
  records_inside : 9 + 5 * node_count tree ≤ length tree
  records_inside = omega (arith, header.length_value)

  -- it keeps its length
  pub tree_long : length (dual_tree tree) ≡ length tree
  unfolding dual_tree
  tree_long = with_length 9 5 (dual_record tree) (node_count tree) tree records_inside (λ e l. refl)

  header_bytes : (p : ℕ) → p < 9 → byte (dual_tree tree) p ≡ byte tree p
  unfolding dual_tree
  header_bytes = with_before 9 5 (dual_record tree) (node_count tree) tree records_inside

  record_bytes : (i j : ℕ) → i < node_count tree → j < 5
      → byte (dual_tree tree) (record_at tree i + j) ≡ byte (dual_record tree i) j
  unfolding dual_tree
  record_bytes = with_part 9 5 (dual_record tree) (node_count tree) tree records_inside (λ e l. refl)

  link_bytes : (j : ℕ) → byte (dual_tree tree) (9 + 5 * node_count tree + j)
      ≡ byte tree (9 + 5 * node_count tree + j)
  unfolding dual_tree
  link_bytes = with_after 9 5 (dual_record tree) (node_count tree) tree records_inside (λ e l. refl)

  module _ (i : ℕ) (l : i < node_count tree) where
    abbrev at : ℕ
    at = record_at tree i

    -- the kind
    kind_written : kind (dual_tree tree) i ≡ exchanged (kind tree i)
    kind_written = ap (byte (dual_tree tree)) (sym (add-zero at)) ∙ record_bytes i 0 l (lit< tt)

    -- the bytes of a and b
    a_written : field16 (dual_tree tree) (at + 1) ≡ field16 tree (at + 1)
    unfolding field16
    a_written =
        rw (record_bytes i 1 l (lit< tt), add_assoc at 1 1, record_bytes i 2 l (lit< tt)) refl

    b_written : field16 (dual_tree tree) (at + 3) ≡ field16 tree (at + 3)
    unfolding field16
    b_written =
        rw (record_bytes i 3 l (lit< tt), add_assoc at 3 1, record_bytes i 4 l (lit< tt)) refl

  -- the count of nodes, so that records and links stand where they stood
  same_nodes : node_count (dual_tree tree) ≡ node_count tree
  same_nodes = field16_alike (dual_tree tree) 7 tree 7 (λ j l. header_bytes (7 + j) (omega arith))

  -- what its fields are
  pub tree_means : DualTree tree (dual_tree tree)
  tree_means = record {
    length_kept = tree_long;
    header_kept = header_bytes;
    event_kept = λ i l e. kind_written i l ∙ other_exchanged _ (λ q. omega arith) (λ q. omega arith) ∙ e;
    and_turned = λ i l e. kind_written i l ∙ and_exchanged _ e;
    or_turned = λ i l e. kind_written i l ∙ or_exchanged _ e;
    a_kept = a_written;
    b_kept = b_written;
    link_kept = λ j l.
        ap (λ n. field16 (dual_tree tree) (9 + 5 * n + 2 * j)) same_nodes
        ∙ field16_alike (dual_tree tree) (link_at tree j) tree (link_at tree j)
        (λ k m. ap (byte (dual_tree tree)) (add_assoc (9 + 5 * node_count tree) (2 * j) k)
        ∙ link_bytes (2 * j + k)
        ∙ ap (byte tree) (sym (add_assoc (9 + 5 * node_count tree) (2 * j) k)));
  }

  -- it is the front of a buffer that it was written to
  pub tree_front : (n : ℕ) → length tree ≡ n → (rest : List ℕ)
      → take n (dual_tree tree ++ rest) ≡ dual_tree tree
  tree_front n e rest = take_at (dual_tree tree) rest n (tree_long ∙ e)

  -- turned over again, a record is the held one
  record_restored : (i : ℕ) → i < node_count tree
      → dual_record (dual_tree tree) i ≡ take 5 (drop (9 + 5 * i) tree)
  record_restored i l =
      let at = record_at tree i in
      let turned : exchanged (kind (dual_tree tree) i) ≡ byte tree at =
      ap exchanged (kind_written i l) ∙ exchanged_twice (kind tree i) in
      (λ k. turned k
      ∷ record_bytes i 1 l (lit< tt) k
      ∷ record_bytes i 2 l (lit< tt) k
      ∷ record_bytes i 3 l (lit< tt) k
      ∷ record_bytes i 4 l (lit< tt) k
      ∷ [])
      ∙ five_bytes tree at (omega (arith, header.length_value))

  -- and so is the file
  pub tree_restored : dual_tree (dual_tree tree) ≡ tree
  unfolding dual_tree
  tree_restored = opened ∙ again ∙ own
    where
      put : (ℕ → List ℕ) → List ℕ → List ℕ
      put part file = with_parts 9 5 part (node_count tree) file

      opened : dual_tree (dual_tree tree)
          ≡ put (dual_record (dual_tree tree)) (put (dual_record tree) tree)
      opened = ap (λ n. with_parts 9 5 (dual_record (dual_tree tree)) n (dual_tree tree)) same_nodes

      again : put (dual_record (dual_tree tree)) (put (dual_record tree) tree)
          ≡ put (dual_record (dual_tree tree)) tree
      again = with_again 9 5 (dual_record tree) (node_count tree) tree records_inside (λ e l. refl) _

      own : put (dual_record (dual_tree tree)) tree ≡ tree
      own = with_own 9 5 _ (node_count tree) tree records_inside record_restored
