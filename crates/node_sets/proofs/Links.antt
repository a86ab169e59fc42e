-- A link read by itself: the first of the part of the tree that starts with it.
use Prim.Native.Nat.{ℕ}
use mathlib.Core.Path.{◌≡◌, ap, ◌∙◌}
use mathlib.Core.List.{List}
use native.Mathlib.Nat.{add-zero}
use Rattle.fields.specs.Fields.{Is16}
use Rattle.tree_file.specs.Format.{link, linked, links_from}
use Rattle.tree_file.proofs.Nodes.{link_in_part}

-- it names the node that the tree's link does
pub link_named : (tree links : List ℕ) (j node : ℕ) → links ≡ links_from tree j → Is16 node (linked links 0)
    → Is16 node (link tree j)
link_named tree links j node e is =
    let named : linked links 0 ≡ link tree j =
    ap (λ part. linked part 0) e ∙ link_in_part tree j 0 ∙ ap (link tree) (add-zero j) in
    rw (← named) is
