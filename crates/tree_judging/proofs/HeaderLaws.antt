-- There is no first fault of the header exactly in a well-formed one.
use Prim.Native.Nat.{ℕ}
use mathlib.Core.Path.{◌≡◌}
use mathlib.Core.Bool.{and-eq-true_iff}
use mathlib.Core.List.{List}
use native.Mathlib.Omega.{arith}
use lib.ListN.{length}
use lib.Dec.{leb}
use borrow.Author.Tests.{le-leb, leb-true, eq-eqb, eqb-true}
use Rattle.std.specs.Prelude.{Ok}
use Rattle.refusals.proofs.FirstFault.{first_of_absent, unless_holds}
use Rattle.tree_file.specs.Format.{header_length, max_nodes, node_count, required_length, version}
use Rattle.tree_judging.specs.HeaderRules.{header_fault, header_rules}
use Rattle.tree_file.specs.WellFormed.{WellFormedHeader}

pub header_well_formed : (file : List ℕ) → header_fault file ≡ Ok tt → WellFormedHeader file
unfolding header_fault
header_well_formed file e =
    let rules = first_of_absent (header_rules file) e in
    let range = (and-eq-true_iff (leb 1 (node_count file)) (leb (node_count file) max_nodes)).0
    (unless_holds _ _ _ rules.1.1.1.0) in
    record {
      letters = unless_holds _ _ _ rules.1.0;
      version_value = eqb-true (version file) 1 (unless_holds _ _ _ rules.1.1.0);
      nodes_least = leb-true 1 (node_count file) range.0;
      nodes_most = leb-true (node_count file) max_nodes range.1;
      length_value = eqb-true (length file) (required_length file) (unless_holds _ _ _ rules.1.1.1.1.0);
    }

pub header_absent : (file : List ℕ) → WellFormedHeader file → header_fault file ≡ Ok tt
unfolding header_fault
header_absent file h =
    rw (
      le-leb header_length (length file) (omega arith),
      h.letters,
      eq-eqb (version file) 1 h.version_value,
      le-leb 1 (node_count file) h.nodes_least,
      le-leb (node_count file) max_nodes h.nodes_most,
      eq-eqb (length file) (required_length file) h.length_value,
    )
