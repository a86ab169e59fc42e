-- An accepted file is well-formed, with the counts of the answer, and a well-formed file is accepted.
use Prim.Native.Nat.{ℕ, ◌+◌, ◌<◌}
use mathlib.Core.Path.{◌≡◌, sym, subst}
use mathlib.Core.List.{List}
use native.Mathlib.Nat.{le_antisymm, le_of_eq, le_refl}
use native.Mathlib.Omega.{arith}
use borrow.Author.Tests.{le-leb, leb-true}
use Rattle.std.specs.Prelude.{Ok}
use Rattle.refusals.proofs.FirstFault.{AllAbsent, absent_first_of, among_absent, among_each, first_of_absent}
use Rattle.refusals.proofs.FirstFault.{unless_holds}
use Rattle.tree_file.specs.Format.{field_a, link, link_count, node_count}
use Rattle.tree_file.specs.Tallies.{input_count, inputs_before}
use Rattle.tree_judging.specs.RecordRules.{record_fault, records_fault, sum_fault}
use Rattle.tree_judging.specs.LinkRules.{gate_fault, input_fault, links_fault}
use Rattle.tree_judging.specs.Judged.{counts_of, fault_of, judged, rules}
use Rattle.tree_file.specs.WellFormed.{WellFormed, WellFormedRecord}
use Rattle.tree_judging.specs.declared.judgement.Counts.{Counts}
use Rattle.tree_file.proofs.Tallies.{gate_inputs, with_input}
use Rattle.tree_file.proofs.Nodes.{gate_links_end}
use Rattle.tree_judging.proofs.HeaderLaws.{header_absent, header_well_formed}
use Rattle.tree_judging.proofs.RecordLaws.{inputs_within, record_absent, record_well_formed}
use Rattle.tree_judging.proofs.LinkLaws.{WellFormedLink, link_absent, link_well_formed, owner}
use Rattle.refusals.proofs.FirstFault.{accepted_absent}

module _ (file : List ℕ) (c : Counts) (e : judged file ≡ Ok c) where
  pub accepted_counts : c ≡ counts_of file
  accepted_counts = (accepted_absent (fault_of file) (counts_of file) c e).1

  absent : AllAbsent (rules file)
  unfolding fault_of
  absent = first_of_absent (rules file) (accepted_absent (fault_of file) (counts_of file) c e).0

  accepted_record : (i : ℕ) → i < node_count file → WellFormedRecord file i
  accepted_record i l = record_well_formed file i (among_each (record_fault file) (node_count file) absent.1.0 i l)

  accepted_link : (g k : ℕ) → g < node_count file → k < input_count file g → WellFormedLink file g (field_a file g + k)
  accepted_link g k gl kl =
      let in_gate = among_each (gate_fault file) (node_count file) absent.1.1.1.0 g gl in
      link_well_formed file g (field_a file g + k) (among_each (input_fault file g) (input_count file g) in_gate k kl)

  accepted_sum : inputs_before file (node_count file) ≡ link_count file
  unfolding sum_fault
  accepted_sum =
      le_antisymm (inputs_within file absent.1.0 (node_count file) (le_refl (node_count file)))
      (leb-true (link_count file) (inputs_before file (node_count file)) (unless_holds _ _ _ absent.1.1.0))

  accepted_once : (i j : ℕ) → i < j → j < link_count file → link file i ≡ link file j → ⊥
  accepted_once i j lt jl =
      let o = owner file (node_count file) j accepted_record (rw accepted_sum jl) in
      let at_owner = accepted_link o.gate o.input o.gate_below o.input_below in
      (subst (λ (n : ℕ). WellFormedLink file o.gate n) o.position at_owner).new i lt

  pub accepted_well_formed : WellFormed file
  accepted_well_formed =
      record {
        header = header_well_formed file absent.0;
        node = accepted_record;
        all_inputs = accepted_sum;
        below = λ g k gl kl. (accepted_link g k gl kl).below;
        once = accepted_once;
      }

module _ (file : List ℕ) (w : WellFormed file) where
  link_here : (g k : ℕ) → g < node_count file → k < input_count file g → input_fault file g k ≡ Ok tt
  link_here g k gl kl =
      let gate = with_input file g k kl in
      let inside : field_a file g + k < link_count file =
      omega (arith, gate_links_end file w g gl gate, gate_inputs file g gate) in
      link_absent file g (field_a file g + k)
      (record { below = w.below g k gl kl; new = λ i lt. w.once i (field_a file g + k) lt inside })

  sum_absent : sum_fault file ≡ Ok tt
  unfolding sum_fault
  sum_absent = rw (le-leb (link_count file) (inputs_before file (node_count file)) (le_of_eq (sym w.all_inputs)))

  pub well_formed_absent : fault_of file ≡ Ok tt
  unfolding fault_of
  well_formed_absent =
      let records : records_fault file ≡ Ok tt =
      among_absent (record_fault file) (node_count file)
      (λ i l. record_absent file i (w.node i l) (gate_links_end file w i l)) in
      let links : links_fault file ≡ Ok tt =
      among_absent (gate_fault file) (node_count file)
      (λ g gl. among_absent (input_fault file g) (input_count file g) (λ k kl. link_here g k gl kl)) in
      absent_first_of (rules file) (header_absent file w.header, (records, (sum_absent, (links, tt))))

  pub well_formed_accepted : judged file ≡ Ok (counts_of file)
  well_formed_accepted = rw well_formed_absent
