-- One turn of the loop over the records, and what follows where it ends.
use Prim.Native.Nat.{ℕ, ◌+◌, ◌-◌, ◌*◌, ◌≤◌, ◌<◌, zero-le}
use mathlib.Core.Path.{◌≡◌, refl, sym, ◌∙◌, ap}
use mathlib.Core.List.{List}
use native.Mathlib.Nat.{le_antisymm, add-zero}
use native.Mathlib.Numerals.{add-one}
use native.Mathlib.Omega.{arith}
use borrow.Author.Tests.{le-leb, lt-leb, eq-eqb, ne_eqb}
use Rattle.fields.specs.Fields.{Is16}
use Rattle.refusals.specs.Order.{refusal}
use Rattle.refusals.specs.declared.refusal.Refusal.{Refusal}
use Rattle.refusals.specs.FirstFault.{FirstFault}
use Rattle.std.specs.Prelude.{Ok, Err}
use Rattle.refusals.specs.declared.rule.Rule.TheVariants.{WrongField}
use Rattle.refusals.proofs.FirstFault.{Passed, passed_all, passed_found, passed_more, passed_none}
use Rattle.tree_file.specs.Format.{field_b, kind, node_count, record_at, tree_number}
use Rattle.tree_file.specs.Tallies.{event_count, events_before, input_count, inputs_before}
use Rattle.tree_judging.specs.RecordRules.{record_fault, records_fault, sum_fault}
use Rattle.tree_judging.specs.Judged.{records_judged}
use Rattle.tree_judging.specs.Requirements.{Sized, Tallied}

-- The first i records have no fault, and the counts are theirs. The bounds keep the sums within a machine word.
pub record RecordsBefore (file : List ℕ) (nodes i events inputs : ℕ) : Type 0 where
  pub passed : Passed (record_fault file) nodes i
  pub tallied : Tallied file i events inputs
  pub events_most : events ≤ i
  pub inputs_most : inputs ≤ 65536 * i

pub records_none : (file : List ℕ) (nodes : ℕ) → RecordsBefore file nodes 0 0 0
unfolding events_before inputs_before
records_none file nodes =
    record {
      passed = passed_none (record_fault file) nodes;
      tallied = record { events_value = refl; inputs_value = refl };
      events_most = zero-le;
      inputs_most = zero-le;
    }

module _ (file : List ℕ) (nodes i events inputs : ℕ) (s : Sized file nodes)
    (h : RecordsBefore file nodes i events inputs) where
  module _ (lt : i < nodes) (f : FirstFault) (e : f ≡ record_fault file i) where
    pub records_stop : (r : Refusal) → f ≡ Err r → Err r ≡ records_judged file
    records_stop r q = rw (← s.nodes_value, ← passed_found h.passed lt (sym e ∙ q))

    module _ (q : f ≡ Ok tt) (k : ℕ) (ke : k ≡ kind file i) where
      pub event_more : k ≡ 0 → RecordsBefore file nodes (i + 1) (events + 1) inputs
      unfolding events_before inputs_before input_count
      event_more z =
          let zero_kind = eq-eqb (kind file i) 0 (sym ke ∙ z) in
          let t = h.tallied in
          let count : events + 1 ≡ events_before file (i + 1) = rw (add-one i, zero_kind, t.events_value) in
          let sum : inputs ≡ inputs_before file (i + 1) = rw (add-one i, zero_kind, add-zero) t.inputs_value in
          record {
            passed = passed_more h.passed lt (sym e ∙ q);
            tallied = record { events_value = count; inputs_value = sum };
            events_most = omega arith;
            inputs_most = omega arith;
          }

      pub gate_more : (b : ℕ) → Is16 b (field_b file i) → (k ≡ 0 → ⊥)
          → RecordsBefore file nodes (i + 1) events (inputs + b)
      unfolding events_before inputs_before input_count
      gate_more b be nz =
          let gate_kind = ne_eqb (kind file i) 0 (λ z. nz (ke ∙ z)) in
          let t = h.tallied in
          let count : events ≡ events_before file (i + 1) = rw (add-one i, gate_kind, add-zero) t.events_value in
          let sum : inputs + b ≡ inputs_before file (i + 1) = rw (add-one i, gate_kind, t.inputs_value, be.value) in
          record {
            passed = passed_more h.passed lt (sym e ∙ q);
            tallied = record { events_value = count; inputs_value = sum };
            events_most = omega arith;
            inputs_most = omega arith;
          }

  module _ (end : nodes ≤ i) where
    at_end : i ≡ node_count file
    at_end = le_antisymm h.passed.within end ∙ s.nodes_value

    all_absent : records_fault file ≡ Ok tt
    all_absent = sym (rw s.nodes_value at (passed_all h.passed end))

    all_inputs : inputs ≡ inputs_before file (node_count file)
    all_inputs = h.tallied.inputs_value ∙ ap (λ (n : ℕ). inputs_before file n) at_end

    all_events : events ≡ event_count file
    all_events = h.tallied.events_value ∙ ap (λ (n : ℕ). events_before file n) at_end

    pub inputs_missing : (place : ℕ) (r : Refusal) → place ≡ record_at file nodes → r ≡ refusal WrongField place
        → inputs < nodes - 1 → Err r ≡ records_judged file
    unfolding sum_fault
    inputs_missing place r p re l =
        rw (re, p, all_absent, ← all_inputs, ← s.nodes_value, lt-leb (nodes - 1) inputs l)

    pub records_accepted : (n : ℕ) → Is16 n (tree_number file) → nodes - 1 ≤ inputs
        → Ok (record { number = n; nodes = nodes; events = events }) ≡ records_judged file
    unfolding sum_fault
    records_accepted n ne l =
        rw (all_absent, ne.value, all_events, ← all_inputs, ← s.nodes_value, le-leb (nodes - 1) inputs l)
