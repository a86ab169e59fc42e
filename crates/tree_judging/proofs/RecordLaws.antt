-- What a record without a fault is.
use Prim.Native.Nat.{ℕ, zero, suc, ◌+◌, ◌≤◌, ◌<◌, zero-le}
use mathlib.Core.Path.{◌≡◌}
use mathlib.Core.Logic.{⊎_elim}
use mathlib.Core.Bool.{true, ◌&&◌, and-eq-true_iff}
use mathlib.Core.List.{List}
use native.Mathlib.Nat.{add-zero, eq-zero-or-pos}
use native.Mathlib.Omega.{arith}
use lib.Dec.{leb, eqb}
use borrow.Author.Tests.{le-leb, leb-true, eq-eqb, ne_eqb, eqb-true}
use Rattle.std.specs.Prelude.{Ok}
use Rattle.refusals.proofs.FirstFault.{AllAbsent, among_each, first_of_absent, unless_holds}
use Rattle.tree_file.specs.Format.{field_a, field_b, kind, link_count, max_inputs, node_count, or_kind}
use Rattle.tree_file.specs.Tallies.{events_before, inputs_before}
use Rattle.tree_judging.specs.RecordRules.{has_fields, record_fault, record_rules, records_fault}
use Rattle.tree_file.specs.WellFormed.{WellFormedRecord}
use Rattle.tree_file.proofs.Tallies.{basic_inputs, gate_inputs}

-- What the tests of the fields say.
pub event_facts : (k a b events inputs links : ℕ) → k ≡ 0 → has_fields k a b events inputs links ≡ true
    → (a ≡ events) × (b ≡ 0)
unfolding has_fields
event_facts k a b events inputs links z h =
    let both = (and-eq-true_iff (eqb a events) (eqb b 0)).0 (rw (eq-eqb k 0 z) at h) in
    (eqb-true a events both.0, eqb-true b 0 both.1)

pub record GateFacts (a b inputs links : ℕ) : Type 0 where
  pub least : 1 ≤ b
  pub most : b ≤ max_inputs
  pub first : a ≡ inputs
  pub end : a + b ≤ links

pub gate_facts : (k a b events inputs links : ℕ) → 0 < k → has_fields k a b events inputs links ≡ true
    → GateFacts a b inputs links
unfolding has_fields
gate_facts k a b events inputs links g h =
    let three = leb 1 b && leb b max_inputs && eqb a inputs in
    let all = (and-eq-true_iff three (leb (a + b) links)).0 (rw (ne_eqb k 0 (λ z. omega arith)) at h) in
    let some = (and-eq-true_iff (leb 1 b && leb b max_inputs) (eqb a inputs)).0 all.0 in
    let range = (and-eq-true_iff (leb 1 b) (leb b max_inputs)).0 some.0 in
    record {
      least = leb-true 1 b range.0;
      most = leb-true b max_inputs range.1;
      first = eqb-true a inputs some.1;
      end = leb-true (a + b) links all.1;
    }

module _ (file : List ℕ) (i : ℕ) (e : record_fault file i ≡ Ok tt) where
  rules : AllAbsent (record_rules file i)
  unfolding record_fault
  rules = first_of_absent (record_rules file i) e

  gate : 0 < kind file i → GateFacts (field_a file i) (field_b file i) (inputs_before file i) (link_count file)
  gate g = gate_facts (kind file i) _ _ (events_before file i) _ _ g (unless_holds _ _ _ rules.1.0)

  event : kind file i ≡ 0 → (field_a file i ≡ events_before file i) × (field_b file i ≡ 0)
  event z =
      event_facts (kind file i) _ _ _ (inputs_before file i) (link_count file) z (unless_holds _ _ _ rules.1.0)

  pub record_well_formed : WellFormedRecord file i
  record_well_formed = record {
    known_kind = leb-true (kind file i) or_kind (unless_holds _ _ _ rules.0);
    event_number = λ z. (event z).0;
    event_inputs = λ z. (event z).1;
    gate_least = λ g. (gate g).least;
    gate_most = λ g. (gate g).most;
    gate_first = λ g. (gate g).first;
  }

  -- A gate's links end within the N − 1 links.
  pub links_end : 0 < kind file i → field_a file i + field_b file i ≤ link_count file
  links_end g = (gate g).end

pub record_absent : (file : List ℕ) (i : ℕ) → WellFormedRecord file i
    → (0 < kind file i → field_a file i + field_b file i ≤ link_count file) → record_fault file i ≡ Ok tt
unfolding record_fault has_fields
record_absent file i w end =
    let k = le-leb (kind file i) or_kind w.known_kind in
    ⊎_elim
    (λ z.
    rw (
      k,
      eq-eqb (kind file i) 0 z,
      eq-eqb (field_a file i) (events_before file i) (w.event_number z),
      eq-eqb (field_b file i) 0 (w.event_inputs z),
    ))
    (λ g.
    rw (
      k,
      ne_eqb (kind file i) 0 (λ z. omega arith),
      le-leb 1 (field_b file i) (w.gate_least g),
      le-leb (field_b file i) max_inputs (w.gate_most g),
      eq-eqb (field_a file i) (inputs_before file i) (w.gate_first g),
      le-leb (field_a file i + field_b file i) (link_count file) (end g),
    ))
    (eq-zero-or-pos (kind file i))

-- Where no record has a fault, the links of the first i nodes lie within the N − 1 links.
pub inputs_within : (file : List ℕ) → records_fault file ≡ Ok tt → (i : ℕ) → i ≤ node_count file
    → inputs_before file i ≤ link_count file
unfolding inputs_before
inputs_within file e zero l = zero-le
inputs_within file e (suc i) l =
    let absent = among_each (record_fault file) (node_count file) e i l in
    let before = inputs_within file e i (omega arith) in
    ⊎_elim (λ z. rw (basic_inputs file i z, add-zero) before)
    (λ g. rw (gate_inputs file i g, ← (record_well_formed file i absent).gate_first g) (links_end file i absent g))
    (eq-zero-or-pos (kind file i))
