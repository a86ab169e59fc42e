-- One turn of the loops over the gates and over a gate's links, and what follows where they end.
use Prim.Native.Nat.{ℕ, suc, ◌+◌, ◌-◌, ◌≤◌, ◌<◌}
use mathlib.Core.Path.{◌≡◌, refl, sym, ◌∙◌, ap, subst}
use mathlib.Core.Bool.{Bool, true, false, ◌||◌}
use mathlib.Core.List.{List}
use native.Mathlib.Nat.{le_antisymm, add-zero}
use native.Mathlib.Numerals.{add-one}
use native.Mathlib.Decide.{ℕ_discrete}
use native.Mathlib.Omega.{arith}
use lib.ListN.{length, get_or, set, replicate, length-set, length-replicate, get_or-replicate}
use lib.Seq.{get_or-set_same, get_or-set_other}
use lib.Dec.{eqb}
use borrow.Author.Tests.{lt-ltb, le-ltb, eq-eqb, ne_eqb}
use Rattle.fields.specs.Fields.{field16, Is16}
use Rattle.refusals.specs.Order.{refusal}
use Rattle.refusals.specs.declared.refusal.Refusal.{Refusal}
use Rattle.std.specs.Prelude.{Ok, Err}
use Rattle.refusals.specs.declared.rule.Rule.TheVariants.{WrongLink, LinkedBefore}
use Rattle.refusals.proofs.FirstFault.{Passed, among_each, passed_all, passed_found, passed_more, passed_none}
use Rattle.tree_file.specs.Format.{link, link_at, max_nodes, node_count}
use Rattle.tree_file.specs.Tallies.{input_count, inputs_before}
use Rattle.tree_judging.specs.RecordRules.{record_fault, records_fault}
use Rattle.tree_judging.specs.LinkRules.{gate_fault, input_fault, link_fault, links_fault, named}
use Rattle.tree_judging.specs.Requirements.{Sized}
use Rattle.tree_file.proofs.Tallies.{with_input}
use Rattle.tree_judging.proofs.RecordLaws.{inputs_within, record_well_formed}

-- The flags of the nodes say which of them the first j links name.
pub record Flags (file : List ℕ) (flags : List Bool) (j : ℕ) : Type 0 where
  pub size : length flags ≡ max_nodes
  pub flag : (n : ℕ) → n < max_nodes → get_or flags n false ≡ named file n j

-- The links of the first gates have no fault; `first` is the next link.
pub record GatesBefore (file : List ℕ) (nodes : ℕ) (flags : List Bool) (first gate : ℕ) : Type 0 where
  pub passed : Passed (gate_fault file) nodes gate
  pub next : first ≡ inputs_before file gate
  pub flagged : Flags file flags first

-- The first k links of the gate, from link `first` on, have no fault either.
pub record LinksBefore (file : List ℕ) (nodes : ℕ) (flags : List Bool) (first gate inputs k : ℕ) : Type 0 where
  pub gates_passed : Passed (gate_fault file) nodes gate
  pub below : gate < nodes
  pub count : inputs ≡ input_count file gate
  pub passed : Passed (input_fault file gate) inputs k
  pub next : first ≡ inputs_before file gate
  pub end : inputs_before file gate + inputs ≤ nodes - 1
  pub flagged : Flags file flags (first + k)

pub gates_none : (file : List ℕ) (nodes : ℕ) → GatesBefore file nodes (replicate max_nodes false) 0 0
unfolding inputs_before named
gates_none file nodes =
    record {
      passed = passed_none (gate_fault file) nodes;
      next = refl;
      flagged =
          record { size = length-replicate max_nodes false; flag = λ n h. get_or-replicate max_nodes n false false h };
    }

-- One link more: the node that it names is flagged.
flags_more : (file : List ℕ) (flags : List Bool) (j node : ℕ) → node ≡ link file j → node < max_nodes
    → Flags file flags j → Flags file (set flags node true) (j + 1)
unfolding named
flags_more file flags j node e lt f =
    record { size = length-set flags node true ∙ f.size; flag = λ n h. rw add-one (at n h (ℕ_discrete n node)) }
  where
    or_true : (b : Bool) → true ≡ b || true
    or_true true = refl
    or_true false = refl

    or_false : (b : Bool) → b ≡ b || false
    or_false true = refl
    or_false false = refl

    at : (n : ℕ) → n < max_nodes → Dec (n ≡ node)
        → get_or (set flags node true) n false ≡ named file n j || eqb (link file j) n
    at n h (yes q) =
        let inside : node < length flags = rw f.size lt in
        let this = eq-eqb (link file j) node (sym e) in
        rw (q, get_or-set_same flags node true false inside, this) (or_true (named file node j))
    at n h (no q) =
        let other = ne_eqb (link file j) n (λ l. q (sym (e ∙ l))) in
        rw (get_or-set_other flags node n true false q, f.flag n h, other) (or_false (named file n j))

module _ (file : List ℕ) (nodes : ℕ) (s : Sized file nodes) (records : records_fault file ≡ Ok tt)
    (flags : List Bool) (first gate : ℕ) where
  module _ (h : GatesBefore file nodes flags first gate) where
    pub links_passed : nodes ≤ gate → (Ok tt) ≡ links_fault file
    links_passed end = rw s.nodes_value at (passed_all h.passed end)

    pub gate_start : gate < nodes → (inputs : ℕ) → Is16 inputs (input_count file gate)
        → LinksBefore file nodes flags first gate inputs 0
    unfolding inputs_before
    gate_start lt inputs r =
        record {
          gates_passed = h.passed;
          below = lt;
          count = r.value;
          passed = passed_none (input_fault file gate) inputs;
          next = h.next;
          end = rw (r.value, s.nodes_value) (inputs_within file records (suc gate) (omega (arith, s.nodes_value)));
          flagged = rw (add-zero first) h.flagged;
        }

  module _ (inputs k : ℕ) (h : LinksBefore file nodes flags first gate inputs k) where
    pub gate_done : inputs ≤ k → GatesBefore file nodes flags (first + inputs) (gate + 1)
    unfolding inputs_before
    gate_done end =
        let all : k ≡ inputs = le_antisymm h.passed.within end in
        record {
          passed = passed_more h.gates_passed h.below (sym (rw h.count at (passed_all h.passed end)));
          next = rw (add-one gate, h.next, h.count);
          flagged = rw all at h.flagged;
        }

    module _ (lt : k < inputs) where
      -- The link is input k of the gate.
      input_is_link : input_fault file gate k ≡ link_fault file gate (first + k)
      input_is_link =
          let inside : gate < node_count file = omega (arith, h.below, s.nodes_value) in
          let well_formed = record_well_formed file gate (among_each (record_fault file) _ records gate inside) in
          let here = well_formed.gate_first (with_input file gate k (subst (λ (n : ℕ). k < n) h.count lt)) in
          ap (λ (n : ℕ). link_fault file gate (n + k)) (here ∙ sym h.next)

      found_here : (r : Refusal) → link_fault file gate (first + k) ≡ Err r → Err r ≡ links_fault file
      found_here r e =
          let in_gate = passed_found h.passed lt (input_is_link ∙ e) in
          rw s.nodes_value at (passed_found h.gates_passed h.below (sym (rw h.count at in_gate)))

      module _ (place node : ℕ) (p : place ≡ link_at file (first + k)) (n : Is16 node (field16 file place)) where
        named_node : node ≡ link file (first + k)
        named_node = rw p at n.value

        pub wrong_link : (r : Refusal) → r ≡ refusal WrongLink place → gate ≤ node → Err r ≡ links_fault file
        unfolding link_fault
        wrong_link r re le = rw (re, p) (found_here _ (rw (← named_node, le-ltb node gate le)))

        module _ (below : node < gate) where
          node_small : node < max_nodes
          node_small = omega (arith, h.below, s.nodes_value, s.header.nodes_most)

          flag_is : (b : Bool) → get_or flags node false ≡ b → named file (link file (first + k)) (first + k) ≡ b
          flag_is b e =
              ap (λ (n : ℕ). named file n (first + k)) (sym named_node) ∙ sym (h.flagged.flag node node_small) ∙ e

          pub linked_before : (r : Refusal) → r ≡ refusal LinkedBefore place → get_or flags node false ≡ true
              → Err r ≡ links_fault file
          unfolding link_fault
          linked_before r re t = rw (re, p) (found_here _ (rw (flag_is true t, ← named_node, lt-ltb node gate below)))

          link_passed : get_or flags node false ≡ false → link_fault file gate (first + k) ≡ Ok tt
          unfolding link_fault
          link_passed t = rw (flag_is false t, ← named_node, lt-ltb node gate below)

          pub link_more : get_or flags node false ≡ false
              → LinksBefore file nodes (set flags node true) first gate inputs (k + 1)
          link_more t =
              record {
                gates_passed = h.gates_passed;
                below = h.below;
                count = h.count;
                passed = passed_more h.passed lt (input_is_link ∙ link_passed t);
                next = h.next;
                end = h.end;
                flagged =
                    subst (λ (n : ℕ). Flags file (set flags node true) n) (omega arith)
                    (flags_more file flags (first + k) node named_node node_small h.flagged);
              }
