-- One turn of a gate's fold: the running interval after one input more.
use Prim.Native.Nat.{ℕ, ◌+◌, ◌≤◌, ◌<◌}
use mathlib.Core.Path.{◌≡◌, refl, sym, ap, ◌∙◌}
use mathlib.Core.List.{List}
use native.Mathlib.Nat.{zero-add}
use native.Mathlib.Numerals.{add-one}
use native.Mathlib.Omega.{arith}
use Rattle.theory.specs.FaultTree.{GateKind}
use Rattle.theory.specs.Rounding.{Direction, down, up, End, step}
use Rattle.theory.specs.GateFold.{seen, turned, both_seen, folded}
use Rattle.theory.proofs.Rounded.{step_from_start}
use Rattle.theory.proofs.GateFold.{turned_twice}
use Rattle.fields.specs.Fields.{Is16}
use Rattle.tree_file.specs.Format.{linked}
use Rattle.rounding.specs.Ends.{enclosure, end_in, BothInUnits}
use Rattle.rounding.specs.declared.end.Enclosure.{Enclosure}
use Rattle.rounding.proofs.Marks.{end_in_enclosure, same_ends}
use Rattle.work_slices.specs.Slices.{Slices, stored_end}
use Rattle.evaluation.specs.Phases.{fold_end}
use Rattle.evaluation.specs.Requirements.{InputStored}

module _ {U : ℕ} {links : List ℕ} {j : ℕ} {s : Slices} (stored : InputStored U links j s) {node : ℕ}
    (n : Is16 node (linked links j)) {x : Enclosure} (e : x ≡ enclosure (λ w. stored_end w s node)) where
  -- the ends of the node that link j names are at most U
  pub node_in_units : BothInUnits U x
  node_in_units = rw (e, n.value)
      (record {
        lower_in_units = record { at_most = stored.in_units down };
        upper_in_units = record { at_most = stored.in_units up };
      })

module _ (U : ℕ) (kind : GateKind) (links : List ℕ) (inputs : ℕ) (s : Slices) where
  -- the ends of link j's node as the fold goes by them
  abbrev input : ℕ → Direction → End
  input j w = both_seen kind U (λ v. stored_end v s (linked links j)) w

  -- the fold of the first j inputs in each direction
  abbrev after : ℕ → Direction → End
  after j w = folded U w (λ i. input i w) 0 j

  -- the running interval after j inputs
  pub record Running (running : Enclosure) (j : ℕ) : Type 0 where
    pub within : j ≤ inputs
    pub ends_are : running ≡ enclosure (after j)
    pub in_units : BothInUnits U running

module _ {U : ℕ} {kind : GateKind} {links : List ℕ} {inputs : ℕ} {s : Slices} where
  -- the fold begins with the first input
  pub running_start : 0 < U → 0 < inputs → {x : Enclosure} → x ≡ enclosure (input U kind links inputs s 0)
      → BothInUnits U x → Running U kind links inputs s x 1
  running_start positive some e units = record {
    within = omega arith;
    ends_are = e ∙ same_ends _ _ (λ w. sym (step_from_start U w (input U kind links inputs s 0 w) positive));
    in_units = units;
  }

  module _ {running : Enclosure} {j : ℕ} (r : Running U kind links inputs s running j) where
    -- the running interval after one input more
    pub running_next : j < inputs → {factor : Enclosure} → factor ≡ enclosure (input U kind links inputs s j)
        → {next : Enclosure} → next ≡ enclosure (λ w. step U w (end_in w running) (end_in w factor))
        → BothInUnits U next → Running U kind links inputs s next (j + 1)
    running_next l {factor} f e units = record {
      within = omega arith;
      ends_are = e ∙ same_ends _ _ next_end;
      in_units = units;
    }
      where
        next_end : (w : Direction)
            → step U w (end_in w running) (end_in w factor) ≡ after U kind links inputs s (j + 1) w
        next_end w = rw (
          r.ends_are,
          f,
          end_in_enclosure w (after U kind links inputs s j),
          end_in_enclosure w (input U kind links inputs s j),
          add-one j,
          zero-add j,
        ) refl

    -- what the gate answers
    pub fold_answer : inputs ≤ j → {answer : Enclosure}
        → answer ≡ enclosure (both_seen kind U (λ w. end_in w running))
        → answer ≡ enclosure (λ w. fold_end U w kind links inputs (stored_end w s))
    fold_answer l e =
        let all : j ≡ inputs = omega arith in
        e ∙ rw (r.ends_are, all) (same_ends _ _ answered_end)
      where
        answered_end : (w : Direction)
            → both_seen kind U (λ v. end_in v (enclosure (after U kind links inputs s inputs))) w
            ≡ fold_end U w kind links inputs (stored_end w s)
        answered_end w =
            rw (end_in_enclosure (turned kind w) (after U kind links inputs s inputs))
            (ap (λ v. seen kind U (folded U (turned kind w) (λ i. seen kind U (stored_end v s (linked links i))) 0 inputs))
            (turned_twice kind w))
