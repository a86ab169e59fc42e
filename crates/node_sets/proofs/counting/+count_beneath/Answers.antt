-- One input more, and what is counted at the end.
use native.Mathlib.Nat.{lt_of_le_of_lt}
use Rattle.std.proofs.Common.{◌+◌, ap, sym, ◌∙◌, ◌≡◌, arith, below_more}
use Rattle.theory.specs.MinimalCutSets.{Family}
use Rattle.node_sets.proofs.LinkedSets.{links_end}
use Rattle.node_sets.proofs.Families.{count_bound, event_owns, event_sets, gate_owned, gate_owns, gate_sets}
use Rattle.node_sets.proofs.Families.{input_lower, input_small, link_inside, links_few}
use Rattle.node_sets.proofs.Growth.{part_fits, part_more}
use Rattle.node_sets.proofs.CountTurn.{counted}
use Rattle.node_sets.proofs.counting.+count_beneath.Goals as goal
use Rattle.node_sets.proofs.counting.+count_beneath.Goals.{in-Event, in-Gate+else-loop-j-test}

pub overflow_add-j-end : goal.overflow_add-j-end
overflow_add-j-end t c = omega (arith, links_few c.requires.small (sym c.node_at.ensures ∙ c.in-Gate.is))

pub input_at-requires : goal.input_at-requires
input_at-requires t c =
    let gate = sym c.node_at.ensures ∙ c.in-Gate.is in
    let owns = gate_owns c.requires.small.well_formed c.requires.small.inside gate c.loop-j.j (c.loop-j.auto.j, c.loop-j-test.true) in
    (c.requires.small.well_formed, link_inside c.requires.small _ owns)

pub count_beneath-count-requires : goal.count_beneath-count-requires
count_beneath-count-requires t c =
    let gate = sym c.node_at.ensures ∙ c.in-Gate.is in
    let owns = gate_owns c.requires.small.well_formed c.requires.small.inside gate c.loop-j.j (c.loop-j.auto.j, c.loop-j-test.true) in (
      omega (arith, rw (← c.input_at.ensures.value) at (input_lower c.requires.small.well_formed c.requires.small.inside _ owns)),
      record {
        small = rw c.input_at.ensures.value (input_small c.requires.small _ owns);
        long = rw c.loop-j.auto.counts c.requires.long;
      },
    )

pub joined-total-requires : goal.joined-total-requires
joined-total-requires t c =
    let gate = sym c.node_at.ensures ∙ c.in-Gate.is in
    let own = rw c.input_at.ensures.value at c.count_beneath-count.ensures.value in
    rw (part_more _ c.args.tree.now _ c.loop-j.j c.loop-j.auto.j c.loop-j.invariant.total_is own)
    (lt_of_le_of_lt (part_fits c.requires.small gate (c.loop-j.j + 1) (omega arith) (omega arith))
    (count_bound c.requires.small))

pub loop-j-preserved : goal.loop-j-preserved
loop-j-preserved t c =
    let own = rw c.input_at.ensures.value at c.count_beneath-count.ensures.value in
    record {
      total_is = c.joined-total.ensures
          ∙ part_more _ c.args.tree.now _ c.loop-j.j c.loop-j.auto.j c.loop-j.invariant.total_is own;
      right = below_more _ c.loop-j.j
          (λ n l h m b. c.count_beneath-count.ensures.counted_beneath.kept m (c.loop-j.invariant.right n l h m b))
          (λ h. rw c.input_at.ensures.value at c.count_beneath-count.ensures.counted_beneath.right);
      kept = λ m h. c.count_beneath-count.ensures.counted_beneath.kept m (c.loop-j.invariant.kept m h);
    }

pub returns : goal.returns
returns t c =
    elim c.match-node_at.branch [
      | in-Event w ↦
          let event = sym c.node_at.ensures ∙ w.in-Event.is in
          let own = w.count-is ∙ sym (ap (λ (f : Family). f.count) (event_sets c.requires.small.well_formed c.requires.small.inside event)) in
          record {
            value = own;
            counted_beneath = counted _ c.requires c.match-node_at.auto.counts
                (λ j o. absurd (event_owns _ _ _ j event o)) (λ m h. rw w.counts-is h) _ own;
          }
      | in-Gate+else-loop-j-test w ↦
          let gate = sym c.node_at.ensures ∙ w.in-Gate.is in
          let end : w.loop-j.j ≡ links_end w.in-Gate.gate = omega arith in
          let whole = rw end at w.loop-j.invariant.total_is in
          let own = w.count-is ∙ whole ∙ sym (ap (λ (f : Family). f.count) (gate_sets c.requires.small.well_formed c.requires.small.inside gate)) in
          let owned = gate_owned c.requires.small.well_formed c.requires.small.inside gate in
          record {
            value = own;
            counted_beneath = counted _ c.requires c.match-node_at.auto.counts
                (λ j o. rw w.counts-is (w.loop-j.invariant.right j (omega (arith, owned j o)) (owned j o).0))
                (λ m h. rw w.counts-is (w.loop-j.invariant.kept m h)) _ own;
          }
    ]
