-- The set of an event, and what an input's set is of an AND's and of an OR's.
use Rattle.std.proofs.Common.{ap, ◌∙◌, sym, arith}
use native.Mathlib.Nat.{mod-lt}
use Rattle.node_sets.proofs.Bits.{members_none, members_one}
use Rattle.node_sets.proofs.Families.{event_few, event_sets}
use Rattle.node_sets.proofs.GateInputs.{first_sets, its_rank, own_few, own_sets, some_sets}
use Rattle.node_sets.proofs.Parts.{later_alternative, later_below, quotient_below, union_next}
use Rattle.node_sets.proofs.counted.+sets.Goals as goal

pub CountedNode::set-event_alone-requires : goal.CountedNode::set-event_alone-requires
CountedNode::set-event_alone-requires t c = event_few c.args.self.countable.small (sym c.node_at.ensures ∙ c.in-Event.is)

pub CountedNode::set-returns-in-Event : goal.CountedNode::set-returns-in-Event
CountedNode::set-returns-in-Event t c =
    rw (c.event_alone.ensures, event_sets c.args.self.countable.small.well_formed c.args.self.countable.small.inside (sym c.node_at.ensures ∙ c.in-Event.is))
    (members_one c.in-Event.event)

pub CountedGate::union-overflow_add-j-end : goal.CountedGate::union-overflow_add-j-end
CountedGate::union-overflow_add-j-end t c = omega (arith, own_few c.args.self c.requires.kind)

pub CountedGate::union-loop-j-init : goal.CountedGate::union-loop-j-init
CountedGate::union-loop-j-init t c = record {
  below = rw (own_sets c.args.self c.requires.kind) at c.requires.below;
  same = λ y. rw (own_sets c.args.self c.requires.kind, members_none y);
}

pub CountedGate::union-set-set-requires : goal.CountedGate::union-set-set-requires
CountedGate::union-set-set-requires t c = (
  omega (arith, its_rank c.args.self c.requires.kind (c.loop-j.auto.j, c.loop-j-test.true) c.input-input.ensures),
  rw c.count-count.ensures (mod-lt _ (some_sets c.input-input.result)),
)

pub CountedGate::union-loop-j-preserved : goal.CountedGate::union-loop-j-preserved
CountedGate::union-loop-j-preserved t c =
    let own = first_sets c.args.self c.requires.kind (c.loop-j.auto.j, c.loop-j-test.true) c.input-input.ensures in
    let joined = rw c.count-count.ensures at c.set-set.ensures in
    rw c.count-count.ensures (record {
      below = quotient_below own _ (some_sets c.input-input.result) c.loop-j.invariant.below;
      same = λ y. c.loop-j.invariant.same y ∙ union_next own c.loop-j.rest c.loop-j.set _ joined y;
    })

pub CountedGate::alternative-overflow_add-j-end : goal.CountedGate::alternative-overflow_add-j-end
CountedGate::alternative-overflow_add-j-end t c = omega (arith, own_few c.args.self c.requires.kind)

pub CountedGate::alternative-loop-j-init : goal.CountedGate::alternative-loop-j-init
CountedGate::alternative-loop-j-init t c = record {
  below = rw (own_sets c.args.self c.requires.kind) at c.requires.below;
  same = ap (λ f. f.set c.args.r) (own_sets c.args.self c.requires.kind);
}

pub CountedGate::alternative-set-requires : goal.CountedGate::alternative-set-requires
CountedGate::alternative-set-requires t c = (
  omega (arith, its_rank c.args.self c.requires.kind (c.loop-j.auto.j, c.loop-j-test.true) c.input-input.ensures),
  rw c.count-count.ensures at c.if-rest-count.true,
)

pub CountedGate::alternative-loop-j-preserved : goal.CountedGate::alternative-loop-j-preserved
CountedGate::alternative-loop-j-preserved t c =
    let own = first_sets c.args.self c.requires.kind (c.loop-j.auto.j, c.loop-j-test.true) c.input-input.ensures in
    let past = rw c.count-count.ensures at c.if-rest-count.false in
    rw c.count-count.ensures (record {
      below = later_below own _ past c.loop-j.invariant.below;
      same = c.loop-j.invariant.same ∙ later_alternative own _ past;
    })
