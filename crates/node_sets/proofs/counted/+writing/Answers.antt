-- The set of an event, and those of a gate input by input.
use Rattle.std.proofs.Common.{◌≡◌, refl, sym, ◌∙◌, arith, rules, length-drop, length-set, length-take}
use native.Mathlib.Nat.{le_trans}
use Rattle.node_sets.proofs.LinkedSets.{Links, links_end, none_linked}
use Rattle.node_sets.proofs.Bits.{members_none, members_one}
use Rattle.node_sets.proofs.Families.{event_few, event_sets}
use Rattle.node_sets.proofs.GateInputs.{its_rank, joined_fits, joined_is, last_sets, own_few, own_sets, some_sets}
use Rattle.node_sets.proofs.Written.{alone_written, behind_written, joined_written, single_written, unions_written}
use Rattle.node_sets.proofs.counted.+writing.Goals as goal

pub CountedNode::write_sets-event_alone-requires : goal.CountedNode::write_sets-event_alone-requires
CountedNode::write_sets-event_alone-requires t c = event_few c.args.self.countable.small (sym c.node_at.ensures ∙ c.in-Event.is)

pub CountedNode::write_sets-returns-in-Event : goal.CountedNode::write_sets-returns-in-Event
CountedNode::write_sets-returns-in-Event t c =
    let some = some_sets c.args.self in
    rw (event_sets c.args.self.countable.small.well_formed c.args.self.countable.small.inside (sym c.node_at.ensures ∙ c.in-Event.is), c.event_alone.ensures)
    (single_written c.args.sets.now _ refl (members_one c.in-Event.event) (omega arith))

pub CountedGate::write_alternatives-overflow_add-j-end : goal.CountedGate::write_alternatives-overflow_add-j-end
CountedGate::write_alternatives-overflow_add-j-end t c = omega (arith, own_few c.args.self c.requires.kind)

pub CountedGate::write_alternatives-write_sets-requires : goal.CountedGate::write_alternatives-write_sets-requires
CountedGate::write_alternatives-write_sets-requires t c =
    let own : Links c.args.self.gate c.loop-j.j = (c.loop-j.auto.j, c.loop-j-test.true) in
    let fits = joined_fits c.args.self c.requires.kind own c.input-input.ensures c.loop-j.invariant.total_is in (
      omega (arith, its_rank c.args.self c.requires.kind own c.input-input.ensures),
      simp (length-take, length-drop) (omega (arith, fits)),
    )

pub CountedGate::write_alternatives-overflow_add-total : goal.CountedGate::write_alternatives-overflow_add-total
CountedGate::write_alternatives-overflow_add-total t c =
    let own : Links c.args.self.gate c.loop-j.j = (c.loop-j.auto.j, c.loop-j-test.true) in
    let fits = joined_fits c.args.self c.requires.kind own c.input-input.ensures c.loop-j.invariant.total_is in
    search rules

pub CountedGate::write_alternatives-loop-j-preserved : goal.CountedGate::write_alternatives-loop-j-preserved
CountedGate::write_alternatives-loop-j-preserved t c =
    let own : Links c.args.self.gate c.loop-j.j = (c.loop-j.auto.j, c.loop-j-test.true) in
    let done = c.loop-j.invariant in
    let fits = le_trans (joined_fits c.args.self c.requires.kind own c.input-input.ensures done.total_is) c.requires.room in
    record {
      total_is = rw c.count.ensures (joined_is c.args.self c.requires.kind own c.input-input.ensures done.total_is);
      room = rw c.count.ensures fits;
      written = rw (last_sets c.args.self c.requires.kind own c.input-input.ensures)
          (behind_written _ _ done.written c.loop-j.auto.sets done.total_is fits c.write_sets.ensures
          c.write_sets.auto.sets);
    }

pub CountedGate::write_alternatives-returns : goal.CountedGate::write_alternatives-returns
CountedGate::write_alternatives-returns t c =
    let end : c.loop-j.j ≡ links_end c.args.self.gate = omega arith in
    rw (own_sets c.args.self c.requires.kind, ← end) c.loop-j.invariant.written

pub CountedGate::write_unions-overflow_add-j-end : goal.CountedGate::write_unions-overflow_add-j-end
CountedGate::write_unions-overflow_add-j-end t c = omega (arith, own_few c.args.self c.requires.kind)

pub CountedGate::write_unions-loop-j-init : goal.CountedGate::write_unions-loop-j-init
CountedGate::write_unions-loop-j-init t c =
    let some = some_sets c.args.self.node in
    rw (none_linked c.args.self.node.tree.now.file.now c.args.self.gate.first c.args.self.gate.first (omega arith))
    (record { total_is = refl; room = omega arith; written = single_written _ 0 refl members_none (omega arith) })

pub CountedGate::write_unions-write_joined-requires : goal.CountedGate::write_unions-write_joined-requires
CountedGate::write_unions-write_joined-requires t c =
    let own : Links c.args.self.gate c.loop-j.j = (c.loop-j.auto.j, c.loop-j-test.true) in
    let fits = joined_fits c.args.self c.requires.kind own c.input-input.ensures c.loop-j.invariant.total_is in
    let long = c.loop-j.auto.sets ∙ length-set c.args.sets.now 0 0 in
    (omega (arith, its_rank c.args.self c.requires.kind own c.input-input.ensures), omega (arith, fits))

pub CountedGate::write_unions-overflow_mul-total : goal.CountedGate::write_unions-overflow_mul-total
CountedGate::write_unions-overflow_mul-total t c =
    let own : Links c.args.self.gate c.loop-j.j = (c.loop-j.auto.j, c.loop-j-test.true) in
    let fits = joined_fits c.args.self c.requires.kind own c.input-input.ensures c.loop-j.invariant.total_is in
    rw c.count.ensures (search rules)

pub CountedGate::write_unions-loop-j-preserved : goal.CountedGate::write_unions-loop-j-preserved
CountedGate::write_unions-loop-j-preserved t c =
    let own : Links c.args.self.gate c.loop-j.j = (c.loop-j.auto.j, c.loop-j-test.true) in
    let done = c.loop-j.invariant in
    let fits = le_trans (joined_fits c.args.self c.requires.kind own c.input-input.ensures done.total_is) c.requires.room in
    let long = c.loop-j.auto.sets ∙ length-set c.args.sets.now 0 0 in
    record {
      total_is = rw c.count.ensures (joined_is c.args.self c.requires.kind own c.input-input.ensures done.total_is);
      room = rw c.count.ensures fits;
      written = rw (last_sets c.args.self c.requires.kind own c.input-input.ensures)
          (unions_written _ _ done.written long done.total_is c.write_joined.ensures (some_sets c.input-input.result));
    }

pub CountedGate::write_unions-returns : goal.CountedGate::write_unions-returns
CountedGate::write_unions-returns t c =
    let end : c.loop-j.j ≡ links_end c.args.self.gate = omega arith in
    rw (own_sets c.args.self c.requires.kind, ← end) c.loop-j.invariant.written

pub CountedNode::write_joined-returns-then-not-is_empty : goal.CountedNode::write_joined-returns-then-not-is_empty
CountedNode::write_joined-returns-then-not-is_empty t c =
    rw c.if-m-ne1.false
    (joined_written c.write_sets.ensures (rw c.count.ensures at c.join_block.ensures) c.write_sets.auto.sets)

pub CountedNode::write_joined-returns-else-not-is_empty : goal.CountedNode::write_joined-returns-else-not-is_empty
CountedNode::write_joined-returns-else-not-is_empty t c = rw c.if-m-ne1.false (alone_written c.write_sets.ensures (search rules))
