use Rattle.std.proofs.Common.{arith}
use Rattle.held_stores.proofs.HandIn.{inside_after}
use Rattle.held_stores.proofs.held.Held.hand_in_tree.Goals as goal

pub invariant_of-self : goal.invariant_of-self
invariant_of-self c =
    let before = c.args.self.now in
    let inside =
    inside_after _ _ _ _ _ _ c.hand_in-answer.ensures.value (before.tree_inside, before.sheet_inside)
    (λ fits. (omega arith, before.sheet_inside)) in
    record { tree_inside = inside.0; sheet_inside = inside.1 }
