-- The file with the dual records in place of its own is the dual one.
use Rattle.std.proofs.Common.{ap, length, drop, ◌++◌, ◌∙◌}
use Rattle.fields.specs.Fields.{with_parts}
use Rattle.dual_files.specs.Tree.{dual_record, dual_tree}
use Rattle.dual_files.proofs.tree.write_tree.Goals as goal

pub returns : goal.returns
unfolding dual_tree
returns c =
    let tree = c.args.tree.now in
    c.write_with_parts.ensures (dual_record tree) (λ shown same i l word given. given ∙ ap (λ file. dual_record file i) same)
    ∙ ap (λ n. with_parts 9 5 (dual_record tree) n tree ++ drop (length tree) c.args.buffer.now) c.requires.nodes_is
