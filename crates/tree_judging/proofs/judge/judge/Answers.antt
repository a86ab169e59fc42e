-- The judgement follows from what the parts answer.
use Rattle.std.proofs.lemmas.Result.{err_from_is_err_and}
use Rattle.tree_judging.proofs.JudgedParts.{all_accepted, header_long, header_refused, links_refused}
use Rattle.tree_judging.proofs.JudgedParts.{records_absent, records_refused, sized}
use Rattle.tree_judging.proofs.judge.judge.Goals as goal

pub returns-in_err-judge_header : goal.returns-in_err-judge_header
returns-in_err-judge_header c =
    let p = err_from_is_err_and c.from_residual.result c.from_residual.ensures.1 in
    rw (p.1, p.2) (header_refused _ _ c.judge_header.ensures _ (c.in_err-judge_header.was))

pub node_count-requires : goal.node_count-requires
node_count-requires c = header_long _ _ c.judge_header.ensures (c.in_ok-judge_header.was)

pub invariant_of-sized : goal.invariant_of-sized
invariant_of-sized c = record {
  sized = sized _ _ c.judge_header.ensures (c.in_ok-judge_header.was) _ c.node_count.ensures;
}

pub returns-in_err-counts : goal.returns-in_err-counts
returns-in_err-counts c =
    let p = err_from_is_err_and c.from_residual-in_err-counts.result c.from_residual-in_err-counts.ensures.1 in
    rw (p.1, p.2)
    (records_refused _ _ c.judge_header.ensures (c.in_ok-judge_header.was) _ c.judge_records.ensures _
    (c.in_err-counts.was))

pub judge_links-requires : goal.judge_links-requires
judge_links-requires c =
    records_absent _ _ c.judge_header.ensures (c.in_ok-judge_header.was) _ c.judge_records.ensures _
    (c.in_ok-counts.was)

pub returns-in_err-judge_links : goal.returns-in_err-judge_links
returns-in_err-judge_links c =
    let p = err_from_is_err_and c.from_residual-in_err-judge_links.result c.from_residual-in_err-judge_links.ensures.1
    in
    rw (p.1, p.2)
    (links_refused _ _ c.judge_header.ensures (c.in_ok-judge_header.was) _ c.judge_records.ensures _
    (c.in_ok-counts.was) _ c.judge_links.ensures _ (c.in_err-judge_links.was))

pub returns : goal.returns
returns c =
    all_accepted _ _ c.judge_header.ensures (c.in_ok-judge_header.was) _ c.judge_records.ensures _
    (c.in_ok-counts.was) _ c.judge_links.ensures (c.in_ok-judge_links.was)
