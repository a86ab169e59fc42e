-- The length or the refusal, and the store after, by the judgement and by the length of the store.
use Rattle.std.proofs.Common.{sym, ◌∙◌}
use Rattle.std.proofs.lemmas.Result.{err_from_is_err_and}
use Rattle.refusals.proofs.FirstFault.{accepted_absent, refused_found}
use Rattle.held_files.proofs.HandIn.{refused_file, refused_store, taken}
use Rattle.held_files.proofs.hand_in.take_in.Goals as goal

pub returns-in_err-judge : goal.returns-in_err-judge
returns-in_err-judge g c =
    let p = err_from_is_err_and c.from_residual.result c.from_residual.ensures.1 in
    let all =
    refused_file (g.F.HeldFile.fault c.args.file.now) c.args.file.now c.args.store.now _
    (refused_found _ _ _ (sym c.judge.ensures ∙ c.in_err-judge.was)) in
    record { value = rw (p.1, p.2) all.0; store_after = all.1 }

pub returns-then-store-file : goal.returns-then-store-file
returns-then-store-file g c =
    let all =
    refused_store (g.F.HeldFile.fault c.args.file.now) c.args.file.now c.args.store.now
    (accepted_absent _ _ _ (sym c.judge.ensures ∙ c.in_ok-judge.was)).0 _ c.at.ensures c.if-store-file.true in
    record { value = all.0; store_after = all.1 }

pub returns : goal.returns
returns g c =
    let copied = c.copy.ensures in
    let all =
    taken (g.F.HeldFile.fault c.args.file.now) c.args.file.now c.args.store.now
    (accepted_absent _ _ _ (sym c.judge.ensures ∙ c.in_ok-judge.was)).0 c.if-store-file.false _ copied.count
    c.copy.new.to copied.copied in
    record { value = all.0; store_after = all.1 }
