-- What a loop that stops at the first fault of a row needs: one thing more is passed, or its fault is the first.
use Rattle.refusals.proofs.FirstFault.{among_none, passed_more, passed_found}

pub ruleset row = (among_none, passed_more, passed_found)
