-- Somebody spoke where a byte of the terms is not 0.
use Rattle.std.proofs.Common.{rules, tests, ◌∙◌, arith, ◌≡◌, ◌+◌, ◌-◌, ℕ, not, nat_eq}
use Rattle.std.proofs.lemmas.Iterator.{YieldsList-from_slice}
use Rattle.std.proofs.lemmas.Iterator.Search.{any_from_yields_List}
use Rattle.sheet_judging.proofs.TermLaws.{spoken_bytes}
use Rattle.sheet_judging.proofs.opinions.somebody_spoke.Goals as goal

pub returns : goal.returns
returns c =
    let sixteen : c.args.place.at + 1 + 16 - (c.args.place.at + 1) ≡ 16 = omega arith in
    any_from_yields_List (λ (t : ℕ). not (nat_eq t 0)) _ _ c.any.result c.any.ensures.ran
    (YieldsList-from_slice _ c.iter.ensures.rest) (λ x b q k. search (rules, tests))
    ∙ rw sixteen (spoken_bytes _ _ 16 (omega arith))
