use Rattle.std.proofs.Common.{◌≡◌, ◌<◌, take}
use Rattle.std.specs.List.{AllZip}
use Rattle.printed.specs.Checksum.{sum_of, prime}
use Rattle.printed.proofs.checksum.checksum.Given as goal

-- The sum so far is that of the numbers of the places so far.
abbrev pub invariant-loop-place : goal.invariant-loop-place
invariant-loop-place g l =
    (l.sum < prime) × ((numbers : _) × AllZip g.T.Into.converts (take l.place-index l.places) numbers × (l.sum ≡ sum_of numbers))
