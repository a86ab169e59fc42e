-- The parts passed are written.
use Rattle.std.proofs.Common.{ℕ, ◌≡◌, List}
use Rattle.dual_files.specs.Writing.{EachWord}
use Rattle.dual_files.proofs.PartsTurn.{Writing}
use Rattle.dual_files.proofs.parts.write_with_parts.Given as goal

abbrev pub invariant-loop-i : goal.invariant-loop-i
invariant-loop-i g l =
    (parts : ℕ → List ℕ)
    → EachWord (goal.F-post g l.part) l.file l.count (λ i word. g.W.AsSlice.items word ≡ parts i)
    → Writing l.at l.size parts l.initial.buffer l.buffer l.i
