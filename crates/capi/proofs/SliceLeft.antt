-- The lent slice after a listing for C, from what cut_sets says of its outcome.
use Prim.Native.Nat.{ℕ}
use mathlib.Core.Path.{refl}
use mathlib.Core.List.{List}
use Rattle.std.specs.Prelude.{Result, Ok, Err}
use Rattle.refusals.specs.declared.refusal.Refusal.{Refusal as Reason}
use Rattle.refusals.proofs.Numbered.{numbered}
use Rattle.held_files.specs.declared.state.State.{State as Held}
use Rattle.cut_sets.specs.Listed.{SetsLeft}
use Rattle.c_structs.specs.SetCount.{listing_by, SliceLeft}

-- An answer with number 0 is that of a listing that was made, any other that of a refused one.
pub left_by : (held : Held) (outcome : Result ℕ Reason) (tree before after : List ℕ)
    → SetsLeft outcome tree before after → SliceLeft (listing_by held outcome) tree before after
left_by held (Ok n) tree before after left =
    record { listed = λ z. left; unchanged = λ refused. absurd (refused refl) }
left_by held (Err reason) tree before after left =
    record { listed = λ z. absurd (numbered reason.rule z); unchanged = λ refused. left }
