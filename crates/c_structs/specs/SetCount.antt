-- What counting and listing minimal cut sets answer C, and what a listing leaves in the lent slice.
use Rattle.std.specs.Prelude.{ℕ, ◌≡◌, List, Result, Ok, Err}
use Rattle.refusals.specs.declared.refusal.Refusal.{Refusal as Reason}
use Rattle.held_files.specs.declared.state.State.{State as Held}
use Rattle.cut_sets.specs.Listed.{SetsLeft}
use Rattle.held_files.specs.declared.state.Reply.{Reply}
use Rattle.c_structs.specs.State.{state_of}
use Rattle.c_structs.specs.Refusal.{not_refused, refused_by}
use Rattle.c_structs.specs.declared.set_count.SetCount.{SetCount}
use Rattle.c_structs.specs.declared.set_count.Listing.{Listing}

-- The number of minimal cut sets, or the refusal with 0.
abbrev pub count_for : Result ℕ Reason → SetCount
count_for (Ok n) = record { refusal = not_refused; count = n }
count_for (Err reason) = record { refusal = refused_by reason; count = 0 }

-- The state after the listing, beside what a count of that outcome answers.
abbrev pub listing_by : Held → Result ℕ Reason → Listing
listing_by held outcome =
    record {
      state = state_of held;
      refusal = (count_for outcome).refusal;
      count = (count_for outcome).count;
    }

-- The listing's answer for C.
abbrev pub listing_for : Reply ℕ → Listing
listing_for reply = listing_by reply.state reply.outcome

-- The lent slice after a listing, by the number that C reads in the answer.
pub record SliceLeft (listing : Listing) (tree before after : List ℕ) : Type 0 where
  -- number 0: the sets of the held tree, as many as counted, and the places behind them as they were
  pub listed : listing.refusal.number ≡ 0 → SetsLeft (Ok listing.count) tree before after
  -- any other number: every place as it was
  pub unchanged : (listing.refusal.number ≡ 0 → ⊥) → after ≡ before
