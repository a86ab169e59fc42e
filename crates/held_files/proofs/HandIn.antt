-- What taking in a file answers and leaves in its store, by the fault of the file and the length of the store, and what
-- a hand-in answers then.
use Prim.Native.Nat.{ℕ, ◌≤◌, ◌<◌}
use mathlib.Core.Path.{◌≡◌, refl, sym, ◌∙◌}
use mathlib.Core.List.{List, ◌++◌}
use lib.ListN.{length, take, drop}
use lib.Seq.{take-length}
use borrow.Author.Tests.{le-leb, lt-leb}
use Rattle.std.specs.Prelude.{Result, Ok, Err}
use Rattle.refusals.specs.FirstFault.{FirstFault, judged_by}
use Rattle.refusals.specs.Order.{refusal}
use Rattle.refusals.specs.declared.rule.Rule.TheVariants.{ShortStore}
use Rattle.refusals.specs.declared.refusal.Refusal.{Refusal}
use Rattle.refusals.proofs.FirstFault.{accepted_absent, refused_found}
use Rattle.held_files.specs.declared.state.State.{State}
use Rattle.held_files.specs.HandIn.{hand_in_fault, handed_answer, handed_store}

module _ (fault : FirstFault) (file store : List ℕ) where
  -- what is promised of the file's length or the refusal, and of the store then
  abbrev pub Taken : Result ℕ Refusal → List ℕ → Type 0
  Taken result left =
      (result ≡ judged_by (hand_in_fault fault file store) (length file)) × (left ≡ handed_store fault file store)

  -- refused by its own fault
  pub refused_file : (r : Refusal) → fault ≡ Err r → Taken (Err r) store
  unfolding handed_store
  refused_file r e = rw e (refl, refl)

  module _ (e : fault ≡ Ok tt) where
    -- refused by 20
    pub refused_store : (q : Refusal) → q ≡ refusal ShortStore 0 → length store < length file → Taken (Err q) store
    unfolding handed_store
    refused_store q qe l = rw (qe, e, lt-leb (length file) (length store) l) (refl, refl)

    -- taken in: what was copied is the file at the front of its store
    pub taken : length file ≤ length store → (count : ℕ) → count ≡ length file
        → (left : List ℕ) → left ≡ take (length file) file ++ drop (length file) store → Taken (Ok count) left
    unfolding handed_store
    taken l count ce left c = rw (ce, e, le-leb (length file) (length store) l) (refl, rw take-length at c)

  module _ (before : State) (holding : ℕ → State) (r : Result ℕ Refusal)
      (e : r ≡ judged_by (hand_in_fault fault file store) (length file)) where
    -- the answer of a hand-in whose file is refused
    pub answered_refused : (q : Refusal) → r ≡ Err q
        → record { state = before; outcome = Err q }
        ≡ handed_answer fault file store before (holding (length file))
    unfolding handed_answer
    answered_refused q w =
        let found : hand_in_fault fault file store ≡ Err q = refused_found _ _ q (sym e ∙ w) in
        rw found

    -- and of one whose file is taken in
    pub answered_taken : (n : ℕ) → r ≡ Ok n
        → record { state = holding n; outcome = Ok tt }
        ≡ handed_answer fault file store before (holding (length file))
    unfolding handed_answer
    answered_taken n w =
        let own = accepted_absent (hand_in_fault fault file store) (length file) n (sym e ∙ w) in
        rw (own.0, own.1)
