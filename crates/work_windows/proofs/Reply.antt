-- What a question at an hour comes to, with the buffer and the slices after it, by what the judging finds: one law for
-- each return.
use Prim.Native.Nat.{ℕ, ◌≤◌}
use mathlib.Core.Path.{◌≡◌, refl, sym, ap, subst, ◌∙◌}
use mathlib.Core.List.{List, ◌++◌}
use native.Mathlib.Omega.{arith}
use lib.ListN.{length, take, drop}
use lib.Seq.{length-take-le}
use borrow.Author.Tests.{leb-true}
use Rattle.theory.specs.Unit.{billion}
use Rattle.refusals.specs.FirstFault.{FirstFault, ◌or_else◌, first_of}
use Rattle.refusals.specs.declared.refusal.Refusal.{Refusal}
use Rattle.std.specs.Prelude.{Ok, Err}
use Rattle.refusals.proofs.FirstFault.{accepted_absent, first_of_absent, first_of_append, refused_found, unless_holds}
use Rattle.tree_file.specs.Format.{node_count}
use Rattle.tree_file.specs.Tallies.{event_count}
use Rattle.tree_judging.specs.declared.judgement.Counts.{Counts}
use Rattle.work_slices.specs.Slices.{Slices}
use Rattle.held_pair.specs.Standing.{held_tree, held_sheet, level_rules, standing_of}
use Rattle.monitor.specs.Question.{outcome_of, reply_of, slices_left}
use Rattle.monitor.specs.Promise.{PromisesKept}
use Rattle.held_files.specs.declared.state.State.{State}
use Rattle.std.specs.Prelude.{Result}
use Rattle.monitor.specs.declared.question.Report.{Report}
use Rattle.held_files.specs.declared.state.Reply.{Reply}
use Rattle.held_pair.proofs.Ready.{ReadyPair, ready_pair}
use Rattle.work_book.specs.BookRules.{book_fault}
use Rattle.hour_sheet.specs.Sheet.{written_sheet}
use Rattle.work_windows.specs.Question.{lent_rules, hour_rules, written_buffer, hour_outcome, buffer_left, hour_slices}
use Rattle.hour_sheet.specs.Writing.{Writable}
use Rattle.work_book.proofs.BookJudged.{unfaulted_well_formed}
use Rattle.hour_sheet.proofs.SheetWritten.{sheet_front}

module _ (state : State) (tree_store sheet_store book : List ℕ) (k n hour : ℕ) (buffer : List ℕ) (s : Slices) where
  -- the two files held, and the sheet of the hour
  abbrev tree : List ℕ
  tree = held_tree state tree_store

  abbrev sheet : List ℕ
  sheet = held_sheet state sheet_store

  abbrev written : List ℕ
  written = written_sheet sheet book hour

  -- what is promised of an outcome, of the buffer and of the slices then
  abbrev pub AllPromised : Result Report Refusal → List ℕ → Slices → Type 0
  AllPromised o after left =
      (o ≡ hour_outcome state tree_store sheet_store book k n hour buffer s)
      × ((after ≡ buffer_left state tree_store sheet_store book k n hour buffer s)
      × ((left ≡ hour_slices state tree_store sheet_store book k n hour buffer s)
      × PromisesKept billion o tree written k n left))

  -- the first fault: that of the level and the pair, or else of what is lent
  abbrev fault : FirstFault
  fault = first_of (hour_rules state tree_store sheet_store book k n hour buffer s)

  abbrev lent : FirstFault
  lent = first_of (lent_rules (event_count tree) (node_count tree) state.sheet_len book (length buffer) s)

  fault_is : (f : FirstFault) → first_of (level_rules state tree_store sheet_store k n) ≡ f → fault ≡ f or_else lent
  fault_is f e =
      first_of_append (level_rules state tree_store sheet_store k n)
      (lent_rules (event_count tree) (node_count tree) state.sheet_len book (length buffer) s)
      ∙ ap (λ (f : FirstFault). f or_else lent) e

  -- a refusal leaves the buffer and every slice as they were
  refused_all : (o : Result Report Refusal) (r : Refusal) → o ≡ Err r → fault ≡ Err r → AllPromised o buffer s
  unfolding hour_outcome buffer_left hour_slices
  refused_all o r q e = rw (q, e) (refl, (refl, (refl, tt)))

  module _ (found : Result Counts Refusal) (e : found ≡ standing_of state tree_store sheet_store k n) where
    -- refused by the judging: 13, 21 to 24
    pub refused_by_judging : (r : Refusal) → found ≡ Err r → (o : Result Report Refusal) → o ≡ Err r
        → AllPromised o buffer s
    unfolding standing_of
    refused_by_judging r q o p = refused_all o r p (fault_is (Err r) (refused_found _ _ r (sym e ∙ q)))

    module _ (counts : Counts) (q : found ≡ Ok counts) where
      -- what a pair that is ready is
      ready : ReadyPair state tree_store sheet_store k n counts
      ready = ready_pair state tree_store sheet_store k n counts (sym e ∙ q)

      sheet_length : length sheet ≡ state.sheet_len
      sheet_length = length-take-le state.sheet_len sheet_store ready.sheet_inside

      module _ (found_lent : FirstFault)
          (le : found_lent ≡ first_of (lent_rules counts.events counts.nodes state.sheet_len book
          (length buffer) s)) where
        -- what is lent is judged by the tree's own counts
        lent_is : (f : FirstFault) → found_lent ≡ f → lent ≡ f
        lent_is f t =
            ap (λ (c : Counts).
            first_of (lent_rules c.events c.nodes state.sheet_len book (length buffer) s))
            (sym ready.counts_is)
            ∙ sym le ∙ t

        ready_fault : (f : FirstFault) → found_lent ≡ f → fault ≡ f
        unfolding standing_of
        ready_fault f t = fault_is (Ok tt) (accepted_absent _ _ counts (sym e ∙ q)).0 ∙ lent_is f t

        -- refused by 29, 30 or 25
        pub refused_by_lent : (r : Refusal) → found_lent ≡ Err r → (o : Result Report Refusal) → o ≡ Err r
            → AllPromised o buffer s
        refused_by_lent r t o p = refused_all o r p (ready_fault (Err r) t)

        module _ (t : found_lent ≡ Ok tt) where
          -- what writing the hour's sheet asks
          pub writable : Writable sheet book buffer
          writable =
              let absent =
              first_of_absent (lent_rules (event_count tree) _ state.sheet_len book _ s) (lent_is (Ok tt) t) in
              let formed = unfaulted_well_formed (event_count tree) book absent.0 in
              let room : state.sheet_len ≤ length buffer = leb-true _ _ (unless_holds _ _ _ absent.1.0) in
              record {
                length_value = ready.pair.sheet_well_formed.header.length_value;
                event_below = λ i l. rw ready.pair.same_events (formed.event_below i l);
                room = omega (arith, room, sheet_length);
              }

          -- the buffer as it is written
          buffer_is : (after : List ℕ) → after ≡ written ++ drop (length sheet) buffer
              → after ≡ written_buffer state tree_store sheet_store book k n hour buffer s
          buffer_is after w = w ∙ ap (λ (m : ℕ). written ++ drop m buffer) sheet_length

          -- its front is the sheet of the hour
          front_is : (after : List ℕ) → after ≡ written ++ drop (length sheet) buffer → held_sheet state after ≡ written
          front_is after w =
              ap (take state.sheet_len) w ∙ sheet_front sheet writable.length_value _ _ sheet_length _

          -- answered: what the question gives for the buffer
          pub answered_all : (after : List ℕ) → after ≡ written ++ drop (length sheet) buffer → (reply : Reply Report)
              → reply ≡ reply_of state tree_store after k n s → (left : Slices)
              → left ≡ slices_left state tree_store after k n s
              → PromisesKept billion reply.outcome tree (held_sheet state after) k n left
              → AllPromised reply.outcome after left
          unfolding hour_outcome buffer_left hour_slices
          answered_all after w reply er left es kept =
              rw (ready_fault (Ok tt) t) (
                ap (λ (x : Reply Report). x.outcome) er ∙ ap (λ (b : List ℕ). outcome_of state tree_store b k n s) (buffer_is after w),
                (
                  buffer_is after w,
                  (
                    es ∙ ap (λ (b : List ℕ). slices_left state tree_store b k n s) (buffer_is after w),
                    subst (λ (x : List ℕ). PromisesKept billion reply.outcome tree x k n left)
                        (front_is after w) kept,
                  ),
                ),
              )

-- What is lent has the fault of the book, where that has one: 29.
pub lent_book : (E N held : ℕ) (book : List ℕ) (room : ℕ) (s : Slices) (found : FirstFault)
    → found ≡ book_fault E book → (r : Refusal) → found ≡ Err r
    → ◌≡◌ {A = FirstFault} (Err r) (first_of (lent_rules E N held book room s))
lent_book E N held book room s found judged r e = rw (sym judged ∙ e)
