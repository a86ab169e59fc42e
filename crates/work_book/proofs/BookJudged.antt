-- The judging of a book: what a fault or none means.
use Prim.Native.Nat.{ℕ, suc, ◌*◌, ◌%◌, ◌≤◌, ◌<◌}
use mathlib.Core.Path.{◌≡◌, refl, sym, ◌∙◌}
use mathlib.Core.Bool.{Bool, true, false, true≢false, and-eq-true_iff, and-false}
use mathlib.Core.Logic.{◌⊎◌, inl, inr, ⊎_elim}
use mathlib.Core.List.{List, [], ◌∷◌}
use native.Mathlib.Omega.{arith}
use lib.ListN.{length}
use lib.Dec.{leb, ltb, eqb}
use borrow.Author.Tests.{leb-true, leb-false, le-leb, lt-leb, ltb-true, ltb-false, lt-ltb, le-ltb, eqb-true, eqb-false}
use borrow.Author.Tests.{eq-eqb, ne_eqb}
use Rattle.refusals.specs.FirstFault.{FirstFault, unless, ◌or_else◌, first_of, first_among}
use Rattle.refusals.specs.Order.{stage_of, by_place, Finds}
use Rattle.refusals.specs.declared.rule.Rule.TheVariants.{WrongBook}
use Rattle.refusals.specs.declared.refusal.Refusal.{Refusal}
use Rattle.std.specs.Prelude.{Ok}
use Rattle.refusals.proofs.FirstFault.{AllAbsent, first_of_absent, among_each, among_absent}
use Rattle.refusals.proofs.FirstFault.{or_else_absent, unless_holds}
use Rattle.refusals.proofs.Finds.{Case, Among, Inside, behind, inside_case, finds_same, finds_unless, finds_either}
use Rattle.refusals.proofs.Finds.{finds_last, finds_rule, finds_last_rule, finds_rows}
use Rattle.work_book.specs.Book.{window_length, most_book, window_count, event_place, end_place, window_event}
use Rattle.work_book.specs.Book.{first_hour, end_hour}
use Rattle.work_book.specs.BookRules.{length_rule, window_rules, window_fault, book_rules, book_fault}
use Rattle.work_book.specs.WellFormed.{RightLength, WellFormed, Breaks, wrong_length, wrong_event, wrong_end}

-- The rule of the length.
right_says : (n : ℕ) → length_rule n ≡ true → RightLength n
right_says n e =
    let both = (and-eq-true_iff (leb n most_book) (eqb (n % window_length) 0)).0 e in
    record { most = leb-true n most_book both.0; whole = eqb-true (n % window_length) 0 both.1 }

right_shows : (n : ℕ) → RightLength n → length_rule n ≡ true
right_shows n r = rw (le-leb n most_book r.most, eq-eqb (n % window_length) 0 r.whole)

wrong_says : (n : ℕ) → length_rule n ≡ false → (most_book < n) ⊎ (n % window_length ≡ 0 → ⊥)
wrong_says n e = go (leb n most_book) refl
  where
    go : (b : Bool) → leb n most_book ≡ b → (most_book < n) ⊎ (n % window_length ≡ 0 → ⊥)
    go false q = inl (leb-false n most_book q)
    go true q = inr (eqb-false (n % window_length) 0 (rw q at e))

wrong_shows : (n : ℕ) → (most_book < n) ⊎ (n % window_length ≡ 0 → ⊥) → length_rule n ≡ false
wrong_shows n (inl l) = rw (lt-leb n most_book l)
wrong_shows n (inr d) = rw (ne_eqb (n % window_length) 0 d) (and-false (leb n most_book))

module _ (E : ℕ) (book : List ℕ) where
  -- a book without a fault is well formed
  pub unfaulted_well_formed : book_fault E book ≡ Ok tt → WellFormed E book
  unfolding book_fault
  unfaulted_well_formed e =
      let absent = first_of_absent (book_rules E book) e in
      let kept : (i : ℕ) → i < window_count book → AllAbsent (window_rules E book i) =
      λ i l. first_of_absent (window_rules E book i) (among_each (window_fault E book) _ absent.1.0 i l) in
      record {
        right_length = right_says (length book) (unless_holds _ _ _ absent.0);
        event_below = λ i l. ltb-true _ _ (unless_holds _ _ _ (kept i l).0);
        end_after = λ i l. ltb-true _ _ (unless_holds _ _ _ (kept i l).1.0);
      }

  -- a well-formed one has none
  pub well_formed_unfaulted : WellFormed E book → book_fault E book ≡ Ok tt
  unfolding book_fault
  well_formed_unfaulted w =
      let each : (i : ℕ) → i < window_count book → window_fault E book i ≡ Ok tt =
      λ i l. rw (lt-ltb _ _ (w.event_below i l), lt-ltb _ _ (w.end_after i l)) in
      rw (
        right_shows (length book) w.right_length,
        among_absent (window_fault E book) (window_count book) each,
      )

  -- the rules of a window, and of all windows
  abbrev Event : ℕ → Refusal → Type 0
  Event i = Case (RightLength (length book) × (E ≤ window_event book i)) WrongBook (event_place i)

  abbrev End : ℕ → Refusal → Type 0
  End i = Case (RightLength (length book) × (end_hour book i ≤ first_hour book i)) WrongBook (end_place i)

  abbrev Window : ℕ → Refusal → Type 0
  Window i q = Event i q ⊎ End i q

  abbrev Length : Refusal → Type 0
  Length = Case ((most_book < length book) ⊎ (length book % window_length ≡ 0 → ⊥)) WrongBook (length book)

  -- a window's refusals lie inside it
  window_inside : (i : ℕ) (q : Refusal) → Window i q
      → Inside (stage_of WrongBook) (window_length * i) (window_length * suc i) q
  window_inside i q = ⊎_elim (inside_case (omega arith) (omega arith) q) (inside_case (omega arith) (omega arith) q)

  -- the event before the end
  finds_window : RightLength (length book) → (i : ℕ) → Finds (Window i) (window_fault E book i)
  finds_window right i =
      finds_rule (ltb (window_event book i) E) WrongBook (event_place i) _
      (λ e. (right, ltb-false _ _ e)) (λ b. le-ltb _ _ b.1) _
      (λ e.
      finds_last_rule (ltb (first_hour book i) (end_hour book i)) WrongBook (end_place i) _
      (λ e. (right, ltb-false _ _ e)) (λ b. le-ltb _ _ b.1))
      (behind (by_place refl (omega arith)))

  finds_windows : RightLength (length book)
      → Finds (Among Window (window_count book)) (first_among (window_fault E book) (window_count book))
  finds_windows right =
      finds_rows (stage_of WrongBook) (λ i. window_length * i) (λ i. window_length * suc i) (λ i j l. omega arith)
      (window_fault E book) Window (window_count book) (λ i l. window_inside i) (λ i l. finds_window right i)

  -- a book of a wrong length has no windows
  none_in_wrong : (q : Refusal) → Among Window (window_count book) q → length_rule (length book) ≡ true
  none_in_wrong q a = ⊎_elim (λ b. right_shows _ b.0.0) (λ b. right_shows _ b.0.0) a.1.1

  breaks_says : (q : Refusal) → Length q ⊎ Among Window (window_count book) q → Breaks E book q
  breaks_says q (inl b) = wrong_length b.0 b.1
  breaks_says q (inr (i, (l, inl b))) = wrong_event b.0.0 i l b.0.1 b.1
  breaks_says q (inr (i, (l, inr b))) = wrong_end b.0.0 i l b.0.1 b.1

  breaks_shows : (q : Refusal) → Breaks E book q → Length q ⊎ Among Window (window_count book) q
  breaks_shows q (wrong_length d e) = inl (d, e)
  breaks_shows q (wrong_event r i l d e) = inr (i, (l, inl ((r, d), e)))
  breaks_shows q (wrong_end r i l d e) = inr (i, (l, inr ((r, d), e)))

  -- judging finds the first rule that is broken, and nothing where none is
  pub first_broken : Finds (Breaks E book) (book_fault E book)
  unfolding book_fault
  first_broken =
      let length_fault = unless (length_rule (length book)) WrongBook (length book) in
      let windows_fault = first_among (window_fault E book) (window_count book) in
      finds_same (first_of (length_fault ∷ windows_fault ∷ [])) breaks_says breaks_shows
      (finds_either length_fault (windows_fault or_else Ok tt)
      (finds_unless (length_rule (length book)) WrongBook (length book) _ (wrong_says _) (wrong_shows _))
      (λ e. finds_last (Among Window (window_count book)) windows_fault
      (finds_windows (right_says _ (unless_holds _ _ _ e))))
      (λ r q a b. absurd (true≢false (sym (none_in_wrong q b) ∙ wrong_shows _ a.0))))

-- a book of a right length has the fault of its windows
pub windows_judged : (E : ℕ) (book : List ℕ) → length_rule (length book) ≡ true → (found : FirstFault)
    → found ≡ first_among (window_fault E book) (window_count book) → found ≡ book_fault E book
unfolding book_fault
windows_judged E book e found q = rw (e, or_else_absent (first_among (window_fault E book) (window_count book))) q
