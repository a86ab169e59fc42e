-- An event is out of service exactly where a window has it and is open.
use Prim.Native.Nat.{ℕ, zero, suc, ◌<◌}
use mathlib.Core.Path.{◌≡◌, refl, sym, subst, ◌∙◌}
use mathlib.Core.Bool.{Bool, true, false, ◌&&◌, ◌||◌, and-eq-true_iff, or-true, true≢false}
use mathlib.Core.List.{List}
use native.Mathlib.Decide.{ℕ_discrete}
use native.Mathlib.Nat.{not-suc-le-zero}
use native.Mathlib.Omega.{arith}
use lib.Dec.{leb, ltb, eqb}
use borrow.Author.Tests.{eqb-true, eq-eqb, leb-true, le-leb, ltb-true, lt-ltb}
use Rattle.work_book.specs.Book.{window_count, window_event, first_hour, end_hour, open_at}
use Rattle.hour_sheet.specs.OutOfService.{out_among, out_of_service, OpenWindow}

module _ (book : List ℕ) (hour event : ℕ) where
  -- among no windows
  pub out_none : out_among book hour 0 event ≡ false
  unfolding out_among
  out_none = refl

  -- with one window more
  pub out_next : (n : ℕ) → out_among book hour (suc n) event
      ≡ out_among book hour n event || (open_at book hour n && eqb (window_event book n) event)
  unfolding out_among
  out_next n = refl

  -- window i has the event and is open
  abbrev Has : ℕ → Bool
  Has i = open_at book hour i && eqb (window_event book i) event

  -- one of the first n has it
  pub record Among (n : ℕ) : Type 0 where
    pub window : ℕ
    pub inside : window < n
    pub has : Has window ≡ true

  among_shows : (n : ℕ) → out_among book hour n event ≡ true → Among n
  among_shows zero e = absurd (true≢false (sym e ∙ out_none))
  among_shows (suc n) e = go (among_shows n) (out_among book hour n event) (Has n) refl refl
    where
      later : Among n → Among (suc n)
      later a = record { window = a.window; inside = omega (arith, a.inside); has = a.has }

      go : (out_among book hour n event ≡ true → Among n) → (b c : Bool) → out_among book hour n event ≡ b
          → Has n ≡ c → Among (suc n)
      go earlier true c p q = later (earlier p)
      go earlier false true p q = record { window = n; inside = omega arith; has = q }
      go earlier false false p q = absurd (true≢false (sym e ∙ out_next n ∙ (λ i. p i || q i)))

  shown_among : (n : ℕ) → Among n → out_among book hour n event ≡ true
  shown_among zero a = absurd (not-suc-le-zero a.inside)
  shown_among (suc n) a = out_next n ∙ go (shown_among n) (ℕ_discrete a.window n)
    where
      go : (Among n → out_among book hour n event ≡ true) → Dec (a.window ≡ n)
          → out_among book hour n event || Has n ≡ true
      go earlier (yes e) = rw (subst (λ (i : ℕ). Has i ≡ true) e a.has) (or-true (out_among book hour n event))
      go earlier (no d) =
          let inside : a.window < n = omega (arith, a.inside) in
          rw (earlier (record { window = a.window; inside = inside; has = a.has }))

  -- out of service: there is such a window
  pub out_shows : out_of_service book hour event ≡ true → OpenWindow book hour event
  out_shows e =
      let a = among_shows (window_count book) e in
      let both =
      (and-eq-true_iff (open_at book hour a.window) (eqb (window_event book a.window) event)).0 a.has in
      let hours =
      (and-eq-true_iff (leb (first_hour book a.window) hour) (ltb hour (end_hour book a.window))).0 both.0 in
      record {
        window = a.window;
        inside = a.inside;
        of_event = eqb-true _ _ both.1;
        begun = leb-true _ _ hours.0;
        not_ended = ltb-true _ _ hours.1;
      }

  -- where there is such a window, the event is out of service
  pub shown_out : OpenWindow book hour event → out_of_service book hour event ≡ true
  shown_out w =
      shown_among (window_count book)
      (record {
        window = w.window;
        inside = w.inside;
        has = rw (le-leb _ _ w.begun, lt-ltb _ _ w.not_ended, eq-eqb _ _ w.of_event);
      })
