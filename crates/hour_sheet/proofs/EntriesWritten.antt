-- The entries of a sheet one after the other, each as held or replaced: their lengths and bytes, and one more replaced.
use Prim.Native.Nat.{ℕ, zero, suc, ◌+◌, ◌*◌, ◌≤◌, ◌<◌}
use mathlib.Core.Path.{◌≡◌, refl, sym, ap, ◌∙◌}
use mathlib.Core.Bool.{Bool, true, false, ◌||◌, cond, or-false, or-true}
use mathlib.Core.List.{List, ◌++◌, append_assoc}
use native.Mathlib.Decide.{ℕ_discrete}
use native.Mathlib.Nat.{not-suc-le-zero}
use native.Mathlib.Omega.{arith}
use lib.Dec.{eqb}
use lib.ListN.{length, take, drop, get_or, length-append, length-drop}
use lib.Seq.{length-take-le, take_at, drop_at}
use borrow.Author.Tests.{eq-eqb, ne_eqb}
use Rattle.fields.proofs.Joined.{joined_next, joined_alike, joined_parts, joined_long, joined_byte}
use Rattle.opinion_sheet.specs.Format.{header_length, entry_at, event_count, required_length, unit}
use Rattle.hour_sheet.specs.Sheet.{certain_entry, written_entry, written_entries}

-- the certain entry is as long as any
pub certain_length : (U : ℕ) → length (certain_entry U) ≡ 17
certain_length U = refl

-- which events are out of service with one event more
abbrev pub also : (ℕ → Bool) → ℕ → ℕ → Bool
also out e x = out x || eqb e x

module _ (sheet : List ℕ) where
  -- the entry of an event, by whether it is out of service
  abbrev pub entry_by : ℕ → Bool → List ℕ
  entry_by e b = cond b (certain_entry (unit sheet)) (take 17 (drop (entry_at sheet e) sheet))

  -- only which of the first n events are out of service counts
  pub entries_alike : (out other : ℕ → Bool) (n : ℕ) → ((x : ℕ) → x < n → out x ≡ other x)
      → written_entries sheet out n ≡ written_entries sheet other n
  entries_alike out other n h =
      joined_alike (written_entry sheet out) (written_entry sheet other) n
      (λ x l. ap (entry_by x) (h x l))

  -- where none is, they are as held
  pub entries_held : (n : ℕ) → written_entries sheet (λ x. false) n ≡ take (17 * n) (drop header_length sheet)
  entries_held n = joined_parts sheet 26 17 n

  module _ (formed : length sheet ≡ required_length sheet) where
    entry_by_long : (b : Bool) (e : ℕ) → e < event_count sheet → length (entry_by e b) ≡ 17
    entry_by_long true e l = certain_length (unit sheet)
    entry_by_long false e l =
        length-take-le 17 (drop (entry_at sheet e) sheet) (omega (arith, length-drop (entry_at sheet e) sheet))

    -- an entry is 17 bytes long
    pub entry_long : (out : ℕ → Bool) (e : ℕ) → e < event_count sheet → length (written_entry sheet out e) ≡ 17
    entry_long out e l = entry_by_long (out e) e l

    pub entries_long : (out : ℕ → Bool) (n : ℕ) → n ≤ event_count sheet
        → length (written_entries sheet out n) ≡ 17 * n
    entries_long out n l = joined_long 17 (written_entry sheet out) n (λ e k. entry_long out e (omega arith))

    -- a byte of an entry
    pub entry_byte : (out : ℕ → Bool) (n : ℕ) → n ≤ event_count sheet → (e j : ℕ) → e < n → j < 17
        → get_or (written_entries sheet out n) (17 * e + j) 0 ≡ get_or (written_entry sheet out e) j 0
    entry_byte out n l = joined_byte 17 (written_entry sheet out) n (λ e k. entry_long out e (omega arith))

    -- the certain entry in the place of one event's
    pub entry_replaced : (out : ℕ → Bool) (e n : ℕ) → e < n → n ≤ event_count sheet → (rest : List ℕ)
        → take (17 * e) (written_entries sheet out n ++ rest)
        ++ (certain_entry (unit sheet) ++ drop (17 * e + 17) (written_entries sheet out n ++ rest))
        ≡ written_entries sheet (also out e) n ++ rest
    entry_replaced out e zero le l rest = absurd (not-suc-le-zero le)
    entry_replaced out e (suc n) le l rest =
        ap put opened
        ∙ go (λ k. entry_replaced out e n k (omega arith) (written_entry sheet out n ++ rest)) (ℕ_discrete e n)
        ∙ sym (append_assoc (written_entries sheet (also out e) n) (written_entry sheet (also out e) n) rest)
        ∙ ap (λ (xs : List ℕ). xs ++ rest) (sym (joined_next (written_entry sheet (also out e)) n))
      where
        before : List ℕ
        before = written_entries sheet out n

        next : List ℕ
        next = written_entry sheet out n

        -- the certain entry put into bytes at the event's place
        put : List ℕ → List ℕ
        put xs = take (17 * e) xs ++ (certain_entry (unit sheet) ++ drop (17 * e + 17) xs)

        opened : written_entries sheet out (suc n) ++ rest ≡ before ++ (next ++ rest)
        opened =
            ap (λ (xs : List ℕ). xs ++ rest) (joined_next (written_entry sheet out) n)
            ∙ append_assoc before next rest

        go : (e < n → put (before ++ (next ++ rest)) ≡ written_entries sheet (also out e) n ++ (next ++ rest))
            → Dec (e ≡ n) → put (before ++ (next ++ rest))
            ≡ written_entries sheet (also out e) n ++ (written_entry sheet (also out e) n ++ rest)
        go earlier (yes same) =
            let long : length before ≡ 17 * e = entries_long out n (omega arith) ∙ ap (λ (m : ℕ). 17 * m) (sym same) in
            let both : length (before ++ next) ≡ 17 * e + 17 =
            length-append before next ∙ omega (arith, long, entry_long out n (omega arith)) in
            let past : drop (17 * e + 17) (before ++ (next ++ rest)) ≡ rest =
            ap (drop (17 * e + 17)) (sym (append_assoc before next rest)) ∙ drop_at (before ++ next) rest _ both in
            let same_before : before ≡ written_entries sheet (also out e) n =
            entries_alike out (also out e) n (λ x k. sym (rw (ne_eqb e x (λ q. omega arith)) (or-false (out x)))) in
            let now_certain : certain_entry (unit sheet) ≡ written_entry sheet (also out e) n =
            rw (eq-eqb e n same, or-true (out n)) refl in
            (λ i. take_at before (next ++ rest) (17 * e) long i ++ (certain_entry (unit sheet) ++ past i))
            ∙ (λ i. same_before i ++ (now_certain i ++ rest))
        go earlier (no other) =
            let same_next : next ≡ written_entry sheet (also out e) n =
            rw (ne_eqb e n other, or-false (out n)) refl in
            earlier (omega arith)
            ∙ ap (λ (xs : List ℕ). written_entries sheet (also out e) n ++ (xs ++ rest)) same_next
