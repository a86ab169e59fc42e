-- The sheet of an hour: what its bytes are, and how the windows, written one after the other, lead to it.
use Prim.Native.Nat.{ℕ, zero, suc, ◌+◌, ◌*◌, ◌<◌}
use mathlib.Core.Path.{◌≡◌, refl, sym, ap, ◌∙◌}
use mathlib.Core.Bool.{Bool, true, false, or-false}
use mathlib.Core.List.{List, ◌++◌, append_assoc}
use native.Mathlib.Nat.{add_assoc, add-zero}
use native.Mathlib.Omega.{arith}
use lib.Dec.{lit<}
use lib.ListN.{length, take, drop, length-append, get_or-append}
use lib.Seq.{length-take-le, take-length, take-add, take-append-add, drop-append-add, get_or-append-add, get_or-take}
use lib.Seq.{get_or-drop, take_at}
use Rattle.fields.specs.Fields.{byte, bytes32, field16, field32}
use Rattle.fields.proofs.Alike.{field32_alike}
use Rattle.fields.proofs.Written.{field32_bytes32}
use Rattle.opinion_sheet.specs.Format.{header_length, entry_at, event_count, required_length, unit, kind}
use Rattle.opinion_sheet.specs.Entries.{numbers_of}
use Rattle.work_book.specs.Book.{window_event, open_at}
use Rattle.hour_sheet.specs.OutOfService.{out_among}
use Rattle.hour_sheet.specs.Sheet.{certain_entry, written_entry, written_entries, sheet_with, Written}
use Rattle.hour_sheet.specs.Writing.{with_certain, window_written, windows_written}
use Rattle.hour_sheet.proofs.OutOfService.{out_none, out_next}
use Rattle.hour_sheet.proofs.EntriesWritten.{also, entries_alike, entries_held, entry_by, entries_long}
use Rattle.hour_sheet.proofs.EntriesWritten.{entry_byte, entry_replaced}

-- past a front of so many bytes
past_take : (front xs : List ℕ) (m n : ℕ) → length front ≡ m → take (m + n) (front ++ xs) ≡ front ++ take n xs
past_take front xs m n e = rw (← e) (take-append-add front xs n)

past_drop : (front xs : List ℕ) (m n : ℕ) → length front ≡ m → drop (m + n) (front ++ xs) ≡ drop n xs
past_drop front xs m n e = rw (← e) (drop-append-add front xs n)

past_byte : (front xs : List ℕ) (m n : ℕ) → length front ≡ m → byte (front ++ xs) (m + n) ≡ byte xs n
past_byte front xs m n e = rw (← e) (get_or-append-add front xs n 0)

module _ (sheet : List ℕ) where
  -- only which of the sheet's events are out of service counts
  pub sheet_alike : (out other : ℕ → Bool) → ((x : ℕ) → x < event_count sheet → out x ≡ other x)
      → sheet_with sheet out ≡ sheet_with sheet other
  unfolding sheet_with
  sheet_alike out other h =
      ap (λ (xs : List ℕ). take header_length sheet ++ xs) (entries_alike sheet out other (event_count sheet) h)

  module _ (formed : length sheet ≡ required_length sheet) where
    header_long : length (take header_length sheet) ≡ 26
    header_long = length-take-le 26 sheet (omega arith)

    -- where none is, the sheet is as held
    pub sheet_held : sheet_with sheet (λ x. false) ≡ sheet
    unfolding sheet_with
    sheet_held =
        ap (λ (xs : List ℕ). take 26 sheet ++ xs) (entries_held sheet (event_count sheet))
        ∙ sym (take-add 26 (17 * event_count sheet) sheet)
        ∙ ap (λ (n : ℕ). take n sheet) (sym formed)
        ∙ take-length sheet

    -- it keeps its length
    pub sheet_long : (out : ℕ → Bool) → length (sheet_with sheet out) ≡ length sheet
    unfolding sheet_with
    sheet_long out =
        length-append (take header_length sheet) (written_entries sheet out (event_count sheet))
        ∙ omega (arith, header_long, entries_long sheet formed out (event_count sheet) (omega arith))

    -- it is the front of a buffer that it was written to
    pub sheet_front : (out : ℕ → Bool) (n : ℕ) → length sheet ≡ n → (rest : List ℕ)
        → take n (sheet_with sheet out ++ rest) ≡ sheet_with sheet out
    sheet_front out n e rest = take_at (sheet_with sheet out) rest n (sheet_long out ∙ e)

    -- a byte of an event's entry
    sheet_byte : (out : ℕ → Bool) (e j : ℕ) → e < event_count sheet → j < 17
        → byte (sheet_with sheet out) (entry_at sheet e + j) ≡ byte (written_entry sheet out e) j
    unfolding sheet_with
    sheet_byte out e j le lj =
        ap (byte (sheet_with sheet out)) (add_assoc 26 (17 * e) j)
        ∙ past_byte (take header_length sheet) (written_entries sheet out (event_count sheet)) 26 (17 * e + j)
        header_long
        ∙ entry_byte sheet formed out (event_count sheet) (omega arith) e j le lj

    module _ (out : ℕ → Bool) (e : ℕ) (le : e < event_count sheet) where
      -- an event that is not out of service keeps its bytes
      kept_bytes : out e ≡ false → (j : ℕ) → j < 17
          → byte (sheet_with sheet out) (entry_at sheet e + j) ≡ byte sheet (entry_at sheet e + j)
      kept_bytes o j lj =
          sheet_byte out e j le lj
          ∙ ap (λ (b : Bool). byte (entry_by sheet e b) j) o
          ∙ get_or-take 17 (drop (entry_at sheet e) sheet) j 0 lj
          ∙ get_or-drop (entry_at sheet e) sheet j 0

      module _ (o : out e ≡ true) where
        -- one that is has those of the certain entry
        certain_bytes : (j : ℕ) → j < 17
            → byte (sheet_with sheet out) (entry_at sheet e + j) ≡ byte (certain_entry (unit sheet)) j
        certain_bytes j lj =
            sheet_byte out e j le lj
            ∙ ap (λ (b : Bool). byte (entry_by sheet e b) j) o

        -- so each of its numbers is U
        number_read : (d : ℕ) → d + 3 < 17 → field32 (certain_entry (unit sheet)) d ≡ unit sheet
            → field32 (sheet_with sheet out) (entry_at sheet e + d) ≡ unit sheet
        number_read d ld q =
            field32_alike (sheet_with sheet out) (entry_at sheet e + d) (certain_entry (unit sheet)) d
            (λ j lj. ap (byte (sheet_with sheet out)) (add_assoc (entry_at sheet e) d j)
            ∙ certain_bytes (d + j) (omega arith))
            ∙ q

        unit_read : (d : ℕ) → field32 (certain_entry (unit sheet)) d ≡ field32 (bytes32 (unit sheet)) 0
            → field32 (certain_entry (unit sheet)) d ≡ unit sheet
        unit_read d q = q ∙ field32_bytes32 (unit sheet) (lit< tt)

        certain_four : numbers_of (sheet_with sheet out) (entry_at sheet e)
            ≡ record { a = unit sheet; b = unit sheet; c = unit sheet; d = unit sheet }
        unfolding field32 field16
        certain_four = λ i. record {
          a = number_read 1 (lit< tt) (unit_read 1 refl) i;
          b = number_read 5 (lit< tt) (unit_read 5 refl) i;
          c = number_read 9 (lit< tt) (unit_read 9 refl) i;
          d = number_read 13 (lit< tt) (unit_read 13 refl) i;
        }

        certain_first : kind (sheet_with sheet out) e ≡ 0
        certain_first =
            ap (byte (sheet_with sheet out)) (sym (add-zero (entry_at sheet e))) ∙ certain_bytes 0 (lit< tt)

    -- the header keeps its bytes
    header_bytes : (out : ℕ → Bool) (p : ℕ) → p < header_length → byte (sheet_with sheet out) p ≡ byte sheet p
    unfolding sheet_with
    header_bytes out p l =
        get_or-append (take header_length sheet) (written_entries sheet out (event_count sheet)) 0 p
        (omega (arith, header_long))
        ∙ get_or-take header_length sheet p 0 l

    -- what the written bytes are
    pub sheet_means : (out : ℕ → Bool) → Written sheet out (sheet_with sheet out)
    sheet_means out = record {
      length_kept = sheet_long out;
      header_kept = header_bytes out;
      certain_kind = λ e l o. certain_first out e l o;
      certain_numbers = λ e l o. certain_four out e l o;
      entry_kept = λ e l o j k. kept_bytes out e l o j k;
    }

    -- one more event put at four numbers U, in a buffer that begins with the sheet
    certain_put : (out : ℕ → Bool) (e : ℕ) → e < event_count sheet → (rest : List ℕ)
        → with_certain (unit sheet) e (sheet_with sheet out ++ rest) ≡ sheet_with sheet (also out e) ++ rest
    unfolding sheet_with
    certain_put out e l rest =
        let front = take header_length sheet in
        let entries = written_entries sheet out (event_count sheet) in
        let parted : (front ++ entries) ++ rest ≡ front ++ (entries ++ rest) = append_assoc front entries rest in
        let kept : take (26 + 17 * e) (front ++ (entries ++ rest)) ≡ front ++ take (17 * e) (entries ++ rest) =
        past_take front (entries ++ rest) 26 (17 * e) header_long in
        let left : drop (26 + 17 * e + 17) (front ++ (entries ++ rest)) ≡ drop (17 * e + 17) (entries ++ rest) =
        ap (λ (n : ℕ). drop n (front ++ (entries ++ rest))) (add_assoc 26 (17 * e) 17)
        ∙ past_drop front (entries ++ rest) 26 (17 * e + 17) header_long in
        ap (λ (xs : List ℕ). take (26 + 17 * e) xs ++ (certain_entry (unit sheet) ++ drop (26 + 17 * e + 17) xs)) parted
        ∙ (λ i. kept i ++ (certain_entry (unit sheet) ++ left i))
        ∙ append_assoc front (take (17 * e) (entries ++ rest)) _
        ∙ ap (λ (xs : List ℕ). front ++ xs) (entry_replaced sheet formed out e (event_count sheet) l (omega arith) rest)
        ∙ sym (append_assoc front (written_entries sheet (also out e) (event_count sheet)) rest)

    module _ (book : List ℕ) (hour : ℕ) where
      -- the windows written one after the other
      pub windows_are : (n : ℕ) → ((i : ℕ) → i < n → window_event book i < event_count sheet) → (rest : List ℕ)
          → windows_written (unit sheet) book hour n (sheet ++ rest) ≡ sheet_with sheet (out_among book hour n) ++ rest
      unfolding windows_written
      windows_are zero below rest =
          ap (λ (xs : List ℕ). xs ++ rest)
          (sym (sheet_alike (out_among book hour 0) (λ x. false) (λ x l. out_none book hour x) ∙ sheet_held))
      windows_are (suc n) below rest =
          ap (window_written (unit sheet) book hour n) (windows_are n (λ i l. below i (omega arith)) rest)
          ∙ go (open_at book hour n) refl
        where
          before : ℕ → Bool
          before = out_among book hour n

          go : (b : Bool) → open_at book hour n ≡ b
              → window_written (unit sheet) book hour n (sheet_with sheet before ++ rest)
              ≡ sheet_with sheet (out_among book hour (suc n)) ++ rest
          go true e =
              rw e
              (certain_put before (window_event book n) (below n (omega arith)) rest
              ∙ ap (λ (xs : List ℕ). xs ++ rest)
              (sheet_alike (also before (window_event book n)) (out_among book hour (suc n))
              (λ x l. sym (rw (out_next book hour x n, e) refl))))
          go false e =
              rw e
              (ap (λ (xs : List ℕ). xs ++ rest)
              (sheet_alike before (out_among book hour (suc n))
              (λ x l. sym (rw (out_next book hour x n, e) (or-false (before x))))))
