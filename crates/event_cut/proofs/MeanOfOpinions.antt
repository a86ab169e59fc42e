-- The sums of the code are those of the theory's mean over the opinions of the entry, and stay small.
use Prim.Native.Nat.{ℕ, zero, suc, ◌+◌, ◌-◌, ◌*◌, ◌≤◌, ◌<◌}
use mathlib.Core.Path.{◌≡◌, refl, ap, sym, subst, ◌∙◌}
use mathlib.Core.List.{List, [], ◌∷◌, ◌++◌, map}
use lib.ListN.{length, get_or}
use native.Mathlib.Nat.{not-suc-le-zero, le_of_suc-le-suc}
use native.Mathlib.Numerals.{add-one}
use native.Mathlib.Decide.{dec_lt}
use native.Mathlib.Omega.{arith}
use borrow.Author.Tests.{eq-eqb, ne_eqb}
use Rattle.theory.specs.Trapezoid.{Trapezoid}
use Rattle.theory.specs.Opinion.{Term, very_low, term_a, term_b, term_d, Opinion, score_of, opinion_numbers}
use Rattle.theory.specs.Opinion.{total_score, weighted}
use Rattle.theory.proofs.MeanRising.{total_append, weighted_append, weighted_at_most, opinion_rising}
use Rattle.theory.proofs.MeanRising.{opinion_hundredths}
use Rattle.opinion_sheet.specs.Format.{score, term}
use Rattle.event_cut.specs.Opinion.{terms_in_order, opinion_of, opinions_among}
use Rattle.event_cut.specs.Mean.{row_numbers, said_numbers, with_opinion}
use Rattle.event_cut.specs.Requirements.{SumsRoom}
use Rattle.opinion_sheet.specs.declared.numbers.Numbers.{Numbers}
use Rattle.event_cut.specs.declared.mean.Sums.{Sums}

-- The sums that the theory's mean of opinions is made of.
abbrev pub sums_of : List Opinion → Sums
sums_of os =
    record {
      scores = total_score os;
      weighted = record {
        a = weighted (λ z. z.a) os;
        b = weighted (λ z. z.b) os;
        c = weighted (λ z. z.c) os;
        d = weighted (λ z. z.d) os;
      };
    }

-- The four numbers of a trapezoid without their denominator.
abbrev pub four : Trapezoid → Numbers ℕ
four z = record { a = z.a; b = z.b; c = z.c; d = z.d }

-- A term's numbers in hundredths, a, b = c, d; the table has a row for each term.
abbrev term_row : Term → List ℕ
term_row t = term_a t ∷ term_b t ∷ term_d t ∷ []

abbrev pub term_rows : List (List ℕ)
term_rows = map term_row terms_in_order

-- The sums with one opinion more at the end.
sums_with : (os : List Opinion) (o : Opinion)
    → with_opinion (sums_of os) (four (opinion_numbers o)) (score_of o) ≡ sums_of (os ++ (o ∷ []))
sums_with os o =
    let added : (f : Trapezoid → ℕ) → weighted f os + score_of o * f (opinion_numbers o) ≡ weighted f (os ++ (o ∷ [])) =
    λ f. omega (arith, weighted_append f os (o ∷ [])) in
    let scores : total_score os + score_of o ≡ total_score (os ++ (o ∷ [])) = omega (arith, total_append os (o ∷ [])) in
    λ i. record {
      scores = scores i;
      weighted = record {
        a = added (λ z. z.a) i;
        b = added (λ z. z.b) i;
        c = added (λ z. z.c) i;
        d = added (λ z. z.d) i;
      };
    }

row_at : (ts : List Term) (i : ℕ) → i < length ts → get_or (map term_row ts) i [] ≡ term_row (get_or ts i very_low)
row_at [] i l = absurd (not-suc-le-zero l)
row_at (t ∷ ts) zero l = refl
row_at (t ∷ ts) (suc i) l = row_at ts i (le_of_suc-le-suc l)

-- An opinion counts with its expert's score, whatever the term code, and has the numbers of silence or of its row.
opinion_score : (given code : ℕ) → score_of (opinion_of given code) ≡ given
opinion_score given code = go (dec_lt 0 code)
  where
    go : Dec (0 < code) → score_of (opinion_of given code) ≡ given
    go (yes l) = rw (ne_eqb code 0 (λ e. omega arith))
    go (no l) = rw (eq-eqb code 0 (omega arith))

pub said_opinion : (given code : ℕ) → code ≤ 7
    → said_numbers term_rows code ≡ four (opinion_numbers (opinion_of given code))
said_opinion given code h = go (dec_lt 0 code)
  where
    go : Dec (0 < code) → said_numbers term_rows code ≡ four (opinion_numbers (opinion_of given code))
    go (yes l) =
        rw (ne_eqb code 0 (λ e. omega arith)) (ap row_numbers (row_at terms_in_order (code - 1) (omega arith)))
    go (no l) = rw (eq-eqb code 0 (omega arith))

-- Four numbers of at most 100, as those of an opinion are.
abbrev pub Hundredths : Numbers ℕ → Type 0
Hundredths numbers =
    (numbers.a ≤ 100) × (numbers.b ≤ 100) × (numbers.c ≤ 100) × (numbers.d ≤ 100)

numbers_most : (o : Opinion) → Hundredths (four (opinion_numbers o))
numbers_most o =
    let rising = opinion_rising o in
    let den = opinion_hundredths o in
    (omega arith, omega arith, omega arith, omega arith)

pub said_most : (code : ℕ) → code ≤ 7 → Hundredths (said_numbers term_rows code)
said_most code h = subst Hundredths (sym (said_opinion 0 code h)) (numbers_most (opinion_of 0 code))

-- The sums of opinions are at most 100 × the scores, which are sixteen bytes at most.
sum_most : (f : Trapezoid → ℕ) → ((o : Opinion) → f (opinion_numbers o) ≤ 100) → (os : List Opinion)
    → total_score os ≤ 4080 → weighted f os ≤ 1000000
sum_most f h os l = omega (arith, weighted_at_most f 100 h os)

module _ (file : List ℕ) (terms : ℕ) where
  -- The scores with one expert more.
  total_more : (n : ℕ)
      → total_score (opinions_among file terms (suc n)) ≡ total_score (opinions_among file terms n) + score file n
  unfolding opinions_among
  total_more n =
      omega (
        arith,
        total_append (opinions_among file terms n) (opinion_of (score file n) (term file terms n) ∷ []),
        opinion_score (score file n) (term file terms n),
      )

  -- The scores are at most so many times the highest.
  pub total_most : (most n : ℕ) → ((i : ℕ) → i < n → score file i ≤ most)
      → total_score (opinions_among file terms n) ≤ most * n
  unfolding opinions_among
  total_most most zero h = omega arith
  total_most most (suc n) h =
      omega (arith, total_more n, total_most most n (λ i l. h i (omega arith)), h n (omega arith))

  -- Whoever is listed counts.
  pub total_least : (i n : ℕ) → i < n → score file i ≤ total_score (opinions_among file terms n)
  total_least i zero l = absurd (not-suc-le-zero l)
  total_least i (suc n) l = go (total_least i n) (dec_lt i n)
    where
      go : (i < n → score file i ≤ total_score (opinions_among file terms n)) → Dec (i < n)
          → score file i ≤ total_score (opinions_among file terms (suc n))
      go earlier (yes k) = omega (arith, earlier k, total_more n)
      go earlier (no k) =
          let here : i ≡ n = omega arith in
          omega (arith, ap (score file) here, total_more n)

  -- Of no expert each sum is 0.
  pub summed_none : record { scores = 0; weighted = record { a = 0; b = 0; c = 0; d = 0 } }
      ≡ sums_of (opinions_among file terms 0)
  unfolding opinions_among
  summed_none = refl

  -- The sums with the next expert's opinion, by its bytes.
  pub sums_more : (i : ℕ) → term file terms i ≤ 7
      → with_opinion (sums_of (opinions_among file terms i)) (said_numbers term_rows (term file terms i)) (score file i)
      ≡ sums_of (opinions_among file terms (i + 1))
  unfolding opinions_among
  sums_more i h =
      let opinion = opinion_of (score file i) (term file terms i) in
      let os = opinions_among file terms i in
      rw (add-one i, said_opinion (score file i) (term file terms i) h)
      (ap (with_opinion (sums_of os) (four (opinion_numbers opinion)))
      (sym (opinion_score (score file i) (term file terms i)))
      ∙ sums_with os opinion)

  -- Bytes score at most 255, so the sums stay small.
  pub sums_room : (i given code : ℕ) → i ≤ 16 → ((j : ℕ) → score file j < 256) → code ≤ 7 → given < 256
      → SumsRoom (sums_of (opinions_among file terms i)) (said_numbers term_rows code) given
  sums_room i given code m bytes h byte =
      let scores = total_most 255 i (λ j k. omega (arith, bytes j)) in
      let os = opinions_among file terms i in
      let most = said_most code h in
      record {
        scores_room = omega arith;
        a_room = sum_most (λ z. z.a) (λ o. (numbers_most o).0) os (omega arith);
        b_room = sum_most (λ z. z.b) (λ o. (numbers_most o).1) os (omega arith);
        c_room = sum_most (λ z. z.c) (λ o. (numbers_most o).2) os (omega arith);
        d_room = sum_most (λ z. z.d) (λ o. (numbers_most o).3) os (omega arith);
        a_value = most.0;
        b_value = most.1;
        c_value = most.2;
        d_value = most.3;
        score_room = omega arith;
      }
