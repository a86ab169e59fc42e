-- Experts' opinions (01, "The opinion sheet"; 000, table 5) and their mean weighted by score, not rounded.
use Rattle.std.specs.Prelude.{ℕ, ◌+◌, ◌*◌, List, [], ◌∷◌}
use Rattle.theory.specs.Trapezoid.{Trapezoid}

pub data Term : Type 0 where
  very_low low fairly_low medium fairly_high high very_high : Term

-- the terms' numbers in hundredths; b and c are equal
abbrev pub term_a : Term → ℕ
term_a very_low = 0
term_a low = 7
term_a fairly_low = 17
term_a medium = 35
term_a fairly_high = 62
term_a high = 81
term_a very_high = 92

abbrev pub term_b : Term → ℕ
term_b very_low = 4
term_b low = 13
term_b fairly_low = 27
term_b medium = 50
term_b fairly_high = 73
term_b high = 87
term_b very_high = 96

abbrev pub term_d : Term → ℕ
term_d very_low = 8
term_d low = 19
term_d fairly_low = 37
term_d medium = 65
term_d fairly_high = 82
term_d high = 93
term_d very_high = 100

-- what an expert with a score said of an event, or that the expert said nothing
pub data Opinion : Type 0 where
  says : ℕ → Term → Opinion
  silent : ℕ → Opinion

-- the score with which an opinion counts; silence counts too
abbrev pub score_of : Opinion → ℕ
score_of (says score t) = score
score_of (silent score) = score

-- an opinion's four numbers, in hundredths: those of its term; silence is no agreement, and leaves all from 0 to 1
-- fully possible (02, request 5)
abbrev pub opinion_numbers : Opinion → Trapezoid
opinion_numbers (says score t) = record { den = 100; a = term_a t; b = term_b t; c = term_b t; d = term_d t }
opinion_numbers (silent score) = record { den = 100; a = 0; b = 0; c = 100; d = 100 }

-- the sum of all scores
abbrev pub total_score : List Opinion → ℕ
total_score [] = 0
total_score (o ∷ os) = score_of o + total_score os

-- the sum over all of score times one of the opinion's numbers
abbrev pub weighted : (Trapezoid → ℕ) → List Opinion → ℕ
weighted number [] = 0
weighted number (o ∷ os) = score_of o * number (opinion_numbers o) + weighted number os

-- the means over all: hundredths, so the denominator is 100 times the scores
abbrev pub mean : List Opinion → Trapezoid
mean os = record {
  den = 100 * total_score os;
  a = weighted (λ z. z.a) os;
  b = weighted (λ z. z.b) os;
  c = weighted (λ z. z.c) os;
  d = weighted (λ z. z.d) os;
}
