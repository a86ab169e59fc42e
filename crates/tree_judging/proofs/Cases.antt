-- Cases computed by the prover: the smallest accepted file, the smallest file for each refusal, the limits, both
-- bytes of each field, and for each two neighbours in document 01's order a file that breaks both rules.
use Rattle.std.specs.Prelude.{ℕ, zero, suc, ◌≡◌, refl, List, [], ◌∷◌, ◌++◌, map, Result, Ok, Err}
use Rattle.fields.specs.Fields.{field16}
use Rattle.refusals.specs.Number.{number_of}
use Rattle.refusals.specs.FirstFault.{first_among}
use Rattle.tree_file.specs.Tallies.{events_before, input_count, inputs_before}
use Rattle.tree_judging.specs.HeaderRules.{header_fault}
use Rattle.tree_judging.specs.RecordRules.{has_fields, record_fault, sum_fault}
use Rattle.tree_judging.specs.LinkRules.{link_fault, named}
use Rattle.tree_judging.specs.Judged.{fault_of, judged}
use Rattle.tree_judging.specs.declared.judgement.Counts.{Counts}
use Rattle.refusals.specs.declared.refusal.Refusal.{Refusal}

-- A judgement by document 01's numbers: tree number, N and E of an accepted file, or a refusal's number and place.
pub data Answer : Type 0 where
  accepted : ℕ → ℕ → ℕ → Answer
  refused : ℕ → ℕ → Answer

abbrev pub answer : Result Counts Refusal → Answer
answer (Ok c) = accepted c.number c.nodes c.events
answer (Err r) = refused (number_of r.rule) r.place

-- The header of tree 7 with these bytes for the version and the number of nodes.
abbrev header_with : ℕ → ℕ → ℕ → ℕ → List ℕ
header_with v w n m = 70 ∷ 84 ∷ 70 ∷ v ∷ w ∷ 7 ∷ 0 ∷ n ∷ m ∷ []

-- The header of tree 7, of version 1 and fewer than 256 nodes.
abbrev header : ℕ → List ℕ
header nodes = header_with 1 0 nodes 0

-- A record of that kind, a and b.
abbrev node : ℕ → ℕ → ℕ → List ℕ
node k a b = k ∷ a ∷ 0 ∷ b ∷ 0 ∷ []

-- A link to that node.
abbrev to : ℕ → List ℕ
to n = n ∷ 0 ∷ []

-- The records of the first n basic events, and links to them in their order.
abbrev events : ℕ → List ℕ
events zero = []
events (suc n) = events n ++ node 0 n 0

abbrev to_events : ℕ → List ℕ
to_events zero = []
to_events (suc n) = to_events n ++ to n

-- A file with what judging it must answer.
pub record Case : Type 0 where
  pub file : List ℕ
  pub expected : Answer

abbrev cases : List Case
cases =
    -- one basic event
    record { file = header 1 ++ node 0 0 0; expected = accepted 7 1 1 }
    -- 1: no byte; eight bytes are no header, nine are one (and require 14)
    ∷ record { file = []; expected = refused 1 0 }
    ∷ record { file = 70 ∷ 84 ∷ 70 ∷ 1 ∷ 0 ∷ 7 ∷ 0 ∷ 1 ∷ []; expected = refused 1 8 }
    ∷ record { file = header 1; expected = refused 5 9 }
    -- 2: the third letter is that of a sheet
    ∷ record { file = 70 ∷ 84 ∷ 83 ∷ 1 ∷ 0 ∷ 7 ∷ 0 ∷ 1 ∷ 0 ∷ []; expected = refused 2 0 }
    -- 3: version 257, whose low byte is 1
    ∷ record { file = header_with 1 1 1 0; expected = refused 3 3 }
    -- 4: no node, and 1,025; 1,024 nodes are in range, and the file is too short for them
    ∷ record { file = header 0; expected = refused 4 7 }
    ∷ record { file = header_with 1 0 1 4; expected = refused 4 7 }
    ∷ record { file = header_with 1 0 0 4; expected = refused 5 9 }
    -- 5: one byte too many
    ∷ record { file = header 1 ++ node 0 0 0 ++ 0 ∷ []; expected = refused 5 15 }
    -- 6: kind 3
    ∷ record { file = header 1 ++ node 3 0 0; expected = refused 6 9 }
    -- 7: a wrong event number; a b of a basic event; a gate with no input; a + b above N − 1
    ∷ record { file = header 1 ++ node 0 1 0; expected = refused 7 9 }
    ∷ record { file = header 1 ++ node 0 0 1; expected = refused 7 9 }
    ∷ record { file = header 1 ++ node 1 0 0; expected = refused 7 9 }
    ∷ record { file = header 1 ++ node 1 0 1; expected = refused 7 9 }
    -- 7 of the sum: two basic events and no gate
    ∷ record { file = header 2 ++ node 0 0 0 ++ node 0 1 0 ++ to 0; expected = refused 7 19 }
    -- 8: a link equal to its gate; one below it is accepted
    ∷ record { file = header 2 ++ node 0 0 0 ++ node 1 0 1 ++ to 1; expected = refused 8 19 }
    ∷ record { file = header 2 ++ node 0 0 0 ++ node 1 0 1 ++ to 0; expected = accepted 7 2 1 }
    -- 9: two gates over one event
    ∷ record { file = header 3 ++ node 0 0 0 ++ node 1 0 1 ++ node 2 1 1 ++ to 0 ++ to 0; expected = refused 9 26 }
    -- each link by 8 and then by 9: the second link is linked before, the third is not below its gate
    ∷ record {
      file = header 4 ++ node 0 0 0 ++ node 1 0 1 ++ node 1 1 1 ++ node 1 2 1 ++ to 0 ++ to 0 ++ to 3;
      expected = refused 9 31;
    }
    -- 16 inputs are accepted, 17 are not
    ∷ record { file = header 17 ++ events 16 ++ node 1 0 16 ++ to_events 16; expected = accepted 7 17 16 }
    ∷ record { file = header 18 ++ events 17 ++ node 1 0 17 ++ to_events 17; expected = refused 7 94 }
    -- the tree number is read from bytes 5 and 6: 2 + 256 × 3, and the highest
    ∷ record { file = 70 ∷ 84 ∷ 70 ∷ 1 ∷ 0 ∷ 2 ∷ 3 ∷ 1 ∷ 0 ∷ node 0 0 0; expected = accepted 770 1 1 }
    ∷ record { file = 70 ∷ 84 ∷ 70 ∷ 1 ∷ 0 ∷ 255 ∷ 255 ∷ 1 ∷ 0 ∷ node 0 0 0; expected = accepted 65535 1 1 }
    -- the high bytes of a, b and a link count: an event number 256, a b of 257, a link to node 256
    ∷ record { file = header 1 ++ 0 ∷ 0 ∷ 1 ∷ 0 ∷ 0 ∷ []; expected = refused 7 9 }
    ∷ record { file = header 2 ++ node 0 0 0 ++ (1 ∷ 0 ∷ 0 ∷ 1 ∷ 1 ∷ []) ++ to 0; expected = refused 7 14 }
    ∷ record { file = header 2 ++ node 0 0 0 ++ node 1 0 1 ++ 0 ∷ 1 ∷ []; expected = refused 8 19 }
    -- 1 and 2: eight bytes, with the letters of a sheet
    ∷ record { file = 70 ∷ 84 ∷ 83 ∷ 1 ∷ 0 ∷ 7 ∷ 0 ∷ 1 ∷ []; expected = refused 1 8 }
    -- 2 and 3: those letters and version 2
    ∷ record { file = 70 ∷ 84 ∷ 83 ∷ 2 ∷ 0 ∷ 7 ∷ 0 ∷ 1 ∷ 0 ∷ []; expected = refused 2 0 }
    -- 3 and 4: version 2 and no node
    ∷ record { file = header_with 2 0 0 0; expected = refused 3 3 }
    -- 4 and 5: 1,025 nodes and a byte behind the header
    ∷ record { file = header_with 1 0 1 4 ++ 0 ∷ []; expected = refused 4 7 }
    -- 5 and 6: a byte too many, and kind 3
    ∷ record { file = header 1 ++ node 3 0 0 ++ 0 ∷ []; expected = refused 5 15 }
    -- 6 and 7 of one record: kind 3, and an a and a b that no kind has here
    ∷ record { file = header 1 ++ node 3 9 9; expected = refused 6 9 }
    -- two records, rising: 7 at the first and 6 at the second, and the other way
    ∷ record { file = header 2 ++ node 0 1 0 ++ node 3 0 0 ++ to 0; expected = refused 7 9 }
    ∷ record { file = header 2 ++ node 3 0 0 ++ node 0 1 0 ++ to 0; expected = refused 6 9 }
    -- the last record and the sum
    ∷ record { file = header 2 ++ node 0 0 0 ++ node 0 5 0 ++ to 0; expected = refused 7 14 }
    -- the sum and the first link, which is not below its gate: both at 24
    ∷ record { file = header 3 ++ node 0 0 0 ++ node 0 1 0 ++ node 1 0 1 ++ to 2 ++ to 0; expected = refused 7 24 }
    -- 8 at the first link, 9 at the second; then 8 at the first, both at the second
    ∷ record { file = header 3 ++ node 0 0 0 ++ node 1 0 1 ++ node 1 1 1 ++ to 1 ++ to 1; expected = refused 8 24 }
    ∷ record { file = header 3 ++ node 0 0 0 ++ node 1 0 1 ++ node 1 1 1 ++ to 2 ++ to 2; expected = refused 8 24 }
    ∷ []

-- Each file gets its answer.
pub answers : map (λ (c : Case). answer (judged c.file)) cases ≡ map (λ (c : Case). c.expected) cases
unfolding fault_of header_fault first_among record_fault has_fields sum_fault link_fault named input_count events_before
    inputs_before field16
answers = refl
