-- Cases computed by the prover: the text that document 01 prints in full, and the lines of an input that is refused.
use Rattle.std.specs.Prelude.{ℕ, zero, suc, ◌≡◌, refl, List, [], ◌∷◌, ◌++◌, map}
use Rattle.theory.specs.NodeTable.{tree_of}
use Rattle.theory.specs.Rounding.{rounded, nothing_dropped, cut_end}
use Rattle.theory.specs.Trapezoid.{cut}
use Rattle.fields.specs.Fields.{field16, field32}
use Rattle.refusals.specs.FirstFault.{first_among}
use Rattle.tree_judging.specs.HeaderRules.{header_fault as tree_header_fault}
use Rattle.tree_file.specs.Tallies.{input_count, events_before, inputs_before}
use Rattle.tree_judging.specs.RecordRules.{has_fields, record_fault, sum_fault}
use Rattle.tree_judging.specs.LinkRules.{named, link_fault}
use Rattle.tree_judging.specs.Judged.{fault_of as tree_fault}
use Rattle.tree_file.specs.NodeTable.{read_node}
use Rattle.sheet_judging.specs.HeaderRules.{header_fault as sheet_header_fault}
use Rattle.sheet_judging.specs.TermRules.{spoke_among}
use Rattle.sheet_judging.specs.Judged.{fault_of as sheet_fault}
use Rattle.evaluation.specs.Report.{node_end}
use Rattle.held_pair.specs.Standing.{changed}
use Rattle.monitor.specs.Question.{report_of}
use Rattle.level_text.specs.Decimal.{decimal}
use Rattle.level_input.specs.Input.{well_framed}
use Rattle.printer.specs.Text.{text_of, whole_text}

-- That many bytes of 0.
abbrev zeros : ℕ → List ℕ
zeros zero = []
zeros (suc n) = 0 ∷ zeros n

-- A tree file of one basic event, with that tree number: 14 bytes.
abbrev tree : ℕ → List ℕ
tree number = 70 ∷ 84 ∷ 70 ∷ 1 ∷ 0 ∷ number ∷ 0 ∷ 1 ∷ 0 ∷ zeros 5

-- P5's entry (0, 1, 1, 2) alone, in a sheet for tree 7 without experts: 43 bytes.
abbrev sheet : List ℕ
sheet =
    70 ∷ 84 ∷ 83 ∷ 1 ∷ 0 ∷ 7 ∷ 0 ∷ 1 ∷ 0 ∷ 0 ∷ zeros 16
    ++ zeros 5 ++ (1 ∷ zeros 3) ++ (1 ∷ zeros 3) ++ (2 ∷ zeros 3)

-- n and the lengths of a tree of 14 bytes and a sheet of 43.
abbrev lengths : ℕ → List ℕ
lengths n = n ∷ 0 ∷ 14 ∷ 0 ∷ 43 ∷ 0 ∷ []

-- An input and the text printed for it.
pub record Case : Type 0 where
  pub input : List ℕ
  pub text : List ℕ

abbrev cases : List Case
cases =
    -- document 01's: tree 7 with P5's entry alone, n = 2
    record {
      input = lengths 2 ++ tree 7 ++ sheet;
      text =
          -- tree 7 events 1 levels 2
          116 ∷ 114 ∷ 101 ∷ 101 ∷ 32 ∷ 55 ∷ 32 ∷ 101 ∷ 118 ∷ 101 ∷ 110 ∷ 116 ∷ 115 ∷ 32 ∷ 49
          ∷ 32 ∷ 108 ∷ 101 ∷ 118 ∷ 101 ∷ 108 ∷ 115 ∷ 32 ∷ 50 ∷ 10
          -- 2 1 = 1 =
          ∷ 50 ∷ 32 ∷ 49 ∷ 32 ∷ 61 ∷ 32 ∷ 49 ∷ 32 ∷ 61 ∷ 10
          -- 1 0 ~ 2 ~
          ∷ 49 ∷ 32 ∷ 48 ∷ 32 ∷ 126 ∷ 32 ∷ 50 ∷ 32 ∷ 126 ∷ 10
          -- 0 0 = 2 =
          ∷ 48 ∷ 32 ∷ 48 ∷ 32 ∷ 61 ∷ 32 ∷ 50 ∷ 32 ∷ 61 ∷ 10
          ∷ [];
    }
    -- five bytes: input
    ∷ record { input = zeros 5; text = 105 ∷ 110 ∷ 112 ∷ 117 ∷ 116 ∷ 10 ∷ [] }
    -- one byte more than both lengths: input
    ∷ record { input = lengths 2 ++ tree 7 ++ sheet ++ (0 ∷ []); text = 105 ∷ 110 ∷ 112 ∷ 117 ∷ 116 ∷ 10 ∷ [] }
    -- a tree of no byte before a sheet of one byte, and no level: refused 1 at 0
    ∷ record {
      input = zeros 4 ++ (1 ∷ 0 ∷ 0 ∷ []);
      text = 114 ∷ 101 ∷ 102 ∷ 117 ∷ 115 ∷ 101 ∷ 100 ∷ 32 ∷ 49 ∷ 32 ∷ 97 ∷ 116 ∷ 32 ∷ 48 ∷ 10 ∷ [];
    }
    -- a sheet of one byte before no level: refused 1 at 1
    ∷ record {
      input = 0 ∷ 0 ∷ 14 ∷ 0 ∷ 1 ∷ 0 ∷ tree 7 ++ (0 ∷ []);
      text = 114 ∷ 101 ∷ 102 ∷ 117 ∷ 115 ∷ 101 ∷ 100 ∷ 32 ∷ 49 ∷ 32 ∷ 97 ∷ 116 ∷ 32 ∷ 49 ∷ 10 ∷ [];
    }
    -- no level: refused 13 at 0
    ∷ record {
      input = lengths 0 ++ tree 7 ++ sheet;
      text = 114 ∷ 101 ∷ 102 ∷ 117 ∷ 115 ∷ 101 ∷ 100 ∷ 32 ∷ 49 ∷ 51 ∷ 32 ∷ 97 ∷ 116 ∷ 32 ∷ 48 ∷ 10 ∷ [];
    }
    -- tree 8 with a sheet for tree 7: refused 24 at 0
    ∷ record {
      input = lengths 2 ++ tree 8 ++ sheet;
      text = 114 ∷ 101 ∷ 102 ∷ 117 ∷ 115 ∷ 101 ∷ 100 ∷ 32 ∷ 50 ∷ 52 ∷ 32 ∷ 97 ∷ 116 ∷ 32 ∷ 48 ∷ 10 ∷ [];
    }
    ∷ []

-- Each input gets its text.
pub texts : map (λ (c : Case). whole_text c.input) cases ≡ map (λ (c : Case). c.text) cases
unfolding whole_text well_framed text_of tree_fault sheet_fault tree_header_fault sheet_header_fault first_among
    record_fault has_fields sum_fault link_fault named input_count events_before inputs_before spoke_among changed
    report_of node_end tree_of read_node cut cut_end rounded nothing_dropped decimal field16 field32
texts = refl
