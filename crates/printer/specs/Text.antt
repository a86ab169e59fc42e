-- The whole printed text, by the bytes of the input: document 01's "The level printer reads standard input".
use Rattle.std.specs.Prelude.{ℕ, zero, suc, cond, List, [], ◌∷◌, ◌++◌, length, Ok, Err}
use Rattle.theory.specs.Unit.{billion}
use Rattle.refusals.specs.FirstFault.{FirstFault, first_of}
use Rattle.tree_file.specs.Format.{tree_number}
use Rattle.tree_file.specs.Tallies.{event_count}
use Rattle.tree_judging.specs.Judged.{fault_of as tree_fault}
use Rattle.sheet_judging.specs.Judged.{fault_of as sheet_fault}
use Rattle.held_pair.specs.Standing.{level_rules}
use Rattle.monitor.specs.Question.{report_of}
use Rattle.held_files.specs.declared.state.State.{State}
use Rattle.level_text.specs.Line.{input_line, refusal_line, header_line, level_line}
use Rattle.level_input.specs.Input.{well_framed, level_count, tree_bytes, sheet_bytes}

-- The lines of the levels below a count, the highest first.
abbrev pub lines_below : List ℕ → List ℕ → ℕ → ℕ → List ℕ
lines_below tree sheet n zero = []
lines_below tree sheet n (suc k) = level_line k (report_of billion tree sheet k n).ends ++ lines_below tree sheet n k

-- The header and a line for each k from n down to 0.
abbrev pub levels_text : List ℕ → List ℕ → ℕ → List ℕ
levels_text tree sheet n =
    header_line (tree_number tree) (event_count tree) n ++ lines_below tree sheet n (suc n)

-- The state that holds both files.
abbrev pub holding : List ℕ → List ℕ → State
holding tree sheet = record { tree_len = length tree; sheet_len = length sheet }

-- The first refusal: of the tree, of the sheet, of the question at level n of n. Refusals 20 and 25 are not among them,
-- since the printer's stores take any file that it lets in, and its work slices any tree.
abbrev pub first_refusal : List ℕ → List ℕ → ℕ → FirstFault
first_refusal tree sheet n =
    first_of (tree_fault tree ∷ sheet_fault sheet ∷ level_rules (holding tree sheet) tree sheet n n)

-- The refusal and nothing else, or the text where there is none.
abbrev pub text_by : FirstFault → List ℕ → List ℕ
text_by (Err r) text = refusal_line r
text_by (Ok tt) text = text

-- What is printed for a tree, a sheet and n.
unfoldable pub text_of : List ℕ → List ℕ → ℕ → List ℕ
text_of tree sheet n = text_by (first_refusal tree sheet n) (levels_text tree sheet n)

-- What is printed for an input, of whatever content and length.
unfoldable pub whole_text : List ℕ → List ℕ
whole_text input =
    cond (well_framed input) (text_of (tree_bytes input) (sheet_bytes input) (level_count input)) input_line
