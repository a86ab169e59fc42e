-- Judging a tree file finds the first rule that it breaks in document 01's order, and nothing where none is broken: a
-- file is refused by the first rule that it breaks and by no other, and an accepted one breaks none.
use Prim.Native.Nat.{ℕ, suc, ◌+◌, ◌*◌, ◌≤◌, ◌<◌}
use mathlib.Core.Path.{◌≡◌, refl, sym, subst, ◌∙◌}
use mathlib.Core.Bool.{not, true}
use mathlib.Core.List.{List}
use mathlib.Core.Logic.{◌⊎◌, inl, inr, ⊎_elim}
use native.Mathlib.Omega.{arith}
use lib.ListN.{length, drop}
use lib.Dec.{leb, eqb, ltb, lit<}
use borrow.Author.Tests.{leb-true, leb-false, lt-leb, le-ltb, ltb-false, eqb-false, ne_eqb}
use Rattle.std.proofs.lemmas.Bool.Decides.{nat_tests}
use Rattle.refusals.specs.Number.{number_of}
use Rattle.refusals.specs.FirstFault.{◌or_else◌, first_of}
use Rattle.refusals.specs.Order.{refusal, stage_of, stage, Earlier, by_stage, by_number, First, Finds}
use Rattle.refusals.specs.declared.rule.Rule.TheVariants as rule
use Rattle.refusals.specs.declared.refusal.Refusal.{Refusal}
use Rattle.std.specs.Prelude.{Ok, Err}
use Rattle.refusals.proofs.FirstFault.{unless_holds, among_each}
use Rattle.refusals.proofs.Order.{by_place_or_number}
use Rattle.refusals.proofs.Finds.{Case, Among, Inside, behind, same_stage, same_number, inside_case, inside_wider}
use Rattle.refusals.proofs.Finds.{inside_before, finds_same, finds_unless, finds_either, finds_last, finds_rule, finds_last_rule}
use Rattle.refusals.proofs.Finds.{finds_rows, found_first, first_found, accepted_none}
use Rattle.refusals.proofs.Header.{Opening, Header, behind_header, finds_header, header_stage}
use Rattle.tree_file.specs.Format.{field_a, field_b, has_letters, header_length, kind, letters_place, link}
use Rattle.tree_file.specs.Format.{link_at, link_count, links_at, max_nodes, node_count, nodes_place, or_kind}
use Rattle.tree_file.specs.Format.{record_at, required_length, version, version_place, version_read}
use Rattle.tree_file.specs.Tallies.{input_count, inputs_before}
use Rattle.tree_file.specs.WellFormed.{WellFormedHeader, WellFormedRecord}
use Rattle.tree_file.proofs.Tallies.{gate_inputs, inputs_monotone, with_input}
use Rattle.tree_judging.specs.HeaderRules.{header_fault, header_rules}
use Rattle.tree_judging.specs.RecordRules.{record_fault, records_fault, sum_fault}
use Rattle.tree_judging.specs.LinkRules.{gate_fault, input_fault, link_fault, links_fault, named}
use Rattle.tree_judging.specs.Judged.{counts_of, fault_of, judged}
use Rattle.tree_judging.specs.Broken.{IsGate, WrongFields, Breaks, too_short, wrong_letters, wrong_version}
use Rattle.tree_judging.specs.Broken.{wrong_count, wrong_length, unknown_kind, wrong_fields, sum_below, wrong_link}
use Rattle.tree_judging.specs.Broken.{linked_before}
use Rattle.tree_judging.specs.declared.judgement.Counts.{Counts}
use Rattle.tree_judging.proofs.HeaderLaws.{header_well_formed}
use Rattle.tree_judging.proofs.RecordLaws.{record_well_formed, links_end as record_links_end}
use Rattle.tree_judging.proofs.LinkLaws.{LinkOwner, owner}
use Rattle.tree_judging.proofs.BrokenRules.{counted, count_says, count_shows, fields, fields_say, fields_show}
use Rattle.tree_judging.proofs.BrokenRules.{named_says, named_shows}

module _ (file : List ℕ) where
  -- The header: the count of nodes, and the length that it requires.
  abbrev Length : Refusal → Type 0
  Length =
      Case ((header_length ≤ length file) × ((1 ≤ node_count file) × (length file ≡ 7 * node_count file + 7 → ⊥)))
      rule.WrongLength (length file)

  abbrev Sizes : Refusal → Type 0
  Sizes q =
      Case ((header_length ≤ length file) × ((node_count file < 1) ⊎ (max_nodes < node_count file))) rule.WrongCount
      nodes_place q
      ⊎ Length q

  abbrev opening : Opening
  opening = record {
    size = length file;
    least = header_length;
    letters = has_letters file;
    letters_place = letters_place;
    version = version file;
    version_read = version_read;
    version_place = version_place;
  }

  abbrev Front : Refusal → Type 0
  Front = Header opening Sizes

  finds_sizes : header_length ≤ length file → Finds Sizes (first_of (drop 3 (header_rules file)))
  finds_sizes long =
      finds_rule (counted file) rule.WrongCount nodes_place _ (λ e. (long, count_says file e))
      (λ b. count_shows file b.1) _
      (λ t.
      finds_last_rule (eqb (length file) (required_length file)) rule.WrongLength (length file) _
      (λ e. (long, (least t, λ q. eqb-false _ _ e (omega arith))))
      (λ b. ne_eqb _ _ (λ e. b.1.1 (omega arith))))
      (behind (by_stage (lit< tt)))
    where
      least : counted file ≡ true → 1 ≤ node_count file
      least t = grind (arith, nat_tests)

  sizes_stage : (q : Refusal) → Sizes q
      → (stage_of rule.WrongCount ≤ stage q) × (stage q ≤ stage_of rule.WrongLength)
  sizes_stage q =
      ⊎_elim (λ b. (omega (arith, same_stage b.1), omega (arith, same_stage b.1)))
      (λ b. (omega (arith, same_stage b.1), omega (arith, same_stage b.1)))

  finds_front : Finds Front (header_fault file)
  unfolding header_fault
  finds_front = finds_header opening Sizes sizes_stage _ finds_sizes

  -- The records, each by its kind and then by its fields.
  abbrev Record : ℕ → Refusal → Type 0
  Record i q =
      Case (or_kind < kind file i) rule.UnknownKind (record_at file i) q
      ⊎ Case (WrongFields file i) rule.WrongField (record_at file i) q

  finds_record : (i : ℕ) → Finds (Record i) (record_fault file i)
  unfolding record_fault
  finds_record i =
      finds_rule (leb (kind file i) or_kind) rule.UnknownKind (record_at file i) _ (leb-false _ _) (lt-leb _ _) _
      (λ t.
      finds_last_rule (fields file i) rule.WrongField (record_at file i) _ (fields_say file i (leb-true _ _ t))
      (fields_show file i))
      (behind (by_number refl refl (lit< tt)))

  record_inside : (i : ℕ) (q : Refusal) → Record i q
      → Inside behind_header (record_at file i) (record_at file (suc i)) q
  record_inside i q =
      ⊎_elim (inside_case (omega arith) (omega arith) q) (inside_case (omega arith) (omega arith) q)

  abbrev Records : Refusal → Type 0
  Records = Among Record (node_count file)

  finds_records : Finds Records (records_fault file)
  finds_records =
      finds_rows behind_header (record_at file) (λ i. record_at file (suc i)) (λ i j l. omega arith) (record_fault file)
      Record (node_count file) (λ i l. record_inside i) (λ i l. finds_record i)

  -- The sum of b.
  abbrev Sum : Refusal → Type 0
  Sum =
      Case (inputs_before file (node_count file) < link_count file) rule.WrongField (9 + 5 * node_count file)

  finds_sum : Finds Sum (sum_fault file)
  unfolding sum_fault
  finds_sum =
      finds_unless (leb (link_count file) (inputs_before file (node_count file))) rule.WrongField (links_at file) _
      (leb-false _ _) (lt-leb _ _)

  -- The links of a gate, each by 8 and then by 9.
  abbrev Link : ℕ → ℕ → Refusal → Type 0
  Link g j q =
      Case (g ≤ link file j) rule.WrongLink (link_at file j) q
      ⊎ Case ((i : ℕ) × ((i < j) × (link file i ≡ link file j))) rule.LinkedBefore (link_at file j) q

  finds_link : (g j : ℕ) → Finds (Link g j) (link_fault file g j)
  unfolding link_fault
  finds_link g j =
      finds_rule (ltb (link file j) g) rule.WrongLink (link_at file j) _ (ltb-false _ _) (le-ltb _ _) _
      (λ t.
      finds_last_rule (not (named file (link file j) j)) rule.LinkedBefore (link_at file j) _ (named_says file j)
      (named_shows file j))
      (behind (by_number refl refl (lit< tt)))

  link_inside : (g j : ℕ) (q : Refusal) → Link g j q
      → Inside behind_header (link_at file j) (link_at file (suc j)) q
  link_inside g j q =
      ⊎_elim (inside_case (omega arith) (omega arith) q) (inside_case (omega arith) (omega arith) q)

  abbrev Gate : ℕ → Refusal → Type 0
  Gate g = Among (λ k. Link g (field_a file g + k)) (input_count file g)

  finds_gate : (g : ℕ) → Finds (Gate g) (gate_fault file g)
  finds_gate g =
      finds_rows behind_header (λ k. link_at file (field_a file g + k)) (λ k. link_at file (suc (field_a file g + k)))
      (λ i j l. omega arith) (input_fault file g) (λ k. Link g (field_a file g + k)) (input_count file g)
      (λ k l. link_inside g (field_a file g + k)) (λ k l. finds_link g (field_a file g + k))

  -- What is wrong with the links, whether or not the records say whose they are.
  data Links (q : Refusal) : Type 0 where
    wrong : (g k : ℕ) → g < node_count file → IsGate file g → k < field_b file g
        → field_a file g + k < link_count file → g ≤ link file (field_a file g + k)
        → q ≡ refusal rule.WrongLink (link_at file (field_a file g + k)) → Links q
    again : (i j : ℕ) → i < j → j < link_count file → link file i ≡ link file j
        → q ≡ refusal rule.LinkedBefore (link_at file j) → Links q

  -- Where no record has a fault, they are those of the gates.
  module _ (records : records_fault file ≡ Ok tt) where
    no_fault : (i : ℕ) → i < node_count file → record_fault file i ≡ Ok tt
    no_fault = among_each (record_fault file) (node_count file) records

    well_formed : (i : ℕ) → i < node_count file → WellFormedRecord file i
    well_formed i l = record_well_formed file i (no_fault i l)

    gate_inside : (g : ℕ) → g < node_count file → (q : Refusal) → Gate g q
        → Inside behind_header (link_at file (inputs_before file g)) (link_at file (inputs_before file (suc g))) q
    unfolding inputs_before
    gate_inside g l q b =
        let first = (well_formed g l).gate_first (with_input file g b.0 b.1.0) in
        inside_wider (omega (arith, first)) (omega (arith, first, b.1.0)) (link_inside g (field_a file g + b.0) q b.1.1)

    finds_gates : Finds (Among Gate (node_count file)) (links_fault file)
    finds_gates =
        finds_rows behind_header (λ g. link_at file (inputs_before file g))
        (λ g. link_at file (inputs_before file (suc g))) (λ g h l. omega (arith, inputs_monotone file (suc g) h l))
        (gate_fault file) Gate (node_count file) gate_inside (λ g l. finds_gate g)

    of_gates : (q : Refusal) → Among Gate (node_count file) q → Links q
    of_gates q (g, (gl, (k, (kl, b)))) =
        let gate = with_input file g k kl in
        let below : k < field_b file g = rw (gate_inputs file g gate) at kl in
        let inside : field_a file g + k < link_count file =
        omega (arith, record_links_end file g (no_fault g gl) gate) in
        ⊎_elim (λ c. wrong g k gl (gate, (well_formed g gl).known_kind) below inside c.0 c.1)
        (λ c. again c.0.0 (field_a file g + k) c.0.1.0 inside c.0.1.1 c.1) b

    at_gates : sum_fault file ≡ Ok tt → (q : Refusal) → Links q → Among Gate (node_count file) q
    unfolding sum_fault
    at_gates s q (wrong g k gl gate kl l b e) = (g, (gl, (k, (rw (gate_inputs file g gate.0) kl, inl (b, e)))))
    at_gates s q (again i j l jl b e) =
        (o.gate, (o.gate_below, (o.input, (o.input_below, linked))))
      where
        all : link_count file ≤ inputs_before file (node_count file)
        all = leb-true _ _ (unless_holds _ _ _ s)

        o : LinkOwner file (node_count file) j
        o = owner file (node_count file) j well_formed (omega (arith, all))

        linked : Link o.gate (field_a file o.gate + o.input) q
        linked = subst (λ (n : ℕ). Link o.gate n q) (sym o.position) (inr ((i, (l, b)), e))

    finds_links : sum_fault file ≡ Ok tt → Finds Links (links_fault file)
    finds_links s = finds_same (links_fault file) of_gates (at_gates s) finds_gates

  -- All of them in their order: the records before the place of the links, the sum at it, and the links from it on.
  records_inside : (q : Refusal) → Records q → Inside behind_header header_length (links_at file) q
  records_inside q b = inside_wider (omega arith) (omega (arith, b.1.0)) (record_inside b.0 q b.1.1)

  sum_inside : (q : Refusal) → Sum q → Inside behind_header (links_at file) (suc (links_at file)) q
  sum_inside = inside_case (omega arith) (omega arith)

  links_inside : (q : Refusal) → Links q → Inside behind_header (links_at file) (required_length file) q
  links_inside q (wrong g k gl gate kl l b e) = inside_case (omega arith) (omega arith) q (b, e)
  links_inside q (again i j l jl b e) = inside_case (omega arith) (omega arith) q (b, e)

  links_number : (q : Refusal) → Links q → 7 < number_of q.rule
  links_number q (wrong g k gl gate kl l b e) = omega (arith, same_number e)
  links_number q (again i j l jl b e) = omega (arith, same_number e)

  sum_links : (r q : Refusal) → Sum r → Links q → Earlier r q
  sum_links r q p b =
      let y = links_inside q b in
      by_place_or_number (same_stage p.1 ∙ sym y.stage_is) (omega (arith, (sum_inside r p).to_place, y.from_place))
      (omega (arith, same_number p.1, links_number q b))

  abbrev Body : Refusal → Type 0
  Body q = Records q ⊎ (Sum q ⊎ Links q)

  records_rest : (r q : Refusal) → Records r → Sum q ⊎ Links q → Earlier r q
  records_rest r q p =
      ⊎_elim (λ b. inside_before (omega arith) (records_inside r p) (sum_inside q b))
      (λ b. inside_before (omega arith) (records_inside r p) (links_inside q b))

  finds_body : Finds Body (records_fault file or_else (sum_fault file or_else (links_fault file or_else Ok tt)))
  finds_body =
      finds_either (records_fault file) _ finds_records
      (λ r.
      finds_either (sum_fault file) _ finds_sum (λ s. finds_last Links (links_fault file) (finds_links r s)) sum_links)
      records_rest

  body_stage : (q : Refusal) → Body q → behind_header ≤ stage q
  body_stage q =
      ⊎_elim (λ b. omega (arith, (records_inside q b).stage_is))
      (⊎_elim (λ b. omega (arith, same_stage b.1)) (λ b. omega (arith, (links_inside q b).stage_is)))

  abbrev Whole : Refusal → Type 0
  Whole q = Front q ⊎ (WellFormedHeader file × Body q)

  finds_whole : Finds Whole (fault_of file)
  unfolding fault_of
  finds_whole =
      finds_either (header_fault file) _ finds_front
      (λ h. finds_same _ (λ q b. (header_well_formed file h, b)) (λ q b. b.1) finds_body)
      (λ r q p b. by_stage (omega (arith, header_stage opening Sizes sizes_stage r p, body_stage q b.1)))

  -- A part's refusal is a rule that the file breaks,
  breaks : (q : Refusal) → Whole q → Breaks file q
  breaks q (inl (inl b)) = subst (Breaks file) (sym b.1) (too_short b.0)
  breaks q (inl (inr (inl b))) = subst (Breaks file) (sym b.1) (wrong_letters b.0.0 b.0.1)
  breaks q (inl (inr (inr (inl b)))) = subst (Breaks file) (sym b.1) (wrong_version b.0.0 b.0.1)
  breaks q (inl (inr (inr (inr (inl b))))) = subst (Breaks file) (sym b.1) (wrong_count b.0.0 b.0.1)
  breaks q (inl (inr (inr (inr (inr b))))) = subst (Breaks file) (sym b.1) (wrong_length b.0.0 b.0.1.0 b.0.1.1)
  breaks q (inr (w, inl (i, (l, inl b)))) = subst (Breaks file) (sym b.1) (unknown_kind w i l b.0)
  breaks q (inr (w, inl (i, (l, inr b)))) = subst (Breaks file) (sym b.1) (wrong_fields w i l b.0)
  breaks q (inr (w, inr (inl b))) = subst (Breaks file) (sym b.1) (sum_below w b.0)
  breaks q (inr (w, inr (inr (wrong g k gl gate kl l b e)))) =
      subst (Breaks file) (sym e) (wrong_link w g k gl gate kl l b)
  breaks q (inr (w, inr (inr (again i j l jl b e)))) = subst (Breaks file) (sym e) (linked_before w i j l jl b)

  -- and every rule that it breaks is one of a part.
  parted : (q : Refusal) → Breaks file q → Whole q
  parted q (too_short b) = inl (inl (b, refl))
  parted q (wrong_letters s b) = inl (inr (inl ((s, b), refl)))
  parted q (wrong_version s b) = inl (inr (inr (inl ((s, b), refl))))
  parted q (wrong_count s b) = inl (inr (inr (inr (inl ((s, b), refl)))))
  parted q (wrong_length s n b) = inl (inr (inr (inr (inr ((s, (n, b)), refl)))))
  parted q (unknown_kind w i l b) = inr (w, inl (i, (l, inl (b, refl))))
  parted q (wrong_fields w i l b) = inr (w, inl (i, (l, inr (b, refl))))
  parted q (sum_below w b) = inr (w, inr (inl (b, refl)))
  parted q (wrong_link w g k gl gate kl l b) = inr (w, inr (inr (wrong g k gl gate kl l b refl)))
  parted q (linked_before w i j l jl b) = inr (w, inr (inr (again i j l jl b refl)))

  pub first_broken : Finds (Breaks file) (fault_of file)
  first_broken = finds_same (fault_of file) breaks parted finds_whole

  pub refused_first : (r : Refusal) → judged file ≡ Err r → First (Breaks file) r
  refused_first = found_first (Breaks file) (fault_of file) (counts_of file) first_broken

  pub first_refused : (r : Refusal) → First (Breaks file) r → judged file ≡ Err r
  first_refused = first_found (Breaks file) (fault_of file) (counts_of file) first_broken

  pub accepted_unbroken : (c : Counts) → judged file ≡ Ok c → (q : Refusal) → Breaks file q → ⊥
  accepted_unbroken = accepted_none (Breaks file) (fault_of file) (counts_of file) first_broken
