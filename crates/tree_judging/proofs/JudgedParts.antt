-- The judgement of a file, from the faults of its parts.
use Prim.Native.Nat.{ℕ, ◌≤◌}
use mathlib.Core.Path.{◌≡◌, sym, ◌∙◌}
use mathlib.Core.List.{List, [], ◌∷◌}
use native.Mathlib.Omega.{arith}
use lib.ListN.{length}
use Rattle.fields.specs.Fields.{Is16}
use Rattle.refusals.specs.FirstFault.{first_of}
use Rattle.refusals.specs.declared.refusal.Refusal.{Refusal}
use Rattle.refusals.specs.FirstFault.{FirstFault}
use Rattle.std.specs.Prelude.{Ok, Err}
use Rattle.refusals.proofs.FirstFault.{accepted_absent, first_of_absent, first_of_append, refused_found}
use Rattle.tree_file.specs.Format.{header_length, node_count}
use Rattle.tree_judging.specs.HeaderRules.{header_fault}
use Rattle.tree_judging.specs.RecordRules.{records_fault, sum_fault}
use Rattle.tree_judging.specs.LinkRules.{links_fault}
use Rattle.tree_judging.specs.Judged.{counts_of, fault_of, judged, records_judged}
use Rattle.tree_file.specs.WellFormed.{WellFormedHeader}
use Rattle.tree_judging.specs.Requirements.{Sized}
use Rattle.tree_judging.specs.declared.judgement.Counts.{Counts}
use Rattle.std.specs.Prelude.{Result}
use Rattle.tree_judging.proofs.HeaderLaws.{header_well_formed}

module _ (file : List ℕ) where
  -- The rules of the records and of the sum of b.
  abbrev middle : List FirstFault
  middle = records_fault file ∷ sum_fault file ∷ []

  module _ (f : FirstFault) (e : f ≡ header_fault file) where
    pub header_refused : (r : Refusal) → f ≡ Err r → Err r ≡ judged file
    unfolding fault_of
    header_refused r q = rw (← e, q)

    module _ (q : f ≡ Ok tt) where
      well_formed_header : WellFormedHeader file
      well_formed_header = header_well_formed file (sym e ∙ q)

      pub header_long : header_length ≤ length file
      header_long = omega (arith, well_formed_header.length_value)

      pub sized : (n : ℕ) → Is16 n (node_count file) → Sized file n
      sized n r = record { nodes_value = r.value; header = well_formed_header }

      module _ (a : Result Counts Refusal) (ae : a ≡ records_judged file) where
        pub records_refused : (r : Refusal) → a ≡ Err r → Err r ≡ judged file
        unfolding fault_of
        records_refused r w =
            let found = refused_found (first_of middle) (counts_of file) r (sym ae ∙ w) in
            rw (← e, q, first_of_append middle (links_fault file ∷ []), found)

        module _ (c : Counts) (w : a ≡ Ok c) where
          absent : (first_of middle ≡ Ok tt) × (c ≡ counts_of file)
          absent = accepted_absent (first_of middle) (counts_of file) c (sym ae ∙ w)

          pub records_absent : records_fault file ≡ Ok tt
          records_absent = (first_of_absent middle absent.0).0

          module _ (l : FirstFault) (le : l ≡ links_fault file) where
            pub links_refused : (r : Refusal) → l ≡ Err r → Err r ≡ judged file
            unfolding fault_of
            links_refused r x = rw (← e, q, first_of_append middle (links_fault file ∷ []), absent.0, ← le, x)

            pub all_accepted : l ≡ Ok tt → Ok c ≡ judged file
            unfolding fault_of
            all_accepted x =
                rw (← e, q, first_of_append middle (links_fault file ∷ []), absent.0, ← le, x, absent.1)
